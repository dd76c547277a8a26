-- Laws of a table of words as rows. Nothing here knows a capacity or a field. Assumes nothing.
use mathlib.Core.Path.{◌≡◌, refl, sym, ap, ap₂, ◌∙◌}
use mathlib.Core.Bool.{Bool, ◌&&◌}
use mathlib.Core.List.{List, [], ◌∷◌, ◌++◌, map, append-nil, append_assoc}
use Prim.Native.Nat.{ℕ, zero, suc, ◌+◌, ◌*◌, ◌≤◌, ◌<◌}
use native.Mathlib.Nat.{zero-mul, suc-mul, add_comm, add_assoc, add-zero, zero-add, add-suc, not-suc-le-zero}
use native.Mathlib.Nat.{le_of_suc-le-suc, le_of_eq}
use native.Mathlib.Omega.{arith}
use native.Mathlib.Numerals.{add-one, add-two, add-three}
use lib.ListN.{length, get_or, take, drop, set, replicate, take-append-drop, length-drop, length-append}
use lib.ListN.{drop_of_length-le, replicate-append-replicate}
use lib.Seq.{get_or-set_same, set-set, take-set-le, drop-set-add, take-set-lt, drop-set-lt, drop-drop, take-take}
use lib.Seq.{get_or-take, get_or-drop, take_all, sets, sets-eq, length-take-le, take_at, drop_at}
use Rattle.lists.specs.Lists.{all, All}
use Rattle.lists.specs.Rows.{row, rows, flat}
use Rattle.lists.proofs.Lists.{all_append}
use borrow.Rule.Slice.PartMut.{put_mid}
use Rattle.std.proofs.lemmas.Slice.{put_mid-paste}

-- ---- a word of a row is a word of the table

pub get_d-row : (w : ℕ) (ws : List ℕ) (i k : ℕ) → k < w → get_or (row w ws i) k 0 ≡ get_or ws (i * w + k) 0
get_d-row w ws i k h = get_or-take w (drop (i * w) ws) k 0 h ∙ get_or-drop (i * w) ws k 0

pub length-row : (w : ℕ) (ws : List ℕ) (i : ℕ) → i * w + w ≤ length ws → length (row w ws i) ≡ w
length-row w ws i h = length-take-le w (drop (i * w) ws) (rw length-drop (omega arith))

-- the row after the first ones
row-suc : (w : ℕ) (ws : List ℕ) (i : ℕ) → drop (i * w) (drop w ws) ≡ drop (suc i * w) ws
row-suc w ws i = drop-drop (i * w) w ws ∙ ap (λ k. drop k ws) (add_comm w (i * w) ∙ sym (suc-mul i w))

-- ---- a run of stores, `sets` of lib.Seq

module _ {A : Type 0} where
  pub take-sets-le : (n : ℕ) (l : List A) (i : ℕ) (vs : List A) → n ≤ i → take n (sets l i vs) ≡ take n l
  take-sets-le n l i [] h = refl
  take-sets-le n l i (v ∷ vs) h = take-sets-le n (set l i v) (suc i) vs (omega arith) ∙ take-set-le n l i v h

  pub drop-sets-add : (n : ℕ) (l : List A) (i : ℕ) (vs : List A) → drop n (sets l (n + i) vs) ≡ sets (drop n l) i vs
  drop-sets-add n l i [] = refl
  drop-sets-add n l i (v ∷ vs) =
      ap (λ k. drop n (sets (set l (n + i) v) k vs)) (sym (add-suc n i))
      ∙ drop-sets-add n (set l (n + i) v) (suc i) vs
      ∙ ap (λ x. sets x (suc i) vs) (drop-set-add n l i v)

  pub take-sets-in : (n : ℕ) (l : List A) (i : ℕ) (vs : List A) → i + length vs ≤ n
      → take n (sets l i vs) ≡ sets (take n l) i vs
  take-sets-in n l i [] h = refl
  take-sets-in n l i (v ∷ vs) h =
      take-sets-in n (set l i v) (suc i) vs (omega arith)
      ∙ ap (λ x. sets x (suc i) vs) (take-set-lt n l i v (omega arith))

  pub drop-sets-past : (n : ℕ) (l : List A) (i : ℕ) (vs : List A) → i + length vs ≤ n → drop n (sets l i vs) ≡ drop n l
  drop-sets-past n l i [] h = refl
  drop-sets-past n l i (v ∷ vs) h =
      drop-sets-past n (set l i v) (suc i) vs (omega arith) ∙ drop-set-lt n l i v (omega arith)

  pub nil-of : (l : List A) → length l ≡ 0 → l ≡ []
  nil-of l h = let k : length l ≤ 0 = omega arith in drop_of_length-le l k

  -- stores over the whole of a list leave what was stored
  pub sets-whole : (vs l : List A) → length l ≡ length vs → sets l 0 vs ≡ vs
  sets-whole vs l h =
      sets-eq vs l 0 (omega arith)
      ∙ ap (λ x. vs ++ x) (nil-of (drop (0 + length vs) l) (rw length-drop (omega arith)))
      ∙ append-nil vs

  -- four stores as code writes them
  pub stores4 : (l : List A) (b : ℕ) (x y z u : A)
      → set (set (set (set l b x) (b + 1) y) (b + 2) z) (b + 3) u ≡ sets l b (x ∷ y ∷ z ∷ u ∷ [])
  stores4 l b x y z u = rw (add-one, add-two, add-three)

  -- a part of a part
  pub take-drop-take : (m a n : ℕ) (l : List A) → a + m ≤ n → take m (drop a (take n l)) ≡ take m (drop a l)
  take-drop-take m zero n l h = take-take m n l (omega arith)
  take-drop-take m (suc a) zero l h = absurd (not-suc-le-zero {n = a} (omega arith))
  take-drop-take m (suc a) (suc n) [] h = refl
  take-drop-take m (suc a) (suc n) (x ∷ l) h = take-drop-take m a n l (omega arith)

-- ---- rows decoded

module _ {A : Type 0} (dec : List ℕ → A) (w : ℕ) where
  pub length-rows : (n : ℕ) (ws : List ℕ) → length (rows dec w n ws) ≡ n
  unfolding rows
  length-rows zero ws = refl
  length-rows (suc n) ws = ap suc (length-rows n (drop w ws))

  pub get_d_rows : (n : ℕ) (ws : List ℕ) (i : ℕ) (d : A) → i < n → get_or (rows dec w n ws) i d ≡ dec (row w ws i)
  unfolding rows
  get_d_rows zero ws i d h = absurd (not-suc-le-zero h)
  get_d_rows (suc n) ws zero d h = ap (λ k. dec (take w (drop k ws))) (sym (zero-mul w))
  get_d_rows (suc n) ws (suc i) d h =
      get_d_rows n (drop w ws) i d (le_of_suc-le-suc h) ∙ ap (λ l. dec (take w l)) (row-suc w ws i)

  -- a run of stores inside row i changes the i-th value, by those stores in its words, and nothing else
  pub rows-sets : (n : ℕ) (ws : List ℕ) (i o : ℕ) (vs : List ℕ) → i < n → o + length vs ≤ w
      → rows dec w n (sets ws (i * w + o) vs) ≡ set (rows dec w n ws) i (dec (sets (row w ws i) o vs))
  unfolding rows
  rows-sets zero ws i o vs h ho = absurd (not-suc-le-zero h)
  rows-sets (suc n) ws zero o vs h ho =
      let e : 0 * w + o ≡ o = rw (zero-mul w, zero-add o) in
      let z : drop (0 * w) ws ≡ ws = ap (λ k. drop k ws) (zero-mul w) in
      rw (e, z, take-sets-in w ws o vs ho, drop-sets-past w ws o vs ho)
  rows-sets (suc n) ws (suc i) o vs h ho =
      let e : suc i * w + o ≡ w + (i * w + o) =
      ap (λ k. k + o) (suc-mul i w ∙ add_comm (i * w) w) ∙ add_assoc w (i * w) o in
      let ih : rows dec w n (sets (drop w ws) (i * w + o) vs)
      ≡ set (rows dec w n (drop w ws)) i (dec (sets (row w ws (suc i)) o vs)) =
      rows-sets n (drop w ws) i o vs (le_of_suc-le-suc h) ho
      ∙ ap (λ l. set (rows dec w n (drop w ws)) i (dec (sets (take w l) o vs))) (row-suc w ws i) in
      rw (e, take-sets-le w ws (w + (i * w + o)) vs (omega arith), drop-sets-add w ws (i * w + o) vs, ih)

  -- a whole row stored
  pub rows-put : (n : ℕ) (ws : List ℕ) (i : ℕ) (vs : List ℕ) → i < n → i * w + w ≤ length ws → length vs ≡ w
      → rows dec w n (sets ws (i * w) vs) ≡ set (rows dec w n ws) i (dec vs)
  rows-put n ws i vs h k e =
      ap (λ o. rows dec w n (sets ws o vs)) (sym (add-zero (i * w)))
      ∙ rows-sets n ws i 0 vs h (omega arith)
      ∙ ap (λ l. set (rows dec w n ws) i (dec l)) (sets-whole vs (row w ws i) (length-row w ws i k ∙ sym e))

-- rows decoded in two steps
pub rows-map : {A B : Type 0} (dec : List ℕ → A) (f : A → B) (g : List ℕ → B) → ((l : List ℕ) → g l ≡ f (dec l))
    → (w n : ℕ) (ws : List ℕ)
    → rows g w n ws ≡ map f (rows dec w n ws)
unfolding rows
rows-map dec f g h w zero ws = refl
rows-map dec f g h w (suc n) ws = ap₂ (λ x l. x ∷ l) (h (take w ws)) (rows-map dec f g h w n (drop w ws))

-- ---- a value passes p exactly if every word of its row passes q

module _ {A : Type 0} (dec : List ℕ → A) (w : ℕ) (p : A → Bool) (q : ℕ → Bool)
    (same : (l : List ℕ) → length l ≡ w → p (dec l) ≡ all q l) where
  pub all-rows : (n : ℕ) (ws : List ℕ) → length ws ≡ n * w → all p (rows dec w n ws) ≡ all q ws
  unfolding rows all
  all-rows zero ws e = ap (all q) (sym (nil-of ws (e ∙ zero-mul w)))
  all-rows (suc n) ws e =
      let k : length ws ≡ n * w + w = e ∙ suc-mul n w in
      ap₂ (λ a b. a && b) (same (take w ws) (length-take-le w ws (omega arith)))
      (all-rows n (drop w ws) (rw length-drop (omega arith)))
      ∙ sym (all_append q (take w ws) (drop w ws)) ∙ ap (all q) (take-append-drop w ws)

  -- the same of the rows from k on
  pub all-rows-from : (n : ℕ) (ws : List ℕ) (k : ℕ) → length ws ≡ n * w → k ≤ n
      → all p (drop k (rows dec w n ws)) ≡ all q (drop (k * w) ws)
  unfolding rows
  all-rows-from n ws zero e h = all-rows n ws e ∙ ap (λ i. all q (drop i ws)) (sym (zero-mul w))
  all-rows-from zero ws (suc k) e h = absurd (not-suc-le-zero h)
  all-rows-from (suc n) ws (suc k) e h =
      let j : length ws ≡ n * w + w = e ∙ suc-mul n w in
      all-rows-from n (drop w ws) k (rw length-drop (omega arith)) (le_of_suc-le-suc h) ∙ ap (all q) (row-suc w ws k)

-- ---- values encoded

pub flat_append : {A : Type 0} (enc : A → List ℕ) (xs ys : List A) → flat enc (xs ++ ys) ≡ flat enc xs ++ flat enc ys
unfolding flat
flat_append enc [] ys = refl
flat_append enc (x ∷ xs) ys =
    ap (λ l. enc x ++ l) (flat_append enc xs ys) ∙ sym (append_assoc (enc x) (flat enc xs) (flat enc ys))

module _ {A : Type 0} (enc : A → List ℕ) (w : ℕ) where
  pub length-flat : (xs : List A) → All (λ x. length (enc x) ≡ w) xs → length (flat enc xs) ≡ length xs * w
  unfolding flat
  length-flat [] good = sym (zero-mul w)
  length-flat (x ∷ xs) good =
      rw (length-append, good.0, length-flat xs good.1) (add_comm w (length xs * w) ∙ sym (suc-mul (length xs) w))

  -- a row of them is one value's words
  pub row-flat : (d : A) (xs : List A) (i : ℕ) → All (λ x. length (enc x) ≡ w) xs → i < length xs
      → row w (flat enc xs) i ≡ enc (get_or xs i d)
  unfolding flat
  row-flat d [] i good h = absurd (not-suc-le-zero h)
  row-flat d (x ∷ xs) zero good h =
      ap (λ k. take w (drop k (enc x ++ flat enc xs))) (zero-mul w) ∙ take_at (enc x) (flat enc xs) w good.0
  row-flat d (x ∷ xs) (suc i) good h =
      ap (take w) (sym (row-suc w (enc x ++ flat enc xs) i)
      ∙ ap (drop (i * w)) (drop_at (enc x) (flat enc xs) w good.0))
      ∙ row-flat d xs i good.1 (le_of_suc-le-suc h)

-- ---- the round trips

module _ {A : Type 0} (dec : List ℕ → A) (enc : A → List ℕ) (w : ℕ) where
  -- words to values and back to words, for n whole rows
  pub flat_rows : ((l : List ℕ) → length l ≡ w → enc (dec l) ≡ l) → (n : ℕ) (ws : List ℕ) → length ws ≡ n * w
      → flat enc (rows dec w n ws) ≡ ws
  unfolding rows flat
  flat_rows back zero ws h = sym (nil-of ws (h ∙ zero-mul w))
  flat_rows back (suc n) ws h =
      let e : length ws ≡ n * w + w = h ∙ suc-mul n w in
      let here : enc (dec (take w ws)) ≡ take w ws = back (take w ws) (length-take-le w ws (omega arith)) in
      let rest : flat enc (rows dec w n (drop w ws)) ≡ drop w ws =
      flat_rows back n (drop w ws) (rw length-drop (omega arith)) in
      ap₂ (λ x y. x ++ y) here rest ∙ take-append-drop w ws

  -- values to words and back to values, for values that their own words give back
  pub rows-flat : (xs : List A) → All (λ x. (length (enc x) ≡ w) × (dec (enc x) ≡ x)) xs
      → rows dec w (length xs) (flat enc xs) ≡ xs
  unfolding rows flat
  rows-flat [] good = refl
  rows-flat (x ∷ xs) good =
      rw (take_at (enc x) (flat enc xs) w good.0.0, drop_at (enc x) (flat enc xs) w good.0.0)
      (ap₂ (λ y l. y ∷ l) good.0.1 (rows-flat xs good.1))

-- ---- words spelled out

-- n words from k on: on a numeral it computes to `get_or l 0 0 ∷ get_or l 1 0 ∷ ..`
abbrev pub spell : ℕ → ℕ → List ℕ → List ℕ
spell zero k l = []
spell (suc n) k l = get_or l k 0 ∷ spell n (suc k) l

pub spell-suc : (n k : ℕ) (x : ℕ) (l : List ℕ) → spell n (suc k) (x ∷ l) ≡ spell n k l
spell-suc zero k x l = refl
spell-suc (suc n) k x l = ap {B = List ℕ} (λ r. get_or l k 0 ∷ r) (spell-suc n (suc k) x l)

pub spelled : (n : ℕ) (l : List ℕ) → length l ≡ n → spell n 0 l ≡ l
spelled zero l h = sym (nil-of l h)
spelled (suc n) [] h = absurd (not-suc-le-zero {n = n} (omega arith))
spelled (suc n) (x ∷ l) h = ap {B = List ℕ} (λ r. x ∷ r) (spell-suc n 0 x l ∙ spelled n l (omega arith))

-- the words from b on as code reads them: `get_or l b 0 ∷ get_or l (b + 1) 0 ∷ ..` on a numeral
abbrev pub spell_from : ℕ → ℕ → ℕ → List ℕ → List ℕ
spell_from zero b k l = []
spell_from (suc n) b k l = get_or l (b + k) 0 ∷ spell_from n b (suc k) l

abbrev pub spell_at : ℕ → ℕ → List ℕ → List ℕ
spell_at zero b l = []
spell_at (suc n) b l = get_or l b 0 ∷ spell_from n b 1 l

spell-part : (m n b k : ℕ) (l : List ℕ) → m + k ≤ n → spell m k (take n (drop b l)) ≡ spell_from m b k l
spell-part zero n b k l h = refl
spell-part (suc m) n b k l h =
    rw (get_or-take n (drop b l) k 0 (omega arith), get_or-drop b l k 0, spell-part m n b (suc k) l (omega arith))

pub take-spell : (n b : ℕ) (l : List ℕ) → b + n ≤ length l → take n (drop b l) ≡ spell_at n b l
take-spell zero b l h = refl
take-spell (suc n) b l h =
    sym (spelled (suc n) (take (suc n) (drop b l)) (length-take-le (suc n) (drop b l) (rw length-drop (omega arith))))
    ∙ spell-part (suc n) (suc n) b 0 l (omega arith)
    ∙ ap (λ k. get_or l k 0 ∷ spell_from n b 1 l) (add-zero b)

-- ---- what all rows have, and runs of stores

-- what every decoded value has, every row has
pub All-rows : {A : Type 0} (dec : List ℕ → A) (w : ℕ) (P : A → Type 0) → ((l : List ℕ) → P (dec l))
    → (n : ℕ) (ws : List ℕ)
    → All P (rows dec w n ws)
unfolding rows
All-rows dec w P h zero ws = tt
All-rows dec w P h (suc n) ws = (h (take w ws), All-rows dec w P h n (drop w ws))

-- one value n times
pub flat-replicate : {A : Type 0} (enc : A → List ℕ) (a : A) (w v : ℕ) → enc a ≡ replicate w v → (n : ℕ)
    → flat enc (replicate n a) ≡ replicate (n * w) v
unfolding flat
flat-replicate enc a w v e zero = ap (λ k. replicate k v) (sym (zero-mul w))
flat-replicate enc a w v e (suc n) =
    ap₂ (λ x y. x ++ y) e (flat-replicate enc a w v e n)
    ∙ replicate-append-replicate w (n * w) v
    ∙ ap (λ k. replicate k v) (add_comm w (n * w) ∙ sym (suc-mul n w))

-- the words from b on as code with named offsets reads them: `get_or l (b + 0) 0 ∷ get_or l (b + 1) 0 ∷ ..` on a
-- numeral
pub take-spell_from : (n b : ℕ) (l : List ℕ) → b + n ≤ length l → take n (drop b l) ≡ spell_from n b 0 l
take-spell_from zero b l h = refl
take-spell_from (suc n) b l h = take-spell (suc n) b l h
    ∙ ap (λ k. get_or l k 0 ∷ spell_from n b 1 l) (sym (add-zero b))

-- ---- stores

module _ {A : Type 0} where
  -- one more of the same behind a run of them
  sets-next : (l : List A) (b n : ℕ) (a : A) → set (sets l b (replicate n a)) (b + n) a ≡ sets l b (replicate (suc n) a)
  sets-next l b zero a = ap (λ k. set l k a) (add-zero b)
  sets-next l b (suc n) a =
      let e : b + suc n ≡ suc b + n = omega arith in
      ap (λ k. set (sets (set l b a) (suc b) (replicate n a)) k a) e ∙ sets-next (set l b a) (suc b) n a

  pub sets_more : (l : List A) (b n : ℕ) (a : A)
      → set (sets l b (replicate n a)) (b + n) a ≡ sets l b (replicate (n + 1) a)
  sets_more l b n a = rw (add-one n) (sets-next l b n a)

  -- a run of stores as code with named offsets writes them:
  -- `set (set l (b + 0) x) (b + 1) y` on a list that is written out
  abbrev pub sets_from : List A → ℕ → ℕ → List A → List A
  sets_from l b k [] = l
  sets_from l b k (v ∷ vs) = sets_from (set l (b + k) v) b (suc k) vs

  sets-from : (l : List A) (b k : ℕ) (vs : List A) → sets_from l b k vs ≡ sets l (b + k) vs
  sets-from l b k [] = refl
  sets-from l b k (v ∷ vs) =
      sets-from (set l (b + k) v) b (suc k) vs ∙ ap (λ n. sets (set l (b + k) v) n vs) (add-suc b k)

  pub sets-at : (l : List A) (b : ℕ) (vs : List A) → sets_from l b 0 vs ≡ sets l b vs
  sets-at l b vs = sets-from l b 0 vs ∙ ap (λ k. sets l k vs) (add-zero b)

  -- an entry changed where one was just put
  pub set-again : (d : A) (g : A → A) (xs ys zs : List A) (i : ℕ) (x : A) → i < length xs → ys ≡ set xs i x
      → zs ≡ set ys i (g (get_or ys i d))
      → zs ≡ set xs i (g x)
  set-again d g xs ys zs i x h e k = k ∙ rw (e, get_or-set_same xs i x d h) (set-set xs i x (g x))

-- a run of stores behind another
pub sets-append : {A : Type 0} (s t l : List A) (i j : ℕ) → j ≡ i + length s → sets (sets l i s) j t ≡ sets l i (s ++ t)
sets-append [] t l i j e = ap (λ k. sets l k t) (e ∙ add-zero i)
sets-append (a ∷ s) t l i j e = sets-append s t (set l i a) (suc i) j (omega arith)

-- ---- n words from a place on

module _ (ws : List ℕ) (from n : ℕ) (h : from + n ≤ length ws) where
  pub part-long : length (take n (drop from ws)) ≡ n
  part-long = length-take-le n (drop from ws) (rw length-drop (omega arith))

  pub part_at : (i : ℕ) → i < n → get_or (take n (drop from ws)) i 0 ≡ get_or ws (from + i) 0
  part_at i k = get_or-take n (drop from ws) i 0 k ∙ get_or-drop from ws i 0

-- a part of a list overwritten
pub part-sets : {A : Type 0} (l vs ys : List A) (i k : ℕ) → ys ≡ vs → length vs ≡ k → i + k ≤ length l
    → put_mid i k l ys ≡ sets l i vs
part-sets l vs ys i k e n h =
    put_mid-paste i k l ys vs k e refl (sym n)
    ∙ ap₂ (λ x m. take i l ++ x ++ drop (i + m) l) (take_all k vs (le_of_eq n)) (sym n)
    ∙ sym (sets-eq vs l i (omega arith))
