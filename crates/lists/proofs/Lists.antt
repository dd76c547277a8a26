-- Laws of the lists of specs/Lists. Assumes nothing.
use mathlib.Core.Path.{◌≡◌, refl, sym, ap, ap₂, subst, ◌∙◌, fun_ext}
use mathlib.Core.Bool.{Bool, true, false, not, ◌&&◌, ◌||◌, cond, or-true, and-false, and_assoc, or_assoc}
use mathlib.Core.Bool.{and-or_distrib_right}
use mathlib.Core.List.{List, [], ◌∷◌, ◌++◌, map, head?, tail, append-nil}
use mathlib.Core.Option
use mathlib.Core.Option.{Option, some, none}
use Prim.Native.Nat.{ℕ, zero, suc, ◌+◌, ◌-◌, ◌≤◌, ◌<◌}
use native.Mathlib.Nat.{not-suc-le-zero, le_of_suc-le-suc}
use native.Mathlib.Omega.{arith}
use lib.ListN.{length, get_or, take, drop, set, replicate, length-append, length-replicate, length-map}
use lib.Seq.{append_snoc, set-append_seam, take-append-le, get_or-take, drop-append_seam}
use borrow.Author.Tests.{not-true}
use Rattle.lists.specs.Lists.{all, any, count, find, first, keep, leading, drop_first, change, replace_first}
use Rattle.lists.specs.Lists.{is_some, pairs, pairs_where, padded, All, cons_if}
use Rattle.lists.proofs.Bools.{split, clash, same_test, and-fst, and-snd, and_both, and_left, and_right, or_left}
use Rattle.lists.proofs.Bools.{or_right, or-both, or-fst-false, or-snd-false, or_cases, not-or, cond_map}
use Rattle.lists.proofs.Bools.{cond-kept, cond_same}

-- x passes the test, or fails it
module _ {A : Type 0} where
  abbrev pub Pass : (A → Bool) → A → Type 0
  Pass p x = p x ≡ true

  abbrev pub Fail : (A → Bool) → A → Type 0
  Fail p x = p x ≡ false

-- ---- at the head of a list, where it passes and where it fails

module _ {A : Type 0} (p : A → Bool) (x : A) (xs : List A) where
  pub all_yes : p x ≡ true → all p (x ∷ xs) ≡ all p xs
  unfolding all
  all_yes e = rw e

  pub all-no : p x ≡ false → all p (x ∷ xs) ≡ false
  unfolding all
  all-no e = rw e

  pub any-yes : p x ≡ true → any p (x ∷ xs) ≡ true
  unfolding any
  any-yes e = rw e

  pub any-no : p x ≡ false → any p (x ∷ xs) ≡ any p xs
  unfolding any
  any-no e = rw e

  pub count_yes : p x ≡ true → count p (x ∷ xs) ≡ suc (count p xs)
  unfolding count
  count_yes e = rw e (omega arith)

  pub count_no : p x ≡ false → count p (x ∷ xs) ≡ count p xs
  unfolding count
  count_no e = rw e (omega arith)

  pub find-yes : p x ≡ true → find p (x ∷ xs) ≡ 0
  unfolding find
  find-yes e = rw e

  pub find-no : p x ≡ false → find p (x ∷ xs) ≡ suc (find p xs)
  unfolding find
  find-no e = rw e

  pub first-yes : p x ≡ true → first p (x ∷ xs) ≡ some x
  unfolding first
  first-yes e = rw e

  pub first-no : p x ≡ false → first p (x ∷ xs) ≡ first p xs
  unfolding first
  first-no e = rw e

  pub keep-yes : p x ≡ true → keep p (x ∷ xs) ≡ x ∷ keep p xs
  unfolding keep
  keep-yes e = rw e

  pub keep-no : p x ≡ false → keep p (x ∷ xs) ≡ keep p xs
  unfolding keep
  keep-no e = rw e

  pub leading-yes : p x ≡ true → leading p (x ∷ xs) ≡ x ∷ leading p xs
  unfolding leading
  leading-yes e = rw e

  pub leading-no : p x ≡ false → leading p (x ∷ xs) ≡ []
  unfolding leading
  leading-no e = rw e

-- ---- what holds of every member

module _ {A : Type 0} where
  pub All-imp : (P Q : A → Type 0) → ((x : A) → P x → Q x) → (l : List A) → All P l → All Q l
  All-imp P Q h [] c = tt
  All-imp P Q h (x ∷ xs) c = (h x c.0, All-imp P Q h xs c.1)

  pub All-both : (P Q : A → Type 0) (l : List A) → All P l → All Q l → All (λ x. P x × Q x) l
  All-both P Q [] c d = tt
  All-both P Q (x ∷ xs) c d = ((c.0, d.0), All-both P Q xs c.1 d.1)

  pub All-every : (P : A → Type 0) → ((x : A) → P x) → (l : List A) → All P l
  All-every P h [] = tt
  All-every P h (x ∷ xs) = (h x, All-every P h xs)

  pub All-append : (P : A → Type 0) (xs ys : List A) → All P xs → All P ys → All P (xs ++ ys)
  All-append P [] ys h k = k
  All-append P (x ∷ xs) ys h k = (h.0, All-append P xs ys h.1 k)

  pub All-map : {B : Type 0} (P : A → Type 0) (f : B → A) (l : List B) → All (λ x. P (f x)) l → All P (map f l)
  All-map P f [] c = tt
  All-map P f (x ∷ xs) c = (c.0, All-map P f xs c.1)

  pub All-replicate : (P : A → Type 0) (a : A) → P a → (n : ℕ) → All P (replicate n a)
  All-replicate P a h zero = tt
  All-replicate P a h (suc n) = (h, All-replicate P a h n)

  pub All-take : (P : A → Type 0) (n : ℕ) (l : List A) → All P l → All P (take n l)
  All-take P zero l c = tt
  All-take P (suc n) [] c = tt
  All-take P (suc n) (x ∷ xs) c = (c.0, All-take P n xs c.1)

  pub All-drop : (P : A → Type 0) (n : ℕ) (l : List A) → All P l → All P (drop n l)
  All-drop P zero l c = c
  All-drop P (suc n) [] c = tt
  All-drop P (suc n) (x ∷ xs) c = All-drop P n xs c.1

  pub All-set : (P : A → Type 0) (l : List A) (i : ℕ) (a : A) → All P l → P a → All P (set l i a)
  All-set P [] i a c h = tt
  All-set P (x ∷ xs) zero a c h = (h, c.1)
  All-set P (x ∷ xs) (suc i) a c h = (c.0, All-set P xs i a c.1 h)

  -- by index, and from every index
  pub All-at : (P : A → Type 0) (l : List A) (i : ℕ) (d : A) → i < length l → All P l → P (get_or l i d)
  All-at P [] i d h c = absurd (not-suc-le-zero h)
  All-at P (x ∷ xs) zero d h c = c.0
  All-at P (x ∷ xs) (suc i) d h c = All-at P xs i d (le_of_suc-le-suc h) c.1

  pub All-each : (P : A → Type 0) (l : List A) (d : A) → ((i : ℕ) → i < length l → P (get_or l i d)) → All P l
  All-each P [] d h = tt
  All-each P (x ∷ xs) d h = (h 0 (omega arith), All-each P xs d (λ i k. h (suc i) (omega arith)))

  pub All-keep : (P : A → Type 0) (n : A → Bool) (l : List A) → All P l → All (λ x. P x × (n x ≡ true)) (keep n l)
  unfolding keep
  All-keep P n [] c = tt
  All-keep P n (x ∷ xs) c =
      split (n x) (λ e. rw e ((c.0, e), All-keep P n xs c.1)) (λ e. rw e (All-keep P n xs c.1))

  -- what passes is changed, what holds of the rest is kept
  pub All-changed : (P Q : A → Type 0) (t : A → Bool) (g : A → A) → ((x : A) → t x ≡ true → P x → Q (g x))
      → ((x : A) → t x ≡ false → P x → Q x)
      → (l : List A) → All P l → All Q (change t g l)
  unfolding change
  All-changed P Q t g h k [] c = tt
  All-changed P Q t g h k (x ∷ xs) c =
      split (t x)
      (λ e. rw e (h x e c.0, All-changed P Q t g h k xs c.1))
      (λ e. rw e (k x e c.0, All-changed P Q t g h k xs c.1))

  pub All-change : (P : A → Type 0) (t : A → Bool) (g : A → A) → ((x : A) → t x ≡ true → P x → P (g x))
      → (l : List A) → All P l
      → All P (change t g l)
  All-change P t g h = All-changed P P t g h (λ x _ c. c)

  pub All-replace_first : (P : A → Type 0) (t : A → Bool) (a : A) → P a → (l : List A) → All P l
      → All P (replace_first t a l)
  unfolding replace_first
  All-replace_first P t a h [] c = tt
  All-replace_first P t a h (x ∷ xs) c =
      split (t x) (λ e. rw e (h, c.1)) (λ e. rw e (c.0, All-replace_first P t a h xs c.1))

  pub All-padded : (P : A → Type 0) (d : A) → P d → (n : ℕ) (l : List A) → All P l → All P (padded d n l)
  unfolding padded
  All-padded P d h n l c = All-append P l (replicate (n - length l) d) c (All-replicate P d h (n - length l))

  -- what holds of all holds of the first that passes
  pub All-first : (P : A → Type 0) (p : A → Bool) (l : List A) (a : A) → first p l ≡ some a → All P l → P a
  unfolding first
  All-first P p [] a e c = let z : ◌≡◌ {A = ℕ} 0 1 = cc in absurd (omega arith)
  All-first P p (x ∷ xs) a e c =
      split (p x)
      (λ f. let z : x ≡ a = cc (first-yes p x xs f) in subst P z c.0)
      (λ f. All-first P p xs a (sym (first-no p x xs f) ∙ e) c.1)

-- ---- the test of every member, and that of some member

module _ {A : Type 0} (p : A → Bool) where
  pub all-All : (l : List A) → all p l ≡ true → All (Pass p) l
  unfolding all
  all-All [] e = tt
  all-All (x ∷ xs) e = (and-fst (p x) (all p xs) e, all-All xs (and-snd (p x) (all p xs) e))

  pub All-all : (l : List A) → All (Pass p) l → all p l ≡ true
  unfolding all
  All-all [] c = refl
  All-all (x ∷ xs) c = and_both c.0 (All-all xs c.1)

  pub any-All : (l : List A) → any p l ≡ false → All (Fail p) l
  unfolding any
  any-All [] e = tt
  any-All (x ∷ xs) e = (or-fst-false (p x) (any p xs) e, any-All xs (or-snd-false (p x) (any p xs) e))

  pub All-any : (l : List A) → All (Fail p) l → any p l ≡ false
  unfolding any
  All-any [] c = refl
  All-any (x ∷ xs) c = or-both c.0 (All-any xs c.1)

  pub not-any : (l : List A) → not (any p l) ≡ all (λ x. not (p x)) l
  unfolding any all
  not-any [] = refl
  not-any (x ∷ xs) = not-or (p x) (any p xs) ∙ ap (λ b. not (p x) && b) (not-any xs)

  pub any_append : (xs ys : List A) → any p (xs ++ ys) ≡ (any p xs || any p ys)
  unfolding any
  any_append [] ys = refl
  any_append (x ∷ xs) ys = ap (λ b. p x || b) (any_append xs ys) ∙ sym (or_assoc (p x) (any p xs) (any p ys))

  pub all_append : (xs ys : List A) → all p (xs ++ ys) ≡ (all p xs && all p ys)
  unfolding all
  all_append [] ys = refl
  all_append (x ∷ xs) ys = ap (λ b. p x && b) (all_append xs ys) ∙ sym (and_assoc (p x) (all p xs) (all p ys))

  pub all_end : (l : List A) (x : A) → all p l ≡ true → p x ≡ true → all p (l ++ (x ∷ [])) ≡ true
  unfolding all
  all_end l x e h = all_append l (x ∷ []) ∙ and_both e (and_both h refl)

  pub any-map : {B : Type 0} (f : B → A) (l : List B) → any p (map f l) ≡ any (λ x. p (f x)) l
  unfolding any
  any-map f [] = refl
  any-map f (x ∷ xs) = ap (λ b. p (f x) || b) (any-map f xs)

  pub all_map : {B : Type 0} (f : B → A) (l : List B) → all p (map f l) ≡ all (λ x. p (f x)) l
  unfolding all
  all_map f [] = refl
  all_map f (x ∷ xs) = ap (λ b. p (f x) && b) (all_map f xs)

  pub any-and : (b : Bool) (l : List A) → any (λ x. p x && b) l ≡ (any p l && b)
  unfolding any
  any-and b [] = refl
  any-and b (x ∷ xs) = ap (λ c. p x && b || c) (any-and b xs) ∙ sym (and-or_distrib_right (p x) (any p xs) b)

  pub any-replicate : (a : A) → p a ≡ false → (n : ℕ) → any p (replicate n a) ≡ false
  any-replicate a h n = All-any (replicate n a) (All-replicate (Fail p) a h n)

  pub all_replicate : (a : A) → p a ≡ true → (n : ℕ) → all p (replicate n a) ≡ true
  all_replicate a h n = All-all (replicate n a) (All-replicate (Pass p) a h n)

  pub all-replace_first : (t : A → Bool) (a : A) → p a ≡ true → (l : List A) → all p l ≡ true
      → all p (replace_first t a l) ≡ true
  all-replace_first t a h l e = All-all (replace_first t a l) (All-replace_first (Pass p) t a h l (all-All l e))

  -- a change that the test survives
  pub all-change-keeps : (t : A → Bool) (g : A → A) → ((x : A) → t x ≡ true → p x ≡ true → p (g x) ≡ true)
      → (l : List A)
      → all p l ≡ true → all p (change t g l) ≡ true
  all-change-keeps t g h l e = All-all (change t g l) (All-change (Pass p) t g h l (all-All l e))

  -- a default that passes does as well as a member
  pub all_get_d : (l : List A) (i : ℕ) (d : A) → p d ≡ true → all p l ≡ true → p (get_or l i d) ≡ true
  unfolding all
  all_get_d [] i d h e = h
  all_get_d (x ∷ xs) zero d h e = and-fst (p x) (all p xs) e
  all_get_d (x ∷ xs) (suc i) d h e = all_get_d xs i d h (and-snd (p x) (all p xs) e)

  pub all_first : (t : A → Bool) (l : List A) (d : A) → p d ≡ true → all p l ≡ true
      → p (Option.get_or (first t l) d) ≡ true
  unfolding all first
  all_first t [] d h e = h
  all_first t (x ∷ xs) d h e =
      split (t x) (λ f. rw f (and-fst (p x) (all p xs) e)) (λ f. rw f (all_first t xs d h (and-snd (p x) (all p xs) e)))

  -- what is kept passes
  pub all-kept : (l : List A) → all p (keep p l) ≡ true
  all-kept l =
      All-all (keep p l) (All-imp (λ x. Unit {0} × (p x ≡ true)) (Pass p) (λ x c. c.1) (keep p l)
      (All-keep (λ _. Unit {0}) p l (All-every (λ _. Unit {0}) (λ _. tt) l)))

  pub any-replace_first : (t : A → Bool) (a : A) (l : List A) → p a ≡ false → All (λ x. t x ≡ true → p x ≡ false) l
      → any p (replace_first t a l) ≡ any p l
  unfolding any replace_first
  any-replace_first t a [] h c = refl
  any-replace_first t a (x ∷ xs) h c =
      split (t x) (λ e. rw e (ap (λ b. b || any p xs) (h ∙ sym (c.0 e))))
      (λ e. rw e (ap (λ b. p x || b) (any-replace_first t a xs h c.1)))

  -- the new one stands in the list, if one was replaced
  pub any-replaced : (t : A → Bool) (a : A) (l : List A) → any t l ≡ true → p a ≡ true
      → any p (replace_first t a l) ≡ true
  unfolding any replace_first
  any-replaced t a [] e h = e
  any-replaced t a (x ∷ xs) e h =
      split (t x) (λ f. rw f (or_left (any p xs) h))
      (λ f. rw f (or_right (p x) (any-replaced t a xs (sym (any-no t x xs f) ∙ e) h)))

module _ {A : Type 0} (p q : A → Bool) where
  pub any_same : (l : List A) → ((x : A) → p x ≡ q x) → any p l ≡ any q l
  any_same l h = ap (λ (f : A → Bool). any f l) (fun_ext h)

  pub all_same : (l : List A) → ((x : A) → p x ≡ q x) → all p l ≡ all q l
  all_same l h = ap (λ (f : A → Bool). all f l) (fun_ext h)

  -- equal on the members
  pub any-same-in : (l : List A) → All (λ x. p x ≡ q x) l → any p l ≡ any q l
  unfolding any
  any-same-in [] h = refl
  any-same-in (x ∷ xs) h = ap₂ (λ a b. a || b) h.0 (any-same-in xs h.1)

  pub all-same-in : (l : List A) → All (λ x. p x ≡ q x) l → all p l ≡ all q l
  unfolding all
  all-same-in [] h = refl
  all-same-in (x ∷ xs) h = ap₂ (λ a b. a && b) h.0 (all-same-in xs h.1)

  pub any-imp : ((x : A) → p x ≡ true → q x ≡ true) → (l : List A) → any p l ≡ true → any q l ≡ true
  unfolding any
  any-imp h [] e = e
  any-imp h (x ∷ xs) e =
      or_cases (p x) (any p xs) e (λ f. or_left (any q xs) (h x f)) (λ f. or_right (q x) (any-imp h xs f))

  pub all-imp : ((x : A) → p x ≡ true → q x ≡ true) → (l : List A) → all p l ≡ true → all q l ≡ true
  all-imp h l e = All-all q l (All-imp (Pass p) (Pass q) h l (all-All p l e))

  pub any-or : (l : List A) → any (λ x. p x || q x) l ≡ (any p l || any q l)
  unfolding any
  any-or [] = refl
  any-or (x ∷ xs) =
      split (p x) (λ e. rw e)
      (λ e. split (q x) (λ f. rw (e, f) (sym (or-true (any p xs)))) (λ f. rw (e, f) (any-or xs)))

  pub all-and : (l : List A) → all (λ x. p x && q x) l ≡ (all p l && all q l)
  unfolding all
  all-and [] = refl
  all-and (x ∷ xs) =
      split (p x) (λ e. split (q x) (λ f. rw (e, f) (all-and xs)) (λ f. rw (e, f) (sym (and-false (all p xs)))))
      (λ e. rw e)

  pub any-keep : (l : List A) → any p (keep q l) ≡ any (λ x. q x && p x) l
  unfolding any keep
  any-keep [] = refl
  any-keep (x ∷ xs) = split (q x) (λ e. rw e (ap (λ b. p x || b) (any-keep xs))) (λ e. rw e (any-keep xs))

-- ---- those that pass

module _ {A : Type 0} where
  cons_if-append : (b : Bool) (x : A) (xs ys : List A) → cons_if b x (xs ++ ys) ≡ cons_if b x xs ++ ys
  cons_if-append true x xs ys = refl
  cons_if-append false x xs ys = refl

  cons_if-map : {B : Type 0} (f : B → A) (b : Bool) (x : B) (xs : List B)
      → cons_if b (f x) (map f xs) ≡ map f (cons_if b x xs)
  cons_if-map f true x xs = refl
  cons_if-map f false x xs = refl

  module _ (p : A → Bool) where
    pub keep_append : (xs ys : List A) → keep p (xs ++ ys) ≡ keep p xs ++ keep p ys
    unfolding keep
    keep_append [] ys = refl
    keep_append (x ∷ xs) ys = ap (cons_if (p x) x) (keep_append xs ys) ∙ cons_if-append (p x) x (keep p xs) (keep p ys)

    pub keep-map : {B : Type 0} (f : B → A) (l : List B) → keep p (map f l) ≡ map f (keep (λ x. p (f x)) l)
    unfolding keep
    keep-map f [] = refl
    keep-map f (x ∷ xs) =
        ap (cons_if (p (f x)) (f x)) (keep-map f xs) ∙ cons_if-map f (p (f x)) x (keep (λ x. p (f x)) xs)

    pub keep-whole : (l : List A) → All (Pass p) l → keep p l ≡ l
    unfolding keep
    keep-whole [] c = refl
    keep-whole (x ∷ xs) c = rw c.0 (ap (λ l. x ∷ l) (keep-whole xs c.1))

    pub keep-empty : (l : List A) → any p l ≡ false → keep p l ≡ []
    unfolding keep any
    keep-empty [] e = refl
    keep-empty (x ∷ xs) e = rw (or-fst-false (p x) (any p xs) e) (keep-empty xs (or-snd-false (p x) (any p xs) e))

    -- the first that passes is the head of those that pass, and without it the others are left
    pub first-keep : (l : List A) → first p l ≡ head? (keep p l)
    unfolding first keep
    first-keep [] = refl
    first-keep (x ∷ xs) = split (p x) (λ e. rw e) (λ e. rw e (first-keep xs))

    pub keep-drop_first : (l : List A) → keep p (drop_first p l) ≡ tail (keep p l)
    unfolding keep drop_first
    keep-drop_first [] = refl
    keep-drop_first (x ∷ xs) = split (p x) (λ e. rw e)
        (λ e. rw e (keep-no p x (drop_first p xs) e ∙ keep-drop_first xs))

  module _ (p q : A → Bool) where
    pub keep_same : (l : List A) → ((x : A) → p x ≡ q x) → keep p l ≡ keep q l
    keep_same l h = ap (λ (f : A → Bool). keep f l) (fun_ext h)

    pub keep-same-in : (l : List A) → All (λ x. p x ≡ q x) l → keep p l ≡ keep q l
    unfolding keep
    keep-same-in [] h = refl
    keep-same-in (x ∷ xs) h = ap₂ (λ b l. cons_if b x l) h.0 (keep-same-in xs h.1)

    pub keep-keep : (l : List A) → keep p (keep q l) ≡ keep (λ x. q x && p x) l
    unfolding keep
    keep-keep [] = refl
    keep-keep (x ∷ xs) = split (q x) (λ e. rw e (ap (cons_if (p x) x) (keep-keep xs))) (λ e. rw e (keep-keep xs))

    pub keep-drop_first-other : ((x : A) → p x ≡ true → q x ≡ false) → (l : List A) → keep q (drop_first p l) ≡ keep q l
    unfolding keep drop_first
    keep-drop_first-other h [] = refl
    keep-drop_first-other h (x ∷ xs) =
        split (p x) (λ e. rw (e, h x e)) (λ e. rw e (ap (cons_if (q x) x) (keep-drop_first-other h xs)))

  -- what is kept by `p` is kept by `n` too: `n` takes nothing from it
  pub keep_all : (p n : A → Bool) → ((x : A) → p x ≡ true → n x ≡ true) → (l : List A) → keep p (keep n l) ≡ keep p l
  keep_all p n h l =
      keep-keep p n l
      ∙ keep_same (λ x. n x && p x) p l
      (λ x. same_test (n x && p x) (p x) (λ e. and-snd (n x) (p x) e) (λ e. and_both (h x e) e))

  -- what is kept by `p` is not kept by `n`: nothing is left
  pub keep-none : (p n : A → Bool) → ((x : A) → p x ≡ true → n x ≡ false) → (l : List A) → keep p (keep n l) ≡ []
  keep-none p n h l =
      keep-keep p n l
      ∙ keep-empty (λ x. n x && p x) l
      (All-any (λ x. n x && p x) l
      (All-every (Fail (λ x. n x && p x)) (λ x. split (p x) (λ e. and_left (p x) (h x e)) (λ e. and_right (n x) e)) l))

-- ---- the first that passes

module _ {A : Type 0} where
  pub is_some-no : (o : Option A) → is_some o ≡ false → o ≡ none
  is_some-no none e = refl
  is_some-no (some a) e = clash refl e

  pub is_some-first : (p : A → Bool) (l : List A) → is_some (first p l) ≡ any p l
  unfolding first any
  is_some-first p [] = refl
  is_some-first p (x ∷ xs) = split (p x) (λ e. rw e) (λ e. rw e (is_some-first p xs))

  pub any-first : (p : A → Bool) (xs ys : List A) → first p xs ≡ first p ys → any p xs ≡ any p ys
  any-first p xs ys e = sym (is_some-first p xs) ∙ ap is_some e ∙ is_some-first p ys

  pub first-none : (p : A → Bool) (l : List A) → any p l ≡ false → first p l ≡ none
  first-none p l e = is_some-no (first p l) (is_some-first p l ∙ e)

  pub some_first : (p : A → Bool) (l : List A) (a : A) → first p l ≡ some a → any p l ≡ true
  some_first p l a e = sym (is_some-first p l) ∙ ap is_some e

  -- a test that x passes is passed in the list
  abbrev pub Stands : List A → A → Type 0
  Stands l x = (p : A → Bool) → p x ≡ true → any p l ≡ true

  -- the first that passes: it passes, and stands in the list
  pub record Found (p : A → Bool) (l : List A) : Type 0 where
    pub it : A
    pub is-first : first p l ≡ some it
    pub passes : p it ≡ true
    pub stands : Stands l it

  pub found : (p : A → Bool) (l : List A) → any p l ≡ true → Found p l
  unfolding any
  found p [] e = clash e refl
  found p (x ∷ xs) e =
      split (p x)
      (λ f. record { it = x; is-first = first-yes p x xs f; passes = f; stands = λ q h. any-yes q x xs h })
      (λ f.
      let r : Found p xs = found p xs (sym (any-no p x xs f) ∙ e) in
      record {
        it = r.it;
        is-first = first-no p x xs f ∙ r.is-first;
        passes = r.passes;
        stands = λ q h. or_right (q x) (r.stands q h);
      })

-- ---- members changed, replaced, left out

module _ {A : Type 0} where
  -- a change is a map
  pub change-map : (t : A → Bool) (g : A → A) (l : List A) → change t g l ≡ map (λ x. cond (t x) (g x) x) l
  unfolding change
  change-map t g [] = refl
  change-map t g (x ∷ xs) = ap (λ l. cond (t x) (g x) x ∷ l) (change-map t g xs)

  module _ (p t : A → Bool) (g : A → A) (l : List A) where
    pub any-change : any p (change t g l) ≡ any (λ x. cond (t x) (p (g x)) (p x)) l
    any-change =
        ap (any p) (change-map t g l)
        ∙ any-map p (λ x. cond (t x) (g x) x) l
        ∙ any_same (λ x. p (cond (t x) (g x) x)) (λ x. cond (t x) (p (g x)) (p x)) l (λ x. cond_map p (t x) (g x) x)

    -- a test that the change keeps
    pub any-changed : ((x : A) → t x ≡ true → p (g x) ≡ p x) → any p (change t g l) ≡ any p l
    any-changed h = any-change ∙ any_same (λ x. cond (t x) (p (g x)) (p x)) p l (λ x. cond-kept (t x) (h x))

  -- what is changed stays what it was
  pub change-kept : (t : A → Bool) (g : A → A) (l : List A) → All (λ x. t x ≡ true → g x ≡ x) l → change t g l ≡ l
  unfolding change
  change-kept t g [] c = refl
  change-kept t g (x ∷ xs) c = ap₂ (λ y l. y ∷ l) (cond-kept (t x) c.0) (change-kept t g xs c.1)

  -- where none passes, nothing is changed, replaced or left out
  pub change-same : (t : A → Bool) (g : A → A) (l : List A) → any t l ≡ false → change t g l ≡ l
  change-same t g l e =
      change-kept t g l (All-imp (Fail t) (λ x. t x ≡ true → g x ≡ x) (λ x f k. clash k f) l (any-All t l e))

  pub replace_first-same : (t : A → Bool) (a : A) (l : List A) → any t l ≡ false → replace_first t a l ≡ l
  unfolding replace_first any
  replace_first-same t a [] e = refl
  replace_first-same t a (x ∷ xs) e =
      rw (or-fst-false (t x) (any t xs) e)
      (ap (λ l. x ∷ l) (replace_first-same t a xs (or-snd-false (t x) (any t xs) e)))

  pub drop_first-same : (t : A → Bool) (l : List A) → any t l ≡ false → drop_first t l ≡ l
  unfolding drop_first any
  drop_first-same t [] e = refl
  drop_first-same t (x ∷ xs) e =
      rw (or-fst-false (t x) (any t xs) e) (ap (λ l. x ∷ l) (drop_first-same t xs (or-snd-false (t x) (any t xs) e)))

module _ {A B : Type 0} (h : A → B) where
  pub map_same : (k : A → A) → ((x : A) → h (k x) ≡ h x) → (l : List A) → map h (map k l) ≡ map h l
  map_same k e [] = refl
  map_same k e (x ∷ xs) = ap₂ (λ y l. y ∷ l) (e x) (map_same k e xs)

  pub map-change : (p : B → Bool) (g : A → A) (g' : B → B) → ((x : A) → h (g x) ≡ g' (h x)) → (l : List A)
      → map h (change (λ x. p (h x)) g l) ≡ change p g' (map h l)
  unfolding change
  map-change p g g' e [] = refl
  map-change p g g' e (x ∷ xs) =
      ap₂ (λ y l. y ∷ l) (cond_map h (p (h x)) (g x) x ∙ ap (λ y. cond (p (h x)) y (h x)) (e x))
      (map-change p g g' e xs)

  pub map-replace_first : (p : B → Bool) (a : A) (l : List A)
      → map h (replace_first (λ x. p (h x)) a l) ≡ replace_first p (h a) (map h l)
  unfolding replace_first
  map-replace_first p a [] = refl
  map-replace_first p a (x ∷ xs) = split (p (h x)) (λ e. rw e)
      (λ e. rw e (ap (λ l. h x ∷ l) (map-replace_first p a xs)))

  pub map-drop_first : (p : B → Bool) (l : List A) → map h (drop_first (λ x. p (h x)) l) ≡ drop_first p (map h l)
  unfolding drop_first
  map-drop_first p [] = refl
  map-drop_first p (x ∷ xs) = split (p (h x)) (λ e. rw e) (λ e. rw e (ap (λ l. h x ∷ l) (map-drop_first p xs)))

-- ---- how many pass, and lengths

module _ {A : Type 0} (p : A → Bool) where
  pub count-keep : (l : List A) → count p l ≡ length (keep p l)
  unfolding count keep
  count-keep [] = refl
  count-keep (x ∷ xs) =
      split (p x) (λ e. rw e (omega (arith, count-keep xs))) (λ e. rw e (omega (arith, count-keep xs)))

  pub count-append : (xs ys : List A) → count p (xs ++ ys) ≡ count p xs + count p ys
  unfolding count
  count-append [] ys = omega arith
  count-append (x ∷ xs) ys = omega (arith, count-append xs ys)

  pub count_map : {B : Type 0} (f : B → A) (l : List B) → count p (map f l) ≡ count (λ x. p (f x)) l
  unfolding count
  count_map f [] = refl
  count_map f (x ∷ xs) = ap (λ n. cond (p (f x)) 1 0 + n) (count_map f xs)

  pub count-replicate : (a : A) (n : ℕ) → count p (replicate n a) ≡ cond (p a) n 0
  unfolding count
  count-replicate a zero = sym (cond_same (p a) 0)
  count-replicate a (suc n) = rw (count-replicate a n) (split (p a) (λ e. rw e (omega arith)) (λ e. rw e (omega arith)))

  -- those that pass and those that fail are all
  pub count-not : (l : List A) → count p l + count (λ x. not (p x)) l ≡ length l
  unfolding count
  count-not [] = omega arith
  count-not (x ∷ xs) = split (p x) (λ e. rw e (omega (arith, count-not xs))) (λ e. rw e (omega (arith, count-not xs)))

  pub count-le-length : (l : List A) → count p l ≤ length l
  count-le-length l = omega (arith, count-not l)

  pub count-all : (l : List A) → All (Pass p) l → count p l ≡ length l
  count-all l c = count-keep l ∙ ap length (keep-whole p l c)

  -- some passes exactly if the count is not 0
  pub any-count : (l : List A) → any p l ≡ true → 1 ≤ count p l
  unfolding count any
  any-count [] e = clash e refl
  any-count (x ∷ xs) e =
      or_cases (p x) (any p xs) e (λ f. rw f (omega arith))
      (λ f. let h : 1 ≤ count p xs = any-count xs f in omega arith)

  pub none-count : (l : List A) → any p l ≡ false → count p l ≡ 0
  none-count l e = count-keep l ∙ ap length (keep-empty p l e)

  pub count_none : (l : List A) → count p l ≡ 0 → any p l ≡ false
  count_none l e = split (any p l) (λ f. let h : 1 ≤ count p l = any-count l f in absurd (omega arith)) (λ f. f)

  pub count-replace_first : (t : A → Bool) (a : A) (l : List A) → p a ≡ false → All (λ x. t x ≡ true → p x ≡ false) l
      → count p (replace_first t a l) ≡ count p l
  unfolding count replace_first
  count-replace_first t a [] h c = refl
  count-replace_first t a (x ∷ xs) h c =
      split (t x)
      (λ e. rw e (ap (λ b. cond b 1 0 + count p xs) (h ∙ sym (c.0 e))))
      (λ e. rw e (ap (λ n. cond (p x) 1 0 + n) (count-replace_first t a xs h c.1)))

  pub count-replace_first-le : (t : A → Bool) (a : A) (l : List A)
      → count p (replace_first t a l) ≤ count p l + cond (p a) 1 0
  unfolding count replace_first
  count-replace_first-le t a [] = omega arith
  count-replace_first-le t a (x ∷ xs) =
      split (t x) (λ e. rw e (omega arith)) (λ e. rw e (omega (arith, count-replace_first-le t a xs)))

  pub count-drop_first : (l : List A) → any p l ≡ true → suc (count p (drop_first p l)) ≡ count p l
  unfolding count drop_first any
  count-drop_first [] e = clash e refl
  count-drop_first (x ∷ xs) e =
      split (p x)
      (λ f. rw f (omega arith))
      (λ f. rw f (let h : any p xs ≡ true = sym (any-no p x xs f) ∙ e in
      omega (arith, count_no p x (drop_first p xs) f, count-drop_first xs h)))

-- a test that all pass
pub count-true : {A : Type 0} (l : List A) → count (λ _. true) l ≡ length l
count-true l = count-all (λ _. true) l (All-every (λ _. true ≡ true) (λ _. refl) l)

-- a test made besides, that does not look at the member
pub count-and : {A : Type 0} (b : Bool) (p : A → Bool) (l : List A) → count (λ x. b && p x) l ≡ cond b (count p l) 0
count-and true p l = refl
count-and false p l = none-count (λ _. false) l (All-any (λ _. false) l (All-every (λ _. false ≡ false) (λ _. refl) l))

module _ {A : Type 0} (p q : A → Bool) where
  pub count_same : (l : List A) → ((x : A) → p x ≡ q x) → count p l ≡ count q l
  count_same l h = ap (λ (f : A → Bool). count f l) (fun_ext h)

  pub count_kept : (l : List A) → count p (keep q l) ≡ count (λ x. q x && p x) l
  count_kept l = count-keep p (keep q l) ∙ ap length (keep-keep p q l) ∙ sym (count-keep (λ x. q x && p x) l)

  pub count-le : ((x : A) → p x ≡ true → q x ≡ true) → (l : List A) → count p l ≤ count q l
  count-le h l =
      let e : count p (keep q l) ≡ count p l =
      count-keep p (keep q l) ∙ ap length (keep_all p q h l) ∙ sym (count-keep p l) in
      let f : count p (keep q l) ≤ length (keep q l) = count-le-length p (keep q l) in
      omega (arith, count-keep q l)

module _ {A : Type 0} (p : A → Bool) where
  pub length-change : (g : A → A) (l : List A) → length (change p g l) ≡ length l
  length-change g l = ap length (change-map p g l) ∙ length-map l (λ x. cond (p x) (g x) x)

  pub length-replace_first : (a : A) (l : List A) → length (replace_first p a l) ≡ length l
  unfolding replace_first
  length-replace_first a [] = refl
  length-replace_first a (x ∷ xs) = split (p x) (λ e. rw e) (λ e. rw e (ap suc (length-replace_first a xs)))

  pub length-drop_first : (l : List A) → any p l ≡ true → suc (length (drop_first p l)) ≡ length l
  unfolding drop_first any
  length-drop_first [] e = clash e refl
  length-drop_first (x ∷ xs) e =
      split (p x) (λ f. rw f) (λ f. rw f (ap suc (length-drop_first xs (sym (any-no p x xs f) ∙ e))))

-- ---- every two members

module _ {A : Type 0} where
  pub pairs-map : {B : Type 0} (r : A → A → Bool) (f : B → A) (l : List B)
      → pairs r (map f l) ≡ pairs (λ x y. r (f x) (f y)) l
  unfolding pairs
  pairs-map r f [] = refl
  pairs-map r f (x ∷ xs) = ap₂ (λ a b. a && b) (all_map (r (f x)) f xs) (pairs-map r f xs)

  pub pairs-imp : (r s : A → A → Bool) → ((x y : A) → r x y ≡ true → s x y ≡ true) → (l : List A) → pairs r l ≡ true
      → pairs s l ≡ true
  unfolding pairs
  pairs-imp r s h [] e = e
  pairs-imp r s h (x ∷ xs) e =
      and_both (all-imp (r x) (s x) (h x) xs (and-fst (all (r x) xs) (pairs r xs) e))
      (pairs-imp r s h xs (and-snd (all (r x) xs) (pairs r xs) e))

  all-or : (b : Bool) (q : A → Bool) (l : List A) → (b || all q l) ≡ all (λ x. b || q x) l
  all-or true q l = sym (All-all (λ _. true) l (All-every (λ _. true ≡ true) (λ _. refl) l))
  all-or false q l = refl

  -- the test of the first of a pair may stand in the test of the pair
  pub pairs_where-pairs : (p : A → Bool) (r : A → A → Bool) (l : List A)
      → pairs_where p r l ≡ pairs (λ x y. not (p x) || r x y) l
  unfolding pairs_where pairs
  pairs_where-pairs p r [] = refl
  pairs_where-pairs p r (x ∷ xs) = ap₂ (λ a b. a && b) (all-or (not (p x)) (r x) xs) (pairs_where-pairs p r xs)

  -- where no two pass, one at most does
  pub pairs-count : (t : A → Bool) (l : List A) → pairs (λ x y. not (t x && t y)) l ≡ true → count t l ≤ 1
  unfolding pairs count
  pairs-count t [] e = omega arith
  pairs-count t (x ∷ xs) e =
      let a : all (λ y. not (t x && t y)) xs ≡ true =
      and-fst (all (λ y. not (t x && t y)) xs) (pairs (λ x y. not (t x && t y)) xs) e in
      let i : count t xs ≤ 1 =
      pairs-count t xs (and-snd (all (λ y. not (t x && t y)) xs) (pairs (λ x y. not (t x && t y)) xs) e) in
      split (t x)
      (λ f.
      let b : all (λ y. not (t y)) xs ≡ true = rw f at a in
      let z : count t xs ≡ 0 = none-count t xs (not-true (any t xs) (not-any t xs ∙ b)) in
      rw f (omega arith))
      (λ f. rw f (omega arith))

-- ---- those before the first that fails, and lists padded

module _ {A : Type 0} (p : A → Bool) where
  pub leading-passes : (l : List A) → All (Pass p) (leading p l)
  unfolding leading
  leading-passes [] = tt
  leading-passes (x ∷ xs) = split (p x) (λ e. rw e (e, leading-passes xs)) (λ e. rw e tt)

  pub leading-all : (l : List A) → All (Pass p) l → leading p l ≡ l
  unfolding leading
  leading-all [] c = refl
  leading-all (x ∷ xs) c = rw c.0 (ap (λ l. x ∷ l) (leading-all xs c.1))

  pub leading-append : (xs ys : List A) → All (Pass p) xs → leading p (xs ++ ys) ≡ xs ++ leading p ys
  unfolding leading
  leading-append [] ys c = refl
  leading-append (x ∷ xs) ys c = rw c.0 (ap (λ l. x ∷ l) (leading-append xs ys c.1))

  pub leading-replicate : (d : A) → p d ≡ false → (n : ℕ) → leading p (replicate n d) ≡ []
  unfolding leading
  leading-replicate d h zero = refl
  leading-replicate d h (suc n) = rw h

  -- they end before what fails, however much of it there is
  pub leading-behind : (d : A) → p d ≡ false → (n : ℕ) (l : List A) → leading p (l ++ replicate n d) ≡ leading p l
  unfolding leading
  leading-behind d h n [] = leading-replicate d h n
  leading-behind d h n (x ∷ xs) = ap (λ l. cond (p x) (x ∷ l) []) (leading-behind d h n xs)

  pub leading-padded : (d : A) (n : ℕ) (xs : List A) → All (Pass p) xs → p d ≡ false → leading p (padded d n xs) ≡ xs
  unfolding padded
  leading-padded d n xs c h =
      leading-append xs (replicate (n - length xs) d) c ∙ ap (λ l. xs ++ l) (leading-replicate d h (n - length xs))
      ∙ append-nil xs

  -- they are a first part
  pub leading-take : (l : List A) → leading p l ≡ take (length (leading p l)) l
  unfolding leading
  leading-take [] = refl
  leading-take (x ∷ xs) = split (p x) (λ e. rw e (ap (λ l. x ∷ l) (leading-take xs))) (λ e. rw e)

  pub length-leading : (l : List A) → length (leading p l) ≤ length l
  unfolding leading
  length-leading [] = omega arith
  length-leading (x ∷ xs) = split (p x) (λ e. rw e (omega (arith, length-leading xs))) (λ e. rw e (omega arith))

  pub All-leading : (P : A → Type 0) (l : List A) → All P l → All P (leading p l)
  All-leading P l c = subst (All P) (sym (leading-take l)) (All-take P (length (leading p l)) l c)

  pub get_d-leading : (l : List A) (i : ℕ) (d : A) → i < length (leading p l) → get_or (leading p l) i d ≡ get_or l i d
  get_d-leading l i d h = ap (λ r. get_or r i d) (leading-take l) ∙ get_or-take (length (leading p l)) l i d h

module _ {A : Type 0} (d : A) (n : ℕ) (xs : List A) where
  pub length-padded : length xs ≤ n → length (padded d n xs) ≡ n
  unfolding padded
  length-padded h = simp (length-append, length-replicate) (omega arith)

  pub take-padded : (k : ℕ) → k ≤ length xs → take k (padded d n xs) ≡ take k xs
  unfolding padded
  take-padded k h = take-append-le k xs (replicate (n - length xs) d) h

  pub drop-padded : drop (length xs) (padded d n xs) ≡ replicate (n - length xs) d
  unfolding padded
  drop-padded = drop-append_seam xs (replicate (n - length xs) d)

  -- one more
  pub padded-snoc : (k : ℕ) (a : A) → k ≡ length xs → k < n → set (padded d n xs) k a ≡ padded d n (xs ++ (a ∷ []))
  unfolding padded
  padded-snoc k a e h =
      let m : ℕ = n - suc (length xs) in
      let f : n - length xs ≡ suc m = omega arith in
      let g : n - length (xs ++ (a ∷ [])) ≡ m = simp length-append (omega arith) in
      rw (e, f, set-append_seam xs d (replicate m d) a, g) (sym (append_snoc xs a (replicate m d)))

-- a list of one value alone
pub all-equal : {A : Type 0} (d : A) (l : List A) → All (λ x. x ≡ d) l → l ≡ replicate (length l) d
all-equal d [] h = refl
all-equal d (x ∷ l) h = ap₂ (λ y m. y ∷ m) h.0 (all-equal d l h.1)
