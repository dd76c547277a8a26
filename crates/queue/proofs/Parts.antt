-- Slots of a buffer of which a part is filled. Assumes nothing.
use mathlib.Core.Path.{◌≡◌, refl, sym, ap, ap₂, ◌∙◌}
use mathlib.Core.List.{List, ◌∷◌, ◌++◌}
use Prim.Native.Nat.{ℕ, zero, suc, ◌+◌, ◌-◌, ◌*◌, ◌≤◌}
use native.Mathlib.Nat.{zero-mul, suc-mul, zero-add, suc-add}
use native.Mathlib.Omega.{arith}
use borrow.Rule.Slice.PartMut.{put_mid}
use lib.ListN.{length, take, drop, replicate, length-replicate, length-drop, take-append-drop}
use lib.ListN.{replicate-append-replicate}
use lib.Seq.{take_at, drop_at, drop-drop, length-take-le}
use Rattle.std.proofs.lemmas.List.{take-append-le, drop-append-le}
use Rattle.limits.specs.Limits.{buffer_records, buffer_bytes, record_bytes}
use Rattle.lists.specs.Rows.{rows}
use Rattle.lists.proofs.Loops.{cleared}
use Rattle.lists.proofs.Rows.{nil-of, length-rows}
use Rattle.types.specs.Values.{no_siginfo}
use Rattle.siginfo.specs.Bytes.{le, siginfo_of, slots}
use Rattle.queue.specs.Queue.{slots_of}

-- ---- rows in front and behind

module _ {A : Type 0} (dec : List ℕ → A) (w : ℕ) where
  rows-append : (k n : ℕ) (xs ys : List ℕ) → length xs ≡ k * w
      → rows dec w (k + n) (xs ++ ys) ≡ rows dec w k xs ++ rows dec w n ys
  unfolding rows
  rows-append zero n xs ys e =
      ap (λ m. rows dec w m (xs ++ ys)) (zero-add n)
      ∙ ap (λ l. rows dec w n (l ++ ys)) (nil-of xs (e ∙ zero-mul w))
  rows-append (suc k) n xs ys e =
      let s : length xs ≡ k * w + w = e ∙ suc-mul k w in
      let long : w ≤ length xs = omega arith in
      ap (λ m. rows dec w m (xs ++ ys)) (suc-add k n)
      ∙ ap₂ (λ a b. dec a ∷ rows dec w (k + n) b) (take-append-le w xs ys long) (drop-append-le w xs ys long)
      ∙ ap (λ l. dec (take w xs) ∷ l) (rows-append k n (drop w xs) ys (rw length-drop (omega arith)))

  module _ (k n : ℕ) (ws : List ℕ) (h : k * w ≤ length ws) where
    rows-parts : rows dec w (k + n) ws ≡ rows dec w k (take (k * w) ws) ++ rows dec w n (drop (k * w) ws)
    rows-parts =
        ap (rows dec w (k + n)) (sym (take-append-drop (k * w) ws))
        ∙ rows-append k n (take (k * w) ws) (drop (k * w) ws) (length-take-le (k * w) ws h)

    rows-front : take k (rows dec w (k + n) ws) ≡ rows dec w k (take (k * w) ws)
    rows-front = ap (take k) rows-parts ∙ take_at _ _ k (length-rows dec w k (take (k * w) ws))

    rows-behind : drop k (rows dec w (k + n) ws) ≡ rows dec w n (drop (k * w) ws)
    rows-behind = ap (drop k) rows-parts ∙ drop_at _ _ k (length-rows dec w k (take (k * w) ws))

  rows-same : (v k : ℕ) → rows dec w k (replicate (k * w) v) ≡ replicate k (dec (replicate w v))
  unfolding rows
  rows-same v zero = refl
  rows-same v (suc k) =
      let n : suc k * w ≡ w + k * w = omega (arith, suc-mul k w) in
      let r : replicate (suc k * w) v ≡ replicate w v ++ replicate (k * w) v =
      ap (λ m. replicate m v) n ∙ sym (replicate-append-replicate w (k * w) v) in
      ap₂ (λ a b. dec a ∷ rows dec w k b)
      (ap (take w) r ∙ take_at _ _ w (length-replicate w v))
      (ap (drop w) r ∙ drop_at _ _ w (length-replicate w v))
      ∙ ap (λ l. dec (replicate w v) ∷ l) (rows-same v k)

-- ---- a part filled with zeros

zero-record : siginfo_of (replicate record_bytes 0) ≡ no_siginfo
unfolding siginfo_of le
zero-record = refl

module _ (b : List ℕ) (j n : ℕ) (size : length b ≡ buffer_bytes) (low : j ≤ n) (high : n ≤ buffer_records) where
  abbrev place : ℕ
  place = j * record_bytes

  abbrev long : ℕ
  long = n * record_bytes - j * record_bytes

  -- a part replaced
  slots-mid : (part : List ℕ) → length part ≡ long
      → slots_of (put_mid place long b part)
      ≡ take j (slots_of b) ++ (rows siginfo_of record_bytes (n - j) part ++ drop n (slots_of b))
  unfolding slots_of slots
  slots-mid part e =
      let all : buffer_records ≡ j + (n - j + (buffer_records - n)) = omega arith in
      let front : buffer_records ≡ j + (buffer_records - j) = omega arith in
      let behind : buffer_records ≡ n + (buffer_records - n) = omega arith in
      let m : length part ≡ (n - j) * record_bytes = omega arith in
      let rest : drop long (drop place b) ≡ drop (n * record_bytes) b =
      drop-drop long place b ∙ ap (λ k. drop k b) (omega arith) in
      ap (λ k. rows siginfo_of record_bytes k (put_mid place long b part)) all
      ∙ rows-append siginfo_of record_bytes j (n - j + (buffer_records - n)) (take place b)
      (part ++ drop long (drop place b)) (length-take-le place b (omega arith))
      ∙ ap₂ (λ x y. x ++ y)
      (sym (ap (λ k. take j (rows siginfo_of record_bytes k b)) front
      ∙ rows-front siginfo_of record_bytes j (buffer_records - j) b (omega arith)))
      (rows-append siginfo_of record_bytes (n - j) (buffer_records - n) part (drop long (drop place b)) m
      ∙ ap (λ l. rows siginfo_of record_bytes (n - j) part ++ l)
      (ap (rows siginfo_of record_bytes (buffer_records - n)) rest
      ∙ sym (ap (λ k. drop n (rows siginfo_of record_bytes k b)) behind
      ∙ rows-behind siginfo_of record_bytes n (buffer_records - n) b (omega arith))))

  pub slots-filled : {part : List ℕ} → part ≡ replicate (length (take long (drop place b))) 0
      → slots_of (put_mid place long b part) ≡ cleared no_siginfo (slots_of b) j n
  unfolding cleared
  slots-filled {part} e =
      let m : length (take long (drop place b)) ≡ long =
      length-take-le long (drop place b) (rw length-drop (omega arith)) in
      let z : part ≡ replicate ((n - j) * record_bytes) 0 =
      e ∙ ap (λ k. replicate k 0) (m ∙ omega arith) in
      slots-mid part (ap length z ∙ length-replicate ((n - j) * record_bytes) 0 ∙ omega arith)
      ∙ ap (λ l. take j (slots_of b) ++ (l ++ drop n (slots_of b)))
      (ap (rows siginfo_of record_bytes (n - j)) z ∙ rows-same siginfo_of record_bytes 0 (n - j)
      ∙ ap (replicate (n - j)) zero-record)
