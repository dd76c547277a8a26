-- What `append`, `discard` and `remove` leave, and what their loops keep: b₀ is the buffer before, b the buffer now.
-- Assumes nothing.
use mathlib.Core.Path.{◌≡◌, refl, ap, ◌∙◌}
use mathlib.Core.Bool.{Bool, true, false}
use mathlib.Core.List.{List, ◌++◌, append-nil}
use Prim.Native.Nat.{ℕ, ◌+◌, ◌*◌, ◌≤◌, ◌<◌}
use native.Mathlib.Numerals.{add-one}
use native.Mathlib.Omega.{arith}
use lib.ListN.{length, take, drop, set, drop_of_length-le}
use lib.Seq.{sets, length-sets}
use Rattle.limits.specs.Limits.{buffer_records, buffer_bytes, record_bytes}
use Rattle.lists.specs.Lists.{keep, padded}
use Rattle.lists.specs.Rows.{row}
use Rattle.lists.proofs.Lists.{take-padded, padded-snoc}
use Rattle.lists.proofs.Loops.{cleared, same_next, same_set, kept, passed, compacted, moved, compact}
use Rattle.types.specs.declared.Siginfo.{Siginfo}
use Rattle.types.specs.Values.{no_siginfo}
use Rattle.siginfo.specs.Bytes.{Fits, siginfo_of, bytes_of}
use Rattle.queue.specs.Queue.{slots_of, records_of, is_laid, appended, remove_at}
use Rattle.queue.proofs.Buffer.{length-slots_of, length-records_of, length-laid, laid-slots, in-slots, in_buffer}
use Rattle.queue.proofs.Buffer.{slot-written, record-kept}

-- ---- `append`

pub appended-slots : {b : List ℕ} (b₀ : List ℕ) (n : ℕ) (r : Siginfo) → is_laid b₀ ≡ true → n ≡ length (records_of b₀)
    → n < buffer_records → Fits r
    → b ≡ sets b₀ (n * record_bytes) (bytes_of r) → slots_of b
    ≡ padded no_siginfo buffer_records (appended r (records_of b₀))
unfolding appended
appended-slots b₀ n r l e h f p =
    slot-written b₀ n r (length-laid b₀ l) h f p
    ∙ ap (λ cs. set cs n r) (laid-slots b₀ l)
    ∙ padded-snoc no_siginfo buffer_records (records_of b₀) n r e h

-- ---- both loops end alike: what stays stands below j, and the rest is cleared

pub rest-cleared : (b₀ b : List ℕ) (rs : List Siginfo) (j n : ℕ) → is_laid b₀ ≡ true → n ≡ length (records_of b₀)
    → j ≤ n
    → take j (slots_of b) ≡ rs → drop n (slots_of b) ≡ drop n (slots_of b₀)
    → cleared no_siginfo (slots_of b) j n ≡ padded no_siginfo buffer_records rs
rest-cleared b₀ b rs j n l e h p q =
    compact no_siginfo (slots_of b) (records_of b₀) rs j n buffer_records e h (omega (arith, length-records_of b₀))
    (length-slots_of b) p
    (q ∙ ap (drop n) (laid-slots b₀ l))

-- ---- `discard`: of the records before i those that pass are below j, and from i on nothing is changed

pub record Sparing (q : Siginfo → Bool) (b₀ b : List ℕ) (i j : ℕ) : Type 0 where
  pub behind : j ≤ i
  pub size : length b ≡ buffer_bytes
  pub front : take j (slots_of b) ++ keep q (drop i (records_of b₀)) ≡ keep q (records_of b₀)
  pub rest : drop i (slots_of b) ≡ drop i (slots_of b₀)

module _ (q : Siginfo → Bool) (b₀ : List ℕ) where
  pub sparing-start : is_laid b₀ ≡ true → Sparing q b₀ b₀ 0 0
  sparing-start l = record { behind = omega arith; size = length-laid b₀ l; front = refl; rest = refl }

  -- a turn: r was read at i
  module _ (b : List ℕ) (i j : ℕ) (r : Siginfo) (inv : Sparing q b₀ b i j) (h : i < length (records_of b₀))
      (e : r ≡ siginfo_of (row record_bytes b i)) where
    pub sparing-kept : (b' : List ℕ) (j' : ℕ) → q r ≡ true → Fits r → b' ≡ sets b (j * record_bytes) (bytes_of r)
        → j' ≡ j + 1 → Sparing q b₀ b' (i + 1) j'
    sparing-kept b' j' t f p d =
        let k : j < buffer_records = omega (arith, in_buffer b₀ i h) in
        let a = e ∙ record-kept b₀ b i no_siginfo h inv.rest in
        let w = slot-written b j r inv.size k f p in
        record {
          behind = omega arith;
          size = ap length p ∙ length-sets b (j * record_bytes) (bytes_of r) ∙ inv.size;
          front = rw (d, w) (kept q no_siginfo (slots_of b) (records_of b₀) i j r (in-slots b j k) h a t ∙ inv.front);
          rest = rw w (same_set (slots_of b) (slots_of b₀) i j r inv.behind inv.rest);
        }

    pub sparing-passed : (b' : List ℕ) (j' : ℕ) → q r ≡ false → b' ≡ b → j' ≡ j → Sparing q b₀ b' (i + 1) j'
    sparing-passed b' j' t p d =
        let a = e ∙ record-kept b₀ b i no_siginfo h inv.rest in
        record {
          behind = omega arith;
          size = ap length p ∙ inv.size;
          front = rw (p, d, passed q no_siginfo (records_of b₀) i r h a t) inv.front;
          rest = rw p (same_next (slots_of b) (slots_of b₀) i inv.rest);
        }

  pub sparing-done : (b : List ℕ) (i j n : ℕ) → is_laid b₀ ≡ true → n ≡ length (records_of b₀) → i ≡ n
      → Sparing q b₀ b i j
      → cleared no_siginfo (slots_of b) j n ≡ padded no_siginfo buffer_records (keep q (records_of b₀))
  sparing-done b i j n l e d inv =
      rest-cleared b₀ b (keep q (records_of b₀)) j n l e (omega arith)
      (compacted q no_siginfo (slots_of b) (records_of b₀) i j (omega arith) inv.front) (rw d at inv.rest)

-- ---- `remove`: the record at k is gone, those after it up to i are one place lower, and from i on nothing is changed

pub record Moving (k : ℕ) (b₀ b : List ℕ) (i : ℕ) : Type 0 where
  pub size : length b ≡ buffer_bytes
  pub front : take i (slots_of b) ++ drop (i + 1) (records_of b₀) ≡ remove_at k (records_of b₀)
  pub rest : drop i (slots_of b) ≡ drop i (slots_of b₀)

module _ (k : ℕ) (b₀ : List ℕ) where
  pub moving-start : is_laid b₀ ≡ true → k < length (records_of b₀) → Moving k b₀ b₀ k
  unfolding remove_at
  moving-start l h =
      record {
        size = length-laid b₀ l;
        front = rw (laid-slots b₀ l, take-padded no_siginfo buffer_records (records_of b₀) k (omega arith), add-one);
        rest = refl;
      }

  pub moving-more : {b' : List ℕ} (b : List ℕ) (i : ℕ) (r : Siginfo) → Moving k b₀ b i → i + 1 < length (records_of b₀)
      → r ≡ siginfo_of (row record_bytes b (i + 1)) → Fits r → b' ≡ sets b (i * record_bytes) (bytes_of r)
      → Moving k b₀ b' (i + 1)
  moving-more b i r inv h e f p =
      let m : i < buffer_records = omega (arith, in_buffer b₀ (i + 1) h) in
      let s = same_next (slots_of b) (slots_of b₀) i inv.rest in
      let a = e ∙ record-kept b₀ b (i + 1) no_siginfo h s in
      let w = slot-written b i r inv.size m f p in
      record {
        size = ap length p ∙ length-sets b (i * record_bytes) (bytes_of r) ∙ inv.size;
        front = rw w (moved no_siginfo (slots_of b) (records_of b₀) i r (in-slots b i m) h a ∙ inv.front);
        rest = rw w (same_set (slots_of b) (slots_of b₀) i i r (omega arith) inv.rest);
      }

  pub moving-done : (b : List ℕ) (i j n : ℕ) → is_laid b₀ ≡ true → n ≡ length (records_of b₀) → i + 1 ≡ n → j ≡ i
      → Moving k b₀ b i
      → cleared no_siginfo (slots_of b) j n ≡ padded no_siginfo buffer_records (remove_at k (records_of b₀))
  moving-done b i j n l e d m inv =
      let over : length (records_of b₀) ≤ i + 1 = omega arith in
      rest-cleared b₀ b (remove_at k (records_of b₀)) j n l e (omega arith)
      (rw m (rw (drop_of_length-le (records_of b₀) over, append-nil) at inv.front))
      (rw d at (same_next (slots_of b) (slots_of b₀) i inv.rest))
