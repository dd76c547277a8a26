-- Laws of a buffer: its bytes, its slots and the records in use. Assumes nothing.
use mathlib.Core.Path.{◌≡◌, sym, ap, subst, ◌∙◌}
use mathlib.Core.Bool.{Bool, true, false}
use mathlib.Core.List.{List, append-nil}
use Prim.Native.Nat.{ℕ, ◌*◌, ◌≤◌, ◌<◌}
use native.Mathlib.Nat.{le_trans}
use native.Mathlib.Omega.{arith}
use lib.Dec.{eqb}
use lib.ListN.{length, get_or, drop, set, replicate, drop_of_length-le}
use lib.Seq.{sets}
use borrow.Author.Tests.{eqb-true, eq-eqb, ne_eqb}
use Rattle.limits.specs.Limits.{buffer_records, buffer_bytes, record_bytes}
use Rattle.lists.specs.Lists.{all, find, drop_first, padded}
use Rattle.lists.specs.Rows.{row}
use Rattle.lists.proofs.Bools.{and-fst, and-snd, and_left}
use Rattle.lists.proofs.Loops.{cleared, drop_first-find, same_from}
use Rattle.types.specs.declared.Siginfo.{Siginfo}
use Rattle.types.specs.Values.{no_siginfo}
use Rattle.siginfo.specs.Bytes.{Bytes, Fits, siginfo_of, bytes_of, slots, slot_bytes}
use Rattle.siginfo.proofs.Slots.{length-slots, slot_at, slot-put, slot_bytes-slots}
use Rattle.rules.specs.Store.{used}
use Rattle.rules.specs.Sound.{is_zero, rest_zero}
use Rattle.rules.proofs.Slots.{length-used, used-at, laid-padded}
use Rattle.queue.specs.Queue.{slots_of, records_of, is_laid, remove_at}

-- ---- a buffer

pub length-slots_of : (b : List ℕ) → length (slots_of b) ≡ buffer_records
unfolding slots_of
length-slots_of b = length-slots buffer_records b

pub length-records_of : (b : List ℕ) → length (records_of b) ≤ buffer_records
unfolding records_of
length-records_of b = subst (λ n. length (used (slots_of b)) ≤ n) (length-slots_of b) (length-used (slots_of b))

-- bytes are determined by slots
pub buffer-is : (b : List ℕ) → length b ≡ buffer_bytes → Bytes b → b ≡ slot_bytes (slots_of b)
unfolding slots_of
buffer-is b e h = sym (slot_bytes-slots buffer_records b e h)

pub length-laid : (b : List ℕ) → is_laid b ≡ true → length b ≡ buffer_bytes
unfolding is_laid
length-laid b e = eqb-true (length b) buffer_bytes (and-fst (eqb (length b) buffer_bytes) (rest_zero (slots_of b)) e)

pub laid-rest : (b : List ℕ) → is_laid b ≡ true → rest_zero (slots_of b) ≡ true
unfolding is_laid
laid-rest b e = and-snd (eqb (length b) buffer_bytes) (rest_zero (slots_of b)) e

pub laid-slots : (b : List ℕ) → is_laid b ≡ true → slots_of b ≡ padded no_siginfo buffer_records (records_of b)
unfolding records_of
laid-slots b e =
    laid-padded (slots_of b) (laid-rest b e) ∙ ap (λ n. padded no_siginfo n (used (slots_of b))) (length-slots_of b)

-- the test as code makes it
pub laid-test : (b : List ℕ) → length b ≡ buffer_bytes → all is_zero (drop (length (records_of b)) (slots_of b))
    ≡ is_laid b
unfolding is_laid rest_zero records_of
laid-test b e = rw (eq-eqb (length b) buffer_bytes e)

pub not-laid : (b : List ℕ) → (length b ≡ buffer_bytes → ⊥) → is_laid b ≡ false
unfolding is_laid
not-laid b h = and_left (rest_zero (slots_of b)) (ne_eqb (length b) buffer_bytes h)

-- all slots cleared
pub all-cleared : (b : List ℕ) → cleared no_siginfo (slots_of b) 0 buffer_records ≡ replicate buffer_records no_siginfo
unfolding cleared
all-cleared b =
    let over : length (slots_of b) ≤ buffer_records = omega (arith, length-slots_of b) in
    rw (drop_of_length-le (slots_of b) over) (append-nil (replicate buffer_records no_siginfo))

pub drop-oldest : (p : Siginfo → Bool) (rs : List Siginfo) → remove_at (find p rs) rs ≡ drop_first p rs
unfolding remove_at
drop-oldest p rs = sym (drop_first-find p rs)

-- ---- what code reads and stores

pub in-slots : (b : List ℕ) (i : ℕ) → i < buffer_records → i < length (slots_of b)
in-slots b i h = rw length-slots_of h

pub in_buffer : (b : List ℕ) (i : ℕ) → i < length (records_of b) → i < buffer_records
in_buffer b i h = le_trans h (length-records_of b)

pub slot_read : (b : List ℕ) (i : ℕ) (d : Siginfo) → i < buffer_records
    → get_or (slots_of b) i d ≡ siginfo_of (row record_bytes b i)
unfolding slots_of
slot_read b i d h = slot_at buffer_records b i d h

pub record-read : (b : List ℕ) (i : ℕ) (d : Siginfo) → i < length (records_of b)
    → get_or (records_of b) i d ≡ siginfo_of (row record_bytes b i)
unfolding records_of
record-read b i d h = used-at (slots_of b) i d h ∙ slot_read b i d (in_buffer b i h)

-- a test that was made of what was read
module _ (p : Siginfo → Bool) (b : List ℕ) (i : ℕ) {r : Siginfo} {t : Bool} (e : r ≡ siginfo_of (row record_bytes b i))
    (f : t ≡ p r) where
  pub slot-tested : i < buffer_records → p (get_or (slots_of b) i no_siginfo) ≡ t
  slot-tested h = ap p (slot_read b i no_siginfo h ∙ sym e) ∙ sym f

  pub record-tested : i < length (records_of b) → p (get_or (records_of b) i no_siginfo) ≡ t
  record-tested h = ap p (record-read b i no_siginfo h ∙ sym e) ∙ sym f

pub slot-written : {b' : List ℕ} (b : List ℕ) (i : ℕ) (r : Siginfo) → length b ≡ buffer_bytes
    → i < buffer_records → Fits r
    → b' ≡ sets b (i * record_bytes) (bytes_of r) → slots_of b' ≡ set (slots_of b) i r
unfolding slots_of
slot-written b i r e h f p = ap (slots buffer_records) p ∙ slot-put buffer_records b i r h (omega arith) f

-- a record in use is where it was, if the buffer is as it was from there on
pub record-kept : (b₀ b : List ℕ) (i : ℕ) (d : Siginfo) → i < length (records_of b₀)
    → drop i (slots_of b) ≡ drop i (slots_of b₀)
    → siginfo_of (row record_bytes b i) ≡ get_or (records_of b₀) i d
unfolding records_of
record-kept b₀ b i d h e =
    sym (slot_read b i d (in_buffer b₀ i h)) ∙ same_from d (slots_of b) (slots_of b₀) i e
    ∙ sym (used-at (slots_of b₀) i d h)
