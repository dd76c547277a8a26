-- The words of a row of records and back: lengths, the round trip, and each loop's turn. Assumes nothing.
use mathlib.Core.Path.{◌≡◌, refl, sym, ap, ◌∙◌}
use mathlib.Core.Bool.{false, not, ◌&&◌}
use mathlib.Core.List.{List, [], ◌∷◌, ◌++◌, append-nil}
use Prim.Native.Nat.{ℕ, ◌+◌, ◌*◌, ◌<◌}
use native.Mathlib.Numerals.{add-one}
use native.Mathlib.Omega.{arith}
use lib.Dec.{eqb}
use Rattle.std.proofs.Common.{rules}
use lib.ListN.{length, get_or, take}
use lib.Seq.{sets, take-suc, take_all, length-take-le}
use Rattle.limits.specs.Limits.{thread_places, thread_words, thread_table}
use Rattle.lists.specs.Rows.{flat}
use Rattle.lists.proofs.Lists.{All-every}
use Rattle.lists.proofs.Rows.{length-rows, get_d_rows, length-flat, rows-flat, flat_append, sets-append, sets-at}
use Rattle.lists.proofs.Rows.{sets-whole, sets_from, spell_from, take-spell_from}
use Rattle.threads.specs.Records.{no_thread, record_to, record_from, words_of, records_of, with_record}
use Rattle.threads.specs.declared.Thread.{Thread}

-- ---- one record

record-words : (t : Thread) → length (record_to t) ≡ thread_words
unfolding record_to
record-words t = refl

record-back : (t : Thread) → record_from (record_to t) ≡ t
unfolding record_from record_to
record-back t = refl

-- ---- all records

pub words-length : (ts : List Thread) → length (words_of ts) ≡ length ts * thread_words
unfolding words_of
words-length ts =
    length-flat record_to thread_words ts (All-every (λ t. length (record_to t) ≡ thread_words) record-words ts)

pub table-long : (ts : List Thread) → length ts ≡ thread_places → length (words_of ts) ≡ thread_table
table-long ts e = words-length ts ∙ ap (λ n. n * thread_words) e

pub records-back : (ts : List Thread) → records_of (length ts) (words_of ts) ≡ ts
unfolding records_of words_of
records-back ts =
    rows-flat record_from record_to thread_words ts
    (All-every (λ t. (length (record_to t) ≡ thread_words) × (record_from (record_to t) ≡ t))
    (λ t. (record-words t, record-back t)) ts)

-- ---- `load_words`: the words of the first i records stand over d

pub record-put : (ws : List ℕ) (i : ℕ) (t : Thread)
    → sets_from ws (i * thread_words) 0 (record_to t) ≡ with_record i t ws
unfolding with_record
record-put ws i t = sets-at ws (i * thread_words) (record_to t)

abbrev pub written : List ℕ → List Thread → ℕ → List ℕ
written d ts i = sets d 0 (words_of (take i ts))

pub written_none : (d : List ℕ) (ts : List Thread) → d ≡ written d ts 0
unfolding words_of flat
written_none d ts = refl

pub written-suc : (d : List ℕ) (ts : List Thread) (i : ℕ) → length ts ≡ thread_places → i < thread_places
    → with_record i (get_or ts i no_thread) (written d ts i) ≡ written d ts (i + 1)
unfolding words_of flat with_record
written-suc d ts i e l =
    let t = get_or ts i no_thread in
    let k : i < length ts = omega arith in
    sets-append (words_of (take i ts)) (record_to t) d 0 (i * thread_words)
    (omega (arith, words-length (take i ts), length-take-le i ts (omega arith)))
    ∙ ap (sets d 0)
    (ap (λ x. words_of (take i ts) ++ x) (sym (append-nil (record_to t)))
    ∙ sym (flat_append record_to (take i ts) (t ∷ []))
    ∙ ap words_of (sym (take-suc ts i no_thread k) ∙ ap (λ n. take n ts) (sym (add-one i))))

pub written_all : (d : List ℕ) (ts : List Thread) → length d ≡ thread_table → length ts ≡ thread_places
    → written d ts thread_places ≡ words_of ts
written_all d ts c e =
    ap (λ x. sets d 0 (words_of x)) (take_all thread_places ts (omega arith))
    ∙ sets-whole (words_of ts) d (c ∙ sym (table-long ts e))

-- ---- `store_words`: the first i records stand over d

pub record-at : (ws : List ℕ) (i : ℕ) → length ws ≡ thread_table → i < thread_places
    → record_from (spell_from thread_words (i * thread_words) 0 ws) ≡ get_or (records_of thread_places ws) i no_thread
unfolding records_of
record-at ws i e l =
    sym (get_d_rows record_from thread_words thread_places ws i no_thread l
    ∙ ap record_from (take-spell_from thread_words (i * thread_words) ws (omega arith)))

pub records-long : (ws : List ℕ) → length (records_of thread_places ws) ≡ thread_places
unfolding records_of
records-long ws = length-rows record_from thread_words thread_places ws

-- records whose fields are equal are the same
pub same-is : (t u : Thread)
    → not (eqb t.id u.id && (eqb t.process u.process && (eqb t.mask.0 u.mask.0 && eqb t.marks.0 u.marks.0))) ≡ false
    → t ≡ u
same-is t u e = search rules
