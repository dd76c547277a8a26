-- One call of a host in terms of the call on the tables that it lends, and its row of thread records read as the
-- table's words. Assumes nothing.
use Prim.Native.Nat.{ℕ, ◌*◌}
use mathlib.Core.Path.{◌≡◌, refl, sym, ap, ◌∙◌}
use mathlib.Core.Bool.{true, false, cond}
use mathlib.Core.List.{List, [], ◌∷◌, ◌++◌, map}
use mathlib.Core.Option.{some}
use native.Mathlib.Omega.{arith}
use lib.Dec.{eqb}
use lib.ListN.{length, length-map}
use borrow.Author.Tests.{eqb-true, eqb-false}
use Rattle.limits.specs.Limits.{EFAULT, EINVAL, thread_places, thread_words}
use Rattle.lists.specs.Lists.{all}
use Rattle.lists.specs.Rows.{flat}
use Rattle.lists.proofs.Bools.{split, and-fst, and-snd, and_both, cond-true, cond-false}
use Rattle.lists.proofs.Lists.{all_get_d}
use Rattle.lists.proofs.Rows.{flat_rows, spelled}
use Rattle.sigset.specs.declared.SigSet.{SigSet}
use Rattle.types.specs.declared.Action.{Action}
use Rattle.types.specs.Answers.{Answer}
use Rattle.types.specs.Answers.{Refused}
use Rattle.rules.specs.Types.{Thread, Call, clear}
use Rattle.rules.specs.Store.{Place, held, apply_all}
use Rattle.rules.specs.Sound.{sound}
use Rattle.rules.specs.Machine.{is_u32, is_u64, machine_action, machine_set, machine}
use Rattle.rules.specs.Calls.{changes}
use Rattle.rules.proofs.Steps as steps
use Rattle.rules.proofs.StaysSound.{accepted-sound-after}
use Rattle.tables.specs.Tables.{thread_to, threads_of, thread_words_of}
use Rattle.tables.proofs.Words.{thread-words-forth}
use Rattle.sound.specs.Lent.{Lent, lent, decoded, view_of, lengths_are}
use Rattle.sound.proofs.Facts.{right-threads}
use Rattle.answers.specs.Step.{encoded, refusal_on, step_on}
use Rattle.answers.proofs.Endings.{accepted-long, accepted-rules, accepted-step, refused-tables}
use Rattle.boundary.specs.declared.Arguments.{Arguments}
use Rattle.boundary.specs.Boundary.{where_given, calls_of, numbered, errno_of, written, usable, accepted}
use Rattle.boundary.specs.Boundary.{serve_on, served_by, served}
use Rattle.threads.specs.declared.Thread as records
use Rattle.threads.specs.Records.{record_to, record_from, words_of, records_of}
use Rattle.threads.proofs.Words.{words-length}
use Rattle.rrezhbuta.specs.Entry.{Host, lent_by, handed_back, call_on}
use Rattle.history.specs.History.{machine_arguments, row_thread}
use Rattle.history.proofs.Encoded.{long-encoded}

-- ---- the arguments are machine numbers

-- one by one
record InRange (g : Arguments) : Type 0 where
  a : is_u32 g.a ≡ true
  b : is_u32 g.b ≡ true
  c : is_u32 g.c ≡ true
  d : is_u32 g.d ≡ true
  e : is_u32 g.e ≡ true
  f : is_u32 g.f ≡ true
  x : is_u64 g.x ≡ true
  y : is_u64 g.y ≡ true
  z : is_u64 g.z ≡ true

in-range : (g : Arguments) → machine_arguments g ≡ true → InRange g
unfolding machine_arguments
in-range g u =
    let u1 = and-snd (is_u32 g.a) _ u in
    let u2 = and-snd (is_u32 g.b) _ u1 in
    let u3 = and-snd (is_u32 g.c) _ u2 in
    let u4 = and-snd (is_u32 g.d) _ u3 in
    let u5 = and-snd (is_u32 g.e) _ u4 in
    let u6 = and-snd (is_u32 g.f) _ u5 in
    let u7 = and-snd (is_u64 g.x) _ u6 in
    record {
      a = and-fst (is_u32 g.a) _ u;
      b = and-fst (is_u32 g.b) _ u1;
      c = and-fst (is_u32 g.c) _ u2;
      d = and-fst (is_u32 g.d) _ u3;
      e = and-fst (is_u32 g.e) _ u4;
      f = and-fst (is_u32 g.f) _ u5;
      x = and-fst (is_u64 g.x) _ u6;
      y = and-fst (is_u64 g.y) _ u7;
      z = and-snd (is_u64 g.y) _ u7;
    }

-- an action or a set that is given where a number is not 0
given-action : (n : ℕ) (v : Action) → machine_action (some v) ≡ true → machine_action (where_given n v) ≡ true
unfolding where_given machine_action
given-action n v h = split (eqb n 0) (λ k. rw k) (λ k. rw k h)

given-set : (n : ℕ) (v : SigSet) → machine_set (some v) ≡ true → machine_set (where_given n v) ≡ true
unfolding where_given machine_set
given-set n v h = split (eqb n 0) (λ k. rw k) (λ k. rw k h)

-- so are those of each call of the list
calls-machine : (g : Arguments) → InRange g → all machine (calls_of g) ≡ true
unfolding calls_of all machine machine_action machine_set
calls-machine g w =
    let xyz = and_both w.x (and_both w.y w.z) in
    let new =
    and_both w.a
    (and_both w.b (and_both w.c (and_both w.d (and_both w.e (and_both w.f w.x))))) in
    let kill = and_both w.a (and_both w.b (and_both w.c w.d)) in
    let queue = and_both w.a (and_both w.b (and_both w.c (and_both w.d w.x))) in
    let action = and_both w.a (and_both w.b (given-action g.c _ xyz)) in
    let mask = and_both w.a (and_both w.b (given-set g.c _ w.x)) in
    and_both new
    (and_both (and_both w.a w.b)
    (and_both w.a
    (and_both w.a
    (and_both kill
    (and_both queue
    (and_both action
    (and_both mask
    (and_both w.a
    (and_both w.a
    (and_both w.a
    (and_both w.a
    (and_both (and_both w.a w.x) refl))))))))))))

-- and of the one that a number stands for
pub numbered-machine : (n : ℕ) (g : Arguments) → machine_arguments g ≡ true → machine (numbered n g) ≡ true
unfolding numbered machine
numbered-machine n g u = all_get_d machine (calls_of g) _ clear refl (calls-machine g (in-range g u))

-- ---- a row of records and the words of the thread table

-- the words of one record
record-of-words : (l : List ℕ) → length l ≡ thread_words → record_to (record_from l) ≡ l
unfolding record_to record_from
record-of-words l h = spelled thread_words l h

-- words to records and back
words_back : (n : ℕ) (ws : List ℕ) → length ws ≡ n * thread_words → words_of (records_of n ws) ≡ ws
unfolding words_of records_of
words_back n ws h = flat_rows record_from record_to thread_words record-of-words n ws h

-- a record as a place of the table
abbrev place_of : records.Thread → Place Thread
place_of t = record { holds = row_thread t; marks = t.marks }

-- the words are the same
row_words : (ts : List records.Thread) → words_of ts ≡ thread_words_of (map place_of ts)
unfolding words_of thread_words_of flat record_to thread_to
row_words [] = refl
row_words (t ∷ ts) = ap (λ ws. record_to t ++ ws) (row_words ts)

-- and what the places hold
row-held : (ts : List records.Thread) → map held (map place_of ts) ≡ map row_thread ts
row-held [] = refl
row-held (t ∷ ts) = ap (λ us. row_thread t ∷ us) (row-held ts)

-- a row as long as the table says what its records hold
pub row-threads : (h : Host) → length h.threads ≡ thread_places
    → map held (decoded (lent_by h)).threads ≡ map row_thread h.threads
unfolding decoded
row-threads h e =
    ap (map held)
    (ap threads_of (row_words h.threads)
    ∙ thread-words-forth (map place_of h.threads) (length-map h.threads place_of ∙ e))
    ∙ row-held h.threads

-- lent words of the table's length are those of such a row
pub row-length : (h : Host) → lengths_are (lent_by h) ≡ true → length h.threads ≡ thread_places
row-length h e = omega (arith, words-length h.threads, right-threads (lent_by h) e)

-- ---- the thread table is as long after a call as before it

-- an accepted call leaves a sound store, whose words have the right lengths
accepted-threads : (c : Call) (l : Lent) → machine c ≡ true → refusal_on c l ≡ 0
    → length (step_on c l).0.threads ≡ length l.threads
accepted-threads c l u k =
    let after = apply_all (changes (view_of l) c) (decoded l) in
    let good : sound after ≡ true =
    ap sound (sym (steps.accepted-step c (decoded l) (accepted-rules c l k)))
    ∙ accepted-sound-after c (decoded l) u (accepted-rules c l k) in
    ap (λ (x : Lent × Answer). length x.0.threads) (accepted-step c l k)
    ∙ right-threads (encoded after) (long-encoded after good)
    ∙ sym (right-threads l (accepted-long c l k))

-- a refused one leaves the tables that it found
step-threads : (c : Call) (l : Lent) → machine c ≡ true → length (step_on c l).0.threads ≡ length l.threads
step-threads c l u =
    let r = refusal_on c l in
    split (eqb r 0)
    (λ k. accepted-threads c l u (eqb-true r 0 k))
    (λ k. ap (λ (m : Lent). length m.threads) (sym (refused-tables c l (eqb-false r 0 k))))

-- ---- one call

module _ (n : ℕ) (g : Arguments) (h : Host) where
  -- what it comes to on the tables that the host lends, with as much room for the answer
  abbrev outcome : Lent × Answer
  outcome = serve_on n g (length h.answer) (lent_by h)

  -- a call by a number that is one, with room for its answer
  pub served-accepted : accepted n (length h.answer) ≡ true → outcome ≡ step_on (numbered n g) (lent_by h)
  unfolding serve_on
  served-accepted e = cond-true _ _ e

  -- else 22, after 14
  pub served-not : accepted n (length h.answer) ≡ false
      → outcome ≡ (lent_by h, Refused (cond (usable n (lent_by h)) EINVAL EFAULT))
  unfolding serve_on
  served-not e = cond-false _ _ e

  -- what is returned
  pub entry-returned : (call_on n g h).1 ≡ errno_of outcome.1
  unfolding call_on handed_back served served_by
  entry-returned = refl

  -- the words for the answer
  pub entry-words : (call_on n g h).0.answer ≡ written outcome.1 h.answer
  unfolding call_on handed_back served served_by
  entry-words = refl

  -- the row has as many words as before
  served-threads : machine (numbered n g) ≡ true → length outcome.0.threads ≡ length (words_of h.threads)
  served-threads u =
      let long : Lent × Answer → ℕ = λ x. length x.0.threads in
      split (accepted n (length h.answer))
      (λ k. ap long (served-accepted k) ∙ step-threads (numbered n g) (lent_by h) u)
      (λ k. ap long (served-not k))

  -- the tables that the host lends after it
  pub entry-tables : machine (numbered n g) ≡ true → lent_by (call_on n g h).0 ≡ outcome.0
  unfolding call_on handed_back served served_by
  entry-tables u =
      let m = outcome.0 in
      ap (λ ws. lent m.processes ws m.thread_buffer m.process_buffer)
      (words_back (length h.threads) m.threads (served-threads u ∙ words-length h.threads))
