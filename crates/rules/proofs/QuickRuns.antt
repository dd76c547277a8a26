-- A list of calls on a sound store, computed quickly: without the row of 14,
-- which never applies since sound stays sound, and with marks looked for only where a place has some.
-- So what it costs hardly grows with the tables, and it comes to the same as `run`. Assumes nothing.
use Prim.Native.Nat.{ℕ, zero, suc}
use mathlib.Core.Path.{◌≡◌, refl, sym, ap, ap₂, ◌∙◌}
use mathlib.Core.Bool.{Bool, true, false, not, ◌&&◌, ◌||◌, cond}
use mathlib.Core.List.{List, [], ◌∷◌, map}
use lib.Dec.{eqb}
use borrow.Author.Tests.{eqb-true}
use Rattle.lists.specs.Lists.{all, any, first, keep}
use Rattle.lists.proofs.Bools.{split, and-fst, and-snd, and_right, cond-false}
use Rattle.lists.proofs.Lists.{any-keep, any_same}
use Rattle.sigset.specs.Set.{bits, has}
use Rattle.sigset.proofs.Laws.{has-empty}
use Rattle.types.specs.Answers.{Answer}
use Rattle.types.specs.Answers.{Refused, Accepted}
use Rattle.rules.specs.Types.{Process, Thread, Queue, Call, look}
use Rattle.rules.specs.View.{View, in_queue, same_queue, thread_queue, process_queue, the_thread}
use Rattle.rules.specs.Signals.{is_signal}
use Rattle.rules.specs.Store.{Place, Store, held, mark_in, records_for, queued_in, view, apply_all}
use Rattle.rules.specs.Sound.{sound}
use Rattle.rules.specs.Taking.{next}
use Rattle.rules.specs.Refusals.{refusal, rows, table, refusal_of}
use Rattle.rules.specs.Calls.{changes, reply, stages, run_stages, finish, step, run, Part, empty_part, part_of}
use Rattle.rules.specs.Calls.{look_part}
use Rattle.rules.specs.Machine.{machine}
use Rattle.rules.proofs.StaysSound.{step-sound}
use Rattle.rules.proofs.RefusalTable.{no-fault}

-- ---- the view

-- the place has a mark
abbrev marked : {A : Type 0} → Place A → Bool
marked x = not (eqb x.marks.0 0)

module _ {A : Type 0} (queue_at : Place A → Queue) (q : Queue) (s : ℕ) where
  mark_at : Place A → Bool
  mark_at x = same_queue q (queue_at x) && has x.marks s

  mark-marked : (x : Place A) → mark_at x ≡ (marked x && mark_at x)
  unfolding mark_at
  mark-marked x =
      split (eqb x.marks.0 0)
      (λ e.
      let n : has x.marks s ≡ false = ap (λ (m : ℕ). has (bits m) s) (eqb-true x.marks.0 0 e) ∙ has-empty s in
      let f : (same_queue q (queue_at x) && has x.marks s) ≡ false = and_right (same_queue q (queue_at x)) n in
      f ∙ sym (ap (λ (b : Bool). not b && (same_queue q (queue_at x) && has x.marks s)) e))
      (λ e. sym (ap (λ (b : Bool). not b && (same_queue q (queue_at x) && has x.marks s)) e))

  marked-only : (l : List (Place A)) → any mark_at l ≡ any mark_at (keep marked l)
  marked-only l = any_same mark_at (λ x. marked x && mark_at x) l mark-marked ∙ sym (any-keep mark_at marked l)

-- the store with the marked places alone
unfoldable pub marked_places : Store → Store
marked_places st =
    record {
      processes = keep marked st.processes;
      threads = keep marked st.threads;
      thread_buffer = st.thread_buffer;
      process_buffer = st.process_buffer;
    }

same-mark : (st : Store) (q : Queue) (s : ℕ) → mark_in st q s ≡ mark_in (marked_places st) q s
unfolding mark_in marked_places mark_at
same-mark st q s =
    ap₂ (λ (a b : Bool). is_signal s && (a || b))
    (marked-only (λ (x : Place Process). process_queue x.holds.id) q s st.processes)
    (marked-only (λ (x : Place Thread). thread_queue x.holds) q s st.threads)

unfoldable pub quick_view : Store → View
quick_view st =
    let m : Store = marked_places st in
    record {
      processes = map held st.processes;
      threads = map held st.threads;
      marks = mark_in m;
      oldest = λ q s. first (in_queue q s) (records_for q st);
      queued = queued_in st;
    }

same_view : (st : Store) → view st ≡ quick_view st
unfolding view quick_view
same_view st =
    λ i.
    record {
      processes = map held st.processes;
      threads = map held st.threads;
      marks = λ q s. same-mark st q s i;
      oldest = λ q s. first (in_queue q s) (records_for q st);
      queued = queued_in st;
    }

-- ---- a call by the rows below 14

unfoldable pub quick_finish : View → (errno : ℕ) → Call → Store → Store × Answer
quick_finish v zero c st = (apply_all (changes v c) st, Accepted (reply v c))
quick_finish v (suc n) c st = (st, Refused (suc n))

unfoldable pub quick_step : Call → Store → Store × Answer
quick_step c st = let v : View = quick_view st in quick_finish v (refusal (rows v c)) c st

unfoldable pub quick_run : List Call → Store → Store × List Answer
quick_run [] st = (st, [])
quick_run (c ∷ cs) st =
    let one : Store × Answer = quick_step c st in
    let rest : Store × List Answer = quick_run cs one.0 in
    (rest.0, one.1 ∷ rest.1)

sound-refusal : (c : Call) (st : Store) → sound st ≡ true → refusal_of st c ≡ refusal (rows (view st) c)
unfolding refusal_of table refusal
sound-refusal c st e = cond-false _ _ (no-fault c st e)

finishes : (n : ℕ) (c : Call) (st : Store) → finish n c st ≡ quick_finish (view st) n c st
unfolding finish quick_finish stages run_stages
finishes zero c st = refl
finishes (suc n) c st = refl

same_step : (c : Call) (st : Store) → sound st ≡ true → step c st ≡ quick_step c st
unfolding step quick_step
same_step c st e =
    ap (λ (n : ℕ). finish n c st) (sound-refusal c st e)
    ∙ (finishes (refusal (rows (view st) c)) c st
    ∙ ap (λ (v : View). quick_finish v (refusal (rows v c)) c st) (same_view st))

-- ---- a list of calls

pub same-run : (cs : List Call) (st : Store) → all machine cs ≡ true → sound st ≡ true → run cs st ≡ quick_run cs st
unfolding run quick_run all
same-run [] st u e = refl
same-run (c ∷ cs) st u e =
    let a : step c st ≡ quick_step c st = same_step c st e in
    let r : run cs (step c st).0 ≡ quick_run cs (quick_step c st).0 =
    same-run cs (step c st).0 (and-snd (machine c) (all machine cs) u)
    (step-sound c st (and-fst (machine c) (all machine cs) u) e)
    ∙ ap (λ (x : Store × Answer). quick_run cs x.0) a in
    λ i. ((r i).0, (a i).1 ∷ (r i).1)

-- ---- a look

unfoldable pub quick_part : (thread : ℕ) → Store → Part
quick_part t st =
    let v : View = quick_view st in
    cond (eqb (refusal (rows v (look t))) 0) (part_of st (next v (the_thread v t))) empty_part

pub same-part : (t : ℕ) (st : Store) → sound st ≡ true → look_part t st ≡ quick_part t st
unfolding look_part quick_part
same-part t st e =
    ap (λ (n : ℕ). cond (eqb n 0) (part_of st (next (view st) (the_thread (view st) t))) empty_part)
    (sound-refusal (look t) st e)
    ∙ ap (λ (v : View). cond (eqb (refusal (rows v (look t))) 0) (part_of st (next v (the_thread v t))) empty_part)
    (same_view st)

-- what a quick run opens, beside the rules
unfoldable pub quick_computing : Unit {0}
unfolding marked_places quick_view quick_finish quick_step quick_run quick_part
quick_computing = tt
