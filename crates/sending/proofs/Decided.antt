-- What is decided of a send before anything changes: what absorbs it, its generation, its record,
-- whether there is room. Assumes nothing.
use Prim.Native.Nat.{ℕ, ◌+◌, ◌≤◌}
use mathlib.Core.Path.{◌≡◌, refl, sym, ap, ap₂, ◌∙◌}
use mathlib.Core.Bool.{Bool, true, false, not, ◌&&◌, ◌||◌, cond}
use mathlib.Core.List.{List}
use native.Mathlib.Nat.{le_trans}
use lib.Dec.{eqb, leb}
use borrow.Author.Tests.{eq-eqb, ne_eqb}
use Rattle.limits.specs.Limits.{buffer_records, record_limit, SIGKILL, SIGCONT, SIGSTOP, SIGTSTP, SIGTTIN, SIGTTOU}
use Rattle.limits.specs.Limits.{si_queue}
use Rattle.lists.specs.Lists.{count}
use Rattle.lists.proofs.Bools.{and_left}
use Rattle.lists.proofs.Lists.{count-le-length}
use Rattle.sigset.specs.declared.SigSet.{SigSet}
use Rattle.sigset.specs.Set.{Signal, has, set_of, union, of_signal}
use Rattle.sigset.proofs.Laws.{has-set, has_of, set-cong}
use Rattle.types.specs.declared.Action.{Action}
use Rattle.rules.specs.Types.{Queue}
use Rattle.rules.specs.Signals.{standard, stop_signal, ignored}
use Rattle.rules.specs.View.{View, action_of, the_process, pending_in}
use Rattle.rules.specs.Store.{of_process, queued_in, view}
use Rattle.rules.specs.Sound.{good_user}
use Rattle.rules.specs.Sending.{Generation, testing, killing, stopping, dropping, absorbing, marking, keeping, absorbs}
use Rattle.rules.specs.Sending.{generation, info_of, needs_record}
use Rattle.rules.proofs.Facts.{users-fit}
use Rattle.queue.specs.Queue.{records_of}
use Rattle.queue.proofs.Buffer.{length-records_of}
use Rattle.sound.specs.Lent.{Lent, decoded, view_of, sound_tables}
use Rattle.sound.proofs.Facts.{store-sound}
use Rattle.view.specs.Named.{process_named}
use Rattle.sending.specs.Generations.{generation_of}
use Rattle.sending.specs.JobControl.{discarded_by}
use Rattle.sending.specs.declared.Generation as declared
use Rattle.sending.specs.declared.Generation.TheVariants as cases

module _ (v : View) (queued : Bool) (q : Queue) (s : ℕ) where
  pub absorbed : Signal s → (pending marks : SigSet) (is_standard pends marked : Bool) → pending
      ≡ set_of (pending_in v q)
      → marks ≡ set_of (v.marks q)
      → is_standard ≡ standard s → pends ≡ has pending s → marked ≡ has marks s
      → ((is_standard && pends) || (not queued && marked)) ≡ absorbs v queued q s
  unfolding absorbs
  absorbed g pending marks is_standard pends marked e f h j k =
      let a : pends ≡ pending_in v q s = j ∙ ap (λ (x : SigSet). has x s) e ∙ has-set (pending_in v q) s g in
      let b : marked ≡ v.marks q s = k ∙ ap (λ (x : SigSet). has x s) f ∙ has-set (v.marks q) s g in
      rw (h, a, b)

  -- ---- the generation, test by test

  pub is-testing : s ≡ 0 → testing ≡ generation v queued q s
  unfolding generation
  is-testing e = rw (eq-eqb s 0 e)

  module _ (n0 : s ≡ 0 → ⊥) where
    pub is-killing : s ≡ SIGKILL → killing ≡ generation v queued q s
    unfolding generation
    is-killing e = rw (ne_eqb s 0 n0, eq-eqb s SIGKILL e)

    module _ (n1 : s ≡ SIGKILL → ⊥) where
      pub is-stopping : s ≡ SIGSTOP → stopping ≡ generation v queued q s
      unfolding generation
      is-stopping e = rw (ne_eqb s 0 n0, ne_eqb s SIGKILL n1, eq-eqb s SIGSTOP e)

      module _ (n2 : s ≡ SIGSTOP → ⊥) where
        abbrev is_ignored : Bool
        is_ignored = ignored (action_of (the_process v q.process) s) s

        pub is-dropping : is_ignored ≡ true → dropping ≡ generation v queued q s
        unfolding generation
        is-dropping e = rw (ne_eqb s 0 n0, ne_eqb s SIGKILL n1, ne_eqb s SIGSTOP n2, e)

        module _ (n3 : is_ignored ≡ false) where
          pub is-absorbing : absorbs v queued q s ≡ true → absorbing ≡ generation v queued q s
          unfolding generation
          is-absorbing e = rw (ne_eqb s 0 n0, ne_eqb s SIGKILL n1, ne_eqb s SIGSTOP n2, n3, e)

          module _ (n4 : absorbs v queued q s ≡ false) where
            pub is-keeping : queued ≡ true → keeping ≡ generation v queued q s
            unfolding generation
            is-keeping e = rw (ne_eqb s 0 n0, ne_eqb s SIGKILL n1, ne_eqb s SIGSTOP n2, n3, n4, e)

            pub is-marking : queued ≡ false → marking ≡ generation v queued q s
            unfolding generation
            is-marking e = rw (ne_eqb s 0 n0, ne_eqb s SIGKILL n1, ne_eqb s SIGSTOP n2, n3, n4, e)

-- the action of the process that is named
pub ignored-read : (l : Lent) (p s : ℕ) (a : Action) (r : Bool) → a ≡ action_of (process_named l.processes p) s
    → r ≡ ignored a s
    → r ≡ ignored (action_of (the_process (view_of l) p) s) s
unfolding the_process view decoded
ignored-read l p s a r e h = h ∙ ap (λ (x : Action). ignored x s) e

-- the first six generations need no record
no_record_lem : (f : declared.Generation) → (f ≡ cases.Keeping → ⊥) → false ≡ needs_record (generation_of f)
unfolding needs_record generation_of
no_record_lem cases.Testing k = refl
no_record_lem cases.Killing k = refl
no_record_lem cases.Stopping k = refl
no_record_lem cases.Dropping k = refl
no_record_lem cases.Absorbing k = refl
no_record_lem cases.Marking k = refl
no_record_lem cases.Keeping k = absurd (k refl)

-- ---- the record

pub sender-fits : (l : Lent) → sound_tables l ≡ true → (by : ℕ) → good_user (process_named l.processes by).real ≡ true
unfolding the_process view decoded
sender-fits l e by = (users-fit (decoded l) (store-sound l e) by).real

pub info-read : (l : Lent) (by to t s value uid : ℕ) → uid ≡ (process_named l.processes by).real
    → record { process = to; thread = t; signal = s; code = si_queue; sender = by; uid = uid; value = value }
    ≡ info_of (view_of l) by to t s value
unfolding info_of the_process view decoded
info-read l by to t s value uid e = rw e

-- ---- the stop signals

pub stops : union (of_signal SIGTSTP) (union (of_signal SIGTTIN) (of_signal SIGTTOU)) ≡ set_of stop_signal
unfolding union stop_signal
stops =
    set-cong _ _
    (λ s g. ap₂ (λ (a b : Bool). a || b) (has_of SIGTSTP s g)
    (has-set _ s g ∙ ap₂ (λ (a b : Bool). a || b) (has_of SIGTTIN s g) (has_of SIGTTOU s g)))

pub discarded-by-of-cont : (s : ℕ) → s ≡ SIGCONT → set_of stop_signal ≡ discarded_by s
unfolding discarded_by
discarded-by-of-cont s e = rw (eq-eqb s SIGCONT e)

pub discarded-by-of-others : (s : ℕ) → (s ≡ SIGCONT → ⊥) → of_signal SIGCONT ≡ discarded_by s
unfolding discarded_by
discarded-by-of-others s n = rw (ne_eqb s SIGCONT n)

-- ---- room

pub counted : (l : Lent) (p m n : ℕ) → m ≡ count (of_process p) (records_of l.thread_buffer)
    → n ≡ count (of_process p) (records_of l.process_buffer)
    → (view_of l).queued p ≡ m + n
unfolding view queued_in records_of decoded
counted l p m n e f = sym (ap₂ (λ (a b : ℕ). a + b) e f)

pub count_fits : (b : List ℕ) (p n : ℕ) → n ≡ count (of_process p) (records_of b) → n ≤ buffer_records
count_fits b p n e = rw e (le_trans (count-le-length (of_process p) (records_of b)) (length-records_of b))

-- a send that is kept, and any other
module _ (v : View) (to : ℕ) (f : declared.Generation) where
  pub room-read : f ≡ cases.Keeping → (m n : ℕ) → v.queued to ≡ m + n
      → leb record_limit (m + n) ≡ (needs_record (generation_of f) && leb record_limit (v.queued to))
  unfolding needs_record generation_of
  room-read e m n k = rw (e, k)

  pub room-unasked : (f ≡ cases.Keeping → ⊥)
      → false ≡ (needs_record (generation_of f) && leb record_limit (v.queued to))
  room-unasked k = sym (and_left (leb record_limit (v.queued to)) (sym (no_record_lem f k)))

no-record-either : (b : Bool) (x y : Generation) → needs_record x ≡ false → needs_record y ≡ false
    → needs_record (cond b x y) ≡ false
no-record-either true x y e h = e
no-record-either false x y e h = h

-- a plain send needs no record
pub plain-no-record : (v : View) (q : Queue) (s : ℕ) → needs_record (generation v false q s) ≡ false
unfolding generation needs_record
plain-no-record v q s =
    no-record-either (eqb s 0) testing _ refl
    (no-record-either (eqb s SIGKILL) killing _ refl
    (no-record-either (eqb s SIGSTOP) stopping _ refl
    (no-record-either (ignored (action_of (the_process v q.process) s) s) dropping _ refl
    (no-record-either (absorbs v false q s) absorbing _ refl refl))))
