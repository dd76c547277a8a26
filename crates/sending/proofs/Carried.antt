-- The changes of a send, one after the other, as code makes them. Assumes nothing.
use Prim.Native.Nat.{ℕ}
use mathlib.Core.Path.{◌≡◌, refl, sym, ap, ap₂, subst, ◌∙◌}
use mathlib.Core.Bool.{Bool, true, false, ◌||◌, cond, true≢false}
use Rattle.std.specs.Prelude.{Result, Ok, Err, IsErrAnd, Option, Some, None, is_some, unwrap_or}
use Rattle.std.proofs.lemmas.Result.{err_from_is_err_and}
use mathlib.Core.List.{List, [], ◌∷◌, ◌++◌}
use lib.Dec.{eqb}
use borrow.Author.Tests.{eqb-true}
use mir.Val.{bool_byte}
use Rattle.limits.specs.Limits.{SIGCONT, SIGSTOP}
use Rattle.lists.proofs.Bools.{split, or-fst-false, or-snd-false, cond-true, cond-false}
use Rattle.sigset.specs.declared.SigSet.{SigSet}
use Rattle.types.specs.declared.Siginfo.{Siginfo}
use Rattle.types.specs.declared.Errno.{Errno}
use Rattle.types.specs.Answers.{number, refused_by}
use Rattle.rules.specs.Signals.{stop_signal}
use Rattle.rules.specs.View.{View, Change, remove_process, set_stopped, set_mark, append, discard, target_queue}
use Rattle.rules.specs.View.{queue_of}
use Rattle.types.specs.declared.Reply.TheVariants.{Sent}
use Rattle.rules.specs.Sending.{Generation, generation, info_of, job_control, send_changes, send_answer}
use Rattle.rules.specs.Calls.{send, changes, reply}
use Rattle.sound.specs.Lent.{Lent, view_of}
use Rattle.answers.specs.Step.{refusal_on}
use Rattle.effects.specs.Changes.{Ready}
use Rattle.effects.proofs.Makes.{ready-part}
use Rattle.sending.specs.Generations.{generation_of}
use Rattle.sending.specs.JobControl.{controls, discarded_by}
use Rattle.sending.specs.Decisions.{send_call, value_of, call_of, Decided}
use Rattle.sending.specs.declared.Generation as declared
use Rattle.sending.specs.declared.Generation.TheVariants as cases
use Rattle.sending.specs.declared.Request.{Request}

-- ---- job control, by the signal

module _ (p s : ℕ) where
  pub leaves : controls s ≡ false → job_control p s ≡ []
  unfolding job_control controls
  leaves n =
      let m = or-snd-false (eqb s SIGCONT) _ n in
      rw (or-fst-false (eqb s SIGCONT) _ n, or-fst-false (eqb s SIGSTOP) _ m, or-snd-false (eqb s SIGSTOP) _ m)

  -- what comes after the discard: 1 stops the process, 0 lets it run
  abbrev pub state_change : List Change
  state_change = cond (eqb s SIGCONT || eqb s SIGSTOP) (set_stopped p (bool_byte (eqb s SIGSTOP)) ∷ []) []

  -- `x` is what code has of the signals to discard
  module _ (k : controls s ≡ true) (x : SigSet) (h : x ≡ discarded_by s) where
    pub discards-first : job_control p s ≡ discard p x ∷ state_change
    unfolding job_control controls discarded_by
    discards-first =
        split (eqb s SIGCONT)
        (λ a. rw (h, a, ap (λ (n : ℕ). eqb n SIGSTOP) (eqb-true s SIGCONT a)))
        (λ a.
        split (eqb s SIGSTOP)
        (λ b. rw (h, a, b))
        (λ b.
        let g : stop_signal s ≡ true = rw (a, b) at k in
        rw (h, a, b, g)))

    pub discards-then-sets : (eqb s SIGCONT || eqb s SIGSTOP) ≡ true
        → job_control p s ≡ discard p x ∷ set_stopped p (bool_byte (eqb s SIGSTOP)) ∷ []
    discards-then-sets t = discards-first ∙ ap (λ (cs : List Change). discard p x ∷ cs) (cond-true _ _ t)

    pub discards-only : (eqb s SIGCONT || eqb s SIGSTOP) ≡ false → job_control p s ≡ discard p x ∷ []
    discards-only n = discards-first ∙ ap (λ (cs : List Change). discard p x ∷ cs) (cond-false _ _ n)

-- ---- the changes, by the generation

module _ (f : declared.Generation) (r : Siginfo) where
  pub of-testing : f ≡ cases.Testing → send_changes (generation_of f) r ≡ []
  unfolding send_changes generation_of
  of-testing e = ap (λ g. send_changes (generation_of g) r) e

  pub of-killing : f ≡ cases.Killing → send_changes (generation_of f) r ≡ remove_process r.process ∷ []
  unfolding send_changes generation_of
  of-killing e = ap (λ g. send_changes (generation_of g) r) e

  pub of-marking : f ≡ cases.Marking
      → send_changes (generation_of f) r ≡ job_control r.process r.signal ++ (set_mark (queue_of r) r.signal ∷ [])
  unfolding send_changes generation_of
  of-marking e = ap (λ g. send_changes (generation_of g) r) e

  pub of-keeping : f ≡ cases.Keeping
      → send_changes (generation_of f) r ≡ job_control r.process r.signal ++ (append r ∷ [])
  unfolding send_changes generation_of
  of-keeping e = ap (λ g. send_changes (generation_of g) r) e

-- every generation but testing and killing begins with job control
pub control-ready : (f : declared.Generation) (r : Siginfo) {l : Lent}
    → (f ≡ cases.Testing → ⊥) → (f ≡ cases.Killing → ⊥)
    → Ready (send_changes (generation_of f) r) l → Ready (job_control r.process r.signal) l
unfolding send_changes generation_of
control-ready cases.Testing r t k h = absurd (t refl)
control-ready cases.Killing r t k h = absurd (k refl)
control-ready cases.Stopping r t k h = h
control-ready cases.Dropping r t k h = h
control-ready cases.Absorbing r t k h = h
control-ready cases.Marking r t k h = ready-part (set_mark (queue_of r) r.signal ∷ []) h refl
control-ready cases.Keeping r t k h = ready-part (append r ∷ []) h refl

-- stopping, dropping and absorbing: those that neither of the two tests of code names
pub of-control : (f : declared.Generation) (r : Siginfo) → (f ≡ cases.Testing → ⊥) → (f ≡ cases.Killing → ⊥)
    → (f ≡ cases.Marking → ⊥) → (f ≡ cases.Keeping → ⊥)
    → send_changes (generation_of f) r ≡ job_control r.process r.signal
unfolding send_changes generation_of
of-control cases.Testing r t k m n = absurd (t refl)
of-control cases.Killing r t k m n = absurd (k refl)
of-control cases.Stopping r t k m n = refl
of-control cases.Dropping r t k m n = refl
of-control cases.Absorbing r t k m n = refl
of-control cases.Marking r t k m n = absurd (m refl)
of-control cases.Keeping r t k m n = absurd (n refl)

-- ---- a send, by what is decided of it

module _ (v : View) (by to t s value : ℕ) where
  -- a plain send has no value
  pub send-makes : (queued : Bool) → (queued ≡ false → value ≡ 0) → (f : Generation) (r : Siginfo)
      → f ≡ generation v queued (target_queue to t) s → r ≡ info_of v by to t s value
      → changes v (send_call queued by to t s value) ≡ send_changes f r
  unfolding changes send
  send-makes true z f r e h = sym (ap₂ send_changes e h)
  send-makes false z f r e h = sym (ap₂ send_changes e (h ∙ ap (info_of v by to t s) (z refl)))

  pub send-answers : (queued : Bool) (f : Generation) → f ≡ generation v queued (target_queue to t) s
      → Sent (send_answer f) ≡ reply v (send_call queued by to t s value)
  unfolding reply
  send-answers true f e = ap (λ x. Sent (send_answer x)) e
  send-answers false f e = ap (λ x. Sent (send_answer x)) e

-- a plain send has no value
pub plain-nought : (o : Option ℕ) → is_some o ≡ false → unwrap_or o 0 ≡ 0
plain-nought None h = refl
plain-nought (Some v) h = absurd (true≢false h)

module _ (l : Lent) (x : Request) where
  -- `?` hands on what refuses a plain send
  pub refused-first : (z : Result (declared.Generation × Siginfo) Errno) (e : Errno) → IsErrAnd z (λ d. d ≡ e)
      → number e ≡ refusal_on (call_of x) l → Decided l x z
  unfolding Decided
  refused-first z e g h =
      let p = err_from_is_err_and z g in
      subst (Decided l x) (sym (p.1 ∙ ap Err p.2)) h

  pub decided-number : (z : Result (declared.Generation × Siginfo) Errno) → Decided l x z
      → refused_by z ≡ refusal_on (call_of x) l
  unfolding Decided
  decided-number (Err e) h = h
  decided-number (Ok (f, r)) h = sym h.0

  pub when-allowed : (z : Result (declared.Generation × Siginfo) Errno) → Decided l x z
      → (y : declared.Generation × Siginfo) → z ≡ Ok y
      → (refusal_on (call_of x) l ≡ 0)
      × ((generation_of y.0 ≡ generation (view_of l) (is_some x.value) (target_queue x.to x.thread) x.signal)
      × (y.1 ≡ info_of (view_of l) x.by x.to x.thread x.signal (value_of x)))
  unfolding Decided
  when-allowed z h (f, r) e = subst (Decided l x) e h
