-- One call at the boundary: how it ends. Assumes nothing.
use Prim.Native.Nat.{ℕ, ◌≤◌}
use mathlib.Core.Path.{◌≡◌, refl, sym, ap, ◌∙◌}
use mathlib.Core.Bool.{Bool, true, false, not, cond}
use mathlib.Core.List.{List, ◌++◌}
use native.Mathlib.Omega.{arith}
use lib.Dec.{ltb}
use lib.ListN.{length, drop}
use borrow.Author.Tests.{eq-eqb, ne_eqb, ltb-false, not-true}
use Rattle.limits.specs.Limits.{EFAULT, EINVAL, call_clear, answer_words}
use Rattle.lists.specs.Lists.{padded}
use Rattle.lists.proofs.Bools.{and-fst, and-snd, cond-true, cond-false}
use Rattle.std.specs.Prelude.{Result, Ok, Err, IsErrAnd}
use Rattle.std.proofs.lemmas.Result.{err_from_is_err_and}
use Rattle.types.specs.declared.Errno.{Errno}
use Rattle.types.specs.declared.Reply.{Reply}
use Rattle.types.specs.Answers.{Answer, Refused, Accepted, answer_of, refused_by}
use Rattle.rules.specs.Types.{Call}
use Rattle.sound.specs.Lent.{Lent, lengths_are, sound_tables}
use Rattle.answers.specs.Step.{step_on}
use Rattle.answers.proofs.Endings.{number-some, tables-of, answer-of}
use Rattle.boundary.specs.declared.Arguments.{Arguments}
use Rattle.boundary.specs.Boundary.{is_call, numbered, words_of, errno_of, written, usable, accepted, reply_words}
use Rattle.boundary.specs.Boundary.{serve_on, served_by, served}

-- ---- errno 14's row

module _ (n : ℕ) (l : Lent) where
  abbrev long : Bool
  long = lengths_are l

  abbrev sound : Bool
  sound = sound_tables l

  pub usable-clear : n ≡ call_clear → (r : Bool) → r ≡ long → r ≡ usable n l
  unfolding usable
  usable-clear e r h = h ∙ sym (cond-true long sound (eq-eqb n call_clear e))

  pub usable-other : (n ≡ call_clear → ⊥) → (r : Bool) → r ≡ sound → r ≡ usable n l
  unfolding usable
  usable-other f r h = h ∙ sym (cond-false long sound (ne_eqb n call_clear f))

-- ---- what is accepted

module _ (n room : ℕ) (t : accepted n room ≡ true) where
  pub accepted-call : is_call n ≡ true
  unfolding accepted
  accepted-call = and-fst (is_call n) (not (ltb room answer_words)) t

  pub accepted-room : answer_words ≤ room
  unfolding accepted
  accepted-room =
      ltb-false room answer_words (not-true (ltb room answer_words)
      (and-snd (is_call n) (not (ltb room answer_words)) t))

-- ---- the end of a call

kept-words : (a : Answer) (out : List ℕ) → (errno_of a ≡ 0 → ⊥) → out ≡ written a out
unfolding written
kept-words a out f =
    sym (cond-false (padded 0 answer_words (words_of a) ++ drop answer_words out) out (ne_eqb (errno_of a) 0 f))

no-errno : (b : Bool) → errno_of (Refused (cond b EINVAL EFAULT)) ≡ 0 → ⊥
unfolding errno_of
no-errno true e = omega (arith, e)
no-errno false e = omega (arith, e)

module _ (n : ℕ) (g : Arguments) (l : Lent) (out : List ℕ) where
  abbrev room : ℕ
  room = length out

  -- what is promised of the number returned, of the tables and of the words
  abbrev Ends : ℕ → Lent → List ℕ → Type 0
  Ends r m o = record { tables = m; words = o; errno = r } ≡ served n g out l

  ends : (x : Lent × Answer) → serve_on n g room l ≡ x → (r : ℕ) (m : Lent) (o : List ℕ) → r ≡ errno_of x.1 → m ≡ x.0
      → o ≡ written x.1 out → Ends r m o
  unfolding served served_by
  ends x e r m o p q s = (λ i. record { tables = q i; words = s i; errno = p i }) ∙ ap (served_by out) (sym e)

  pub turned-away : accepted n room ≡ false → (r : ℕ) → r ≡ cond (usable n l) EINVAL EFAULT → Ends r l out
  unfolding serve_on errno_of
  turned-away f r e =
      ends (l, Refused (cond (usable n l) EINVAL EFAULT))
      (cond-false (step_on (numbered n g) l) (l, Refused (cond (usable n l) EINVAL EFAULT)) f) r l out e refl
      (kept-words (Refused (cond (usable n l) EINVAL EFAULT)) out (no-errno (usable n l)))

  module _ (t : accepted n room ≡ true) (c : Call) (e : c ≡ numbered n g) (a : Result Reply Errno) (m : Lent)
      (h : (m, answer_of a) ≡ step_on c l) where
    is-step : serve_on n g room l ≡ step_on c l
    unfolding serve_on
    is-step =
        cond-true (step_on (numbered n g) l) (l, Refused (cond (usable n l) EINVAL EFAULT)) t
        ∙ ap (λ (x : Call). step_on x l) (sym e)

    -- `?` hands its refusal back
    pub step-refused : (z : Result (Unit {0}) Errno) (x : Errno) → a ≡ Err x → IsErrAnd z (λ d. d ≡ x)
        → Ends (refused_by z) m out
    unfolding errno_of
    step-refused z x k y =
        let p = err_from_is_err_and z y in
        let i : refused_by z ≡ errno_of (step_on c l).1 =
        ap refused_by (p.1 ∙ ap Err p.2) ∙ ap errno_of (ap answer_of (sym k) ∙ answer-of h) in
        ends (step_on c l) is-step (refused_by z) m out i (tables-of h)
        (kept-words (step_on c l).1 out
        (λ w. number-some x (ap refused_by (sym (p.1 ∙ ap Err p.2)) ∙ i ∙ w)))

    pub step-answered : (r : Reply) → a ≡ Ok r → (ws o : List ℕ) → ws ≡ padded 0 answer_words (reply_words r)
        → o ≡ ws ++ drop answer_words out → Ends 0 m o
    unfolding written words_of errno_of
    step-answered r k ws o w p =
        let says : Accepted r ≡ (step_on c l).1 = ap answer_of (sym k) ∙ answer-of h in
        let none : errno_of (step_on c l).1 ≡ 0 = ap errno_of (sym says) in
        ends (step_on c l) is-step 0 m o (sym none) (tables-of h)
        (p
        ∙ ap (λ (x : List ℕ). x ++ drop answer_words out)
        (w ∙ ap (λ (x : Answer). padded 0 answer_words (words_of x)) says)
        ∙ sym (cond-true (padded 0 answer_words (words_of (step_on c l).1) ++ drop answer_words out) out
        (eq-eqb (errno_of (step_on c l).1) 0 none)))
