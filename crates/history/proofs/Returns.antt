-- What a host's call returns and leaves: an errno of the table or 0; all as it was where it is refused, and every table
-- as it was where it only asks. Assumes nothing.
use Prim.Native.Nat.{ℕ, ◌≤◌}
use mathlib.Core.Path.{◌≡◌, refl, sym, ap, ◌∙◌}
use mathlib.Core.Bool.{Bool, true, false, not, ◌&&◌, ◌||◌, cond}
use mathlib.Core.List.{List, [], ◌++◌}
use lib.Dec.{eqb}
use lib.ListN.{length, drop}
use borrow.Author.Tests.{eqb-true, eqb-false, le-ltb}
use Rattle.limits.specs.Limits.{EFAULT, EINVAL, answer_words, call_clear, call_sigaction, call_sigmask, call_sigpending}
use Rattle.limits.specs.Limits.{call_look, call_who}
use Rattle.lists.specs.Lists.{any, padded}
use Rattle.lists.proofs.Bools.{split, clash, and-fst, and-snd, and_both, or_cases, cond-true, cond-false}
use Rattle.siginfo.specs.Bytes.{Bytes}
use Rattle.types.specs.Answers.{Answer}
use Rattle.types.specs.Answers.{Refused, Accepted}
use Rattle.rules.specs.Types.{Call, clear}
use Rattle.rules.specs.View.{View}
use Rattle.rules.specs.Actions.{action_changes, mask_changes}
use Rattle.rules.specs.Machine.{machine}
use Rattle.rules.specs.Store.{cleared}
use Rattle.rules.specs.Calls.{changes, reply}
use Rattle.rules.proofs.RefusalTable.{only-listed}
use Rattle.sound.specs.Lent.{Lent, decoded, view_of, lengths_are}
use Rattle.answers.specs.Step.{refusal_on, step_on}
use Rattle.answers.proofs.Endings.{accepted-step, refused-answer, refused-tables, tables-of}
use Rattle.calls.proofs.Asked.{asked}
use Rattle.boundary.specs.declared.Arguments.{Arguments}
use Rattle.boundary.specs.Boundary.{calls_of, is_call, numbered, words_of, errno_of, written, usable}
use Rattle.boundary.specs.Boundary.{accepted}
use Rattle.boundary.specs.Boundary.{serve_on, served_by, served}
use Rattle.boundary.proofs.Numbers.{none-given, at-number}
use Rattle.threads.specs.Records.{records_of}
use Rattle.threads.proofs.Words.{records-back}
use Rattle.rrezhbuta.specs.Entry.{Host, host, lent_by, handed_back, call_on}
use Rattle.history.specs.History.{lending}
use Rattle.history.specs.Demand1.{is_listed, only_asks}
use Rattle.history.proofs.Encoded.{cleared_tables, clear-accepted, clear-clears, decoded-cleared}
use Rattle.history.proofs.Entry.{served-accepted, served-not, entry-returned, entry-words, entry-tables}

-- ---- what is returned

-- 0 or an errno of the table
abbrev in_table : ℕ → Bool
in_table n = eqb n 0 || is_listed n

module _ (c : Call) (l : Lent) where
  -- a call on the tables returns its refusal
  pub step-errno : errno_of (step_on c l).1 ≡ refusal_on c l
  unfolding errno_of
  step-errno =
      let r = refusal_on c l in
      split (eqb r 0)
      (λ k.
      let e = eqb-true r 0 k in
      ap (λ (x : Lent × Answer). errno_of x.1) (accepted-step c l e) ∙ sym e)
      (λ k. ap errno_of (sym (refused-answer c l (eqb-false r 0 k))))

  -- which the table has
  step-listed : in_table (refusal_on c l) ≡ true
  unfolding refusal_on any
  step-listed = split (lengths_are l) (λ k. rw k (only-listed (decoded l) c)) (λ k. rw k)

-- so have 22 and 14
turned-away : (b : Bool) → in_table (errno_of (Refused (cond b EINVAL EFAULT))) ≡ true
unfolding errno_of any
turned-away true = refl
turned-away false = refl

not-zero : (b : Bool) → eqb (errno_of (Refused (cond b EINVAL EFAULT))) 0 ≡ false
unfolding errno_of
not-zero true = refl
not-zero false = refl

module _ (h : Host) (n : ℕ) (g : Arguments) where
  abbrev c : Call
  c = numbered n g

  -- what the call comes to on the tables that the host lends
  abbrev outcome : Lent × Answer
  outcome = serve_on n g (length h.answer) (lent_by h)

  -- a call by a number that is one returns its refusal
  pub accepted-errno : accepted n (length h.answer) ≡ true → (call_on n g h).1 ≡ refusal_on c (lent_by h)
  accepted-errno k =
      entry-returned n g h
      ∙ ap (λ (x : Lent × Answer). errno_of x.1) (served-accepted n g h k)
      ∙ step-errno c (lent_by h)

  -- by the table's row that applies, or by the number and the room
  pub call-exactly : (call_on n g h).1
      ≡ cond (accepted n (length h.answer)) (refusal_on c (lent_by h)) (cond (usable n (lent_by h)) EINVAL EFAULT)
  unfolding errno_of
  call-exactly =
      split (accepted n (length h.answer))
      (λ k. accepted-errno k ∙ sym (cond-true _ _ k))
      (λ k.
      entry-returned n g h
      ∙ ap (λ (x : Lent × Answer). errno_of x.1) (served-not n g h k)
      ∙ sym (cond-false _ _ k))

  -- where it is 0, the words are those of the rules' reply
  pub call-answered : eqb (call_on n g h).1 0 ≡ true
      → (call_on n g h).0.answer ≡ written (Accepted (reply (view_of (lent_by h)) c)) h.answer
  unfolding errno_of
  call-answered z =
      split (accepted n (length h.answer))
      (λ k.
      entry-words n g h
      ∙ ap (λ (x : Lent × Answer). written x.1 h.answer)
      (served-accepted n g h k
      ∙ accepted-step c (lent_by h) (sym (accepted-errno k) ∙ eqb-true (call_on n g h).1 0 z)))
      (λ k.
      clash z (ap (λ (m : ℕ). eqb m 0)
      (entry-returned n g h ∙ ap (λ (x : Lent × Answer). errno_of x.1) (served-not n g h k))
      ∙ not-zero (usable n (lent_by h))))

  -- every call returns 0 or an errno of the table
  pub call-listed : (eqb (call_on n g h).1 0 || is_listed (call_on n g h).1) ≡ true
  call-listed =
      split (accepted n (length h.answer))
      (λ k. ap in_table (accepted-errno k) ∙ step-listed c (lent_by h))
      (λ k.
      ap in_table (entry-returned n g h ∙ ap (λ (x : Lent × Answer). errno_of x.1) (served-not n g h k))
      ∙ turned-away (usable n (lent_by h)))

  -- ---- what is left

  -- where the tables are as they were, so is all but the words for the answer
  all-but-words : outcome.0 ≡ lent_by h → (call_on n g h).0 ≡ lending (call_on n g h).0.answer h
  unfolding call_on handed_back served served_by
  all-but-words e =
      let out = written outcome.1 h.answer in
      ap (λ (m : Lent).
      host m.processes m.thread_buffer m.process_buffer out (records_of (length h.threads) m.threads)) e
      ∙ ap (host h.processes h.thread_buffer h.process_buffer out) (records-back h.threads)

  -- a call that returns an errno writes no word, changes no table, and so leaves all as it was
  module _ (r : eqb (call_on n g h).1 0 ≡ false) where
    refused-words : (call_on n g h).0.answer ≡ h.answer
    unfolding written
    refused-words =
        entry-words n g h
        ∙ cond-false (padded 0 answer_words (words_of outcome.1) ++ drop answer_words h.answer) h.answer
        (ap (λ (m : ℕ). eqb m 0) (sym (entry-returned n g h)) ∙ r)

    refused-left : outcome.0 ≡ lent_by h
    refused-left =
        split (accepted n (length h.answer))
        (λ k.
        ap (λ (x : Lent × Answer). x.0) (served-accepted n g h k)
        ∙ sym (refused-tables c (lent_by h)
        (eqb-false (refusal_on c (lent_by h)) 0 (ap (λ (m : ℕ). eqb m 0) (sym (accepted-errno k)) ∙ r))))
        (λ k. ap (λ (x : Lent × Answer). x.0) (served-not n g h k))

    pub call-refused : (call_on n g h).0 ≡ h
    call-refused =
        all-but-words refused-left
        ∙ ap (λ (ws : List ℕ). lending ws h) refused-words

-- ---- calls that only ask

module _ (v : View) (g : Arguments) where
  abbrev Asks : ℕ → Type 0
  Asks n = changes v (numbered n g) ≡ []

  -- a number that is another asks what that asks
  at : (n k : ℕ) → eqb n k ≡ true → Asks k → Asks n
  at n k e h = ap (changes v) (sym (at-number n k g (eqb-true n k e))) ∙ h

  -- for an action and for a mask nothing new is given
  asks-action : eqb g.c 0 ≡ true → Asks call_sigaction
  unfolding numbered calls_of changes action_changes
  asks-action e = ap (action_changes g.a g.b) (sym (none-given g.c _ (eqb-true g.c 0 e)))

  asks-mask : eqb g.c 0 ≡ true → Asks call_sigmask
  unfolding numbered calls_of changes mask_changes
  asks-mask e = ap (mask_changes v g.a g.b) (sym (none-given g.c _ (eqb-true g.c 0 e)))

  -- the other three never change anything
  asks_nothing : (Asks call_sigpending × Asks call_look) × Asks call_who
  unfolding numbered calls_of changes
  asks_nothing = ((refl, refl), refl)

  -- so a number of a call that only asks makes no change
  asks : (n : ℕ) → only_asks n g ≡ true → Asks n
  asks n e =
      or_cases ((eqb n call_sigaction || eqb n call_sigmask) && eqb g.c 0) _ e
      (λ k.
      let z = and-snd (eqb n call_sigaction || eqb n call_sigmask) (eqb g.c 0) k in
      or_cases (eqb n call_sigaction) (eqb n call_sigmask)
      (and-fst (eqb n call_sigaction || eqb n call_sigmask) (eqb g.c 0) k)
      (λ j. at n call_sigaction j (asks-action z))
      (λ j. at n call_sigmask j (asks-mask z)))
      (λ k.
      or_cases (eqb n call_sigpending) _ k
      (λ j. at n call_sigpending j asks_nothing.0.0)
      (λ j.
      or_cases (eqb n call_look) (eqb n call_who) j
      (λ i. at n call_look i asks_nothing.0.1)
      (λ i. at n call_who i asks_nothing.1)))

-- and leaves every table of the host
module _ (h : Host) (n : ℕ) (g : Arguments) (bt : Bytes h.thread_buffer) (bp : Bytes h.process_buffer)
    (e : only_asks n g ≡ true) where
  asking-left : (serve_on n g (length h.answer) (lent_by h)).0 ≡ lent_by h
  asking-left =
      split (accepted n (length h.answer))
      (λ k.
      ap (λ (x : Lent × Answer). x.0) (served-accepted n g h k)
      ∙ sym (tables-of (asked (numbered n g) (lent_by h) (step_on (numbered n g) (lent_by h)).1 refl bt bp
      (asks (view_of (lent_by h)) g n e))))
      (λ k. ap (λ (x : Lent × Answer). x.0) (served-not n g h k))

  pub call-asking : (call_on n g h).0 ≡ lending (call_on n g h).0.answer h
  call-asking = all-but-words h n g asking-left

-- ---- clearing

-- the number of a call is accepted with room for any answer
pub has_room : (n room : ℕ) → is_call n ≡ true → answer_words ≤ room → accepted n room ≡ true
unfolding accepted
has_room n room e l = and_both e (ap not (le-ltb room answer_words l))

-- "clearing checks lengths only"
clear-refusal : (l : Lent) → lengths_are l ≡ true → refusal_on clear l ≡ 0
unfolding refusal_on
clear-refusal l e = rw e (clear-accepted l)

module _ (h : Host) (g : Arguments) (e : lengths_are (lent_by h) ≡ true) (l : answer_words ≤ length h.answer) where
  -- so a host's clearing returns 0
  clear-returns : (call_on call_clear g h).1 ≡ 0
  unfolding numbered calls_of is_call
  clear-returns =
      accepted-errno h call_clear g (has_room call_clear (length h.answer) refl l) ∙ clear-refusal (lent_by h) e

  -- and leaves all zero, whatever the tables hold
  pub cleared-tables : lent_by (call_on call_clear g h).0 ≡ cleared_tables
  unfolding numbered calls_of is_call machine
  cleared-tables =
      entry-tables call_clear g h refl
      ∙ ap (λ (x : Lent × Answer). x.0)
      (served-accepted call_clear g h (has_room call_clear (length h.answer) refl l))
      ∙ clear-clears (lent_by h) e

  pub call-clears : ((call_on call_clear g h).1 ≡ 0) × (decoded (lent_by (call_on call_clear g h).0) ≡ cleared)
  call-clears = (clear-returns, ap decoded cleared-tables ∙ decoded-cleared)
