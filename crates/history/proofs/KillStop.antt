-- A host's send of KILL or STOP, plain or queued, is accepted and acted on: it ends or stops its target.
-- Assumes nothing.
use Prim.Native.Nat.{ℕ}
use mathlib.Core.Path.{◌≡◌, refl, sym, ap, subst, ◌∙◌}
use mathlib.Core.Bool.{true, false, not}
use mathlib.Core.List.{List, [], ◌∷◌}
use lib.Dec.{eqb}
use lib.ListN.{length}
use borrow.Author.Tests.{eqb-true}
use Rattle.limits.specs.Limits.{SIGKILL, SIGCONT, SIGSTOP, buffer_records, call_kill, call_sigqueue}
use Rattle.lists.specs.Lists.{All}
use Rattle.lists.proofs.Bools.{or_cases, or-both}
use Rattle.sigset.specs.Set.{is_unmaskable, of_signal}
use Rattle.sigset.proofs.Laws.{each-unmaskable}
use Rattle.siginfo.proofs.Slots.{fits-slots}
use Rattle.types.specs.declared.Sent.TheVariants.{Acted}
use Rattle.types.specs.declared.Reply.{Reply}
use Rattle.types.specs.declared.Reply.TheVariants.{Sent}
use Rattle.types.specs.Answers.{Answer}
use Rattle.types.specs.Answers.{Accepted}
use Rattle.rules.specs.Types.{Call, kill, sigqueue}
use Rattle.rules.specs.View.{View, Change, remove_process, set_stopped, discard, live_process}
use Rattle.rules.specs.Store.{apply_all}
use Rattle.rules.specs.Sending.{generation, info_of, job_control, send_changes, send_answer}
use Rattle.rules.specs.Refusals.{over_last, no_process_live, may_not, rows, is_clear}
use Rattle.rules.specs.Calls.{send, changes, reply}
use Rattle.rules.specs.Machine.{machine}
use Rattle.rules.proofs.RefusalTable.{Off, none-given, room_for}
use Rattle.rules.proofs.Marks.{process-named}
use Rattle.rules.proofs.Queues.{target-process}
use Rattle.rules.proofs.Steps as steps
use Rattle.queue.specs.Queue.{slots_of}
use Rattle.sound.specs.Lent.{Lent, decoded, view_of, sound_tables}
use Rattle.answers.specs.Step.{refusal_on, step_on}
use Rattle.answers.proofs.Endings.{rows-given, rows-sound, accepted-rules, accepted-step}
use Rattle.boundary.specs.declared.Arguments.{Arguments}
use Rattle.boundary.specs.Boundary.{calls_of, is_call, numbered, written, accepted, serve_on}
use Rattle.rrezhbuta.specs.Entry.{Host, lent_by, call_on}
use Rattle.history.specs.Demand1.{is_send, InWidth, MaySend, Ended, Stopped}
use Rattle.history.proofs.Widths.{Widths}
use Rattle.history.proofs.Encoded.{decoded-on, sound-on}
use Rattle.history.proofs.Entry.{numbered-machine, served-accepted, entry-words, entry-tables}
use Rattle.history.proofs.Returns.{accepted-errno, has_room}
use Rattle.history.proofs.Ended.{ended, stopped}

-- ---- the two sends

-- what holds of the number of each holds of a send's
each_number : (P : ℕ → Type 0) → P call_kill → P call_sigqueue → (n : ℕ) → is_send n ≡ true → P n
each_number P k q n e =
    or_cases (eqb n call_kill) (eqb n call_sigqueue) e
    (λ i. subst P (sym (eqb-true n call_kill i)) k)
    (λ i. subst P (sym (eqb-true n call_sigqueue i)) q)

-- it is a call's number
send-is-call : (n : ℕ) → is_send n ≡ true → is_call n ≡ true
unfolding is_call
send-is-call = each_number (λ (n : ℕ). is_call n ≡ true) refl refl

-- what holds of both calls with these arguments
each-send : (g : Arguments) (P : Call → Type 0) → P (kill g.a g.b g.c g.d)
    → P (sigqueue g.a g.b g.c g.d g.x) → (n : ℕ) → is_send n ≡ true → P (numbered n g)
unfolding numbered calls_of
each-send g P k q = each_number (λ (n : ℕ). P (numbered n g)) k q

-- ---- what it does in the rules

-- KILL and STOP are no numbers over the last
within-last : (s : ℕ) → is_unmaskable s ≡ true → over_last s ≡ false
unfolding over_last
within-last = each-unmaskable (λ (s : ℕ). over_last s ≡ false) refl refl

module _ (v : View) (by to t value : ℕ) where
  -- both sends of them answer "acted"
  abbrev Acts : Call → Type 0
  Acts c = reply v c ≡ Sent Acted

  unmaskable-acts : (s : ℕ) → is_unmaskable s ≡ true → Acts (kill by to t s) × Acts (sigqueue by to t s value)
  unfolding reply send_answer generation
  unmaskable-acts =
      each-unmaskable (λ (s : ℕ). Acts (kill by to t s) × Acts (sigqueue by to t s value)) (refl, refl) (refl, refl)

-- their changes: the process goes; its pending CONT go and it stops
abbrev killing : ℕ → List Change
killing to = remove_process to ∷ []

abbrev stopping : ℕ → List Change
stopping to = discard to (of_signal SIGCONT) ∷ set_stopped to 1 ∷ []

module _ (v : View) (g : Arguments) (n : ℕ) (e : is_send n ≡ true) where
  kill-changes : g.d ≡ SIGKILL → changes v (numbered n g) ≡ killing g.b
  unfolding changes send generation info_of send_changes
  kill-changes k =
      each-send g (λ (c : Call). changes v c ≡ killing g.b)
      (ap (λ (s : ℕ). changes v (kill g.a g.b g.c s)) k)
      (ap (λ (s : ℕ). changes v (sigqueue g.a g.b g.c s g.x)) k) n e

  stop-changes : g.d ≡ SIGSTOP → changes v (numbered n g) ≡ stopping g.b
  unfolding changes send generation info_of send_changes job_control
  stop-changes k =
      each-send g (λ (c : Call). changes v c ≡ stopping g.b)
      (ap (λ (s : ℕ). changes v (kill g.a g.b g.c s)) k)
      (ap (λ (s : ℕ). changes v (sigqueue g.a g.b g.c s g.x)) k) n e

-- ---- the host's call

module _ (h : Host) (n : ℕ) (g : Arguments) (e : is_send n ≡ true) (u : is_unmaskable g.d ≡ true)
    (m : MaySend h g.a g.b g.c g.d) where
  abbrev l : Lent
  l = lent_by h

  abbrev c : Call
  c = numbered n g

  -- a call none of whose rows applies
  not-refused : (k : Call) → is_clear k ≡ false → All Off (rows (view_of l) k) → refusal_on k l ≡ 0
  not-refused k i off =
      rows-given k l i
      ∙ sym (rows-sound (rows (view_of l) k) l m.sound 0 (sym (none-given (rows (view_of l) k) off)))

  -- no row of a send that may be made applies
  send-accepted : refusal_on c l ≡ 0
  unfolding is_clear rows no_process_live may_not
  send-accepted =
      let last = within-last g.d u in
      let room = room_for (view_of l) g.b g.c g.d u in
      let live = or-both (ap not m.sender) m.target in
      let may = ap not m.allowed in
      each-send g (λ (k : Call). refusal_on k l ≡ 0)
      (not-refused (kill g.a g.b g.c g.d) refl (last, (live, (may, tt))))
      (not-refused (sigqueue g.a g.b g.c g.d g.x) refl (last, (live, (may, (room, tt))))) n e

  -- it is answered "acted"
  send-acts : reply (view_of l) c ≡ Sent Acted
  send-acts =
      let acts = unmaskable-acts (view_of l) g.a g.b g.c g.x g.d u in
      each-send g (λ (k : Call). reply (view_of l) k ≡ Sent Acted) acts.0 acts.1 n e

  -- its number is a call's, and there is room for the answer
  taken-up : accepted n (length h.answer) ≡ true
  taken-up = has_room n (length h.answer) (send-is-call n e) m.room

  -- the answer on the lent tables
  send-answer : (serve_on n g (length h.answer) l).1 ≡ Accepted (Sent Acted)
  send-answer =
      ap (λ (x : Lent × Answer). x.1) (served-accepted n g h taken-up ∙ accepted-step c l send-accepted)
      ∙ ap (λ (r : Reply). Accepted r) send-acts

  -- the host gets 0 and the words of that answer
  pub call-acts : ((call_on n g h).1 ≡ 0) × ((call_on n g h).0.answer ≡ written (Accepted (Sent Acted)) h.answer)
  call-acts = (
    accepted-errno h n g taken-up ∙ send-accepted,
    entry-words n g h ∙ ap (λ (a : Answer). written a h.answer) send-answer,
  )

  -- ---- what it leaves, where the numbers have their widths

  module _ (w : InWidth h g) where
    -- bytes make records of their widths
    record-widths : Widths (decoded l)
    unfolding decoded slots_of
    record-widths =
        record {
          thread_buffer = fits-slots buffer_records h.thread_buffer w.thread_buffer;
          process_buffer = fits-slots buffer_records h.process_buffer w.process_buffer;
        }

    machine-call : machine c ≡ true
    machine-call = numbered-machine n g w.arguments

    -- the host's tables are those that the call leaves; they are sound, and say the store that its changes leave
    call-tables : lent_by (call_on n g h).0 ≡ (step_on c l).0
    call-tables = entry-tables n g h machine-call ∙ ap (λ (x : Lent × Answer). x.0) (served-accepted n g h taken-up)

    call-sound : sound_tables (lent_by (call_on n g h).0) ≡ true
    call-sound = ap sound_tables call-tables ∙ sound-on c l machine-call m.sound record-widths

    call-changes : decoded (lent_by (call_on n g h).0) ≡ apply_all (changes (view_of l) c) (decoded l)
    call-changes =
        ap decoded call-tables
        ∙ decoded-on c l machine-call m.sound record-widths
        ∙ steps.accepted-step c (decoded l) (accepted-rules c l send-accepted)

    -- the same of changes that are known
    changed-by : (cs : List Change) → changes (view_of l) c ≡ cs
        → decoded (lent_by (call_on n g h).0) ≡ apply_all cs (decoded l)
    changed-by cs k = call-changes ∙ ap (λ (x : List Change). apply_all x (decoded l)) k

    target-live : live_process (view_of l) g.b ≡ true
    target-live = target-process (view_of l) g.b g.c m.target

    -- "KILL ends the process"
    pub call-kills : g.d ≡ SIGKILL → Ended (lent_by (call_on n g h).0) g.b
    unfolding apply_all
    call-kills k =
        ended (lent_by (call_on n g h).0) (decoded l) g.b call-sound (process-named (decoded l) g.b target-live)
        (changed-by (killing g.b) (kill-changes (view_of l) g n e k))

    -- "STOP .. stops it"
    pub call-stops : g.d ≡ SIGSTOP → Stopped (lent_by (call_on n g h).0) g.b
    call-stops k =
        stopped (decoded l) g.b target-live (lent_by (call_on n g h).0)
        (changed-by (stopping g.b) (stop-changes (view_of l) g n e k))
