-- Demand 3, for every list of calls of a host. Assumes nothing.
use Rattle.std.specs.Prelude.{Some, None, Option as Maybe}
use Prim.Native.Nat.{ℕ, ◌+◌, ◌≤◌}
use mathlib.Core.Path.{◌≡◌, refl, sym, ap, ◌∙◌, subst}
use mathlib.Core.Bool.{Bool, true, false, not, ◌&&◌, ◌||◌, cond}
use mathlib.Core.List.{List, [], ◌∷◌, append-nil}
use lib.Dec.{eqb}
use lib.ListN.{length}
use borrow.Author.Tests.{eqb-true}
use Rattle.limits.specs.Limits.{EINVAL, EFAULT, EAGAIN, record_limit, answer_words, answer_kept, call_clear}
use Rattle.limits.specs.Limits.{call_add_process}
use Rattle.limits.specs.Limits.{call_add_thread, call_sigqueue, call_take}
use Rattle.lists.specs.Lists.{all, any, count, first, padded, All}
use Rattle.lists.proofs.Bools.{split, and-fst, and-snd, cond-true, cond-false}
use Rattle.sigset.specs.Set.{bits, has, set_of}
use Rattle.types.specs.Values.{new_of}
use Rattle.types.specs.declared.Siginfo.{Siginfo}
use Rattle.types.specs.declared.Sent.{Sent}
use Rattle.types.specs.declared.Taken.{Taken}
use Rattle.types.specs.declared.Taken.TheVariants as taken
use Rattle.types.specs.declared.Reply.{Reply}
use Rattle.types.specs.declared.Reply.TheVariants as reply
use Rattle.types.specs.Answers.{Answer}
use Rattle.types.specs.Answers.{Refused, Accepted}
use Rattle.rules.specs.Types.{Call, kill, sigqueue, sigpending, who, take}
use Rattle.rules.specs.View.{View, belongs_to, live_process, live_thread, the_thread, pending_for}
use Rattle.rules.specs.Store.{Store, is_free_process, is_free_thread}
use Rattle.rules.specs.Sound.{good_id}
use Rattle.rules.specs.Actions.{blocked_pending}
use Rattle.rules.specs.Taking.{next, who_answer, take_answer}
use Rattle.rules.specs.Asking.{has_offer, is_taken}
use Rattle.rules.specs.Refusals.{refusal, rows, no_thread_live, refusal_of}
use Rattle.rules.specs.Calls.{reply, step}
use Rattle.rules.specs.Machine.{machine}
use Rattle.rules.proofs.Asking.{asking-yields}
use Rattle.rules.proofs.Refused.{refused-by-table, refused-keeps}
use Rattle.rules.proofs.Steps.{accepted-step}
use Rattle.sound.specs.Lent.{Lent, decoded, lengths_are, sound_tables}
use Rattle.sound.proofs.Facts.{right-lengths}
use Rattle.answers.specs.Step.{encoded, refusal_on, step_on}
use Rattle.looking.specs.Looks.{look_bytes}
use Rattle.boundary.specs.declared.Arguments.{Arguments}
use Rattle.boundary.specs.Boundary.{calls_of, is_call, numbered, sent_word, reply_words, taken_words}
use Rattle.boundary.specs.Boundary.{words_of}
use Rattle.boundary.specs.Boundary.{errno_of, written, usable, accepted, serve_on}
use Rattle.rrezhbuta.specs.Entry.{Host, lent_by, call_on, look_at}
use Rattle.history.specs.Ledger.{Ledger, empty_ledger, of_process, pending_where, ledger_view, ledger_refusal}
use Rattle.history.specs.Ledger.{ledger_answer}
use Rattle.history.specs.Acts.{sent, said, acts, turns, acts_of}
use Rattle.history.specs.Tally.{takes_either}
use Rattle.history.specs.History.{Book, empty_book, entered, enter, Item, call, slot_look, lending, host_after, told}
use Rattle.history.specs.History.{Past, after, cleared, machine_arguments, machine_item, heard, looked_bytes}
use Rattle.history.specs.Takes.{TakenBy, AnswersBy, yields}
use Rattle.history.specs.Demand3.{Claim, Demand3}
use Rattle.history.proofs.Answered.{same-refusal, same_answer, never-fault, room-counted, pending-limit}
use Rattle.history.proofs.Answered.{process-room, thread-room}
use Rattle.history.proofs.Encoded.{answer-on, decoded-on, sound-on, encoded-on, decoded-cleared, encoded-cleared}
use Rattle.history.proofs.Encoded.{sound-cleared_tables, cleared_tables}
use Rattle.history.proofs.Entry.{entry-returned, entry-words, entry-tables, served-accepted, served-not}
use Rattle.history.proofs.Entry.{numbered-machine, row-threads, row-length}
use Rattle.history.proofs.Holds.{Holds, holds-start}
use Rattle.history.proofs.Judged.{itself}
use Rattle.history.proofs.Looks.{same-look, same-slot}
use Rattle.history.proofs.Relation.{Agrees}
use Rattle.history.proofs.Returns.{step-errno, has_room, cleared-tables}
use Rattle.history.proofs.Said.{send-answers, keeps-needed, takes_one_lem, who-says}
use Rattle.history.proofs.Tallied.{Tallies, tallies-start, tallies-turns}
use Rattle.history.proofs.Turns.{taker, holds-turns, right-turns, answers-turns}
use Rattle.history.proofs.Widths.{Widths, widths-cleared, widths-step}

-- ---- what every list of calls keeps

record Reached (l : Lent) (b : Book) : Type 0 where
  -- the tables are sound, their records machine numbers, and they are the words and bytes of what they say
  sound : sound_tables l ≡ true
  widths : Widths (decoded l)
  whole : encoded (decoded l) ≡ l
  -- the ledger holds beside them, and is what the acts come to
  holds : Holds (decoded l) b.ledger
  tallies : Tallies b.ledger b.acts

reached-start : Reached cleared_tables empty_book
reached-start =
    record {
      sound = sound-cleared_tables;
      widths = subst Widths (sym decoded-cleared) widths-cleared;
      whole = ap encoded decoded-cleared ∙ encoded-cleared;
      holds = subst (λ st. Holds st empty_ledger) (sym decoded-cleared) holds-start;
      tallies = tallies-start;
    }

-- ---- a call on the tables

module _ (l : Lent) (b : Book) (r : Reached l b) (c : Call) (u : machine c ≡ true) where
  abbrev st : Store
  st = decoded l

  abbrev k : Ledger
  k = b.ledger

  -- sound tables of machine numbers are left, accepted or refused
  reached-tables : (b' : Book) → Holds (step c st).0 b'.ledger → Tallies b'.ledger b'.acts
      → Reached (step_on c l).0 b'
  reached-tables b' h t =
      let d = decoded-on c l u r.sound r.widths in
      record {
        sound = sound-on c l u r.sound r.widths;
        widths = subst Widths (sym d) (widths-step c st u r.holds.is_sound r.widths);
        whole = encoded-on c l u r.sound r.widths r.whole;
        holds = subst (λ x. Holds x b'.ledger) (sym d) h;
        tallies = t;
      }

  reached-accepted : refusal_of st c ≡ 0 → Reached (step_on c l).0 (entered c b)
  unfolding entered
  reached-accepted e =
      reached-tables (entered c b)
      (subst (λ x. Holds x (entered c b).ledger) (sym (accepted-step c st e)) (holds-turns c st k e r.holds u))
      (tallies-turns (turns (ledger_view k) c) k b.acts (right-turns c st k e r.holds) r.tallies)

  reached-refused : eqb (refusal_of st c) 0 ≡ false → Reached (step_on c l).0 b
  reached-refused z =
      reached-tables b
      (subst (λ x. Holds x k) (sym (refused-keeps c st (refused-by-table c st ∙ ap not z))) r.holds) r.tallies

  -- the ledger is told whether what is returned is an errno
  reached-step : (n : ℕ) → n ≡ errno_of (step_on c l).1
      → Reached (step_on c l).0 (enter (record { call = c; refused = not (eqb n 0) }) b)
  unfolding enter refusal_on
  reached-step n i =
      let e : n ≡ refusal_of st c =
      i ∙ step-errno c l ∙ cond-true (refusal_of st c) EFAULT (right-lengths l r.sound) in
      split (eqb n 0)
      (λ z. subst (Reached (step_on c l).0) (sym (cond-false b (entered c b) (ap not z)))
      (reached-accepted (sym e ∙ eqb-true n 0 z)))
      (λ z. subst (Reached (step_on c l).0) (sym (cond-true b (entered c b) (ap not z)))
      (reached-refused (ap (λ (m : ℕ). eqb m 0) (sym e) ∙ z)))

-- ---- an item, a list of them

module _ (h : Host) (b : Book) (r : Reached (lent_by h) b) (n : ℕ) (g : Arguments) (out : List ℕ)
    (u : machine_arguments g ≡ true) where
  abbrev lent' : Host
  lent' = lending out h

  reached-call : (y : Bool) → accepted n (length out) ≡ y
      → Reached (lent_by (call_on n g lent').0)
      (cond y (enter (record { call = numbered n g; refused = not (eqb (call_on n g lent').1 0) }) b) b)
  reached-call true y =
      let s = served-accepted n g lent' y in
      subst (λ (l : Lent). Reached l (enter
      (record { call = numbered n g; refused = not (eqb (call_on n g lent').1 0) }) b))
      (sym (entry-tables n g lent' (numbered-machine n g u) ∙ ap (λ (x : Lent × Answer). x.0) s))
      (reached-step (lent_by h) b r (numbered n g) (numbered-machine n g u) (call_on n g lent').1
      (entry-returned n g lent' ∙ ap (λ (x : Lent × Answer). errno_of x.1) s))
  reached-call false y =
      subst (λ (l : Lent). Reached l b)
      (sym (entry-tables n g lent' (numbered-machine n g u)
      ∙ ap (λ (x : Lent × Answer). x.0) (served-not n g lent' y)))
      r

reached-item : (x : Item) (h : Host) (b : Book) → machine_item x ≡ true → Reached (lent_by h) b
    → Reached (lent_by (host_after x h)) (told x h b)
unfolding machine_item host_after told
reached-item (call n g out) h b u r = reached-call h b r n g out u (accepted n (length out)) refl
reached-item (slot_look t) h b u r = r

reached-list : (xs : List Item) (p : Past) → all machine_item xs ≡ true → Reached (lent_by p.host) p.book
    → Reached (lent_by (after xs p).host) (after xs p).book
unfolding after all
reached-list [] p u r = r
reached-list (x ∷ xs) p u r =
    reached-list xs (record { host = host_after x p.host; book = told x p.host p.book })
    (and-snd (machine_item x) (all machine_item xs) u)
    (reached-item x p.host p.book (and-fst (machine_item x) (all machine_item xs) u) r)

-- ---- the words of a take

-- its first word says whether a signal is taken
yields-taken : (x : Maybe Taken) (out : List ℕ) → yields (written (Accepted (reply.Taken x)) out) ≡ is_taken x
unfolding written errno_of words_of reply_words taken_words padded is_taken
yields-taken None out = refl
yields-taken (Some (taken.Handler n s r flags saved)) out = refl
yields-taken (Some (taken.End s)) out = refl
yields-taken (Some (taken.Stop s)) out = refl
yields-taken (Some (taken.NoAction s)) out = refl

-- ---- the claim

module _ (h : Host) (b : Book) (r : Reached (lent_by h) b) where
  abbrev tables : Lent
  tables = lent_by h

  abbrev ledger : Ledger
  ledger = b.ledger

  abbrev seen : View
  seen = ledger_view ledger

  long : lengths_are tables ≡ true
  long = right-lengths tables r.sound

  -- the answer that is read in the ledger is given
  answers : (c : Call) → (step_on c tables).1 ≡ ledger_answer ledger c
  answers c = answer-on c tables long ∙ same_answer (decoded tables) ledger r.holds c

  always-usable : (n : ℕ) → usable n tables ≡ true
  unfolding usable
  always-usable n = split (eqb n call_clear) (λ e. rw (e, long)) (λ e. rw (e, r.sound))

  heard-is : (n : ℕ) (g : Arguments) (out : List ℕ) → (serve_on n g (length out) tables).1
      ≡ heard ledger n g (length out)
  unfolding heard
  heard-is n g out =
      split (accepted n (length out))
      (λ y. ap (λ (x : Lent × Answer). x.1) (served-accepted n g (lending out h) y) ∙ answers (numbered n g)
      ∙ sym (cond-true _ _ y))
      (λ y. ap (λ (x : Lent × Answer). x.1) (served-not n g (lending out h) y)
      ∙ ap (λ (z : Bool). Refused (cond z EINVAL EFAULT)) (always-usable n) ∙ sym (cond-false _ _ y))

  module _ (n : ℕ) (g : Arguments) (out : List ℕ) where
    returned : (call_on n g (lending out h)).1 ≡ errno_of (heard ledger n g (length out))
    returned = entry-returned n g (lending out h) ∙ ap errno_of (heard-is n g out)

    words : (call_on n g (lending out h)).0.answer ≡ written (heard ledger n g (length out)) out
    words = entry-words n g (lending out h) ∙ ap (λ (a : Answer). written a out) (heard-is n g out)

    -- a call of the list, with room for its answer
    heard-call : is_call n ≡ true → answer_words ≤ length out
        → heard ledger n g (length out) ≡ ledger_answer ledger (numbered n g)
    unfolding heard
    heard-call c o = cond-true _ _ (has_room n (length out) c o)

    no-fault : eqb (call_on n g (lending out h)).1 EFAULT ≡ false
    unfolding heard errno_of
    no-fault =
        ap (λ (m : ℕ). eqb m EFAULT) returned
        ∙ split (accepted n (length out))
        (λ y. rw y (never-fault ledger (numbered n g)))
        (λ y. rw y)

  -- the ledger's refusal is the tables'
  module _ (c : Call) (e : ledger_refusal ledger c ≡ 0) where
    passes : refusal_of (decoded tables) c ≡ 0
    passes = same-refusal (decoded tables) ledger r.holds c ∙ e

    ledger-accepts : ledger_answer ledger c ≡ Accepted (reply seen c)
    unfolding ledger_answer
    ledger-accepts = cond-true _ _ (ap (λ (n : ℕ). eqb n 0) e)

    answers_by_lem : All (AnswersBy seen (ledger_answer ledger c)) (acts_of (turns seen c) ledger)
    answers_by_lem =
        subst (λ (a : Answer). All (AnswersBy seen a) (acts_of (turns seen c) ledger)) (sym ledger-accepts)
        (answers-turns c (decoded tables) ledger passes r.holds)

    -- its acts are those of one turn
    one-turn : acts_of (turns seen c) ledger ≡ acts seen c
    unfolding turns acts_of
    one-turn = append-nil (acts seen c)

  module _ (t : ℕ) (e : ledger_refusal ledger (take t) ≡ 0) where
    one-taken : count takes_either (acts_of (turns seen (take t)) ledger)
        ≡ cond (has_offer seen (the_thread seen t)) 1 0
    one-taken = ap (count takes_either) (one-turn (take t) e) ∙ takes_one_lem seen t

    taken-itself : All (TakenBy t) (acts_of (turns seen (take t)) ledger)
    taken-itself =
        subst (All (TakenBy t)) (sym (one-turn (take t) e))
        (itself ledger t (taker (take t) (decoded tables) ledger (passes (take t) e) r.holds t refl))

  -- the answers in the ledger's own words
  kill-said : (by to t s : ℕ) → ledger_refusal ledger (kill by to t s) ≡ 0
      → ledger_answer ledger (kill by to t s) ≡ Accepted (reply.Sent (said seen false (sent seen by to t s 0)))
  unfolding reply
  kill-said by to t s e =
      ledger-accepts (kill by to t s) e
      ∙ ap (λ (x : Sent). Accepted (reply.Sent x)) (send-answers seen by to t 0 false s)

  queue-said : (by to t s value : ℕ) → ledger_refusal ledger (sigqueue by to t s value) ≡ 0
      → ledger_answer ledger (sigqueue by to t s value)
      ≡ Accepted (reply.Sent (said seen true (sent seen by to t s value)))
  unfolding reply
  queue-said by to t s value e =
      ledger-accepts (sigqueue by to t s value) e
      ∙ ap (λ (x : Sent). Accepted (reply.Sent x)) (send-answers seen by to t value true s)

  pending-said : (t : ℕ) → ledger_refusal ledger (sigpending t) ≡ 0
      → ledger_answer ledger (sigpending t)
      ≡ Accepted (reply.PendingSet
      (set_of (λ s. has (the_thread seen t).mask s && pending_for seen (the_thread seen t) s)))
  unfolding reply blocked_pending
  pending-said t e = ledger-accepts (sigpending t) e

  who-said : (p : ℕ) → ledger_refusal ledger (who p) ≡ 0
      → ledger_answer ledger (who p)
      ≡ Accepted (who_answer seen (first (λ t. belongs_to p t && has_offer seen t) ledger.threads))
  unfolding reply ledger_view
  who-said p e = ledger-accepts (who p) e ∙ ap (λ (x : Reply). Accepted x) (who-says seen p)

  take-passes : (t : ℕ) → live_thread seen t ≡ true → ledger_refusal ledger (take t) ≡ 0
  unfolding ledger_refusal rows refusal no_thread_live
  take-passes t e = rw e

  asking : (g : Arguments) (out : List ℕ) → answer_words ≤ length out → live_thread seen g.a ≡ true
      → yields (call_on call_take g (lending out h)).0.answer ≡ has_offer seen (the_thread seen g.a)
  unfolding numbered calls_of is_call reply
  asking g out o e =
      ap yields (words call_take g out
      ∙ ap (λ (a : Answer). written a out)
      (heard-call call_take g out refl o ∙ ledger-accepts (take g.a) (take-passes g.a e)))
      ∙ yields-taken (take_answer seen (the_thread seen g.a) (next seen (the_thread seen g.a))) out
      ∙ asking-yields seen (the_thread seen g.a)

  room : (g : Arguments) (out : List ℕ) → answer_words ≤ length out
      → eqb (call_on call_sigqueue g (lending out h)).1 EAGAIN
      ≡ (eqb (refusal (rows seen (kill g.a g.b g.c g.d))) 0
      && (eqb (sent_word (said seen true (sent seen g.a g.b g.c g.d g.x))) answer_kept
      && eqb (pending_where ledger (of_process g.b)) record_limit))
  unfolding numbered calls_of is_call
  room g out o =
      ap (λ (n : ℕ). eqb n EAGAIN) (returned call_sigqueue g out ∙ ap errno_of (heard-call call_sigqueue g out refl o))
      ∙ room-counted (decoded tables) ledger r.holds g.a g.b g.c g.d g.x
      ∙ ap (λ (b : Bool). eqb (refusal (rows seen (kill g.a g.b g.c g.d))) 0
      && (b && eqb (pending_where ledger (of_process g.b)) record_limit))
      (keeps-needed seen g.a g.b g.c g.d g.x)

  room-process : (g : Arguments) (out : List ℕ) → answer_words ≤ length out
      → eqb (call_on call_add_process g (lending out h)).1 EAGAIN
      ≡ ((good_id g.a && good_id g.f)
      && (not (live_process seen g.a || live_thread seen g.f)
      && not (any is_free_process ledger.processes && any is_free_thread ledger.threads)))
  unfolding numbered calls_of is_call
  room-process g out o =
      ap (λ (n : ℕ). eqb n EAGAIN)
      (returned call_add_process g out ∙ ap errno_of (heard-call call_add_process g out refl o))
      ∙ process-room ledger (new_of g.a g.b g.c g.d g.e g.f (bits g.x))

  room-thread : (g : Arguments) (out : List ℕ) → answer_words ≤ length out
      → eqb (call_on call_add_thread g (lending out h)).1 EAGAIN
      ≡ (good_id g.b
      && (live_thread seen g.a && (not (live_thread seen g.b) && not (any is_free_thread ledger.threads))))
  unfolding numbered calls_of is_call
  room-thread g out o =
      ap (λ (n : ℕ). eqb n EAGAIN)
      (returned call_add_thread g out ∙ ap errno_of (heard-call call_add_thread g out refl o))
      ∙ thread-room ledger g.a g.b

  claim : Claim h ledger b.acts
  unfolding look_at
  claim =
      let a : Agrees (decoded tables) ledger = r.holds.beside.agrees in
      let looked : (t : ℕ) → look_bytes t tables ≡ looked_bytes ledger t =
      λ t. same-look tables r.whole t ledger long r.holds in
      record {
        since = λ q s. a.records q s ∙ (r.tallies.line q s).since;
        never_more = λ q s. (r.tallies.line q s).few;
        sends = a.records;
        marks = a.marks;
        marks_since = λ q s. a.marks q s ∙ (r.tallies.line q s).mark;
        processes = a.processes;
        threads = sym (row-threads h (row-length h long)) ∙ a.threads;
        sound = r.sound;
        whole = r.whole;
        returned = returned;
        words = words;
        looks = looked;
        slots = λ t. same-slot h t long ∙ looked t;
        no_fault = no-fault;
        kill_said = kill-said;
        queue_said = queue-said;
        pending_said = pending-said;
        who_said = who-said;
        takes = λ c e. right-turns c (decoded tables) ledger (passes c e) r.holds;
        answers_by = answers_by_lem;
        asking = asking;
        balance = λ q s.
            r.holds.beside.balanced q s
            ∙ ap (λ (rs : List Siginfo).
            (ledger.lines q s).counts.taken + (ledger.lines q s).counts.discarded + length rs)
            (sym (a.records q s));
        total = r.holds.beside.total;
        kept_counted = λ q s. (r.tallies.line q s).kept;
        taken_counted = λ q s. (r.tallies.line q s).taken;
        discarded_counted = λ q s. (r.tallies.line q s).discarded;
        kept_total = r.tallies.kept;
        taken_total = r.tallies.taken;
        takes_one = one-taken;
        takes_itself = taken-itself;
        room = room;
        limit = pending-limit (decoded tables) ledger r.holds;
        room_process = room-process;
        room_thread = room-thread;
      }

-- ---- from a clear on

pub demand3 : Demand3
unfolding cleared
demand3 h g e o xs u =
    claim (after xs (cleared g h)).host (after xs (cleared g h)).book
    (reached-list xs (cleared g h) u
    (subst (λ (l : Lent). Reached l empty_book) (sym (cleared-tables h g e o)) reached-start))
