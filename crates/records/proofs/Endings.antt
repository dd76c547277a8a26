-- How the tests of one record end, over plain variables: the proofs of the code pass what they know. Assumes nothing.
use Prim.Native.Nat.{ℕ, ◌+◌, ◌-◌, ◌^◌, ◌≤◌, ◌<◌}
use mathlib.Core.Path.{◌≡◌, refl, sym, ap, ◌∙◌}
use mathlib.Core.Bool.{Bool, true, false, not, ◌&&◌, and_comm}
use mathlib.Core.List.{List, []}
use mathlib.Core.Option
use native.Mathlib.Omega.{arith}
use lib.Dec.{eqb, leb}
use lib.ListN.{get_or}
use borrow.Author.Tests.{eqb-true, eq-eqb, ne_eqb, leb-true, le-leb, lt-leb}
use Rattle.limits.specs.Limits.{process_places, thread_places, record_limit, last_standard, si_queue}
use Rattle.limits.specs.Limits.{process_id as word_of_id}
use Rattle.lists.specs.Lists.{any, count, first, find}
use Rattle.lists.proofs.Bools.{split, clash, same_test, and_left, and-snd, and-imp}
use Rattle.lists.proofs.Loops.{find-le}
use Rattle.lists.proofs.Finds.{found-any, absent-any, any-inside}
use Rattle.sigset.specs.declared.SigSet.{SigSet}
use Rattle.sigset.specs.Set.{Signal, empty, bits, has, sum_of, set_of, intersect}
use Rattle.sigset.proofs.Laws.{has-set, has-beyond, has-intersect, intersect-lt}
use Rattle.types.specs.declared.Siginfo.{Siginfo}
use Rattle.rules.specs.Types.{Process, Thread, no_process, no_thread}
use Rattle.rules.specs.Signals.{is_signal, standard, ignored}
use Rattle.rules.specs.View.{is_process, is_thread, action_of, live_process, live_thread, the_process, the_thread}
use Rattle.rules.specs.Store.{view, free_process, free_thread}
use Rattle.rules.specs.Sound.{is_live, thread_id, nameable, names_live, aimed_at_thread, aimed_at_process}
use Rattle.rules.specs.Sound.{record_not_ignored}
use Rattle.rules.proofs.Ids.{named_live}
use Rattle.rules.proofs.Marks.{first-held}
use Rattle.rules.proofs.Signals.{is-signal, signal-is, standard-is, nameable-signal}
use Rattle.tables.specs.Tables.{processes_of, threads_of, held_processes, held_threads, process_at, thread_at, head_to}
use Rattle.tables.proofs.Words.{length-processes_of, length-threads_of, length-held_processes, length-held_threads}
use Rattle.soundness.specs.Check.{is_delivered, is_fresh, within_at, places_view, process_place}
use Rattle.soundness.specs.Check.{thread_place}
use Rattle.soundness.specs.Check.{thread_record_ok, process_record_ok, ignored_by, owner_place, process_by}
use Rattle.soundness.specs.Check.{thread_by, one_place}
use Rattle.soundness.proofs.Ids.{process-found, thread-found, held_found}
use Rattle.soundness.proofs.Turns.{one-process, one-thread, owned}
use Rattle.places.specs.declared.SoundPlaces.{SoundPlaces}
use Rattle.places.specs.Notes.{IgnoredNoted, OwnersNoted}
use Rattle.hints.specs.Hints.{Hinted}

-- ---- one signal against the set of its queue

-- of a set only the standard signals
standard-set : set_of standard ≡ bits (2 ^ last_standard - 1)
unfolding set_of sum_of standard
standard-set = refl

standard-only : (a : SigSet) (s : ℕ) → has (intersect a (bits (2 ^ last_standard - 1))) s ≡ (standard s && has a s)
standard-only a s =
    split (is_signal s)
    (λ e.
    let g = is-signal s e in
    has-intersect a (bits (2 ^ last_standard - 1)) s g
    ∙ ap (λ (b : SigSet). has a s && has b s) (sym standard-set)
    ∙ ap (λ b. has a s && b) (has-set standard s g)
    ∙ and_comm (has a s) (standard s))
    (λ e.
    let none : Signal s → ⊥ = λ g. clash (signal-is s g) e in
    has-beyond (intersect a (bits (2 ^ last_standard - 1))) s (intersect-lt a (bits (2 ^ last_standard - 1))) none
    ∙ sym (and_left (has a s) (split (standard s) (λ t. clash (standard-is s t) e) (λ t. t))))

pub fresh-by : (seen : List ℕ) (q s : ℕ) {hit : Bool}
    → hit ≡ has (intersect (bits (get_or seen q 0)) (bits (2 ^ last_standard - 1))) s
    → not hit ≡ is_fresh seen q s
unfolding is_fresh
fresh-by seen q s e = ap not (e ∙ standard-only (bits (get_or seen q 0)) s)

-- ---- two counts against the limit, without adding them up

module _ (cs ds : List ℕ) (i : ℕ) where
  pub over : record_limit < get_or cs i 0 → false ≡ within_at cs ds i
  unfolding within_at
  over h = sym (lt-leb (get_or cs i 0 + get_or ds i 0) record_limit (omega arith))

  pub room-left : get_or cs i 0 ≤ record_limit → leb (get_or ds i 0) (record_limit - get_or cs i 0) ≡ within_at cs ds i
  unfolding within_at
  room-left h =
      same_test (leb (get_or ds i 0) (record_limit - get_or cs i 0)) (leb (get_or cs i 0 + get_or ds i 0) record_limit)
      (λ e. let k : get_or ds i 0 ≤ record_limit - get_or cs i 0 =
      leb-true (get_or ds i 0) (record_limit - get_or cs i 0) e in
      le-leb (get_or cs i 0 + get_or ds i 0) record_limit (omega arith))
      (λ e. let k : get_or cs i 0 + get_or ds i 0 ≤ record_limit =
      leb-true (get_or cs i 0 + get_or ds i 0) record_limit e in
      le-leb (get_or ds i 0) (record_limit - get_or cs i 0) (omega arith))

-- ---- the shape of the two tests: code, signal, live process, where it is aimed, not ignored

no-process : (c n a h : Bool) → false ≡ (((c && (n && false)) && a) && h)
no-process true true a h = refl
no-process true false a h = refl
no-process false n a h = refl

no-aim : (l h : Bool) → false ≡ ((l && false) && h)
no-aim true h = refl
no-aim false h = refl

no-aim-there : (l a h : Bool) → false ≡ ((l && (a && false)) && h)
no-aim-there true true h = refl
no-aim-there true false h = refl
no-aim-there false a h = refl

all_there : (t c n h : Bool) → (t && (n && (c && h))) ≡ (((c && (n && true)) && t) && h)
all_there false true true h = refl
all_there false true false h = refl
all_there false false n h = refl
all_there true true true h = refl
all_there true true false h = refl
all_there true false true h = refl
all_there true false false h = refl

-- what is noted of the ignored signals tells as the actions do
delivered : (p : Process) (r : Siginfo)
    → is_delivered (ignored_by p) r
    ≡ (nameable r.signal && (eqb r.code si_queue && not (ignored (action_of p r.signal) r.signal)))
unfolding is_delivered ignored_by
delivered p r =
    and-imp (nameable r.signal)
    (λ n. ap (λ b. eqb r.code si_queue && not b)
    (has-set (λ s. ignored (action_of p s) s) r.signal (nameable-signal r.signal n)))

-- ---- a record by the place of its process

module _ (ws : List ℕ) (r : Siginfo) (place : ℕ) (at : place ≡ find (is_process r.process) (held_processes ws)) where
  its-process : Option.get_or (first (is_process r.process) (held_processes ws)) no_process
      ≡ (process_at ws place).holds
  its-process =
      first-held free_process (is_process r.process) (processes_of ws) ∙ ap (λ k. (process_at ws k).holds) (sym at)

  no-such-process : process_places ≤ place → any (is_process r.process) (held_processes ws) ≡ false
  no-such-process h =
      absent-any (is_process r.process) no_process (held_processes ws) process_places place (length-held_processes ws)
      at
      (omega (arith, at, find-le (is_process r.process) (held_processes ws), length-held_processes ws))

  module _ (h : place < process_places) where
    such-process : any (is_process r.process) (held_processes ws) ≡ true
    such-process =
        found-any (is_process r.process) no_process (held_processes ws) process_places place (length-held_processes ws)
        at
        (λ e. absurd (omega arith))

    -- it is live
    live-place : not (eqb (process_at ws place).holds.id 0) ≡ true
    unfolding is_process
    live-place =
        ap not (named_live r.process (process_at ws place).holds.id
        (held_found (is_process r.process) free_process (processes_of ws) place at (rw (length-processes_of ws) h)))

-- ---- a record of the process buffer

module _ (ws ph : List ℕ) (ignored : List SigSet) (h : Hinted process_places ph) (one : one_place (held_processes ws))
    (known : IgnoredNoted (processes_of ws) process_places ignored) (r : Siginfo) (place : ℕ)
    (e : place ≡ process_by ph ws r.process) where
  at-process : place ≡ find (is_process r.process) (held_processes ws)
  at-process = e ∙ process-found ph ws r.process h (one r.process)

  pub process-place : place ≡ process_place (processes_of ws) r
  unfolding process_place
  process-place = at-process

  pub no-process-found : place ≡ process_places → process_record_ok (processes_of ws) r ≡ false
  unfolding process_record_ok aimed_at_process names_live live_process view
  no-process-found k =
      rw (no-such-process ws r place at-process (omega arith))
      (sym (no-process (eqb r.code si_queue) (nameable r.signal) (eqb r.thread 0)
      (record_not_ignored (places_view (processes_of ws) []) r)))

  pub process-delivered : place < process_places
      → (eqb r.thread 0 && is_delivered (get_or ignored place empty) r) ≡ process_record_ok (processes_of ws) r
  unfolding process_record_ok aimed_at_process names_live record_not_ignored live_process the_process view
  process-delivered inside =
      ap (λ i. eqb r.thread 0 && is_delivered i r) (known place inside (live-place ws r place at-process inside))
      ∙ ap (λ b. eqb r.thread 0 && b) (delivered (process_at ws place).holds r)
      ∙ rw (such-process ws r place at-process inside, its-process ws r place at-process)
      (all_there (eqb r.thread 0) (eqb r.code si_queue) (nameable r.signal) _)

-- ---- a record of the thread buffer

module _ (ws vs th : List ℕ) (h : Hinted thread_places th) (one : (n : ℕ) → count (is_thread n) (held_threads vs) ≤ 1)
    (r : Siginfo) (queue : ℕ) (e : queue ≡ thread_by th vs r.thread) where
  at-thread : queue ≡ find (is_thread r.thread) (held_threads vs)
  at-thread = e ∙ thread-found th vs r.thread h (one r.thread)

  pub thread-place : queue ≡ thread_place (threads_of vs) r
  unfolding thread_place
  thread-place = at-thread

  pub no-thread-found : queue ≡ thread_places → thread_record_ok (processes_of ws) (threads_of vs) r ≡ false
  unfolding thread_record_ok aimed_at_thread live_thread view
  no-thread-found z =
      rw (absent-any (is_thread r.thread) no_thread (held_threads vs) thread_places queue (length-held_threads vs)
      at-thread z)
      (sym (no-aim (names_live (places_view (processes_of ws) (threads_of vs)) r)
      (record_not_ignored (places_view (processes_of ws) (threads_of vs)) r)))

  module _ (inside : queue < thread_places) (owners : List ℕ)
      (owner : OwnersNoted (processes_of ws) (threads_of vs) thread_places owners)
      (owned : (i : ℕ) → i < thread_places → is_live thread_id (thread_at vs i) ≡ true
      → any (is_process (thread_at vs i).holds.process) (held_processes ws) ≡ true) where
    abbrev its_thread : Thread
    its_thread = (thread_at vs queue).holds

    its-thread : Option.get_or (first (is_thread r.thread) (held_threads vs)) no_thread ≡ its_thread
    its-thread =
        first-held free_thread (is_thread r.thread) (threads_of vs) ∙ ap (λ k. (thread_at vs k).holds) (sym at-thread)

    such-thread : any (is_thread r.thread) (held_threads vs) ≡ true
    such-thread =
        found-any (is_thread r.thread) no_thread (held_threads vs) thread_places queue (length-held_threads vs)
        at-thread
        (λ z. absurd (omega arith))

    live-thread : not (eqb its_thread.id 0) ≡ true
    unfolding is_thread
    live-thread =
        ap not (named_live r.thread its_thread.id
        (held_found (is_thread r.thread) free_thread (threads_of vs) queue at-thread
        (rw (length-threads_of vs) inside)))

    -- the place of its process
    abbrev place : ℕ
    place = get_or owners queue 0

    at-owner : place ≡ find (is_process its_thread.process) (held_processes ws)
    unfolding owner_place
    at-owner = owner queue inside live-thread

    pub owner-inside : place < process_places
    owner-inside =
        rw at-owner
        (any-inside (is_process its_thread.process) (held_processes ws) process_places (length-held_processes ws)
        (owned queue inside live-thread))

    owner-id : (process_at ws place).holds.id ≡ its_thread.process
    unfolding is_process
    owner-id =
        let p : ℕ = its_thread.process in
        eqb-true (process_at ws place).holds.id p
        (and-snd (not (eqb p 0)) (eqb (process_at ws place).holds.id p)
        (held_found (is_process p) free_process (processes_of ws) place at-owner
        (rw (length-processes_of ws) owner-inside)))

    module _ (w : ℕ) (ew : w ≡ get_or (head_to (process_at ws place)) word_of_id 0) where
      its-owner : its_thread.process ≡ w
      unfolding head_to
      its-owner = sym (ew ∙ owner-id)

      of-thread : (the_thread (places_view (processes_of ws) (threads_of vs)) r.thread).process ≡ w
      unfolding the_thread view
      of-thread = ap (λ (t : Thread). t.process) its-thread ∙ its-owner

      pub of-another : (w ≡ r.process → ⊥) → thread_record_ok (processes_of ws) (threads_of vs) r ≡ false
      unfolding thread_record_ok aimed_at_thread
      of-another z =
          rw (of-thread, ne_eqb w r.process z)
          (sym (no-aim-there (names_live (places_view (processes_of ws) (threads_of vs)) r)
          (live_thread (places_view (processes_of ws) (threads_of vs)) r.thread)
          (record_not_ignored (places_view (processes_of ws) (threads_of vs)) r)))

      module _ (z : w ≡ r.process) where
        at_place : place ≡ find (is_process r.process) (held_processes ws)
        at_place = at-owner ∙ ap (λ k. find (is_process k) (held_processes ws)) (its-owner ∙ z)

        pub owner-place : place ≡ process_place (processes_of ws) r
        unfolding process_place
        owner-place = at_place

        pub thread-delivered : (ignored : List SigSet) → IgnoredNoted (processes_of ws) process_places ignored
            → is_delivered (get_or ignored place empty) r ≡ thread_record_ok (processes_of ws) (threads_of vs) r
        unfolding thread_record_ok aimed_at_thread names_live record_not_ignored live_process live_thread the_process
            view
        thread-delivered ignored known =
            let live = such-process ws r place at_place owner-inside in
            ap (λ i. is_delivered i r) (known place owner-inside (live-place ws r place at_place owner-inside))
            ∙ delivered (process_at ws place).holds r
            ∙ rw (live, such-thread, of-thread, eq-eqb w r.process z, its-process ws r place at_place)
            (all_there true (eqb r.code si_queue) (nameable r.signal) _)

-- ---- the places, as they were noted

module _ (p : SoundPlaces) (r : Siginfo) where
  abbrev ws : List ℕ
  ws = p.processes.words.now

  abbrev vs : List ℕ
  vs = p.threads.words.now

  one : one_place (held_processes ws)
  one =
      one-process (process_by p.processes.hints.now ws) (thread_by p.threads.hints.now vs) (processes_of ws)
      (threads_of vs) (length-processes_of ws) (length-threads_of vs) p.sound

  single : (n : ℕ) → count (is_thread n) (held_threads vs) ≤ 1
  single =
      one-thread (process_by p.processes.hints.now ws) (thread_by p.threads.hints.now vs) (processes_of ws)
      (threads_of vs) (length-processes_of ws) (length-threads_of vs) p.sound

  its-process-live : (i : ℕ) → i < thread_places → is_live thread_id (thread_at vs i) ≡ true
      → any (is_process (thread_at vs i).holds.process) (held_processes ws) ≡ true
  its-process-live =
      owned (process_by p.processes.hints.now ws) (thread_by p.threads.hints.now vs) (processes_of ws)
      (threads_of vs) (length-processes_of ws) (length-threads_of vs) p.sound

  -- a record whose process is in this place, if it is one of the process buffer
  pub record ProcessFound (place : ℕ) : Type 0 where
    pub at : place ≡ process_place (processes_of ws) r
    pub delivery : (eqb r.thread 0 && is_delivered (get_or p.ignored place empty) r)
        ≡ process_record_ok (processes_of ws) r

  pub found-process : (place : ℕ)
      → (place < process_places) × (place ≡ process_by p.processes.hints.now ws r.process)
      → ProcessFound place
  found-process place e =
      let t = p.processes in
      record {
        at = process-place ws t.hints.now p.ignored t.hinted one p.ignored_noted r place e.1;
        delivery = process-delivered ws t.hints.now p.ignored t.hinted one p.ignored_noted r place e.1 e.0;
      }

  pub process-lost : process_by p.processes.hints.now ws r.process ≡ process_places
      → process_record_ok (processes_of ws) r ≡ false
  process-lost =
      no-process-found ws p.processes.hints.now p.ignored p.processes.hinted one p.ignored_noted r _ refl

  -- a record whose thread is in this place, if it is one of the thread buffer
  pub record ThreadFound (queue : ℕ) : Type 0 where
    pub inside : get_or p.owners queue 0 < process_places
    pub at : queue ≡ thread_place (threads_of vs) r
    pub of_another : (w : ℕ) → w ≡ get_or (head_to (process_at ws (get_or p.owners queue 0))) word_of_id 0
        → (w ≡ r.process → ⊥)
        → thread_record_ok (processes_of ws) (threads_of vs) r ≡ false
    pub process : (w : ℕ) → w ≡ get_or (head_to (process_at ws (get_or p.owners queue 0))) word_of_id 0
        → w ≡ r.process
        → get_or p.owners queue 0 ≡ process_place (processes_of ws) r
    pub delivery : (w : ℕ) → w ≡ get_or (head_to (process_at ws (get_or p.owners queue 0))) word_of_id 0
        → w ≡ r.process
        → is_delivered (get_or p.ignored (get_or p.owners queue 0) empty) r
        ≡ thread_record_ok (processes_of ws) (threads_of vs) r

  pub found-thread : (queue : ℕ) → (queue < thread_places) × (queue ≡ thread_by p.threads.hints.now vs r.thread)
      → ThreadFound queue
  found-thread queue e =
      let th = p.threads.hints.now in
      let h = p.threads.hinted in
      record {
        inside = owner-inside ws vs th h single r queue e.1 e.0 p.owners p.owners_noted its-process-live;
        at = thread-place ws vs th h single r queue e.1;
        of_another = of-another ws vs th h single r queue e.1 e.0 p.owners p.owners_noted its-process-live;
        process = owner-place ws vs th h single r queue e.1 e.0 p.owners p.owners_noted its-process-live;
        delivery =
            λ w ew z.
            thread-delivered ws vs th h single r queue e.1 e.0 p.owners p.owners_noted its-process-live w ew z p.ignored
            p.ignored_noted;
      }

  pub thread-lost : thread_by p.threads.hints.now vs r.thread ≡ thread_places
      → thread_record_ok (processes_of ws) (threads_of vs) r ≡ false
  thread-lost = no-thread-found ws vs p.threads.hints.now p.threads.hinted single r _ refl
