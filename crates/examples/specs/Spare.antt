-- Free places and unused slots behind what is in the tables: no clause of soundness but that of the lengths asks how
-- many there are. So a store is written down without them, and its clauses computed, whatever the capacities.
-- Assumes nothing.
use Rattle.std.specs.Prelude.{ℕ, ◌+◌, ◌-◌, ◌≡◌, Bool, true, false, ◌&&◌, ◌||◌, leb, length, drop, replicate}
use Rattle.std.proofs.Math.Path.{refl, ap, ap₂}
use Rattle.std.proofs.Common.{◌∙◌, leb-true}
use Rattle.std.proofs.Math.Bool.{not}
use mathlib.Core.List.{List, [], ◌∷◌, ◌++◌, map}
use Rattle.std.proofs.Math.Option.{Option, get_or}
use Rattle.std.proofs.Math.Dec.{eqb}
use Rattle.std.proofs.lemmas.List.{drop-append-le}
use Rattle.limits.specs.Limits.{process_places, thread_places, buffer_records, record_limit, si_queue}
use Rattle.lists.specs.Lists.{all, any, first, pairs_where, count, padded}
use Rattle.lists.proofs.Bools.{and-fst, and-snd, and_same}
use Rattle.lists.proofs.Lists.{all_same, leading-behind, length-padded}
use Rattle.lists.proofs.Padded.{all-behind, all-padded, any-padded, first-padded, pairs_where-padded, map-padded}
use Rattle.types.specs.declared.Siginfo.{Siginfo}
use Rattle.types.specs.Values.{no_siginfo}
use Rattle.rules.specs.Types.{Process, Thread, Queue, no_process, no_thread}
use Rattle.rules.specs.View.{View, is_process, is_thread, belongs_to, live_process, live_thread, the_process}
use Rattle.rules.specs.View.{the_thread}
use Rattle.rules.specs.View.{queue_of, action_of, thread_action}
use Rattle.rules.specs.Store.{Place, Store, held, free_process, free_thread, in_use, used, process_mark, thread_mark}
use Rattle.rules.specs.Store.{mark_in}
use Rattle.rules.specs.Store.{queued_in, of_process, view}
use Rattle.rules.specs.Signals.{is_signal, ignored}
use Rattle.rules.specs.Sound.{implies, if_live, if_free, is_live, apart, process_id, thread_id, actions_long}
use Rattle.rules.specs.Sound.{lengths_right}
use Rattle.rules.specs.Sound.{zero_process, zero_thread, free_zero}
use Rattle.rules.specs.Sound.{good_process_id, good_thread_id, ids_in_range, ids_distinct, fields_fit, fields_in_range}
use Rattle.rules.specs.Sound.{belongs}
use Rattle.rules.specs.Sound.{has_thread, threads_owned, processes_have_threads, process_unmasked, thread_unmasked}
use Rattle.rules.specs.Sound.{nothing_unmaskable, kill_stop_default, unmaskable_default, process_flags_known}
use Rattle.rules.specs.Sound.{all_flags_known}
use Rattle.rules.specs.Sound.{is_zero, rest_zero, nameable, names_live, aimed_at_thread, aimed_at_process}
use Rattle.rules.specs.Sound.{records_laid_out}
use Rattle.rules.specs.Sound.{within_limit, limit_kept, is_standard, not_twice, not_marked_too, pending_once}
use Rattle.rules.specs.Sound.{record_not_ignored}
use Rattle.rules.specs.Sound.{marks_not_ignored, process_not_ignored, thread_not_ignored, nothing_ignored}
use Rattle.rules.proofs.ClausesByPlace.{own-free-process, own-free-thread}
use Rattle.rules.proofs.Cleared.{no-id}
use Rattle.rules.proofs.Slots.{length-used}
use Rattle.rules.proofs.Vacated.{free-process-unmarked, free-thread-unmarked}

-- so many places in each table, so many slots in each buffer
pub record Room : Type 0 where
  pub processes : ℕ
  pub threads : ℕ
  pub thread_slots : ℕ
  pub process_slots : ℕ

-- the store with all that room: what is not there is free or unused
unfoldable pub in_room : Room → Store → Store
in_room n st =
    record {
      processes = padded free_process n.processes st.processes;
      threads = padded free_thread n.threads st.threads;
      thread_buffer = padded no_siginfo n.thread_slots st.thread_buffer;
      process_buffer = padded no_siginfo n.process_slots st.process_buffer;
    }

-- the room that errno 14 asks for
abbrev pub whole_room : Room
whole_room =
    record {
      processes = process_places;
      threads = thread_places;
      thread_slots = buffer_records;
      process_slots = buffer_records;
    }

-- what is there has room
unfoldable pub fits : Room → Store → Bool
fits n st =
    leb (length st.processes) n.processes
    && (leb (length st.threads) n.threads
    && (leb (length st.thread_buffer) n.thread_slots && leb (length st.process_buffer) n.process_slots))

-- the clause of the lengths, of a store in that room
unfoldable pub lengths_in : Room → Store → Bool
lengths_in n st =
    eqb n.processes process_places
    && (all actions_long st.processes
    && (eqb n.threads thread_places
    && (eqb n.thread_slots buffer_records && eqb n.process_slots buffer_records)))

-- what each of the other clauses says, in the order of `sound`
unfoldable pub contents : Store → List Bool
contents st =
    free_zero st ∷ ids_in_range st ∷ ids_distinct st ∷ fields_in_range st ∷ threads_owned st ∷ processes_have_threads st
    ∷ nothing_unmaskable st ∷ unmaskable_default st ∷ all_flags_known st ∷ records_laid_out st ∷ limit_kept st
    ∷ pending_once st ∷ nothing_ignored st ∷ []

-- ---- what is found in a table

module _ {A : Type 0} (free : Place A) (n : ℕ) (xs : List (Place A)) (p : A → Bool) (z : p free.holds ≡ false) where
  any_held : any p (map held (padded free n xs)) ≡ any p (map held xs)
  any_held = ap (any p) (map-padded free n xs held) ∙ any-padded free.holds n (map held xs) p z

  first-held : first p (map held (padded free n xs)) ≡ first p (map held xs)
  first-held = ap (first p) (map-padded free n xs held) ∙ first-padded free.holds n (map held xs) p z

module _ (n : Room) (st : Store) where
  abbrev roomy : View
  roomy = view (in_room n st)

  same-process : (k : ℕ) → live_process roomy k ≡ live_process (view st) k
  unfolding live_process is_process view in_room
  same-process k = any_held free_process n.processes st.processes (is_process k) (no-id k)

  same-thread : (k : ℕ) → live_thread roomy k ≡ live_thread (view st) k
  unfolding live_thread is_thread view in_room
  same-thread k = any_held free_thread n.threads st.threads (is_thread k) (no-id k)

  same-threads-of : (k : ℕ) → any (belongs_to k) roomy.threads ≡ any (belongs_to k) (view st).threads
  unfolding belongs_to view in_room
  same-threads-of k = any_held free_thread n.threads st.threads (belongs_to k) (no-id k)

  same-the_process : (k : ℕ) → the_process roomy k ≡ the_process (view st) k
  unfolding the_process is_process view in_room
  same-the_process k =
      ap (λ (o : Option Process). get_or o no_process)
      (first-held free_process n.processes st.processes (is_process k) (no-id k))

  same-the_thread : (k : ℕ) → the_thread roomy k ≡ the_thread (view st) k
  unfolding the_thread is_thread view in_room
  same-the_thread k =
      ap (λ (o : Option Thread). get_or o no_thread)
      (first-held free_thread n.threads st.threads (is_thread k) (no-id k))

  same-mark : (q : Queue) (s : ℕ) → mark_in (in_room n st) q s ≡ mark_in st q s
  unfolding mark_in in_room
  same-mark q s =
      ap₂ (λ (a b : Bool). is_signal s && (a || b))
      (any-padded free_process n.processes st.processes (process_mark q s) (free-process-unmarked q s))
      (any-padded free_thread n.threads st.threads (thread_mark q s) (free-thread-unmarked q s))

-- ---- the slots

same-used : (k : ℕ) (slots : List Siginfo) → used (padded no_siginfo k slots) ≡ used slots
unfolding used padded in_use
same-used k slots = leading-behind in_use no_siginfo refl (k - length slots) slots

same_rest : (k : ℕ) (slots : List Siginfo) → rest_zero (padded no_siginfo k slots) ≡ rest_zero slots
unfolding rest_zero is_zero padded
same_rest k slots =
    let m : ℕ = k - length slots in
    let more : List Siginfo = replicate m no_siginfo in
    ap (λ (rs : List Siginfo). all is_zero (drop (length rs) (slots ++ more))) (same-used k slots)
    ∙ ap (all is_zero) (drop-append-le (length (used slots)) slots more (length-used slots))
    ∙ all-behind no_siginfo m is_zero refl (drop (length (used slots)) slots)

-- ---- the clauses

long : {A : Type 0} (d : A) (n : ℕ) (xs : List A) (k : ℕ) → leb (length xs) n ≡ true
    → eqb (length (padded d n xs)) k ≡ eqb n k
long d n xs k f = ap (λ (m : ℕ). eqb m k) (length-padded d n xs (leb-true (length xs) n f))

module _ (n : Room) (st : Store) where
  abbrev st' : Store
  st' = in_room n st

  all-processes : (p : Place Process → Bool) → p free_process ≡ true → all p st'.processes ≡ all p st.processes
  unfolding in_room
  all-processes p z = all-padded free_process n.processes st.processes p z

  all-threads : (p : Place Thread → Bool) → p free_thread ≡ true → all p st'.threads ≡ all p st.threads
  unfolding in_room
  all-threads p z = all-padded free_thread n.threads st.threads p z

  pub same-lengths : fits n st ≡ true → lengths_right st' ≡ lengths_in n st
  unfolding lengths_right lengths_in in_room fits
  same-lengths f =
      let f₁ = and-snd (leb (length st.processes) n.processes) _ f in
      let f₂ = and-snd (leb (length st.threads) n.threads) _ f₁ in
      and_same (long free_process n.processes st.processes process_places (and-fst _ _ f))
      (and_same (all-processes actions_long own-free-process.long)
      (and_same (long free_thread n.threads st.threads thread_places (and-fst _ _ f₁))
      (and_same (long no_siginfo n.thread_slots st.thread_buffer buffer_records (and-fst _ _ f₂))
      (long no_siginfo n.process_slots st.process_buffer buffer_records
      (and-snd (leb (length st.thread_buffer) n.thread_slots) _ f₂)))))

  same-free : free_zero st' ≡ free_zero st
  unfolding free_zero
  same-free =
      and_same (all-processes (if_free process_id zero_process) own-free-process.free)
      (all-threads (if_free thread_id zero_thread) own-free-thread.free)

  same-range : ids_in_range st' ≡ ids_in_range st
  unfolding ids_in_range
  same-range =
      and_same (all-processes (if_live process_id good_process_id) own-free-process.ids)
      (all-threads (if_live thread_id good_thread_id) own-free-thread.ids)

  same-distinct : ids_distinct st' ≡ ids_distinct st
  unfolding ids_distinct in_room
  same-distinct =
      and_same
      (pairs_where-padded free_process n.processes st.processes (is_live process_id) refl (apart process_id)
      (λ x e. e))
      (pairs_where-padded free_thread n.threads st.threads (is_live thread_id) refl (apart thread_id) (λ x e. e))

  same-fields : fields_in_range st' ≡ fields_in_range st
  unfolding fields_in_range
  same-fields = all-processes fields_fit own-free-process.fields

  same-owned : threads_owned st' ≡ threads_owned st
  unfolding threads_owned belongs
  same-owned =
      all-threads (if_live thread_id (belongs (view st'))) refl
      ∙ all_same (if_live thread_id (belongs (view st'))) (if_live thread_id (belongs (view st))) st.threads
      (λ x. ap (implies (is_live thread_id x)) (same-process n st x.holds.process))

  same-have-threads : processes_have_threads st' ≡ processes_have_threads st
  unfolding processes_have_threads has_thread
  same-have-threads =
      all-processes (if_live process_id (has_thread (view st'))) refl
      ∙ all_same (if_live process_id (has_thread (view st'))) (if_live process_id (has_thread (view st))) st.processes
      (λ x. ap (implies (is_live process_id x)) (same-threads-of n st x.holds.id))

  same-unmasked : nothing_unmaskable st' ≡ nothing_unmaskable st
  unfolding nothing_unmaskable
  same-unmasked =
      and_same (all-processes process_unmasked own-free-process.sets)
      (all-threads thread_unmasked own-free-thread.sets)

  same-defaults : unmaskable_default st' ≡ unmaskable_default st
  unfolding unmaskable_default
  same-defaults = all-processes kill_stop_default own-free-process.defaults

  same_flags : all_flags_known st' ≡ all_flags_known st
  unfolding all_flags_known
  same_flags = all-processes process_flags_known own-free-process.flags

  used-threads : used st'.thread_buffer ≡ used st.thread_buffer
  unfolding in_room
  used-threads = same-used n.thread_slots st.thread_buffer

  used-processes : used st'.process_buffer ≡ used st.process_buffer
  unfolding in_room
  used-processes = same-used n.process_slots st.process_buffer

  -- two tests that are one, on the records of either buffer
  module _ (p q : Siginfo → Bool) (h : (r : Siginfo) → p r ≡ q r) where
    all-thread-records : all p (used st'.thread_buffer) ≡ all q (used st.thread_buffer)
    all-thread-records = ap (all p) used-threads ∙ all_same p q (used st.thread_buffer) h

    all-process-records : all p (used st'.process_buffer) ≡ all q (used st.process_buffer)
    all-process-records = ap (all p) used-processes ∙ all_same p q (used st.process_buffer) h

  same_names : (r : Siginfo) → names_live (view st') r ≡ names_live (view st) r
  unfolding names_live
  same_names r =
      ap (λ (b : Bool). eqb r.code si_queue && (nameable r.signal && b)) (same-process n st r.process)

  same-aimed_at_thread : (r : Siginfo) → aimed_at_thread (view st') r ≡ aimed_at_thread (view st) r
  unfolding aimed_at_thread
  same-aimed_at_thread r =
      and_same (same_names r)
      (ap₂ (λ (b : Bool) (t : Thread). b && eqb t.process r.process) (same-thread n st r.thread)
      (same-the_thread n st r.thread))

  same-aimed_at_process : (r : Siginfo) → aimed_at_process (view st') r ≡ aimed_at_process (view st) r
  unfolding aimed_at_process
  same-aimed_at_process r = ap (λ (b : Bool). b && eqb r.thread 0) (same_names r)

  same-laid-out : records_laid_out st' ≡ records_laid_out st
  unfolding records_laid_out in_room
  same-laid-out =
      and_same (same_rest n.thread_slots st.thread_buffer)
      (and_same (same_rest n.process_slots st.process_buffer)
      (and_same (all-thread-records (aimed_at_thread (view st')) (aimed_at_thread (view st)) same-aimed_at_thread)
      (all-process-records (aimed_at_process (view st')) (aimed_at_process (view st)) same-aimed_at_process)))

  same-queued : (p : ℕ) → queued_in st' p ≡ queued_in st p
  unfolding queued_in
  same-queued p =
      ap₂ (λ (a b : List Siginfo). count (of_process p) a + count (of_process p) b) used-threads used-processes

  same-limit : limit_kept st' ≡ limit_kept st
  unfolding limit_kept
  same-limit =
      all-processes (if_live process_id (within_limit st')) refl
      ∙ all_same (if_live process_id (within_limit st')) (if_live process_id (within_limit st)) st.processes
      (λ x. ap (λ (k : ℕ). implies (is_live process_id x) (leb k record_limit)) (same-queued x.holds.id))

  same-marked-too : (r : Siginfo) → not_marked_too st' r ≡ not_marked_too st r
  unfolding not_marked_too
  same-marked-too r = ap (λ (b : Bool). implies (is_standard r) (not b)) (same-mark n st (queue_of r) r.signal)

  same_once : pending_once st' ≡ pending_once st
  unfolding pending_once
  same_once =
      and_same (ap (pairs_where is_standard not_twice) used-threads)
      (and_same (ap (pairs_where is_standard not_twice) used-processes)
      (and_same (all-thread-records (not_marked_too st') (not_marked_too st) same-marked-too)
      (all-process-records (not_marked_too st') (not_marked_too st) same-marked-too)))

  same-record-ignored : (r : Siginfo) → record_not_ignored (view st') r ≡ record_not_ignored (view st) r
  unfolding record_not_ignored
  same-record-ignored r =
      ap (λ (p : Process). not (ignored (action_of p r.signal) r.signal)) (same-the_process n st r.process)

  same-thread-ignored : (x : Place Thread) → thread_not_ignored (view st') x ≡ thread_not_ignored (view st) x
  unfolding thread_action
  same-thread-ignored x =
      ap (λ (p : Process). marks_not_ignored x.marks (action_of p)) (same-the_process n st x.holds.process)

  same-ignored : nothing_ignored st' ≡ nothing_ignored st
  unfolding nothing_ignored
  same-ignored =
      and_same (all-processes (if_live process_id process_not_ignored) own-free-process.not-ignored)
      (and_same (all-threads (if_live thread_id (thread_not_ignored (view st'))) refl
      ∙ all_same (if_live thread_id (thread_not_ignored (view st'))) (if_live thread_id (thread_not_ignored (view st)))
      st.threads (λ x. ap (implies (is_live thread_id x)) (same-thread-ignored x)))
      (and_same (all-thread-records (record_not_ignored (view st')) (record_not_ignored (view st)) same-record-ignored)
      (all-process-records (record_not_ignored (view st')) (record_not_ignored (view st)) same-record-ignored)))

  pub same-contents : contents st' ≡ contents st
  unfolding contents
  same-contents =
      λ i.
      same-free i ∷ same-range i ∷ same-distinct i ∷ same-fields i ∷ same-owned i ∷ same-have-threads i
      ∷ same-unmasked i ∷ same-defaults i ∷ same_flags i ∷ same-laid-out i ∷ same-limit i ∷ same_once i
      ∷ same-ignored i ∷ []
