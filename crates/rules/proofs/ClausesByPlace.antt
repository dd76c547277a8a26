-- A sound store place by place and record by record: what is taken from one, and what makes one. Assumes nothing.
use Prim.Native.Nat.{◌-◌, ◌≤◌}
use mathlib.Core.Path.{◌≡◌, refl}
use mathlib.Core.Bool.{Bool, true}
use mathlib.Core.List.{List}
use lib.ListN.{length, replicate, length-replicate}
use borrow.Author.Tests.{eq-eqb, le-leb}
use Rattle.limits.specs.Limits.{process_places, thread_places, buffer_records, signals, record_limit, SIGKILL, SIGSTOP}
use Rattle.lists.specs.Lists.{all, pairs_where, All}
use Rattle.lists.proofs.Bools.{and_both, imp-by}
use Rattle.lists.proofs.Lists.{Pass, All-imp, All-each, All-all, all_get_d, all_replicate}
use Rattle.lists.proofs.Loops.{all-at}
use Rattle.types.specs.declared.Siginfo.{Siginfo}
use Rattle.types.specs.declared.Action.{Action}
use Rattle.types.specs.Values.{default_action, no_siginfo}
use Rattle.rules.specs.Types.{Process, Thread}
use Rattle.rules.specs.View.{action_of}
use Rattle.rules.specs.Store.{Place, Store, free_process, free_thread, used, queued_in, view}
use Rattle.rules.specs.Sound.{is_live, apart, if_live, if_free, process_id, thread_id, actions_long, is_default}
use Rattle.rules.specs.Sound.{zero_process, zero_thread, good_process_id, good_thread_id, good_user, fields_fit}
use Rattle.rules.specs.Sound.{belongs}
use Rattle.rules.specs.Sound.{has_thread, action_unmasked, process_unmasked, thread_unmasked, kill_stop_default}
use Rattle.rules.specs.Sound.{flags_known, process_flags_known, rest_zero, aimed_at_thread, aimed_at_process}
use Rattle.rules.specs.Sound.{within_limit}
use Rattle.rules.specs.Sound.{is_standard, not_twice, not_marked_too, record_not_ignored, process_not_ignored}
use Rattle.rules.specs.Sound.{thread_not_ignored, sound}
use Rattle.rules.proofs.ClausesByTable.{Parts, parts, sound-of}
use Rattle.rules.proofs.Unmaskable.{unmasked-empty}

-- what is asked of a process place alone
pub record OwnProcess (x : Place Process) : Type 0 where
  pub long : actions_long x ≡ true
  pub free : if_free process_id zero_process x ≡ true
  pub ids : if_live process_id good_process_id x ≡ true
  pub fields : fields_fit x ≡ true
  pub sets : process_unmasked x ≡ true
  pub defaults : kill_stop_default x ≡ true
  pub flags : process_flags_known x ≡ true
  pub not-ignored : if_live process_id process_not_ignored x ≡ true

-- what is asked of a thread place alone
pub record OwnThread (x : Place Thread) : Type 0 where
  pub free : if_free thread_id zero_thread x ≡ true
  pub ids : if_live thread_id good_thread_id x ≡ true
  pub sets : thread_unmasked x ≡ true

-- a free place has it
pub own-free-process : OwnProcess free_process
unfolding actions_long zero_process is_default good_user fields_fit process_unmasked action_unmasked kill_stop_default
    action_of
    process_flags_known flags_known
own-free-process =
    let l : List Action = replicate signals default_action in
    let a : all is_default l ≡ true = all_replicate is_default default_action refl signals in
    record {
      long = eq-eqb (length l) signals (length-replicate signals default_action);
      free = a;
      ids = refl;
      fields = refl;
      sets = and_both unmasked-empty (all_replicate action_unmasked default_action unmasked-empty signals);
      defaults =
          and_both (all_get_d is_default l (SIGKILL - 1) default_action refl a)
          (all_get_d is_default l (SIGSTOP - 1) default_action refl a);
      flags = all_replicate flags_known default_action refl signals;
      not-ignored = refl;
    }

pub own-free-thread : OwnThread free_thread
unfolding zero_thread thread_unmasked
own-free-thread = record { free = refl; ids = refl; sets = and_both unmasked-empty unmasked-empty }

-- what is asked of a buffer's slots alone
pub record Laid (slots : List Siginfo) : Type 0 where
  pub long : length slots ≡ buffer_records
  pub rest : rest_zero slots ≡ true
  pub once : pairs_where is_standard not_twice (used slots) ≡ true

module _ (st : Store) where
  -- and with the rest of the store
  pub record GoodProcess (x : Place Process) : Type 0 where
    pub own : OwnProcess x
    pub limit : if_live process_id (within_limit st) x ≡ true

  pub record GoodThread (x : Place Thread) : Type 0 where
    pub own : OwnThread x
    pub owned : if_live thread_id (belongs (view st)) x ≡ true
    pub not-ignored : if_live thread_id (thread_not_ignored (view st)) x ≡ true

  pub record GoodRecord (aimed_right : Siginfo → Bool) (r : Siginfo) : Type 0 where
    pub aimed : aimed_right r ≡ true
    pub unmarked : not_marked_too st r ≡ true
    pub not-ignored : record_not_ignored (view st) r ≡ true

  pub record GoodBuffer (aimed_right : Siginfo → Bool) (slots : List Siginfo) : Type 0 where
    pub laid : Laid slots
    pub records : All (GoodRecord aimed_right) (used slots)

  -- all of soundness but that each process has a thread
  pub record Good : Type 0 where
    pub processes_long : length st.processes ≡ process_places
    pub processes : All GoodProcess st.processes
    pub process_apart : pairs_where (is_live process_id) (apart process_id) st.processes ≡ true
    pub threads_long : length st.threads ≡ thread_places
    pub threads : All GoodThread st.threads
    pub thread_apart : pairs_where (is_live thread_id) (apart thread_id) st.threads ≡ true
    pub thread_buffer : GoodBuffer (aimed_at_thread (view st)) st.thread_buffer
    pub process_buffer : GoodBuffer (aimed_at_process (view st)) st.process_buffer

  abbrev pub HaveThreads : Type 0
  HaveThreads = All (Pass (if_live process_id (has_thread (view st)))) st.processes

  pub limit-by : (x : Place Process) → queued_in st x.holds.id ≤ record_limit
      → if_live process_id (within_limit st) x ≡ true
  limit-by x h = imp-by (is_live process_id x) (λ _. le-leb (queued_in st x.holds.id) record_limit h)

  -- ---- from a sound store

  records-of : (aimed : Siginfo → Bool) (rs : List Siginfo) → all aimed rs ≡ true → all (not_marked_too st) rs ≡ true
      → all (record_not_ignored (view st)) rs ≡ true
      → All (GoodRecord aimed) rs
  records-of aimed rs a u h =
      All-each (GoodRecord aimed) rs no_siginfo
      (λ i l.
      record {
        aimed = all-at aimed no_siginfo rs i l a;
        unmarked = all-at (not_marked_too st) no_siginfo rs i l u;
        not-ignored = all-at (record_not_ignored (view st)) no_siginfo rs i l h;
      })

  good_of : Parts st → Good
  good_of p =
      record {
        processes_long = p.lengths.processes;
        processes =
            All-each GoodProcess st.processes free_process
            (λ i l.
            let at : (f : Place Process → Bool) → all f st.processes ≡ true → _ =
            λ f a. all-at f free_process st.processes i l a in
            record {
              own =
                  record {
                    long = at actions_long p.lengths.actions;
                    free = at (if_free process_id zero_process) p.process_free;
                    ids = at (if_live process_id good_process_id) p.process_ids;
                    fields = at fields_fit p.fields;
                    sets = at process_unmasked p.process_sets;
                    defaults = at kill_stop_default p.defaults;
                    flags = at process_flags_known p.flags;
                    not-ignored = at (if_live process_id process_not_ignored) p.process_marks_not_ignored;
                  };
              limit = at (if_live process_id (within_limit st)) p.limit;
            });
        process_apart = p.process_apart;
        threads_long = p.lengths.threads;
        threads =
            All-each GoodThread st.threads free_thread
            (λ i l.
            let at : (f : Place Thread → Bool) → all f st.threads ≡ true → _ =
            λ f a. all-at f free_thread st.threads i l a in
            record {
              own =
                  record {
                    free = at (if_free thread_id zero_thread) p.thread_free;
                    ids = at (if_live thread_id good_thread_id) p.thread_ids;
                    sets = at thread_unmasked p.thread_sets;
                  };
              owned = at (if_live thread_id (belongs (view st))) p.owned;
              not-ignored = at (if_live thread_id (thread_not_ignored (view st))) p.thread_marks_not_ignored;
            });
        thread_apart = p.thread_apart;
        thread_buffer =
            record {
              laid = record { long = p.lengths.thread_slots; rest = p.thread_rest; once = p.thread_once };
              records =
                  records-of (aimed_at_thread (view st)) (used st.thread_buffer) p.thread_aimed p.thread_unmarked
                  p.thread_records_not_ignored;
            };
        process_buffer =
            record {
              laid = record { long = p.lengths.process_slots; rest = p.process_rest; once = p.process_once };
              records =
                  records-of (aimed_at_process (view st)) (used st.process_buffer) p.process_aimed
                  p.process_unmarked p.process_records_not_ignored;
            };
      }

  pub good : sound st ≡ true → Good
  good e = good_of (parts st e)

  pub have-threads : sound st ≡ true → HaveThreads
  have-threads e =
      All-each (Pass (if_live process_id (has_thread (view st)))) st.processes free_process
      (λ i l. all-at (if_live process_id (has_thread (view st))) free_process st.processes i l
      (parts st e).have-threads)

  -- ---- to a sound store

  of_records : (aims : Siginfo → Bool) (slots : List Siginfo) → GoodBuffer aims slots → (f : Siginfo → Bool)
      → ((r : Siginfo) → GoodRecord aims r → f r ≡ true)
      → all f (used slots) ≡ true
  of_records aims slots b f h = All-all f (used slots) (All-imp (GoodRecord aims) (Pass f) h (used slots) b.records)

  module _ (g : Good) where
    of_processes : (f : Place Process → Bool) → ((x : Place Process) → GoodProcess x → f x ≡ true)
        → all f st.processes ≡ true
    of_processes f h = All-all f st.processes (All-imp GoodProcess (Pass f) h st.processes g.processes)

    of_threads : (f : Place Thread → Bool) → ((x : Place Thread) → GoodThread x → f x ≡ true)
        → all f st.threads ≡ true
    of_threads f h = All-all f st.threads (All-imp GoodThread (Pass f) h st.threads g.threads)

    pub good-sound : HaveThreads → sound st ≡ true
    good-sound p =
        sound-of st
        (record {
          lengths =
              record {
                processes = g.processes_long;
                actions = of_processes actions_long (λ x k. k.own.long);
                threads = g.threads_long;
                thread_slots = g.thread_buffer.laid.long;
                process_slots = g.process_buffer.laid.long;
              };
          process_free = of_processes (if_free process_id zero_process) (λ x k. k.own.free);
          process_ids = of_processes (if_live process_id good_process_id) (λ x k. k.own.ids);
          process_apart = g.process_apart;
          fields = of_processes fields_fit (λ x k. k.own.fields);
          have-threads = All-all (if_live process_id (has_thread (view st))) st.processes p;
          process_sets = of_processes process_unmasked (λ x k. k.own.sets);
          defaults = of_processes kill_stop_default (λ x k. k.own.defaults);
          flags = of_processes process_flags_known (λ x k. k.own.flags);
          limit = of_processes (if_live process_id (within_limit st)) (λ x k. k.limit);
          process_marks_not_ignored = of_processes (if_live process_id process_not_ignored) (λ x k. k.own.not-ignored);
          thread_free = of_threads (if_free thread_id zero_thread) (λ x k. k.own.free);
          thread_ids = of_threads (if_live thread_id good_thread_id) (λ x k. k.own.ids);
          thread_apart = g.thread_apart;
          owned = of_threads (if_live thread_id (belongs (view st))) (λ x k. k.owned);
          thread_sets = of_threads thread_unmasked (λ x k. k.own.sets);
          thread_marks_not_ignored = of_threads (if_live thread_id (thread_not_ignored (view st)))
              (λ x k. k.not-ignored);
          thread_rest = g.thread_buffer.laid.rest;
          thread_aimed =
              of_records (aimed_at_thread (view st)) st.thread_buffer g.thread_buffer (aimed_at_thread (view st))
              (λ r k. k.aimed);
          thread_once = g.thread_buffer.laid.once;
          thread_unmarked =
              of_records (aimed_at_thread (view st)) st.thread_buffer g.thread_buffer (not_marked_too st)
              (λ r k. k.unmarked);
          thread_records_not_ignored =
              of_records (aimed_at_thread (view st)) st.thread_buffer g.thread_buffer (record_not_ignored (view st))
              (λ r k. k.not-ignored);
          process_rest = g.process_buffer.laid.rest;
          process_aimed =
              of_records (aimed_at_process (view st)) st.process_buffer g.process_buffer (aimed_at_process (view st))
              (λ r k. k.aimed);
          process_once = g.process_buffer.laid.once;
          process_unmarked =
              of_records (aimed_at_process (view st)) st.process_buffer g.process_buffer (not_marked_too st)
              (λ r k. k.unmarked);
          process_records_not_ignored =
              of_records (aimed_at_process (view st)) st.process_buffer g.process_buffer (record_not_ignored (view st))
              (λ r k. k.not-ignored);
        })
