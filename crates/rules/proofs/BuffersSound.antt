-- Buffers that change: what the new ones must have for a sound store to stay sound, and what records taken away leave.
-- Assumes nothing.
use Prim.Native.Nat.{ℕ, ◌+◌, ◌≤◌}
use mathlib.Core.Path.{◌≡◌, refl, ◌∙◌}
use mathlib.Core.Bool.{Bool, true}
use mathlib.Core.List.{List}
use native.Mathlib.Omega.{arith}
use Rattle.limits.specs.Limits.{buffer_records, record_limit}
use Rattle.lists.specs.Lists.{count, All}
use Rattle.lists.proofs.Lists.{Pass, All-imp, length-padded}
use Rattle.lists.proofs.Sublists.{Within, All-within, pairs_where-within, count-within, length-within}
use Rattle.types.specs.declared.Siginfo.{Siginfo}
use Rattle.types.specs.Values.{no_siginfo}
use Rattle.rules.specs.Types.{Process, Thread}
use Rattle.rules.specs.View.{View}
use Rattle.rules.specs.Store.{Place, Store, used, mark_in, of_process, queued_in, on_slots, on_buffers, view}
use Rattle.rules.specs.Sound.{if_live, process_id, has_thread, aimed_at_thread, aimed_at_process, is_standard}
use Rattle.rules.specs.Sound.{not_twice}
use Rattle.rules.specs.Sound.{not_marked_too, sound}
use Rattle.rules.proofs.ClausesByPlace.{Laid, GoodProcess, GoodThread, GoodRecord, GoodBuffer, Good, limit-by}
use Rattle.rules.proofs.ClausesByPlace.{good, have-threads, good-sound}
use Rattle.rules.proofs.PendingInView.{same-belongs, same-has_thread, same-thread_not_ignored}
use Rattle.rules.proofs.PendingInView.{same-record_not_ignored, same-aimed_at_thread, same-aimed_at_process}
use Rattle.rules.proofs.Slots.{length-used, rest-after, in_use-within, used-within, records-within}

-- ---- other buffers

abbrev pub with_buffers : (threads processes : List Siginfo) → Store → Store
with_buffers tb pb st =
    record { processes = st.processes; threads = st.threads; thread_buffer = tb; process_buffer = pb }

module _ (st : Store) (tb pb : List Siginfo) where
  abbrev new : Store
  new = with_buffers tb pb st

  abbrev v : View
  v = view st

  abbrev w : View
  w = view new

  seen-processes : w.processes ≡ v.processes
  unfolding view
  seen-processes = refl

  seen-threads : w.threads ≡ v.threads
  unfolding view
  seen-threads = refl

  -- the marks are what they were
  record-too : (aims aims' : Siginfo → Bool) → ((r : Siginfo) → aims' r ≡ aims r) → (rs : List Siginfo)
      → All (GoodRecord st aims) rs → All (GoodRecord new aims') rs
  unfolding not_marked_too mark_in
  record-too aims aims' h =
      All-imp (GoodRecord st aims) (GoodRecord new aims')
      (λ r g. record {
        aimed = h r ∙ g.aimed;
        unmarked = g.unmarked;
        not-ignored = same-record_not_ignored w v seen-processes r ∙ g.not-ignored;
      })

  thread-too : (x : Place Thread) → GoodThread st x → GoodThread new x
  thread-too x g =
      record {
        own = g.own;
        owned = rw (same-belongs w v seen-processes x) g.owned;
        not-ignored = rw (same-thread_not_ignored w v seen-processes x) g.not-ignored;
      }

  module _ (few : (p : ℕ) → count (of_process p) (used tb) + count (of_process p) (used pb) ≤ record_limit) where
    process-too : (x : Place Process) → GoodProcess st x → GoodProcess new x
    unfolding queued_in
    process-too x g = record { own = g.own; limit = limit-by new x (few x.holds.id) }

    pub buffers-sound : sound st ≡ true → GoodBuffer st (aimed_at_thread (view st)) tb
        → GoodBuffer st (aimed_at_process (view st)) pb → sound new ≡ true
    buffers-sound e t p =
        let k : Good st = good st e in
        good-sound new
        (record {
          processes_long = k.processes_long;
          processes = All-imp (GoodProcess st) (GoodProcess new) process-too st.processes k.processes;
          process_apart = k.process_apart;
          threads_long = k.threads_long;
          threads = All-imp (GoodThread st) (GoodThread new) thread-too st.threads k.threads;
          thread_apart = k.thread_apart;
          thread_buffer =
              record {
                laid = t.laid;
                records =
                    record-too (aimed_at_thread v) (aimed_at_thread w)
                    (same-aimed_at_thread w v seen-processes seen-threads)
                    (used tb) t.records;
              };
          process_buffer =
              record {
                laid = p.laid;
                records =
                    record-too (aimed_at_process v) (aimed_at_process w) (same-aimed_at_process w v seen-processes)
                    (used pb)
                    p.records;
              };
        })
        (All-imp (Pass (if_live process_id (has_thread v))) (Pass (if_live process_id (has_thread w)))
        (λ x h. rw (same-has_thread w v seen-threads x) h) st.processes (have-threads st e))

-- ---- buffers with records taken away

module _ (g : List Siginfo → List Siginfo) (w : (rs : List Siginfo) → Within (g rs) rs) where
  module _ (slots : List Siginfo) where
    pub laid-within : Laid slots → Laid (on_slots g slots)
    unfolding on_slots
    laid-within l =
        record {
          long =
              length-padded no_siginfo buffer_records (g (used slots))
              (omega (arith, length-within (w (used slots)), length-used slots, l.long));
          rest = rest-after g slots (in_use-within g w slots);
          once = rw (used-within g w slots) (pairs_where-within is_standard not_twice (w (used slots)) l.once);
        }

    pub buffer-within : (st : Store) (aims : Siginfo → Bool) → GoodBuffer st aims slots
        → GoodBuffer st aims (on_slots g slots)
    buffer-within st aims b =
        record {
          laid = laid-within b.laid;
          records = All-within (GoodRecord st aims) (records-within g w slots) b.records;
        }

    pub fewer-within : (p : ℕ) → count (of_process p) (used (on_slots g slots)) ≤ count (of_process p) (used slots)
    fewer-within p = count-within (of_process p) (records-within g w slots)

  pub queued-within : (st : Store) (p : ℕ) → queued_in (on_buffers g st) p ≤ queued_in st p
  unfolding queued_in
  queued-within st p = omega (arith, fewer-within st.thread_buffer p, fewer-within st.process_buffer p)
