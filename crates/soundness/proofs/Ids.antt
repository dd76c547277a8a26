-- An id is found by hint as by a search, where no two places of its table have it. Assumes nothing.
use Prim.Native.Nat.{ℕ, ◌≤◌, ◌<◌}
use mathlib.Core.Path.{◌≡◌, refl, sym, ap, ◌∙◌}
use mathlib.Core.Bool.{Bool, true}
use mathlib.Core.List.{List, map}
use native.Mathlib.Omega.{arith}
use lib.ListN.{length, get_or, length-map}
use lib.Seq.{get_or-take}
use Rattle.limits.specs.Limits.{process_places, process_words, thread_places, thread_words, head_words}
use Rattle.lists.specs.Lists.{count, find}
use Rattle.lists.proofs.Lists.{count_map}
use Rattle.lists.proofs.Loops.{find_at}
use Rattle.lists.proofs.Finds.{find-map}
use Rattle.lists.proofs.Rows.{rows-map}
use Rattle.hints.specs.Hints.{Hinted, ids_of, first_word, is_id, seek}
use Rattle.hints.proofs.Laws.{seek-find}
use Rattle.rules.specs.Types.{Process, Thread}
use Rattle.rules.specs.View.{is_process, is_thread}
use Rattle.rules.specs.Store.{Place, held}
use Rattle.tables.specs.Tables.{processes_of, threads_of, held_processes, held_threads, process_from, thread_from}
use Rattle.tables.specs.Tables.{headed}
use Rattle.tables.proofs.Words.{length-processes_of, length-threads_of}
use Rattle.tables.proofs.Places.{held_at}
use Rattle.soundness.specs.Check.{process_by, thread_by}

module _ {A : Type 0} (id : A → ℕ) (xs : List (Place A)) where
  abbrev id_of : Place A → ℕ
  id_of x = id x.holds

  -- a search among the places is one among their ids
  by-hint : (hints : List ℕ) (n : ℕ) → Hinted (length xs) hints → count (λ (x : A). is_id n (id x)) (map held xs) ≤ 1
      → seek hints (map id_of xs) n ≡ find (λ (x : A). is_id n (id x)) (map held xs)
  by-hint hints n h c =
      seek-find hints (map id_of xs) n (rw (length-map xs id_of) h)
      (rw (count_map (is_id n) id_of xs, ← count_map (λ (x : A). is_id n (id x)) held xs) c)
      ∙ find-map (is_id n) id_of xs
      ∙ sym (find-map (λ (x : A). is_id n (id x)) held xs)

module _ (hints ws : List ℕ) (n : ℕ) where
  process-ids : ids_of process_words process_places ws ≡ map (λ (x : Place Process). x.holds.id) (processes_of ws)
  unfolding ids_of processes_of process_from first_word headed
  process-ids =
      rows-map process_from (λ (x : Place Process). x.holds.id) first_word
      (λ l. sym (get_or-take head_words l 0 0 (omega arith))) process_words process_places ws

  pub process-found : Hinted process_places hints → count (is_process n) (held_processes ws) ≤ 1
      → process_by hints ws n ≡ find (is_process n) (held_processes ws)
  unfolding is_process is_id
  process-found h c =
      ap (λ l. seek hints l n) process-ids
      ∙ by-hint (λ (p : Process). p.id) (processes_of ws) hints n (rw (length-processes_of ws) h) c

  thread-ids : ids_of thread_words thread_places ws ≡ map (λ (x : Place Thread). x.holds.id) (threads_of ws)
  unfolding ids_of threads_of thread_from first_word
  thread-ids =
      rows-map thread_from (λ (x : Place Thread). x.holds.id) first_word (λ l. refl) thread_words thread_places ws

  pub thread-found : Hinted thread_places hints → count (is_thread n) (held_threads ws) ≤ 1
      → thread_by hints ws n ≡ find (is_thread n) (held_threads ws)
  unfolding is_thread is_id
  thread-found h c =
      ap (λ l. seek hints l n) thread-ids
      ∙ by-hint (λ (t : Thread). t.id) (threads_of ws) hints n (rw (length-threads_of ws) h) c

-- what a search among the places finds passes the test
pub held_found : {A : Type 0} (p : A → Bool) (d : Place A) (xs : List (Place A)) (i : ℕ) → i ≡ find p (map held xs)
    → i < length xs
    → p (get_or xs i d).holds ≡ true
held_found p d xs i e h =
    ap p (sym (held_at xs i d) ∙ ap (λ k. get_or (map held xs) k d.holds) e)
    ∙ find_at p d.holds (map held xs) (omega (arith, e, length-map xs held))
