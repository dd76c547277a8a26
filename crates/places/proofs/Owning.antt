-- How the test of a thread place ends, over plain variables: by the place of its process. Assumes nothing.
use Prim.Native.Nat.{ℕ, ◌<◌}
use mathlib.Core.Path.{◌≡◌, sym, ap, ◌∙◌}
use mathlib.Core.Bool.{Bool, true, false, not, ◌&&◌}
use mathlib.Core.List.{List}
use native.Mathlib.Omega.{arith}
use lib.Dec.{eqb}
use lib.ListN.{get_or}
use borrow.Author.Tests.{eq-eqb, ne_eqb, not-true}
use Rattle.limits.specs.Limits.{process_places, thread_process}
use Rattle.limits.specs.Limits.{thread_id as word_of_id}
use Rattle.lists.specs.Lists.{any}
use Rattle.lists.specs.Lists.{find as search}
use Rattle.lists.proofs.Bools.{and_left, cond-true, cond-false}
use Rattle.lists.proofs.Finds.{found-any, absent-any}
use Rattle.hints.specs.Hints.{Hinted}
use Rattle.sigset.specs.Set.{empty}
use Rattle.sigset.specs.declared.SigSet.{SigSet}
use Rattle.rules.specs.Types.{Process, no_process}
use Rattle.rules.specs.View.{is_process}
use Rattle.rules.specs.Store.{free_process}
use Rattle.rules.specs.Sound.{is_live, thread_id, zero_thread}
use Rattle.rules.proofs.Ids.{named_live}
use Rattle.tables.specs.Tables.{processes_of, threads_of, held_processes, process_at, thread_at, thread_to}
use Rattle.tables.proofs.Words.{length-processes_of, length-held_processes}
use Rattle.tables.proofs.Places.{held_at}
use Rattle.soundness.specs.Check.{one_place, process_by, ignored_by, owner_place, owner_of, live_thread_ok, thread_ok}
use Rattle.soundness.specs.Check.{thread_ok_at}
use Rattle.soundness.proofs.Ids.{process-found, held_found}
use Rattle.places.specs.Notes.{IgnoredNoted}

module _ (find : ℕ → ℕ) (ws vs : List ℕ) (place : ℕ) where
  module _ (w : ℕ) (e : w ≡ get_or (thread_to (thread_at vs place)) word_of_id 0) where
    its-id : w ≡ (thread_at vs place).holds.id
    unfolding thread_to
    its-id = e

    pub is_free_thread : w ≡ 0 → is_live thread_id (thread_at vs place) ≡ false
    is_free_thread k = ap not (eq-eqb (thread_at vs place).holds.id 0 (sym its-id ∙ k))

    pub is_live_thread : (w ≡ 0 → ⊥) → is_live thread_id (thread_at vs place) ≡ true
    is_live_thread k = ap not (ne_eqb (thread_at vs place).holds.id 0 (λ z. k (its-id ∙ z)))

    pub free-thread : w ≡ 0 → {z : Bool} → z ≡ zero_thread (thread_at vs place)
        → z ≡ thread_ok_at find (processes_of ws) (threads_of vs) place
    unfolding thread_ok_at thread_ok
    free-thread k ez = ez ∙ sym (cond-true _ _ (eq-eqb (thread_at vs place).holds.id 0 (sym its-id ∙ k)))

  module _ (ph : List ℕ) (p owner : ℕ) (live : is_live thread_id (thread_at vs place) ≡ true)
      (k : p ≡ get_or (thread_to (thread_at vs place)) thread_process 0) (h : Hinted process_places ph)
      (one : one_place (held_processes ws)) (eo : owner ≡ process_by ph ws p) where
    its-process : p ≡ (thread_at vs place).holds.process
    unfolding thread_to
    its-process = k

    pub at-owner : owner ≡ owner_place (held_processes ws) (thread_at vs place)
    unfolding owner_place
    at-owner =
        eo ∙ process-found ph ws p h (one p) ∙ ap (λ n. search (is_process n) (held_processes ws)) its-process

    abbrev mine : Process → Bool
    mine = is_process (thread_at vs place).holds.process

    at_place : owner ≡ search mine (held_processes ws)
    unfolding owner_place
    at_place = at-owner

    not_free : eqb (thread_at vs place).holds.id 0 ≡ false
    not_free = not-true (eqb (thread_at vs place).holds.id 0) live

    pub orphan : owner ≡ process_places → thread_ok_at find (processes_of ws) (threads_of vs) place ≡ false
    unfolding thread_ok_at thread_ok
    orphan n =
        cond-false _ _ not_free
        ∙ and_left _ (absent-any mine no_process (held_processes ws) process_places owner (length-held_processes ws)
        at_place n)

    module _ (inside : owner < process_places) where
      owned : any mine (held_processes ws) ≡ true
      owned =
          found-any mine no_process (held_processes ws) process_places owner (length-held_processes ws) at_place
          (λ e. absurd (omega arith))

      -- it is a live process
      owner-live : not (eqb (process_at ws owner).holds.id 0) ≡ true
      unfolding is_process
      owner-live =
          ap not (named_live (thread_at vs place).holds.process (process_at ws owner).holds.id
          (held_found mine free_process (processes_of ws) owner at_place (rw (length-processes_of ws) inside)))

      its-owner : owner_of (held_processes ws) (thread_at vs place) ≡ (process_at ws owner).holds
      unfolding owner_of
      its-owner =
          ap (λ k. get_or (held_processes ws) k no_process) (sym at-owner)
          ∙ held_at (processes_of ws) owner free_process

      pub live-thread : (ignored : List SigSet) → IgnoredNoted (processes_of ws) process_places ignored → {l : Bool}
          → l ≡ live_thread_ok find (get_or ignored owner empty) place (thread_at vs place)
          → l ≡ thread_ok_at find (processes_of ws) (threads_of vs) place
      unfolding thread_ok_at thread_ok
      live-thread ignored noted el =
          let ignores : get_or ignored owner empty ≡ ignored_by (owner_of (held_processes ws) (thread_at vs place)) =
          noted owner inside owner-live ∙ ap ignored_by (sym its-owner) in
          el
          ∙ ap (λ i. live_thread_ok find i place (thread_at vs place)) ignores
          ∙ ap (λ b. b && live_thread_ok find (ignored_by (owner_of (held_processes ws) (thread_at vs place))) place
          (thread_at vs place)) (sym owned)
          ∙ sym (cond-false _ _ not_free)
