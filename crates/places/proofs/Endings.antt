-- How the tests of one place end, over plain variables: the proofs of the code pass what they know.
use Prim.Native.Nat.{ℕ, ◌<◌}
use mathlib.Core.Path.{◌≡◌, sym, ap, ◌∙◌}
use mathlib.Core.Bool.{Bool, true, false, not, ◌&&◌, ◌||◌}
use mathlib.Core.List.{List}
use native.Mathlib.Omega.{arith}
use lib.Dec.{eqb}
use lib.ListN.{length, get_or}
use borrow.Author.Tests.{eq-eqb, ne_eqb}
use Rattle.std.specs.Prelude.{Some, None}
use Rattle.std.specs.declared.option.Option.{Option}
use Rattle.std.specs.Option.{MatchOption, option_eq}
use Rattle.std.specs.Bool.{then_some}
use Rattle.limits.specs.Limits.{process_places, process_words, process_table}
use Rattle.limits.specs.Limits.{process_id as word_of_id}
use Rattle.lists.specs.Lists.{all}
use Rattle.lists.specs.Rows.{row}
use Rattle.lists.proofs.Bools.{split, cond-true, cond-false}
use Rattle.zeros.specs.Zeros.{is_nought}
use Rattle.rules.specs.Types.{Process, Thread}
use Rattle.rules.specs.Store.{Place, free_process}
use Rattle.rules.specs.Sound.{is_live, process_id, zero_thread, kill_stop_default, good_id, unmasked}
use Rattle.tables.specs.Tables.{processes_of, process_at, head_to}
use Rattle.tables.proofs.Words.{process-row}
use Rattle.sigset.specs.declared.SigSet.{SigSet}
use Rattle.soundness.specs.Check.{head_ok, action_ok, disjoint, ignored_by, live_process_ok, process_ok, process_ok_at}
use Rattle.soundness.specs.Check.{live_thread_ok}
use Rattle.places.specs.Notes.{threaded_by}

-- ---- a live place: its tests, one after the other

pub live-process : (place : ℕ → ℕ) (i : ℕ) (x : Place Process) {h f u a d : Bool} → h ≡ head_ok x
    → f ≡ eqb (place x.holds.id) i → u ≡ kill_stop_default x → a ≡ all action_ok x.holds.actions
    → d ≡ disjoint x.marks (ignored_by x.holds)
    → (h && (f && (u && (a && d)))) ≡ live_process_ok place i x
unfolding live_process_ok
live-process place i x eh ef eu ea ed = rw (eh, ef, eu, ea, ed)

pub live-thread : (place : ℕ → ℕ) (ignores : SigSet) (i : ℕ) (x : Place Thread) {g m u f d : Bool}
    → g ≡ good_id x.holds.id → m ≡ unmasked x.holds.mask → u ≡ unmasked x.marks
    → f ≡ eqb (place x.holds.id) i → d ≡ disjoint x.marks ignores
    → (g && (m && (u && (f && d)))) ≡ live_thread_ok place ignores i x
unfolding live_thread_ok
live-thread place ignores i x eg em eu ef ed = rw (eg, em, eu, ef, ed)

-- ---- a thread place that is free

pub free-thread-end : (x : Place Thread) {p m k : ℕ} → p ≡ x.holds.process → m ≡ x.holds.mask.0 → k ≡ x.marks.0
    → (eqb p 0 && (eqb m 0 && eqb k 0)) ≡ zero_thread x
unfolding zero_thread
free-thread-end x ep em ek = rw (ep, em, ek)

-- ---- a process place by whether it is free

module _ (find : ℕ → ℕ) (ws : List ℕ) (place w : ℕ) (e : w ≡ get_or (head_to (process_at ws place)) word_of_id 0)
  where
    its-id : w ≡ (process_at ws place).holds.id
    unfolding head_to
    its-id = e

    pub free-process : length ws ≡ process_table → place < process_places → w ≡ 0 → {z : Bool}
        → z ≡ all is_nought (row process_words ws place) → z ≡ process_ok_at find (processes_of ws) place
    unfolding process_ok_at process_ok
    free-process long h k ez =
        ez ∙ ap (all is_nought) (sym (process-row ws long place h))
        ∙ sym (cond-true _ _ (eq-eqb (process_at ws place).holds.id 0 (sym its-id ∙ k)))

    pub no-process : w ≡ 0 → is_live process_id (process_at ws place) ≡ false
    no-process k = ap not (eq-eqb (process_at ws place).holds.id 0 (sym its-id ∙ k))

    pub live-process-at : (w ≡ 0 → ⊥) → {l : Bool} → l ≡ live_process_ok find place (process_at ws place)
        → l ≡ process_ok_at find (processes_of ws) place
    unfolding process_ok_at process_ok
    live-process-at k el = el ∙ sym (cond-false _ _ (ne_eqb (process_at ws place).holds.id 0 (λ z. k (its-id ∙ z))))

-- a live process has a note that it has a thread
pub threaded-end : (xs : List (Place Process)) (notes : List Bool) (i w : ℕ)
    → w ≡ (get_or xs i free_process).holds.id
    → (eqb w 0 || get_or notes i false) ≡ threaded_by xs notes i
unfolding threaded_by
threaded-end xs notes i w e = split (eqb w 0) (λ z. rw (← e, z)) (λ z. rw (← e, z))

-- ---- a look-up that answers this place

pub found-here : (o : Option ℕ) (n k i : ℕ) → i < n → MatchOption o (k ≡ n) (λ p. (p < n) × (p ≡ k))
    → option_eq eqb o (Some i) ≡ eqb k i
found-here None n k i h e = sym (ne_eqb k i (λ z. absurd (omega arith)))
found-here (Some p) n k i h m = ap (λ (q : ℕ). eqb q i) m.1

-- ---- an answer with a value where the test holds

pub some-if : {T : Type 0} (Q : T → Type 0) (b : Bool) (v : T) {ok : Bool} → b ≡ ok → Q v
    → MatchOption (then_some b v) (ok ≡ false) (λ w. (ok ≡ true) × Q w)
some-if Q true v e q = (sym e, q)
some-if Q false v e q = sym e
