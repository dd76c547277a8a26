-- What holds of the tables and the ledger side by side: after a change, after a call. Assumes nothing.
use Prim.Native.Nat.{ℕ}
use mathlib.Core.Path.{◌≡◌, refl, sym, ap, ◌∙◌}
use mathlib.Core.Bool.{true, false}
use mathlib.Core.List.{List, [], ◌∷◌, head?}
use Rattle.lists.specs.Lists.{first}
use Rattle.lists.proofs.Bools.{and-fst, and-snd}
use Rattle.lists.proofs.Lists.{first-keep}
use Rattle.rules.specs.Types.{Queue, Process, Thread, Call, clear, add_process, sigqueue, take, Kind, clearing, adding}
use Rattle.rules.specs.Types.{queueing, taking, other, kind_of}
use Rattle.rules.specs.View.{Change, new_process, new_thread, in_queue}
use Rattle.rules.specs.Store.{Store, cleared, view, records_for, apply, apply_all}
use Rattle.rules.specs.Sound.{free_zero, sound}
use Rattle.rules.specs.Adding.{add_process_changes}
use Rattle.rules.specs.Refusals.{refusal_of}
use Rattle.rules.specs.Calls.{changes}
use Rattle.rules.specs.Fitting.{fits, fits_all}
use Rattle.rules.specs.Machine.{machine}
use Rattle.rules.proofs.Clauses.{clauses}
use Rattle.rules.proofs.Cleared.{sound-cleared}
use Rattle.rules.proofs.ChangesSound.{fits-keeps}
use Rattle.rules.proofs.StaysSound.{adds, is_add_process, call_fits, accepted-sound-after}
use Rattle.rules.proofs.Steps.{accepted-step}
use Rattle.history.specs.Ledger.{Ledger, empty_ledger, ledger_view, place}
use Rattle.history.proofs.Notes.{note, note_all}
use Rattle.history.proofs.Relation.{Agrees}
use Rattle.history.proofs.Agree.{free-threads, agrees-new_process, agrees-new_thread, agrees_start, agrees-change}
use Rattle.history.proofs.Counted.{same-queued}
use Rattle.history.proofs.Lines.{AllBalanced, balanced-start, balanced-change}
use Rattle.history.proofs.Totals.{Total, total-start, total-new_process, total-new_thread, total-change}

-- what needs no sound store: it holds between the two changes of an added process too
pub record Beside (st : Store) (k : Ledger) : Type 0 where
  pub agrees : Agrees st k
  pub total : Total st k
  pub balanced : AllBalanced k

pub record Holds (st : Store) (k : Ledger) : Type 0 where
  pub is_sound : sound st ≡ true
  pub beside : Beside st k

-- ---- a change, a list of them

holds-change : (ch : Change) (st : Store) (k : Ledger) → fits (view st) ch ≡ true → Holds st k
    → Holds (apply ch st) (note ch k)
holds-change ch st k f h =
    record {
      is_sound = fits-keeps ch st h.is_sound f;
      beside =
          record {
            agrees = agrees-change ch st k h.is_sound f h.beside.agrees;
            total = total-change ch st k h.is_sound f h.beside.agrees h.beside.total;
            balanced = balanced-change st k h.beside.agrees ch f h.beside.balanced;
          };
    }

holds-changes : (cs : List Change) (st : Store) (k : Ledger) → fits_all cs st ≡ true → Holds st k
    → Holds (apply_all cs st) (note_all cs k)
unfolding fits_all apply_all note_all
holds-changes [] st k f h = h
holds-changes (c ∷ cs) st k f h =
    holds-changes cs (apply c st) (note c k) (and-snd (fits (view st) c) (fits_all cs (apply c st)) f)
    (holds-change c st k (and-fst (fits (view st) c) (fits_all cs (apply c st)) f) h)

-- ---- what both say

pub same_view : (st : Store) (k : Ledger) → Holds st k → view st ≡ ledger_view k
unfolding view ledger_view
same_view st k h =
    let a : Agrees st k = h.beside.agrees in
    let o : (q : Queue) (s : ℕ) → first (in_queue q s) (records_for q st) ≡ head? (k.lines q s).sends =
    λ q s. first-keep (in_queue q s) (records_for q st) ∙ ap head? (a.records q s) in
    λ i. record {
      processes = a.processes i;
      threads = a.threads i;
      marks = λ q s. a.marks q s i;
      oldest = λ q s. o q s i;
      queued = λ n. same-queued st k h.is_sound a n i;
    }

-- ---- a call

-- an added process: two changes, of which the first alone would leave it without a thread
module _ (p : Process) (t : Thread) (st : Store) (k : Ledger) (h : Holds st k) where
  abbrev both : List Change
  both = new_process p ∷ new_thread t ∷ []

  beside-added : Beside (apply_all both st) (note_all both k)
  unfolding apply_all note_all
  beside-added =
      record {
        agrees =
            agrees-new_thread (apply (new_process p) st) (note (new_process p) k)
            (agrees-new_process st k h.beside.agrees free p) (unfold apply in free-threads st free) t;
        total =
            total-new_thread t (apply (new_process p) st) (note (new_process p) k)
            (total-new_process p st k h.beside.total);
        balanced = unfold note place in h.beside.balanced;
      }
    where
      free : free_zero st ≡ true
      free = (clauses st h.is_sound).free_places

module _ (c : Call) (st : Store) (k : Ledger) (u : machine c ≡ true) (e : refusal_of st c ≡ 0) (h : Holds st k) where
  after-sound : sound (apply_all (changes (view st) c) st) ≡ true
  after-sound = ap sound (sym (accepted-step c st e)) ∙ accepted-sound-after c st u e

  fitting-holds : is_add_process c ≡ false
      → Holds (apply_all (changes (view st) c) st) (note_all (changes (view st) c) k)
  fitting-holds a = holds-changes (changes (view st) c) st k (call_fits c st a e) h

kind-holds : {c : Call} (x : Kind c) → kind_of c ≡ x → (st : Store) (k : Ledger) → machine c ≡ true → refusal_of st c
    ≡ 0
    → Holds st k → Holds (apply_all (changes (view st) c) st) (note_all (changes (view st) c) k)
unfolding is_add_process
kind-holds clearing i st k u e h = fitting-holds clear st k u e h refl
kind-holds (adding new) i st k u e h =
    record {
      is_sound = after-sound (add_process new) st k u e h;
      beside = unfold changes add_process_changes in beside-added _ _ st k h;
    }
kind-holds (queueing by to t s value) i st k u e h = fitting-holds (sigqueue by to t s value) st k u e h refl
kind-holds (taking t) i st k u e h = fitting-holds (take t) st k u e h refl
kind-holds other i st k u e h = fitting-holds _ st k u e h (ap adds i)

pub holds-accepted : (c : Call) (st : Store) (k : Ledger) → machine c ≡ true → refusal_of st c ≡ 0 → Holds st k
    → Holds (apply_all (changes (view st) c) st) (note_all (changes (view st) c) k)
holds-accepted c = kind-holds (kind_of c) refl

pub holds-start : Holds cleared empty_ledger
holds-start =
    record {
      is_sound = sound-cleared;
      beside = record { agrees = agrees_start; total = total-start; balanced = balanced-start };
    }
