-- A change that fits leaves a sound store sound, and so does a list of changes of which each fits the store that those
-- before it leave. Assumes nothing.
use mathlib.Core.Path.{◌≡◌, refl}
use mathlib.Core.Bool.{true}
use mathlib.Core.List.{List, [], ◌∷◌}
use Rattle.lists.proofs.Bools.{clash, and-fst, and-snd}
use Rattle.rules.specs.View.{Change, forget, new_process, new_thread, remove_process, remove_thread, set_stopped}
use Rattle.rules.specs.View.{set_action, set_mask, set_mark, clear_mark, append, drop_oldest, discard}
use Rattle.rules.specs.Store.{Store, view, apply, apply_all}
use Rattle.rules.specs.Sound.{sound}
use Rattle.rules.specs.Fitting.{fits, fits_all}
use Rattle.rules.proofs.FieldsSound.{set_stopped-sound, set_action-sound, set_mask-sound}
use Rattle.rules.proofs.Cleared.{sound-cleared}
use Rattle.rules.proofs.PendingSound.{set_mark-sound, append-sound}
use Rattle.rules.proofs.AddingSound.{new_thread-sound}
use Rattle.rules.proofs.RemovalsSound.{remove_process-sound, remove_thread-sound}
use Rattle.rules.proofs.DiscardsSound.{clear_mark-sound, drop_oldest-sound, discard-sound}

pub forget-sound : (st : Store) → sound (apply forget st) ≡ true
unfolding apply
forget-sound st = sound-cleared

pub fits-keeps : (ch : Change) (st : Store) → sound st ≡ true → fits (view st) ch ≡ true → sound (apply ch st) ≡ true
unfolding fits
fits-keeps forget st e f = forget-sound st
fits-keeps (new_process p) st e f = clash f refl
fits-keeps (new_thread t) st e f = new_thread-sound st e t f
fits-keeps (remove_process n) st e f = remove_process-sound st e n f
fits-keeps (remove_thread n) st e f = remove_thread-sound st e n f
fits-keeps (set_stopped n b) st e f = set_stopped-sound st e n b f
fits-keeps (set_action n s a) st e f = set_action-sound st e n s a f
fits-keeps (set_mask n m) st e f = set_mask-sound st e n m f
fits-keeps (set_mark q s) st e f = set_mark-sound st e q s f
fits-keeps (clear_mark q s) st e f = clear_mark-sound st e q s
fits-keeps (append r) st e f = append-sound st e r f
fits-keeps (drop_oldest q s) st e f = drop_oldest-sound st e q s
fits-keeps (discard p signals) st e f = discard-sound st e p signals

pub fits-all-keep : (cs : List Change) (st : Store) → sound st ≡ true → fits_all cs st ≡ true
    → sound (apply_all cs st) ≡ true
unfolding fits_all apply_all
fits-all-keep [] st e f = e
fits-all-keep (c ∷ cs) st e f =
    fits-all-keep cs (apply c st)
    (fits-keeps c st e (and-fst (fits (view st) c) (fits_all cs (apply c st)) f))
    (and-snd (fits (view st) c) (fits_all cs (apply c st)) f)
