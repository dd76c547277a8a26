-- Sound tables stay sound under a change that fits them. Assumes nothing.
use mathlib.Core.Path.{◌≡◌, ap, ◌∙◌}
use mathlib.Core.Bool.{true}
use Rattle.lists.proofs.Bools.{and_both}
use Rattle.rules.specs.View.{Change}
use Rattle.rules.specs.Store.{apply}
use Rattle.rules.specs.Sound.{sound}
use Rattle.rules.specs.Fitting.{fits}
use Rattle.rules.proofs.ChangesSound.{fits-keeps}
use Rattle.sound.specs.Lent.{Lent, decoded, view_of, sound_tables}
use Rattle.sound.proofs.Facts.{AsLong, as_long, right-lengths, store-sound}

pub sound-after : (ch : Change) (l l' : Lent) → sound_tables l ≡ true → fits (view_of l) ch ≡ true → AsLong l l'
    → decoded l' ≡ apply ch (decoded l) → sound_tables l' ≡ true
unfolding sound_tables
sound-after ch l l' e f s k =
    and_both (as_long l l' s (right-lengths l e)) (ap sound k ∙ fits-keeps ch (decoded l) (store-sound l e) f)
