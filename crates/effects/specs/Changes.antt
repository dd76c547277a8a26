-- What a function that makes changes asks and promises: the tables are sound and the changes fit, one after the
-- other; after it they say what the rules make of what they said, and are sound still.
use Rattle.std.specs.Prelude.{◌≡◌, true, List}
use Rattle.rules.specs.View.{Change}
use Rattle.rules.specs.Store.{apply_all}
use Rattle.rules.specs.Fitting.{fits_all}
use Rattle.sound.specs.Lent.{Lent, decoded, sound_tables}

pub record Ready (cs : List Change) (l : Lent) : Type 0 where
  pub sound : sound_tables l ≡ true
  pub fit : fits_all cs (decoded l) ≡ true

pub record Changed (cs : List Change) (l l' : Lent) : Type 0 where
  pub store : decoded l' ≡ apply_all cs (decoded l)
  pub sound : sound_tables l' ≡ true
