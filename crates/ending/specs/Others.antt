-- Another thread of a process.
use Rattle.std.specs.Prelude.{ℕ, Bool, not, ◌&&◌, eqb}
use Rattle.rules.specs.Types.{Thread}
use Rattle.rules.specs.View.{belongs_to}

-- the rules' other_thread, by the two ids that it reads
unfoldable pub is_other : (process thread : ℕ) → Thread → Bool
is_other p t u = belongs_to p u && not (eqb u.id t)
