-- What the steps of a change do to places.
use Rattle.std.specs.Prelude.{ℕ, cond, eqb}
use Rattle.sigset.specs.declared.SigSet.{SigSet}
use Rattle.sigset.specs.Set.{union, without}
use Rattle.rules.specs.Types.{Thread, Queue}
use Rattle.rules.specs.View.{same_queue}
use Rattle.rules.specs.Store.{Place}
use Rattle.effects.specs.declared.Marking.{Marking}
use Rattle.effects.specs.declared.Marking.TheVariants.{Adding, Removing}

unfoldable pub marked_by : Marking → SigSet → SigSet
marked_by (Adding s) m = union m s
marked_by (Removing s) m = without m s

-- a place with its marks changed
unfoldable pub with_marking : {A : Type 0} → Marking → Place A → Place A
with_marking how x = record { holds = x.holds; marks = marked_by how x.marks }

-- where it is a thread of the process
unfoldable pub with_marking_of : (process : ℕ) → Marking → Place Thread → Place Thread
with_marking_of p how x = cond (eqb x.holds.process p) (with_marking how x) x

-- the marks of the queue q changed, and of no other
abbrev pub marking : Marking → (q : Queue) → Queue → SigSet → SigSet
marking how q q' m = cond (same_queue q' q) (marked_by how m) m

-- a thread with these fields
abbrev pub thread_of : (id process : ℕ) → SigSet → Thread
thread_of id process mask = record { id = id; process = process; mask = mask }
