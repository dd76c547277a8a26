-- `thread_place` meets its contract. Assumes nothing.
use Rattle.std.proofs.Common.{◌∙◌, refl}
use Rattle.tables.specs.Tables.{has_thread_id}
use Rattle.tables.specs.Tables.{has_id}
use Rattle.tables.proofs.Places.{thread-ids}
use Rattle.tables.proofs.thread_place.Goals as goal

pub returns : goal.returns
unfolding has_thread_id
returns c = c.place_of.ensures ∙ thread-ids (has_thread_id c.args.id) (has_id c.args.id) (λ _. refl) c.args.ts.now
