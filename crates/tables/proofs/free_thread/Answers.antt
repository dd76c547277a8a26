-- `free_thread` meets its contract. Assumes nothing.
use Rattle.std.proofs.Common.{◌∙◌, refl}
use Rattle.rules.specs.Store.{is_free_thread}
use Rattle.tables.specs.Tables.{has_id}
use Rattle.tables.proofs.Places.{thread-ids}
use Rattle.tables.proofs.free_thread.Goals as goal

pub returns : goal.returns
returns c = c.place_of.ensures ∙ thread-ids is_free_thread (has_id 0) (λ _. refl) c.args.ts.now
