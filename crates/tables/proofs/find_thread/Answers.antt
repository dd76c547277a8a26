-- `find_thread` meets its contract. Assumes nothing.
use Rattle.std.proofs.Common.{◌∙◌, refl}
use Rattle.rules.specs.View.{is_thread}
use Rattle.tables.specs.Tables.{has_live_id}
use Rattle.tables.proofs.Places.{thread-ids}
use Rattle.tables.proofs.find_thread.Goals as goal

pub returns : goal.returns
unfolding is_thread
returns c =
    c.live_place.ensures ∙ thread-ids (is_thread c.args.thread) (has_live_id c.args.thread) (λ _. refl) c.args.ts.now
