-- `rrezhbuta_look_slot` meets its contract: 0 for a row of another length, else the look's slot on its words.
-- Assumes nothing.
use mathlib.Core.Path.{ap, ◌∙◌}
use Rattle.sound.specs.Lent.{lent}
use Rattle.looking.specs.Looks.{look_slot}
use Rattle.rrezhbuta.specs.Entry.{slot_at}
use Rattle.rrezhbuta.proofs.Lengths.{no_slot}
use Rattle.rrezhbuta.proofs.rrezhbuta_look_slot.Goals as goal

pub returns-then-ts-ne-THREAD_PLACES : goal.returns-then-ts-ne-THREAD_PLACES
returns-then-ts-ne-THREAD_PLACES c =
    no_slot c.args.ps.now c.args.tb.now c.args.pb.now c.args.ts.now c.args.thread c.if-ts-ne-THREAD_PLACES.true

pub returns : goal.returns
unfolding slot_at
returns c =
    c.look_slot.ensures
    ∙ ap (λ ws. look_slot c.args.thread (lent c.args.ps.now ws c.args.tb.now c.args.pb.now)) c.load_words.ensures
