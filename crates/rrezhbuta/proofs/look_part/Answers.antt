-- `look_part` meets its contract: the empty part for a row of another length, else the look on its words. Assumes
-- nothing.
use mathlib.Core.Path.{ap, ◌∙◌}
use Rattle.sound.specs.Lent.{lent}
use Rattle.looking.specs.Looks.{look_bytes}
use Rattle.rrezhbuta.specs.Entry.{look_at}
use Rattle.rrezhbuta.proofs.Lengths.{no-look}
use Rattle.rrezhbuta.proofs.look_part.Goals as goal

pub returns-then-ts-ne-THREAD_PLACES : goal.returns-then-ts-ne-THREAD_PLACES
returns-then-ts-ne-THREAD_PLACES c =
    no-look c.args.ps.now c.args.tb.now c.args.pb.now c.args.ts.now c.args.thread c.no_part.result.now
    c.if-ts-ne-THREAD_PLACES.true c.no_part.ensures

pub returns : goal.returns
unfolding look_at
returns c =
    c.look_part.ensures
    ∙ ap (λ ws. look_bytes c.args.thread (lent c.args.ps.now ws c.args.tb.now c.args.pb.now)) c.load_words.ensures
