-- `sigreturn` meets its contract: it is sigmask with way 2. Assumes nothing.
use mathlib.Core.Path.{◌∙◌}
use Rattle.sound.specs.Lent.{lent}
use Rattle.types.specs.Answers.{given}
use Rattle.masks.proofs.Masks.{return-is}
use Rattle.masks.proofs.sigreturn.Goals as goal

pub returns : goal.returns
returns c =
    let l = lent c.args.ps.now c.args.ts.now c.args.tb.now c.args.pb.now in
    c.sigmask.ensures ∙ return-is l c.args.thread c.args.saved
