-- `clear` meets its contract. Assumes nothing.
use Rattle.queue.proofs.Parts.{slots-filled}
use Rattle.queue.proofs.clear.Goals as goal

pub returns : goal.returns
returns c =
    let a = c.args in
    slots-filled a.b.now a.j a.n c.requires.0 c.requires.1.0 c.requires.1.1 (c.fill.ensures.after (λ y e. e))
