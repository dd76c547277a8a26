-- `where_given` meets its contract. Assumes nothing.
use Rattle.boundary.proofs.Numbers.{none-given, one-given}
use Rattle.boundary.proofs.where_given.Goals as goal

pub returns-then-n-eq0 : goal.returns-then-n-eq0
returns-then-n-eq0 g c = none-given c.args.n c.args.value c.if-n-eq0.true

pub returns : goal.returns
returns g c = one-given c.args.n c.args.value c.if-n-eq0.false
