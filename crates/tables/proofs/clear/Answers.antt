-- `clear` meets its contract. Assumes nothing.
use Rattle.std.proofs.Common.{ℕ, ◌+◌, ◌-◌, arith, rules, replicate}
use lib.ListN.{length-replicate}
use Rattle.lists.proofs.Rows.{part-sets}
use Rattle.tables.proofs.clear.Goals as goal

pub returns : goal.returns
returns c =
    let a = c.args in
    part-sets a.ws.now (replicate a.n 0) c.fill.new.self a.from (a.from + a.n - a.from) (search rules)
    (rw (length-replicate {A = ℕ} a.n 0) (omega arith)) (omega arith)
