-- `live_process` meets its contract. Assumes nothing.
use Rattle.std.proofs.Common.{◌∙◌, sym, arith}
use Rattle.lists.proofs.Finds.{position-found, find-some, some-inside}
use Rattle.rules.specs.View.{is_process}
use Rattle.tables.specs.Tables.{held_processes}
use Rattle.tables.proofs.Words.{length-held_processes}
use Rattle.tables.proofs.live_process.Goals as goal

pub unwrap-requires : goal.unwrap-requires
unwrap-requires c =
    let e = position-found (is_process c.args.process) (held_processes c.args.ps.now) c.requires.1 in
    rw (c.find_process.ensures, e)

pub returns-clause-inside : goal.returns-clause-inside
returns-clause-inside c =
    let xs = held_processes c.args.ps.now in
    let i =
    some-inside (is_process c.args.process) xs c.unwrap.result (sym c.find_process.ensures ∙ c.unwrap.ensures) in
    omega (arith, length-held_processes c.args.ps.now)

pub returns-clause-place : goal.returns-clause-place
returns-clause-place c =
    sym (find-some (is_process c.args.process) (held_processes c.args.ps.now) c.unwrap.result
    (sym c.find_process.ensures ∙ c.unwrap.ensures))
