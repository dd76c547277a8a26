-- `live_thread` meets its contract. Assumes nothing.
use Rattle.std.proofs.Common.{◌∙◌, sym, arith}
use Rattle.lists.proofs.Finds.{position-found, find-some, some-inside}
use Rattle.rules.specs.View.{is_thread}
use Rattle.tables.specs.Tables.{held_threads}
use Rattle.tables.proofs.Words.{length-held_threads}
use Rattle.tables.proofs.live_thread.Goals as goal

pub unwrap-requires : goal.unwrap-requires
unwrap-requires c =
    let e = position-found (is_thread c.args.thread) (held_threads c.args.ts.now) c.requires.1 in
    rw (c.find_thread.ensures, e)

pub returns-clause-inside : goal.returns-clause-inside
returns-clause-inside c =
    let xs = held_threads c.args.ts.now in
    let i =
    some-inside (is_thread c.args.thread) xs c.unwrap.result (sym c.find_thread.ensures ∙ c.unwrap.ensures) in
    omega (arith, length-held_threads c.args.ts.now)

pub returns-clause-place : goal.returns-clause-place
returns-clause-place c =
    sym (find-some (is_thread c.args.thread) (held_threads c.args.ts.now) c.unwrap.result
    (sym c.find_thread.ensures ∙ c.unwrap.ensures))
