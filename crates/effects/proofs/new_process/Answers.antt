-- `new_process` meets its contract. Assumes nothing.
use Rattle.std.proofs.Common.{ap, sym, ◌∙◌, arith, set}
use Rattle.lists.proofs.Finds.{position-found, find-some, some-inside}
use Rattle.rules.specs.Store.{is_free_process}
use Rattle.rules.specs.Adding.{added_process}
use Rattle.tables.specs.Tables.{processes_of, held_processes, placed}
use Rattle.tables.proofs.Words.{length-held_processes}
use Rattle.effects.proofs.Places.{filled-place}
use Rattle.effects.proofs.new_process.Goals as goal

pub unwrap-place-requires : goal.unwrap-place-requires
unwrap-place-requires c =
    let e = position-found is_free_process (held_processes c.args.ps.now) c.requires.ps_value in
    rw (c.free_process.ensures, e)

pub fill_process-requires : goal.fill_process-requires
fill_process-requires c =
    let ps = c.args.ps.now in
    let i =
    some-inside is_free_process (held_processes ps) c.unwrap-place.result
    (sym c.free_process.ensures ∙ c.unwrap-place.ensures) in
    (c.requires.ps_len, omega (arith, length-held_processes ps))

pub returns : goal.returns
returns c =
    let ps = c.args.ps.now in
    let new = placed (added_process c.args.new) in
    let here =
    find-some is_free_process (held_processes ps) c.unwrap-place.result
    (sym c.free_process.ensures ∙ c.unwrap-place.ensures) in
    c.fill_process.ensures ∙ ap (λ i. set (processes_of ps) i new) (sym here)
    ∙ filled-place is_free_process new (processes_of ps)
