-- `new_thread` meets its contract. Assumes nothing.
use Rattle.std.proofs.Common.{ap, sym, ◌∙◌, arith, set}
use Rattle.lists.proofs.Finds.{position-found, find-some, some-inside}
use Rattle.rules.specs.Store.{is_free_thread}
use Rattle.effects.specs.Effects.{thread_of}
use Rattle.tables.specs.Tables.{threads_of, held_threads, placed}
use Rattle.tables.proofs.Words.{length-held_threads}
use Rattle.effects.proofs.Places.{filled-place}
use Rattle.effects.proofs.new_thread.Goals as goal

pub unwrap-place-requires : goal.unwrap-place-requires
unwrap-place-requires c =
    let e = position-found is_free_thread (held_threads c.args.ts.now) c.requires.ts_value in
    rw (c.free_thread.ensures, e)

pub fill_thread-requires : goal.fill_thread-requires
fill_thread-requires c =
    let ts = c.args.ts.now in
    let i =
    some-inside is_free_thread (held_threads ts) c.unwrap-place.result
    (sym c.free_thread.ensures ∙ c.unwrap-place.ensures) in
    (c.requires.ts_len, omega (arith, length-held_threads ts))

pub returns : goal.returns
returns c =
    let ts = c.args.ts.now in
    let new = placed (thread_of c.args.id c.args.process c.args.mask) in
    let here =
    find-some is_free_thread (held_threads ts) c.unwrap-place.result
    (sym c.free_thread.ensures ∙ c.unwrap-place.ensures) in
    c.fill_thread.ensures ∙ ap (λ i. set (threads_of ts) i new) (sym here)
    ∙ filled-place is_free_thread new (threads_of ts)
