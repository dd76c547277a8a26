-- `has_other` meets its contract: none before a place is another thread of the process. Assumes nothing.
use Prim.Native.Nat.{◌<◌}
use mathlib.Core.Path.{sym, ◌∙◌}
use mathlib.Core.List.{[]}
use native.Mathlib.Omega.{arith}
use lib.ListN.{length}
use Rattle.lists.proofs.Loops.{any_none, any-more, any_here, any-done}
use Rattle.rules.specs.Types.{no_thread}
use Rattle.tables.specs.Tables.{held_threads}
use Rattle.tables.proofs.Words.{length-held_threads}
use Rattle.ending.specs.Others.{is_other}
use Rattle.ending.proofs.has_other.Goals as goal

pub loop-place-init : goal.loop-place-init
loop-place-init c = any_none (is_other c.args.process c.args.thread) no_thread []

pub returns-then-is_other : goal.returns-then-is_other
returns-then-is_other c =
    let i = c.loop-place.place in
    let h : i < length (held_threads c.args.ts.now) = rw (length-held_threads c.args.ts.now) (omega arith) in
    sym (any_here (is_other c.args.process c.args.thread) no_thread (held_threads c.args.ts.now) i h
    (sym c.is_other.ensures ∙ c.if-is_other.true))

pub loop-place-preserved : goal.loop-place-preserved
loop-place-preserved c =
    let i = c.loop-place.place in
    let h : i < length (held_threads c.args.ts.now) = rw (length-held_threads c.args.ts.now) (omega arith) in
    any-more (is_other c.args.process c.args.thread) no_thread (held_threads c.args.ts.now) i h
    c.loop-place.invariant (sym c.is_other.ensures ∙ c.if-is_other.false)

pub returns : goal.returns
returns c =
    sym (any-done (is_other c.args.process c.args.thread) no_thread (held_threads c.args.ts.now)
    c.loop-place.place
    (rw (length-held_threads c.args.ts.now) (omega arith)) c.loop-place.invariant)
