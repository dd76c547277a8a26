-- `taker_place` meets its contract. Assumes nothing.
use mathlib.Core.Path.{sym, ◌∙◌}
use native.Mathlib.Omega.{arith}
use Rattle.lists.proofs.Loops.{find_none, find-more}
use Rattle.lists.proofs.Finds.{position-here, position-nowhere}
use Rattle.rules.specs.Types.{no_thread}
use Rattle.rules.specs.Taking.{can_take_some}
use Rattle.tables.specs.Tables.{held_threads}
use Rattle.tables.proofs.Words.{length-held_threads}
use Rattle.sound.specs.Lent.{lent, view_of}
use Rattle.looking.proofs.taker_place.Goals as goal

pub loop-place-init : goal.loop-place-init
loop-place-init c =
    find_none
    (can_take_some (view_of (lent c.args.ps.now c.args.ts.now c.args.tb.now c.args.pb.now)) c.args.process)
    no_thread (held_threads c.args.ts.now)

pub can_take-requires : goal.can_take-requires
can_take-requires c =
    record {
      pb_value = c.requires;
      place_lt_thread_places = omega arith;
    }

pub returns-then-can_take : goal.returns-then-can_take
returns-then-can_take c =
    sym (position-here
    (can_take_some (view_of (lent c.args.ps.now c.args.ts.now c.args.tb.now c.args.pb.now)) c.args.process) no_thread
    (held_threads c.args.ts.now) c.loop-place.place
    (rw length-held_threads (omega arith)) c.loop-place.invariant (sym c.can_take.ensures ∙ c.if-can_take.true))

pub loop-place-preserved : goal.loop-place-preserved
loop-place-preserved c =
    find-more
    (can_take_some (view_of (lent c.args.ps.now c.args.ts.now c.args.tb.now c.args.pb.now)) c.args.process)
    no_thread (held_threads c.args.ts.now) c.loop-place.place
    (rw length-held_threads (omega arith)) c.loop-place.invariant (sym c.can_take.ensures ∙ c.if-can_take.false)

pub returns : goal.returns
returns c =
    sym (position-nowhere
    (can_take_some (view_of (lent c.args.ps.now c.args.ts.now c.args.tb.now c.args.pb.now)) c.args.process) no_thread
    (held_threads c.args.ts.now) c.loop-place.place
    (rw length-held_threads (omega arith)) c.loop-place.invariant)
