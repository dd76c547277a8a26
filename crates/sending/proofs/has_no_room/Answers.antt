-- `has_no_room` meets its contract. Assumes nothing.
use native.Mathlib.Omega.{arith}
use Rattle.sound.specs.Lent.{view_of, lent}
use Rattle.sound.proofs.Facts.{thread-buffer-long, process-buffer-long}
use Rattle.sending.proofs.Decided.{counted, count_fits, room-read, room-unasked}
use Rattle.sending.proofs.has_no_room.Goals as goal

pub count_of-requires : goal.count_of-requires
count_of-requires c =
    thread-buffer-long (lent c.args.ps.now c.args.ts.now c.args.tb.now c.args.pb.now) c.requires

pub count_of-requires-in-Keeping : goal.count_of-requires-in-Keeping
count_of-requires-in-Keeping c =
    process-buffer-long (lent c.args.ps.now c.args.ts.now c.args.tb.now c.args.pb.now) c.requires

pub overflow_add-result : goal.overflow_add-result
overflow_add-result c =
    omega (
      arith,
      count_fits c.args.tb.now c.args.to c.count_of.result c.count_of.ensures,
      count_fits c.args.pb.now c.args.to c.count_of-in-Keeping.result c.count_of-in-Keeping.ensures,
    )

pub returns-in-Keeping : goal.returns-in-Keeping
returns-in-Keeping c =
    let l = lent c.args.ps.now c.args.ts.now c.args.tb.now c.args.pb.now in
    let m = c.count_of.result in
    let n = c.count_of-in-Keeping.result in
    room-read (view_of l) c.args.to c.args.f c.in-Keeping.is m n
    (counted l c.args.to m n c.count_of.ensures c.count_of-in-Keeping.ensures)

pub returns-in_default : goal.returns-in_default
returns-in_default c =
    room-unasked (view_of (lent c.args.ps.now c.args.ts.now c.args.tb.now c.args.pb.now)) c.args.to c.args.f
    c.in_default.not-Keeping
