use Prim.Native.Nat.{◌<◌, ◌≤◌}
use native.Mathlib.Omega.{arith}
use lib.ListN.{length}
use Rattle.queue.specs.Queue.{records_of}
use Rattle.queue.proofs.Buffer.{length-records_of}
use Rattle.records.proofs.Loops.{before-all, counts-small, after_all, not-aimed, not-fresh}
use Rattle.records.proofs.Loops.{one_more}
use Rattle.records.proofs.counted.Goals as goal

pub all_marks-requires : goal.all_marks-requires
all_marks-requires g c = omega (arith, (g.met.Q.Queues.adds_up c.args.queues.now).few)

pub loop-slot-init : goal.loop-slot-init
loop-slot-init g c =
    let q = c.args.queues.now in
    before-all g.row.N (g.Q.Queues.pass q) (g.met.Q.Queues.adds_up q) (records_of c.args.buffer.now)
    c.all_marks.new.seen c.all_marks.ensures

pub read-r-requires : goal.read-r-requires
read-r-requires g c =
    let m = length-records_of c.args.buffer.now in omega (arith, c.used-slot-end.ensures, c.requires)

pub returns-in_err-at : goal.returns-in_err-at
returns-in_err-at g c =
    let q = c.args.queues.now in
    let l = c.loop-slot in
    let inside : l.slot < length (records_of c.args.buffer.now) = rw (← c.used-slot-end.ensures) (omega arith) in
    rw c.from_residual.ensures
    (not-aimed g.row.N (g.Q.Queues.pass q) (g.met.Q.Queues.adds_up q) c.args.buffer.now l.pending.counts l.pending.seen
    l.slot l.invariant inside c.read-r.result c.read-r.ensures c.in_err-at.ensures)

pub admit-requires : goal.admit-requires
admit-requires g c =
    let q = c.args.queues.now in
    let l = c.loop-slot in
    let all = g.met.Q.Queues.adds_up q in
    let small = counts-small g.row.N (g.Q.Queues.pass q) all c.args.buffer.now l.pending.counts l.pending.seen l.slot
    l.invariant (rw (← c.used-slot-end.ensures) (omega arith)) in
    let at = c.in_ok-at.ensures.1 in
    (let few : g.row.N ≤ 64 = all.few in omega arith, ((at.0.0, at.1.0), small c.in_ok-at.at.process))

pub returns-then-not-admit : goal.returns-then-not-admit
returns-then-not-admit g c =
    let q = c.args.queues.now in
    let l = c.loop-slot in
    let inside : l.slot < length (records_of c.args.buffer.now) = rw (← c.used-slot-end.ensures) (omega arith) in
    let at = c.in_ok-at.ensures in
    not-fresh g.row.N (g.Q.Queues.pass q) (g.met.Q.Queues.adds_up q) c.args.buffer.now l.pending.counts l.pending.seen
    l.slot l.invariant inside c.read-r.result c.read-r.ensures at.0 c.in_ok-at.at.queue at.1.1.1 c.admit.ensures.value
    c.if-not-admit.true

pub loop-slot-preserved : goal.loop-slot-preserved
loop-slot-preserved g c =
    let q = c.args.queues.now in
    let l = c.loop-slot in
    let inside : l.slot < length (records_of c.args.buffer.now) = rw (← c.used-slot-end.ensures) (omega arith) in
    let at = c.in_ok-at.ensures in
    one_more g.row.N (g.Q.Queues.pass q) (g.met.Q.Queues.adds_up q) c.args.buffer.now l.pending.counts l.pending.seen
    l.slot l.invariant inside c.read-r.result c.read-r.ensures at.0 c.in_ok-at.at.queue at.1.1.1 c.admit.ensures.value
    c.in_ok-at.at.process at.1.0.1 c.if-not-admit.false c.admit.new.self.counts c.admit.new.self.seen
    c.admit.ensures.counts_after c.admit.ensures.seen_after

pub returns : goal.returns
returns g c =
    let q = c.args.queues.now in
    let l = c.loop-slot in
    after_all g.row.N (g.Q.Queues.pass q) (g.met.Q.Queues.adds_up q) c.args.buffer.now l.pending.counts l.pending.seen
    l.slot l.invariant (rw (← c.used-slot-end.ensures) (omega arith))
