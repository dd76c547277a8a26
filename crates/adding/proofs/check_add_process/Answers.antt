-- `check_add_process` meets its contract: the rows in order. Assumes nothing.
use mathlib.Core.Path.{sym, ◌∙◌}
use Rattle.sound.specs.Lent.{lent}
use Rattle.sound.proofs.Facts.{processes-long, threads-long}
use Rattle.adding.proofs.ProcessRows.{process-fault, process-bad, process-there, process-full, process-accepted}
use Rattle.adding.proofs.check_add_process.Goals as goal

pub returns-then-not-sound : goal.returns-then-not-sound
returns-then-not-sound c =
    process-fault (lent c.args.ps.now c.args.ts.now c.args.tb.now c.args.pb.now) c.args.new
    c.sound.result c.sound.ensures c.if-not-sound.true-raw

pub returns-then-is_id : goal.returns-then-is_id
returns-then-is_id c =
    process-bad (lent c.args.ps.now c.args.ts.now c.args.tb.now c.args.pb.now)
    c.args.new c.sound.result c.sound.ensures c.if-not-sound.false-raw
    c.is_id.result c.is_id-2.result c.is_id.ensures c.is_id-2.ensures c.if-is_id.true

pub is_process-requires : goal.is_process-requires
is_process-requires c =
    processes-long (lent c.args.ps.now c.args.ts.now c.args.tb.now c.args.pb.now)
    (sym c.sound.ensures ∙ c.if-not-sound.false)

pub is_thread-requires : goal.is_thread-requires
is_thread-requires c =
    threads-long (lent c.args.ps.now c.args.ts.now c.args.tb.now c.args.pb.now)
    (sym c.sound.ensures ∙ c.if-not-sound.false)

pub returns-then-is_process-is_thread : goal.returns-then-is_process-is_thread
returns-then-is_process-is_thread c =
    process-there (lent c.args.ps.now c.args.ts.now c.args.tb.now c.args.pb.now)
    c.args.new c.sound.result c.sound.ensures c.if-not-sound.false-raw
    c.is_id.result c.is_id-2.result c.is_id.ensures c.is_id-2.ensures
    c.if-is_id.false
    c.is_process.result c.is_thread.result c.is_process.ensures c.is_thread.ensures
    c.if-is_process-is_thread.true

pub has_process_place-requires : goal.has_process_place-requires
has_process_place-requires c =
    processes-long (lent c.args.ps.now c.args.ts.now c.args.tb.now c.args.pb.now)
    (sym c.sound.ensures ∙ c.if-not-sound.false)

pub has_thread_place-requires : goal.has_thread_place-requires
has_thread_place-requires c =
    threads-long (lent c.args.ps.now c.args.ts.now c.args.tb.now c.args.pb.now)
    (sym c.sound.ensures ∙ c.if-not-sound.false)

pub returns-then-has_process_place-has_thread_place : goal.returns-then-has_process_place-has_thread_place
returns-then-has_process_place-has_thread_place c =
    process-full (lent c.args.ps.now c.args.ts.now c.args.tb.now c.args.pb.now)
    c.args.new c.sound.result c.sound.ensures c.if-not-sound.false-raw
    c.is_id.result c.is_id-2.result c.is_id.ensures c.is_id-2.ensures
    c.if-is_id.false
    c.is_process.result c.is_thread.result c.is_process.ensures c.is_thread.ensures
    c.if-is_process-is_thread.false
    c.has_process_place.result c.has_thread_place.result c.has_process_place.ensures
    c.has_thread_place.ensures c.if-has_process_place-has_thread_place.true

pub returns : goal.returns
returns c =
    process-accepted (lent c.args.ps.now c.args.ts.now c.args.tb.now c.args.pb.now)
    c.args.new c.sound.result c.sound.ensures c.if-not-sound.false-raw
    c.is_id.result c.is_id-2.result c.is_id.ensures c.is_id-2.ensures
    c.if-is_id.false
    c.is_process.result c.is_thread.result c.is_process.ensures c.is_thread.ensures
    c.if-is_process-is_thread.false
    c.has_process_place.result c.has_thread_place.result c.has_process_place.ensures
    c.has_thread_place.ensures c.if-has_process_place-has_thread_place.false
