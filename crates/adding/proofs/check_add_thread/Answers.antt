-- `check_add_thread` meets its contract: the rows in order. Assumes nothing.
use mathlib.Core.Path.{sym, ◌∙◌}
use Rattle.sound.specs.Lent.{lent}
use Rattle.sound.proofs.Facts.{threads-long}
use Rattle.adding.proofs.ThreadRows.{thread-fault, thread-bad, thread-gone, thread-there, thread-full}
use Rattle.adding.proofs.ThreadRows.{thread-accepted}
use Rattle.adding.proofs.check_add_thread.Goals as goal

pub returns-then-not-sound : goal.returns-then-not-sound
returns-then-not-sound c =
    thread-fault (lent c.args.ps.now c.args.ts.now c.args.tb.now c.args.pb.now) c.args.creator c.args.id
    c.sound.result c.sound.ensures c.if-not-sound.true-raw

pub returns-then-not-is_id : goal.returns-then-not-is_id
returns-then-not-is_id c =
    thread-bad (lent c.args.ps.now c.args.ts.now c.args.tb.now c.args.pb.now)
    c.args.creator c.args.id c.sound.result c.sound.ensures c.if-not-sound.false-raw
    c.is_id.result c.is_id.ensures c.if-not-is_id.true-raw

pub is_thread-requires : goal.is_thread-requires
is_thread-requires c =
    threads-long (lent c.args.ps.now c.args.ts.now c.args.tb.now c.args.pb.now)
    (sym c.sound.ensures ∙ c.if-not-sound.false)

pub returns-then-not-is_thread : goal.returns-then-not-is_thread
returns-then-not-is_thread c =
    thread-gone (lent c.args.ps.now c.args.ts.now c.args.tb.now c.args.pb.now)
    c.args.creator c.args.id c.sound.result c.sound.ensures c.if-not-sound.false-raw
    c.is_id.result c.is_id.ensures c.if-not-is_id.false-raw c.is_thread.result c.is_thread.ensures
    c.if-not-is_thread.true-raw

pub is_thread-requires-2 : goal.is_thread-requires-2
is_thread-requires-2 c =
    threads-long (lent c.args.ps.now c.args.ts.now c.args.tb.now c.args.pb.now)
    (sym c.sound.ensures ∙ c.if-not-sound.false)

pub returns-then-is_thread : goal.returns-then-is_thread
returns-then-is_thread c =
    thread-there (lent c.args.ps.now c.args.ts.now c.args.tb.now c.args.pb.now)
    c.args.creator c.args.id c.sound.result c.sound.ensures c.if-not-sound.false-raw
    c.is_id.result c.is_id.ensures c.if-not-is_id.false-raw c.is_thread.result c.is_thread.ensures
    c.if-not-is_thread.false-raw
    c.is_thread-2.result c.is_thread-2.ensures c.if-is_thread.true

pub has_thread_place-requires : goal.has_thread_place-requires
has_thread_place-requires c =
    threads-long (lent c.args.ps.now c.args.ts.now c.args.tb.now c.args.pb.now)
    (sym c.sound.ensures ∙ c.if-not-sound.false)

pub returns-then-not-has_thread_place : goal.returns-then-not-has_thread_place
returns-then-not-has_thread_place c =
    thread-full (lent c.args.ps.now c.args.ts.now c.args.tb.now c.args.pb.now)
    c.args.creator c.args.id c.sound.result c.sound.ensures c.if-not-sound.false-raw
    c.is_id.result c.is_id.ensures c.if-not-is_id.false-raw c.is_thread.result c.is_thread.ensures
    c.if-not-is_thread.false-raw
    c.is_thread-2.result c.is_thread-2.ensures c.if-is_thread.false c.has_thread_place.result
    c.has_thread_place.ensures c.if-not-has_thread_place.true-raw

pub returns : goal.returns
returns c =
    thread-accepted (lent c.args.ps.now c.args.ts.now c.args.tb.now c.args.pb.now)
    c.args.creator c.args.id c.sound.result c.sound.ensures c.if-not-sound.false-raw
    c.is_id.result c.is_id.ensures c.if-not-is_id.false-raw c.is_thread.result c.is_thread.ensures
    c.if-not-is_thread.false-raw
    c.is_thread-2.result c.is_thread-2.ensures c.if-is_thread.false c.has_thread_place.result
    c.has_thread_place.ensures c.if-not-has_thread_place.false-raw
