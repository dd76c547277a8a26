use Rattle.records.proofs.Endings.{over, room-left}
use Rattle.records.proofs.within_at.Goals as goal

pub returns-then-cs-place-gt-RECORD_LIMIT : goal.returns-then-cs-place-gt-RECORD_LIMIT
returns-then-cs-place-gt-RECORD_LIMIT c =
    over c.args.cs.now c.args.ds.now c.args.place
    c.if-cs-place-gt-RECORD_LIMIT.true

pub returns : goal.returns
returns c =
    room-left c.args.cs.now c.args.ds.now c.args.place c.if-cs-place-gt-RECORD_LIMIT.false
