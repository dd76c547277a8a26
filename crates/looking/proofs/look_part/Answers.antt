-- `look_part` meets its contract. Assumes nothing.
use mathlib.Core.Path.{◌∙◌}
use Rattle.sound.specs.Lent.{lent}
use Rattle.looking.proofs.Slots.{told}
use Rattle.looking.proofs.look_part.Goals as goal

pub returns-then-n-eq0 : goal.returns-then-n-eq0
returns-then-n-eq0 c = (told c.args.thread (lent c.args.ps.now c.args.ts.now c.args.tb.now c.args.pb.now)
    c.look_slot-n.result c.look_slot-n.ensures).nothing c.if-n-eq0.true

pub slot_of-requires : goal.slot_of-requires
slot_of-requires c = ((told c.args.thread (lent c.args.ps.now c.args.ts.now c.args.tb.now c.args.pb.now)
    c.look_slot-n.result c.look_slot-n.ensures).own c.if-n-eq0.false c.if-n-le-BUFFER_RECORDS.true).inside

pub returns-then-n-le-BUFFER_RECORDS : goal.returns-then-n-le-BUFFER_RECORDS
returns-then-n-le-BUFFER_RECORDS c =
    c.slot_of.ensures
    ∙ ((told c.args.thread (lent c.args.ps.now c.args.ts.now c.args.tb.now c.args.pb.now) c.look_slot-n.result
    c.look_slot-n.ensures).own c.if-n-eq0.false c.if-n-le-BUFFER_RECORDS.true).bytes

pub slot_of-requires-2 : goal.slot_of-requires-2
slot_of-requires-2 c = ((told c.args.thread (lent c.args.ps.now c.args.ts.now c.args.tb.now c.args.pb.now)
    c.look_slot-n.result c.look_slot-n.ensures).shared c.if-n-le-BUFFER_RECORDS.false).inside

pub returns : goal.returns
returns c = c.slot_of-2.ensures
    ∙ ((told c.args.thread (lent c.args.ps.now c.args.ts.now c.args.tb.now c.args.pb.now) c.look_slot-n.result
    c.look_slot-n.ensures).shared c.if-n-le-BUFFER_RECORDS.false).bytes
