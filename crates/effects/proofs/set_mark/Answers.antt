-- `set_mark` meets its contract. Assumes nothing.
use mathlib.Core.Path.{refl}
use borrow.Author.Rules.{rules}
use Rattle.rules.specs.View.{target_queue}
use Rattle.sound.specs.Lent.{view_of, decoded, lent}
use Rattle.effects.proofs.Makes.{fits_one, makes}
use Rattle.effects.proofs.Fitted.{mark-queue}
use Rattle.effects.proofs.Queues.{mark-set}
use Rattle.effects.proofs.set_mark.Goals as goal

pub change_marks-requires : goal.change_marks-requires
change_marks-requires c =
    let v = view_of (lent c.args.ps.now c.args.ts.now c.args.tb.now c.args.pb.now) in
    record {
      sound = c.requires.sound;
      live = mark-queue v (target_queue c.args.process c.args.thread) c.args.signal (fits_one c.requires);
    }

pub returns : goal.returns
returns c =
    let l = lent c.args.ps.now c.args.ts.now c.args.tb.now c.args.pb.now in
    let l' = lent c.change_marks.new.ps c.change_marks.new.ts c.args.tb.now c.args.pb.now in
    makes c.requires (search rules) (search rules) refl refl
    (mark-set (target_queue c.args.process c.args.thread) c.args.signal c.of_signal.result c.of_signal.ensures
    (decoded l) (decoded l') c.change_marks.ensures)
