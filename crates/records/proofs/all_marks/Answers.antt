use native.Mathlib.Omega.{arith}
use mathlib.Core.List.{[]}
use mathlib.Core.Path.{◌∙◌, sym}
use Rattle.std.proofs.lemmas.Grind.{same_number_lists}
use Rattle.records.proofs.all_marks.Goals as goal

pub returns : goal.returns
returns g c =
    let l = c.loop-queue in
    let all = g.met.Q.Queues.adds_up c.args.queues.now in
    same_number_lists _ _ (l.invariant.0 ∙ sym (all.long []))
    (λ k h. l.invariant.1 k (omega arith))
