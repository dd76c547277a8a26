-- `dequeue` meets its contract, a case for each kind. Assumes nothing.
use mathlib.Core.Path.{ap}
use Rattle.answers.specs.Answers.{next_from}
use Rattle.effects.proofs.Makes.{ready-as, made_as}
use Rattle.taking.specs.Takes.{dequeue_changes}
use Rattle.taking.proofs.dequeue.Goals as goal

pub clear_mark-requires : goal.clear_mark-requires
unfolding dequeue_changes next_from
clear_mark-requires c =
    let e = ap (λ n. dequeue_changes (next_from n)) c.in-Mark.is in
    ready-as c.requires e

pub drop_oldest-requires : goal.drop_oldest-requires
unfolding dequeue_changes next_from
drop_oldest-requires c =
    let e = ap (λ n. dequeue_changes (next_from n)) c.in-Record.is in
    ready-as c.requires e

pub returns-in-Mark : goal.returns-in-Mark
unfolding dequeue_changes next_from
returns-in-Mark c =
    let e =
    ap (λ n. dequeue_changes (next_from n))
    c.in-Mark.is in
    let w = c.clear_mark in
    made_as w.ensures e

pub returns-in-Record : goal.returns-in-Record
unfolding dequeue_changes next_from
returns-in-Record c =
    let e =
    ap (λ n. dequeue_changes (next_from n))
    c.in-Record.is in
    let w = c.drop_oldest in
    made_as w.ensures e
