-- `next_in` meets its contract. Assumes nothing.
use mathlib.Core.Path.{refl, sym, ◌∙◌}
use native.Mathlib.Omega.{arith}
use Rattle.lists.specs.Lists.{find}
use Rattle.lists.proofs.Finds.{find-some, some-inside, any-none, find_absent}
use Rattle.rules.specs.View.{target_queue, in_queue}
use Rattle.queue.specs.Queue.{records_of}
use Rattle.queue.proofs.Buffer.{length-records_of}
use Rattle.next.proofs.Nexts.{record-next, mark-next}
use Rattle.next.proofs.next_in.Goals as goal

pub read-requires : goal.read-requires
read-requires c =
    let rs = records_of c.args.b.now in
    let p = in_queue (target_queue c.args.process c.args.thread) c.args.signal in
    let i = some-inside p rs c.in-Some.k (sym c.first_of.ensures ∙ c.in-Some.is) in
    omega (arith, i, c.requires, length-records_of c.args.b.now)

pub returns-in-Some : goal.returns-in-Some
returns-in-Some c =
    let q = target_queue c.args.process c.args.thread in
    let rs = records_of c.args.b.now in
    let p = in_queue q c.args.signal in
    let h = sym c.first_of.ensures ∙ c.in-Some.is in
    record-next c.args.b.now q c.args.signal c.in-Some.k _ (sym (find-some p rs c.in-Some.k h)) refl
    (some-inside p rs c.in-Some.k h) c.read.result c.read.ensures

pub returns-in-None : goal.returns-in-None
returns-in-None c =
    let q = target_queue c.args.process c.args.thread in
    let rs = records_of c.args.b.now in
    let p = in_queue q c.args.signal in
    mark-next c.args.b.now q c.args.signal (find p rs) _ refl refl
    (omega (arith, find_absent p rs (any-none p rs (sym c.first_of.ensures ∙ c.in-None.is))))
