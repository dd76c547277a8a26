-- `append` meets its contract. Assumes nothing.
use native.Mathlib.Omega.{arith}
use Rattle.siginfo.specs.Bytes.{Fits}
use Rattle.rules.specs.Store.{on_slots}
use Rattle.queue.specs.Queue.{records_of}
use Rattle.queue.proofs.Buffer.{length-laid}
use Rattle.queue.proofs.Changes.{appended-slots}
use Rattle.queue.proofs.append.Goals as goal

pub used-n-requires : goal.used-n-requires
used-n-requires c = length-laid c.args.b.now c.requires.b_value

pub write-requires : goal.write-requires
write-requires c =
    omega (arith, length-laid c.args.b.now c.requires.b_value, c.requires.b_len_bound, c.used-n.ensures)

pub returns : goal.returns
unfolding on_slots records_of
returns c =
    let fits : Fits c.args.r = omega arith in
    appended-slots c.args.b.now c.used-n.result c.args.r c.requires.b_value c.used-n.ensures
    (omega (arith, c.requires.b_len_bound, c.used-n.ensures)) fits
    c.write.ensures
