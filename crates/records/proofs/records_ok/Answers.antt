use mathlib.Core.Path.{◌∙◌}
use Rattle.queue.specs.Queue.{records_of}
use Rattle.records.proofs.Both.{threads-fail, processes-fail, both-counted}
use Rattle.records.proofs.records_ok.Goals as goal

pub returns-in_default : goal.returns-in_default
returns-in_default c =
    let p = c.args.places.now in
    threads-fail p.processes.words.now p.threads.words.now (records_of c.args.tb.now) (records_of c.args.pb.now)
    c.in_default.ensures

pub returns-in_default-counted : goal.returns-in_default-counted
returns-in_default-counted c =
    let p = c.args.places.now in
    processes-fail p.processes.words.now p.threads.words.now (records_of c.args.tb.now)
    (records_of c.args.pb.now) c.in_default-counted.ensures

pub returns : goal.returns
returns c =
    let p = c.args.places.now in
    c.all_within.ensures
    ∙ both-counted p.processes.words.now p.threads.words.now (records_of c.args.tb.now)
    (records_of c.args.pb.now) c.in-Some.to_threads c.in-Some-counted.to_processes c.in-Some.ensures.0
    c.in-Some-counted.ensures.0 c.in-Some.ensures.1 c.in-Some-counted.ensures.1
