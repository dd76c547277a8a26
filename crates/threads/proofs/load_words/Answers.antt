-- `load_words` meets its contract. Assumes nothing.
use Rattle.std.proofs.Common.{◌≡◌, ◌∙◌, ap, arith, get_or}
use Rattle.limits.specs.Limits.{thread_places}
use Rattle.threads.specs.Records.{no_thread, with_record}
use Rattle.threads.proofs.Words.{written, written_none, written-suc, written_all}
use Rattle.threads.proofs.load_words.Goals as goal

pub loop-i-init : goal.loop-i-init
loop-i-init c = written_none c.args.ws.now c.args.ts.now

pub loop-i-preserved : goal.loop-i-preserved
loop-i-preserved c =
    let ts = c.args.ts.now in
    let i = c.loop-i.i in
    c.put_record.ensures
    ∙ ap (with_record i (get_or ts i no_thread)) c.loop-i.invariant
    ∙ written-suc c.args.ws.now ts i c.requires.0 (omega arith)

pub returns : goal.returns
returns c =
    let e : c.loop-i.i ≡ thread_places = omega arith in
    c.loop-i.invariant
    ∙ ap (written c.args.ws.now c.args.ts.now) e
    ∙ written_all c.args.ws.now c.args.ts.now c.requires.1 c.requires.0
