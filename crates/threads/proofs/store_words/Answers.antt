-- `store_words` meets its contract. Assumes nothing.
use Rattle.std.proofs.Common.{◌≡◌, ◌<◌, ◌∙◌, ap, sym, arith, get_or, set}
use lib.Seq.{set-get_or}
use Rattle.limits.specs.Limits.{thread_places}
use Rattle.threads.specs.Records.{no_thread, records_of}
use Rattle.threads.proofs.Filled.{filled, filled-suc, filled-same, filled-all}
use Rattle.threads.proofs.Words.{records-long, same-is}
use Rattle.threads.proofs.store_words.Goals as goal
use Rattle.threads.proofs.store_words.Goals.{then-ne, else-ne}

pub loop-i-preserved : goal.loop-i-preserved
loop-i-preserved c =
    let d = c.args.ts.now in
    let zs = records_of thread_places c.args.ws.now in
    let i = c.loop-i.i in
    let h = c.loop-i.invariant in
    let long = records-long c.args.ws.now in
    let l : i < thread_places = omega arith in
    elim c.if-ne.branch [
      | then-ne w ↦
          w.ts-is
          ∙ ap (set c.loop-i.ts i) c.record_at-u.ensures
          ∙ ap (λ xs. set xs i (get_or zs i no_thread)) h
          ∙ filled-suc d zs i thread_places c.requires.0 long l
      | else-ne w ↦
          w.ts-is ∙ set-get_or c.loop-i.ts i no_thread ∙ h
          ∙ filled-same d zs i thread_places c.requires.0 long l
          (ap (λ xs. get_or xs i no_thread) (sym h)
          ∙ same-is (get_or c.loop-i.ts i no_thread) c.record_at-u.result (sym c.ne.ensures ∙ w.if-ne.false)
          ∙ c.record_at-u.ensures)
    ]

pub returns : goal.returns
returns c =
    let zs = records_of thread_places c.args.ws.now in
    let e : c.loop-i.i ≡ thread_places = omega arith in
    c.loop-i.invariant
    ∙ ap (filled c.args.ts.now zs) e
    ∙ filled-all c.args.ts.now zs thread_places c.requires.0 (records-long c.args.ws.now)
