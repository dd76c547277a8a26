use mathlib.Core.Path.{sym, ◌∙◌}
use Rattle.sound.proofs.Whole.{wrong-length, processes-long, threads-long, threads-unlaid, processes-unlaid}
use Rattle.sound.proofs.sound.Goals as goal

pub returns-then-ps-ts : goal.returns-then-ps-ts
returns-then-ps-ts c =
    wrong-length c.args.ps.now c.args.ts.now c.args.tb.now c.args.pb.now c.if-ps-ts.true

pub returns-then-not-is_laid : goal.returns-then-not-is_laid
returns-then-not-is_laid c =
    threads-unlaid c.args.ps.now c.args.ts.now
    c.args.tb.now c.args.pb.now c.if-ps-ts.false
    (sym c.is_laid.ensures ∙ c.if-not-is_laid.true)

pub returns-then-not-is_laid-2 : goal.returns-then-not-is_laid-2
returns-then-not-is_laid-2 c =
    processes-unlaid c.args.ps.now c.args.ts.now c.args.tb.now c.args.pb.now c.if-ps-ts.false
    (sym c.is_laid.ensures ∙ c.if-not-is_laid.false)
    (sym c.is_laid-2.ensures ∙ c.if-not-is_laid-2.true)

pub contents_ok-requires : goal.contents_ok-requires
contents_ok-requires c =
    let l = c.if-ps-ts.false in
    record {
      ps_len = (
        processes-long c.args.ps.now c.args.ts.now c.args.tb.now c.args.pb.now l,
        threads-long c.args.ps.now c.args.ts.now c.args.tb.now c.args.pb.now l,
      );
      tb_value = (
        sym c.is_laid.ensures ∙ c.if-not-is_laid.false,
        sym c.is_laid-2.ensures ∙ c.if-not-is_laid-2.false,
      );
    }
