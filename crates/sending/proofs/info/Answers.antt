-- `info` meets its contract. Assumes nothing.
use Rattle.sending.specs.Decisions.{value_of}
use Rattle.rules.specs.View.{live_process}
use Rattle.rules.specs.Store.{view}
use Rattle.sound.specs.Lent.{decoded, lent}
use Rattle.sound.proofs.Facts.{processes-long}
use Rattle.sending.proofs.Decided.{sender-fits, info-read}
use Rattle.sending.proofs.info.Goals as goal

pub real_of-requires : goal.real_of-requires
unfolding live_process view decoded
real_of-requires c =
    let l = lent c.args.ps.now c.args.ts.now c.args.tb.now c.args.pb.now in
    record {
      live = (processes-long l c.requires.sound, c.requires.live);
      good = sender-fits l c.requires.sound c.args.s.by;
    }

pub returns : goal.returns
returns c =
    rw c.unwrap_or.ensures
    (info-read (lent c.args.ps.now c.args.ts.now c.args.tb.now c.args.pb.now) c.args.s.by c.args.s.to
    c.args.s.thread c.args.s.signal (value_of c.args.s)
    c.real_of.result c.real_of.ensures)
