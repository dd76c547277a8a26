-- `append` meets its contract, a case for each buffer. Assumes nothing.
use mathlib.Core.Path.{refl}
use borrow.Author.Rules.{rules}
use borrow.Author.Tests.{eq-eqb, ne_eqb}
use Rattle.sound.specs.Lent.{lent}
use Rattle.sound.proofs.Facts.{thread-buffer-laid, process-buffer-laid}
use Rattle.effects.proofs.Makes.{fits_one, makes}
use Rattle.effects.proofs.Buffers.{append-room, append-process, append-thread}
use Rattle.effects.proofs.append.Goals as goal

pub append-requires : goal.append-requires
append-requires c =
    let l = lent c.args.ps.now c.args.ts.now c.args.tb.now c.args.pb.now in
    record {
      b_value = process-buffer-laid l c.requires.sound;
      b_len_bound = (append-room l c.requires.sound c.args.r (fits_one c.requires)).1;
    }

pub append-requires-else-r-eq0 : goal.append-requires-else-r-eq0
append-requires-else-r-eq0 c =
    let l = lent c.args.ps.now c.args.ts.now c.args.tb.now c.args.pb.now in
    record {
      b_value = thread-buffer-laid l c.requires.sound;
      b_len_bound = (append-room l c.requires.sound c.args.r (fits_one c.requires)).0;
    }

pub returns-then-r-eq0 : goal.returns-then-r-eq0
returns-then-r-eq0 c =
    let l = lent c.args.ps.now c.args.ts.now c.args.tb.now c.args.pb.now in
    let r = c.args.r in
    let pb' = c.append.new.b in
    makes c.requires refl refl refl (search rules)
    (append-process l r (eq-eqb r.thread 0 c.if-r-eq0.true) pb' c.append.ensures)

pub returns-else-r-eq0 : goal.returns-else-r-eq0
returns-else-r-eq0 c =
    let l = lent c.args.ps.now c.args.ts.now c.args.tb.now c.args.pb.now in
    let r = c.args.r in
    let tb' = c.append-else-r-eq0.new.b in
    makes c.requires refl refl (search rules) refl
    (append-thread l r (ne_eqb r.thread 0 c.if-r-eq0.false) tb' c.append-else-r-eq0.ensures)
