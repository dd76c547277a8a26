-- `drop_oldest` meets its contract, a case for each buffer. Assumes nothing.
use mathlib.Core.Path.{refl, sym, ap, ◌∙◌}
use borrow.Author.Rules.{rules}
use borrow.Author.Tests.{eq-eqb, ne_eqb}
use Rattle.std.specs.Prelude.{is_some}
use Rattle.lists.proofs.Loops.{any-find}
use Rattle.lists.proofs.Finds.{is-some, find-some}
use Rattle.types.specs.Values.{no_siginfo}
use Rattle.rules.specs.View.{target_queue, in_queue}
use Rattle.queue.specs.Queue.{records_of}
use Rattle.sound.specs.Lent.{lent}
use Rattle.sound.proofs.Facts.{thread-buffer-long, process-buffer-long, thread-buffer-laid, process-buffer-laid}
use Rattle.effects.proofs.Makes.{fits_one, makes}
use Rattle.effects.proofs.Buffers.{oldest-process, oldest-thread, drop-process, drop-thread}
use Rattle.effects.proofs.drop_oldest.Goals as goal

pub first_of-requires : goal.first_of-requires
first_of-requires c =
    process-buffer-long (lent c.args.ps.now c.args.ts.now c.args.tb.now c.args.pb.now) c.requires.sound

pub unwrap-k-requires : goal.unwrap-k-requires
unwrap-k-requires c =
    let l = lent c.args.ps.now c.args.ts.now c.args.tb.now c.args.pb.now in
    let q = target_queue c.args.process c.args.thread in
    let p = in_queue q c.args.signal in
    let rs = records_of c.args.pb.now in
    let i = oldest-process l q c.args.signal _ (fits_one c.requires) (eq-eqb c.args.thread 0 c.if-thread-eq0.true)
    refl in
    ap is_some c.first_of.ensures ∙ is-some p rs ∙ any-find p no_siginfo rs i

pub remove-requires-clause-b_value : goal.remove-requires-clause-b_value
remove-requires-clause-b_value c =
    process-buffer-laid (lent c.args.ps.now c.args.ts.now c.args.tb.now c.args.pb.now) c.requires.sound

pub first_of-requires-else-thread-eq0 : goal.first_of-requires-else-thread-eq0
first_of-requires-else-thread-eq0 c =
    thread-buffer-long (lent c.args.ps.now c.args.ts.now c.args.tb.now c.args.pb.now) c.requires.sound

pub unwrap-k-requires-else-thread-eq0 : goal.unwrap-k-requires-else-thread-eq0
unwrap-k-requires-else-thread-eq0 c =
    let l = lent c.args.ps.now c.args.ts.now c.args.tb.now c.args.pb.now in
    let q = target_queue c.args.process c.args.thread in
    let p = in_queue q c.args.signal in
    let rs = records_of c.args.tb.now in
    let i = oldest-thread l q c.args.signal _ (fits_one c.requires) (ne_eqb c.args.thread 0 c.if-thread-eq0.false)
    refl in
    ap is_some c.first_of-else-thread-eq0.ensures ∙ is-some p rs ∙ any-find p no_siginfo rs i

pub remove-requires-else-thread-eq0-clause-b_value : goal.remove-requires-else-thread-eq0-clause-b_value
remove-requires-else-thread-eq0-clause-b_value c =
    thread-buffer-laid (lent c.args.ps.now c.args.ts.now c.args.tb.now c.args.pb.now) c.requires.sound

pub returns-then-thread-eq0 : goal.returns-then-thread-eq0
returns-then-thread-eq0 c =
    let l = lent c.args.ps.now c.args.ts.now c.args.tb.now c.args.pb.now in
    let q = target_queue c.args.process c.args.thread in
    let s = c.args.signal in
    let k = c.unwrap-k.result in
    let e = find-some (in_queue q s) (records_of c.args.pb.now) k (sym c.first_of.ensures ∙ c.unwrap-k.ensures) in
    makes c.requires refl refl refl (search rules)
    (drop-process l q s k (eq-eqb c.args.thread 0 c.if-thread-eq0.true) (sym e) c.remove.new.b c.remove.ensures)

pub returns-else-thread-eq0 : goal.returns-else-thread-eq0
returns-else-thread-eq0 c =
    let l = lent c.args.ps.now c.args.ts.now c.args.tb.now c.args.pb.now in
    let q = target_queue c.args.process c.args.thread in
    let s = c.args.signal in
    let k = c.unwrap-k-else-thread-eq0.result in
    let e = find-some (in_queue q s) (records_of c.args.tb.now) k
    (sym c.first_of-else-thread-eq0.ensures ∙ c.unwrap-k-else-thread-eq0.ensures) in
    makes c.requires refl refl (search rules) refl
    (drop-thread l q s k (ne_eqb c.args.thread 0 c.if-thread-eq0.false) (sym e) c.remove-else-thread-eq0.new.b
    c.remove-else-thread-eq0.ensures)
