use Prim.Native.Nat.{ℕ}
use mathlib.Core.Path.{ap, ap₂, ◌∙◌}
use mathlib.Core.List.{List}
use native.Mathlib.Omega.{arith}
use Rattle.hints.proofs.Laws.{none-hinted}
use Rattle.hints.specs.declared.Indexed.{Indexed}
use Rattle.limits.specs.Limits.{process_places, process_words, thread_places, thread_words}
use Rattle.queue.proofs.Buffer.{length-laid}
use Rattle.sound.specs.Lent.{lent, sound_tables}
use Rattle.sound.proofs.Whole.{places-wrong, records-decide}
use Rattle.sound.proofs.contents_ok.Goals as goal

pub of-processes-requires : goal.of-processes-requires
of-processes-requires c =
    (omega arith, (c.requires.ps_len.0, ((omega arith, omega arith), none-hinted process_places (omega arith))))

pub of-threads-requires : goal.of-threads-requires
of-threads-requires c =
    (omega arith, (c.requires.ps_len.1, ((omega arith, omega arith), none-hinted thread_places (omega arith))))

pub records_ok-requires : goal.records_ok-requires
records_ok-requires c =
    let laid = c.requires.tb_value in
    (length-laid c.args.tb.now laid.0, length-laid c.args.pb.now laid.1)

pub returns-in-Some : goal.returns-in-Some
returns-in-Some c =
    let tb = c.args.tb.now in
    let pb = c.args.pb.now in
    let ps = c.in-Some.places.processes in
    let ts = c.in-Some.places.threads in
    let same = c.in-Some.ensures in
    c.records_ok.ensures
    ∙ records-decide ps.words.now ts.words.now tb pb ps.hints.now ts.hints.now ps.hinted ts.hinted ps.long ts.long
    c.requires.tb_value.0 c.requires.tb_value.1 c.in-Some.places.sound
    ∙ ap₂ (λ (ws vs : List ℕ). sound_tables (lent ws vs tb pb))
    (ap (λ (t : Indexed process_words process_places). t.words.now) same.0 ∙ c.of-processes.ensures)
    (ap (λ (t : Indexed thread_words thread_places). t.words.now) same.1 ∙ c.of-threads.ensures)

pub returns-in-None : goal.returns-in-None
returns-in-None c =
    let tb = c.args.tb.now in
    let pb = c.args.pb.now in
    let ps = c.of-processes.result in
    let ts = c.of-threads.result in
    places-wrong ps.words.now ts.words.now tb pb ps.hints.now ts.hints.now ps.hinted ts.hinted ps.long ts.long
    c.requires.tb_value.0 c.requires.tb_value.1 c.in-None.ensures
    ∙ ap₂ (λ (ws vs : List ℕ). sound_tables (lent ws vs tb pb)) c.of-processes.ensures c.of-threads.ensures
