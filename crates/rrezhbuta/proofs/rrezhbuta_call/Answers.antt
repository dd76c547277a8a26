-- `rrezhbuta_call` meets its contract: a row of another length is refused, else the call is made on its words, and
-- where it is accepted the row is handed back. Assumes nothing.
use mathlib.Core.Path.{◌≡◌, sym, ap, ◌∙◌}
use mathlib.Core.List.{List}
use Prim.Native.Nat.{ℕ}
use Rattle.sound.specs.Lent.{lent}
use Rattle.types.specs.Answers.{refused_by}
use Rattle.answers.proofs.Endings.{number-some}
use Rattle.boundary.specs.declared.Arguments.{Arguments}
use Rattle.boundary.specs.Boundary.{arguments, Served, served}
use Rattle.threads.specs.Records.{words_of}
use Rattle.rrezhbuta.specs.Entry.{Host, host}
use Rattle.rrezhbuta.proofs.Lengths.{wrong-length}
use Rattle.rrezhbuta.proofs.Worked.{worked, refused}
use Rattle.rrezhbuta.proofs.rrezhbuta_call.Goals as goal

-- what is served on the words of the row
on-words : (number : ℕ) (g : Arguments) (h : Host) (ws : List ℕ) (s : Served) → ws ≡ words_of h.threads
    → s ≡ served number g h.answer (lent h.processes ws h.thread_buffer h.process_buffer)
    → s ≡ served number g h.answer (lent h.processes (words_of h.threads) h.thread_buffer h.process_buffer)
on-words number g h ws s k e =
    e ∙ ap (λ (us : List ℕ). served number g h.answer (lent h.processes us h.thread_buffer h.process_buffer)) k

pub returns-then-ts-ne-THREAD_PLACES : goal.returns-then-ts-ne-THREAD_PLACES
returns-then-ts-ne-THREAD_PLACES c =
    let a = c.args in
    wrong-length (host a.ps.now a.tb.now a.pb.now a.out.now a.ts.now) a.number
    (arguments a.a a.b a.c a.d a.e a.f a.x a.y a.z) c.if-ts-ne-THREAD_PLACES.true

pub returns-in-Ok : goal.returns-in-Ok
returns-in-Ok c =
    let a = c.args in
    let h = host a.ps.now a.tb.now a.pb.now a.out.now a.ts.now in
    let g = arguments a.a a.b a.c a.d a.e a.f a.x a.y a.z in
    let n = c.serve.new in
    let s : Served =
    record { tables = lent n.ps n.ts n.tb n.pb; words = n.out; errno = refused_by c.serve.result } in
    ap (λ (k : ℕ). (host n.ps n.tb n.pb n.out c.hand_back.new.ts, k)) (sym (ap refused_by c.in-Ok.is))
    ∙ worked a.number g h c.if-ts-ne-THREAD_PLACES.false s
    (on-words a.number g h c.load_words.new.ws s c.load_words.ensures c.serve.ensures)
    c.hand_back.new.ts c.hand_back.ensures

pub returns-in-Err : goal.returns-in-Err
returns-in-Err c =
    let a = c.args in
    let h = host a.ps.now a.tb.now a.pb.now a.out.now a.ts.now in
    let g = arguments a.a a.b a.c a.d a.e a.f a.x a.y a.z in
    let n = c.serve.new in
    let s : Served =
    record { tables = lent n.ps n.ts n.tb n.pb; words = n.out; errno = refused_by c.serve.result } in
    let e = c.in-Err.refusal in
    ap (λ (k : ℕ). (host n.ps n.tb n.pb n.out a.ts.now, k)) (c.from.ensures ∙ sym (ap refused_by c.in-Err.is))
    ∙ refused a.number g h c.if-ts-ne-THREAD_PLACES.false s
    (on-words a.number g h c.load_words.new.ws s c.load_words.ensures c.serve.ensures)
    (λ z. number-some e (ap refused_by (sym c.in-Err.is) ∙ z))
