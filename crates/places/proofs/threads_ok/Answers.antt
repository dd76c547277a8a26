use Prim.Native.Nat.{◌<◌}
use mathlib.Core.Path.{◌≡◌, ap, sym, subst, ◌∙◌}
use mathlib.Core.Bool.{true}
use borrow.Author.Rules.{rules}
use native.Mathlib.Nat.{zero-add}
use native.Mathlib.Omega.{arith}
use lib.ListN.{length, replicate, length-set}
use Rattle.limits.specs.Limits.{thread_places}
use Rattle.lists.specs.Lists.{all, range}
use Rattle.lists.proofs.Loops.{range_none, range-more, range-fails}
use Rattle.tables.specs.Tables.{processes_of, threads_of}
use Rattle.tables.proofs.Words.{length-processes_of, length-threads_of}
use Rattle.soundness.specs.Check.{thread_ok_at, threads_ok, thread_by}
use Rattle.places.specs.Notes.{OwnersNoted, ThreadedNoted}
use Rattle.places.proofs.Notes.{owners-none, owners-more, owners-free, threaded-none, threaded-more, threaded-free}
use Rattle.places.proofs.Owning.{is_live_thread, is_free_thread, free-thread}
use Rattle.places.proofs.threads_ok.Goals as goal
use Rattle.places.proofs.threads_ok.Goals.{then-field-ne0+in_ok-owner, else-field-ne0+else-not-free_ok}

pub loop-place-init : goal.loop-place-init
loop-place-init c =
    let xs = processes_of c.args.ps.now.words.now in
    let ts = c.args.ts.now in
    let ys = threads_of ts.words.now in
    record {
      owners_long = search rules;
      threaded_long = search rules;
      sound = range_none (thread_ok_at (thread_by ts.hints.now ts.words.now) xs ys) 0;
      owners = owners-none xs ys (replicate thread_places 0);
      threaded = threaded-none xs ys;
    }

pub owner_if_sound-requires-clause-live : goal.owner_if_sound-requires-clause-live
owner_if_sound-requires-clause-live c =
    let ts = c.args.ts.now in
    is_live_thread (thread_by ts.hints.now ts.words.now) c.args.ps.now.words.now ts.words.now c.loop-place.place
    c.field.result c.field.ensures c.if-field-ne0.true

pub returns-in_err-owner : goal.returns-in_err-owner
unfolding threads_ok
returns-in_err-owner c =
    let ts = c.args.ts.now in
    let f = thread_ok_at (thread_by ts.hints.now ts.words.now) (processes_of c.args.ps.now.words.now)
    (threads_of ts.words.now) in
    rw c.from_residual.ensures
    (range-fails f 0 thread_places c.loop-place.place (omega arith)
    (ap f (zero-add c.loop-place.place) ∙ c.in_err-owner.ensures))

pub returns-then-not-free_ok : goal.returns-then-not-free_ok
unfolding threads_ok
returns-then-not-free_ok c =
    let ts = c.args.ts.now in
    let find = thread_by ts.hints.now ts.words.now in
    let ws = c.args.ps.now.words.now in
    let f = thread_ok_at find (processes_of ws) (threads_of ts.words.now) in
    range-fails f 0 thread_places c.loop-place.place (omega arith)
    (ap f (zero-add c.loop-place.place)
    ∙ sym (free-thread find ws ts.words.now c.loop-place.place c.field.result c.field.ensures (omega arith)
    c.free_ok.ensures)
    ∙ c.if-not-free_ok.true)

pub loop-place-preserved : goal.loop-place-preserved
loop-place-preserved c =
    let ws = c.args.ps.now.words.now in
    let ts = c.args.ts.now in
    let vs = ts.words.now in
    let xs = processes_of ws in
    let ys = threads_of vs in
    let find = thread_by ts.hints.now vs in
    let f = thread_ok_at find xs ys in
    let l = c.loop-place in
    let k = l.invariant in
    let below : l.place < length ys = rw (length-threads_of vs) (omega arith) in
    elim c.if-field-ne0.branch [
      | then-field-ne0+in_ok-owner w ↦
          let ok = w.in_ok-owner.ensures in
          let live = is_live_thread find ws vs l.place c.field.result c.field.ensures w.if-field-ne0.true in
          record {
            owners_long = rw (w.places-is, length-set) k.owners_long;
            threaded_long = rw (w.threaded-is, length-set) k.threaded_long;
            sound = range-more f 0 l.place k.sound (ap f (zero-add l.place) ∙ ok.0);
            owners =
                rw w.places-is
                (owners-more xs ys l.place l.places k.owners w.in_ok-owner.owner (omega arith) (λ _. ok.1.1));
            threaded =
                rw (w.threaded-is, ok.1.1)
                (threaded-more xs ys find c.requires.one_place (length-processes_of ws) l.place below ok.0 l.threaded
                k.threaded k.threaded_long live);
          }
      | else-field-ne0+else-not-free_ok w ↦
          let none = is_free_thread find ws vs l.place c.field.result c.field.ensures (omega arith) in
          let ok = sym (free-thread find ws vs l.place c.field.result c.field.ensures (omega arith) w.free_ok.ensures)
          ∙ w.if-not-free_ok.false in
          record {
            owners_long = rw w.places-is k.owners_long;
            threaded_long = rw w.threaded-is k.threaded_long;
            sound = range-more f 0 l.place k.sound (ap f (zero-add l.place) ∙ ok);
            owners = rw w.places-is (owners-free xs ys l.place l.places k.owners none);
            threaded =
                rw w.threaded-is
                (threaded-free xs ys find c.requires.one_place (length-processes_of ws) l.place below ok l.threaded
                k.threaded none);
          }
    ]

pub returns : goal.returns
unfolding threads_ok
returns c =
    let ts = c.args.ts.now in
    let xs = processes_of c.args.ps.now.words.now in
    let ys = threads_of ts.words.now in
    let l = c.loop-place in
    let k = l.invariant in
    let e : l.place ≡ thread_places = omega arith in (
      subst (λ n. all (thread_ok_at (thread_by ts.hints.now ts.words.now) xs ys) (range 0 n) ≡ true) e k.sound,
      (
        subst (λ n. OwnersNoted xs ys n l.places) e k.owners,
        subst (λ n. ThreadedNoted xs ys n l.threaded) e k.threaded,
      ),
    )
