-- A record more at the end of its buffer, or the oldest of a queue and signal less,
-- is what the rules' change makes of the store. Assumes nothing.
use Prim.Native.Nat.{ℕ, ◌<◌}
use mathlib.Core.Path.{◌≡◌, refl, sym, ap, ◌∙◌}
use mathlib.Core.Bool.{true, false}
use mathlib.Core.List.{List}
use lib.Dec.{eqb}
use lib.ListN.{length}
use Rattle.limits.specs.Limits.{buffer_records}
use Rattle.lists.specs.Lists.{any, find, drop_first, padded}
use Rattle.lists.proofs.Lists.{is_some-first}
use Rattle.lists.proofs.Loops.{find-any}
use Rattle.types.specs.declared.Siginfo.{Siginfo}
use Rattle.types.specs.Values.{no_siginfo}
use Rattle.rules.specs.Types.{Queue}
use Rattle.rules.specs.View.{in_queue, append, drop_oldest}
use Rattle.rules.specs.Store.{used, records_for, on_slots, view, apply}
use Rattle.rules.specs.Fitting.{fits}
use Rattle.rules.proofs.Queues.{target-process, queue-target}
use Rattle.queue.specs.Queue.{slots_of, records_of, appended, remove_at}
use Rattle.queue.proofs.Buffer.{drop-oldest}
use Rattle.sound.specs.Lent.{Lent, lent, decoded, view_of, sound_tables}
use Rattle.sound.proofs.Facts.{room}
use Rattle.effects.proofs.Fitted.{append-queue, append-below}
use Rattle.effects.proofs.Places.{with_all}

module _ (l : Lent) where
  -- ---- append

  pub append-room : sound_tables l ≡ true → (r : Siginfo) → fits (view_of l) (append r) ≡ true
      → (length (records_of l.thread_buffer) < buffer_records) × (length (records_of l.process_buffer) < buffer_records)
  unfolding view
  append-room e r f =
      let v = view_of l in
      room l e r.process
      (target-process v r.process r.thread (queue-target v r.process r.thread (append-queue v r f)))
      (append-below v r f)

  module _ (r : Siginfo) where
    pub append-process : eqb r.thread 0 ≡ true → (pb' : List ℕ)
        → slots_of pb' ≡ on_slots (appended r) (slots_of l.process_buffer)
        → decoded (lent l.processes l.threads l.thread_buffer pb') ≡ apply (append r) (decoded l)
    unfolding apply decoded appended
    append-process z pb' k = rw z (with_all (lent l.processes l.threads l.thread_buffer pb') refl refl refl k)

    pub append-thread : eqb r.thread 0 ≡ false → (tb' : List ℕ)
        → slots_of tb' ≡ on_slots (appended r) (slots_of l.thread_buffer)
        → decoded (lent l.processes l.threads tb' l.process_buffer) ≡ apply (append r) (decoded l)
    unfolding apply decoded appended
    append-thread z tb' k = rw z (with_all (lent l.processes l.threads tb' l.process_buffer) refl refl k refl)

  -- ---- the oldest

  module _ (q : Queue) (s k : ℕ) where
    oldest-slots : (b : List ℕ) → k ≡ find (in_queue q s) (records_of b)
        → on_slots (remove_at k) (slots_of b) ≡ on_slots (drop_first (in_queue q s)) (slots_of b)
    unfolding on_slots records_of
    oldest-slots b here =
        ap (padded no_siginfo buffer_records)
        (ap (λ i. remove_at i (used (slots_of b))) here ∙ drop-oldest (in_queue q s) (used (slots_of b)))

    oldest-inside : (b : List ℕ) → k ≡ find (in_queue q s) (records_of b) → any (in_queue q s) (records_of b) ≡ true
        → k < length (records_of b)
    oldest-inside b here e = rw here (find-any (in_queue q s) (records_of b) e)

    module _ (f : fits (view_of l) (drop_oldest q s) ≡ true) where
      there : any (in_queue q s) (records_for q (decoded l)) ≡ true
      unfolding fits view
      there = sym (is_some-first (in_queue q s) (records_for q (decoded l))) ∙ f

      pub oldest-process : eqb q.thread 0 ≡ true → k ≡ find (in_queue q s) (records_of l.process_buffer)
          → k < length (records_of l.process_buffer)
      unfolding records_for records_of decoded
      oldest-process z here = oldest-inside l.process_buffer here (rw z at there)

      pub oldest-thread : eqb q.thread 0 ≡ false → k ≡ find (in_queue q s) (records_of l.thread_buffer)
          → k < length (records_of l.thread_buffer)
      unfolding records_for records_of decoded
      oldest-thread z here = oldest-inside l.thread_buffer here (rw z at there)

    pub drop-process : eqb q.thread 0 ≡ true → k ≡ find (in_queue q s) (records_of l.process_buffer) → (pb' : List ℕ)
        → slots_of pb' ≡ on_slots (remove_at k) (slots_of l.process_buffer)
        → decoded (lent l.processes l.threads l.thread_buffer pb') ≡ apply (drop_oldest q s) (decoded l)
    unfolding apply decoded
    drop-process z here pb' e =
        rw z (with_all (lent l.processes l.threads l.thread_buffer pb') refl refl refl
        (e ∙ oldest-slots l.process_buffer here))

    pub drop-thread : eqb q.thread 0 ≡ false → k ≡ find (in_queue q s) (records_of l.thread_buffer) → (tb' : List ℕ)
        → slots_of tb' ≡ on_slots (remove_at k) (slots_of l.thread_buffer)
        → decoded (lent l.processes l.threads tb' l.process_buffer) ≡ apply (drop_oldest q s) (decoded l)
    unfolding apply decoded
    drop-thread z here tb' e =
        rw z (with_all (lent l.processes l.threads tb' l.process_buffer) refl refl
        (e ∙ oldest-slots l.thread_buffer here) refl)
