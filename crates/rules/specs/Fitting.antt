-- When a change leaves a sound store sound: what a call has made sure of before it makes the change.
use Rattle.std.specs.Prelude.{ℕ, Bool, true, false, not, ◌&&◌, ◌||◌, List, [], ◌∷◌, eqb, leb, ltb}
use Rattle.limits.specs.Limits.{record_limit, si_queue}
use Rattle.lists.specs.Lists.{any, is_some}
use Rattle.rules.specs.Types.{Thread, Queue}
use Rattle.rules.specs.Signals.{standard, ignored}
use Rattle.rules.specs.View.{View, Change, forget, new_process, new_thread, remove_process, remove_thread, set_stopped}
use Rattle.rules.specs.View.{set_action, set_mask, set_mark, clear_mark, append, drop_oldest, discard, belongs_to}
use Rattle.rules.specs.View.{process_queue, thread_queue, queue_of, action_of, live_process, live_thread, the_process}
use Rattle.rules.specs.View.{the_thread, pending_in}
use Rattle.rules.specs.Store.{Store, view, apply, is_free_thread}
use Rattle.rules.specs.Sound.{implies, good_id, unmasked, flags_known, nameable}
use Rattle.rules.specs.Adding.{other_thread}
use Rattle.rules.specs.Refusals.{bad_target}

module _ (v : View) where
  -- the queue is a live process's or a live thread's
  unfoldable pub live_queue : Queue → Bool
  live_queue q = not (bad_target v q.process q.thread)

  -- the thread is of the process and has the signal pending
  unfoldable pub pends_at : (process signal : ℕ) → Thread → Bool
  pends_at p s t = belongs_to p t && pending_in v (thread_queue t) s

  -- a queue of the process has the signal pending
  unfoldable pub pends_somewhere : (process signal : ℕ) → Bool
  pends_somewhere p s = pending_in v (process_queue p) s || any (pends_at p s) v.threads

  -- the signal may become pending in the queue: it can be, is not ignored,
  -- and is not there already where it is a standard one
  unfoldable pub admits : Queue → (signal : ℕ) → Bool
  admits q s =
      live_queue q && (nameable s
      && (not (ignored (action_of (the_process v q.process) s) s) && not (standard s && pending_in v q s)))

  unfoldable pub fits : Change → Bool
  fits forget = true
  -- alone it leaves a process that has no thread; adding one is two changes
  fits (new_process p) = false
  fits (new_thread t) =
      good_id t.id && (not (live_thread v t.id)
      && (live_process v t.process && (unmasked t.mask && any is_free_thread v.threads)))
  fits (remove_process n) = live_process v n
  -- not the last one of its process
  fits (remove_thread n) = live_thread v n && any (other_thread v (the_thread v n)) v.threads
  fits (set_stopped n b) = live_process v n && leb b 1
  -- what is ignored from then on is not pending
  fits (set_action n s a) =
      live_process v n
      && (nameable s && (flags_known a && (unmasked a.mask && implies (ignored a s) (not (pends_somewhere n s)))))
  fits (set_mask n m) = live_thread v n && unmasked m
  fits (set_mark q s) = admits q s
  fits (clear_mark q s) = live_queue q
  fits (append r) =
      eqb r.code si_queue && (admits (queue_of r) r.signal && ltb (v.queued r.process) record_limit)
  fits (drop_oldest q s) = is_some (v.oldest q s)
  fits (discard p signals) = live_process v p

-- each change fits the store that those before it leave
unfoldable pub fits_all : List Change → Store → Bool
fits_all [] st = true
fits_all (c ∷ cs) st = fits (view st) c && fits_all cs (apply c st)
