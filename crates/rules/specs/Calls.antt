-- Every call: its refusal, its reply, its changes; and a list of calls from a store on.
use Rattle.std.specs.Prelude.{ℕ, zero, suc, Bool, true, false, cond, List, [], ◌∷◌, eqb}
use Rattle.std.proofs.Math.Option.{some}
use Rattle.limits.specs.Limits.{sig_setmask}
use Rattle.lists.specs.Lists.{find}
use Rattle.types.specs.declared.Reply.{Reply}
use Rattle.types.specs.declared.Reply.TheVariants.{Done, Sent, OldAction, OldMask, PendingSet, Looked, Taken}
use Rattle.types.specs.Answers.{Answer}
use Rattle.types.specs.Answers.{Refused, Accepted}
use Rattle.rules.specs.Types.{Queue, Call, clear, add_process, add_thread, end_process, end_thread, kill, sigqueue}
use Rattle.rules.specs.Types.{sigaction, sigmask, sigpending, look, who, take, sigreturn, Next, no_next, next_mark}
use Rattle.rules.specs.Types.{next_record, told}
use Rattle.rules.specs.View.{View, target_queue, Change, Stage, forget, remove_process, in_queue, action_of}
use Rattle.rules.specs.View.{the_process, the_thread}
use Rattle.rules.specs.Store.{Store, view, records_for, apply_all}
use Rattle.rules.specs.Sending.{generation, info_of, send_changes, send_answer}
use Rattle.rules.specs.Actions.{action_changes, mask_changes, blocked_pending}
use Rattle.rules.specs.Taking.{next, taker, take_changes, take_answer}
use Rattle.rules.specs.Adding.{add_process_changes, add_thread_changes, end_thread_changes}
use Rattle.rules.specs.Refusals.{refusal_of}

module _ (v : View) where
  -- one send, plain or queued
  unfoldable pub send : (queued : Bool) (by to thread signal value : ℕ) → List Change
  send queued by to t s value = send_changes (generation v queued (target_queue to t) s) (info_of v by to t s value)

  unfoldable pub changes : Call → List Change
  changes clear = forget ∷ []
  changes (add_process new) = add_process_changes new
  changes (add_thread creator id) = add_thread_changes v creator id
  changes (end_process id) = remove_process id ∷ []
  changes (end_thread id) = end_thread_changes v (the_thread v id)
  changes (kill by to t s) = send false by to t s 0
  changes (sigqueue by to t s value) = send true by to t s value
  changes (sigaction p s new) = action_changes p s new
  changes (sigmask t way set) = mask_changes v t way set
  changes (sigpending t) = []
  changes (look t) = []
  changes (who p) = []
  changes (take t) = take_changes v (the_thread v t) (next v (the_thread v t))
  -- "Return from a handler is way 2 with the saved mask."
  changes (sigreturn t saved) = mask_changes v t sig_setmask (some saved)

  unfoldable pub reply : Call → Reply
  reply clear = Done
  reply (add_process new) = Done
  reply (add_thread creator id) = Done
  reply (end_process id) = Done
  reply (end_thread id) = Done
  reply (kill by to t s) = Sent (send_answer (generation v false (target_queue to t) s))
  reply (sigqueue by to t s value) = Sent (send_answer (generation v true (target_queue to t) s))
  -- "Storing an action answers the old one"
  reply (sigaction p s new) = OldAction (action_of (the_process v p) s)
  -- "the old mask is answered"
  reply (sigmask t way set) = OldMask (the_thread v t).mask
  reply (sigpending t) = PendingSet (blocked_pending v (the_thread v t))
  reply (look t) = Looked (told (next v (the_thread v t)))
  reply (who p) = taker v p
  reply (take t) = Taken (take_answer v (the_thread v t) (next v (the_thread v t)))
  reply (sigreturn t saved) = OldMask (the_thread v t).mask

-- the stages of a call, given the view before it: here one each
unfoldable pub stages : View → Call → List Stage
stages v c = (λ w. changes w c) ∷ []

unfoldable pub run_stages : List Stage → Store → Store
run_stages [] st = st
run_stages (g ∷ gs) st = run_stages gs (apply_all (g (view st)) st)

-- "Every refusal writes nothing and returns only its number"
unfoldable pub finish : (errno : ℕ) → Call → Store → Store × Answer
finish zero c st = (run_stages (stages (view st) c) st, Accepted (reply (view st) c))
finish (suc n) c st = (st, Refused (suc n))

-- one call: the store after it, and its answer
unfoldable pub step : Call → Store → Store × Answer
step c st = finish (refusal_of st c) c st

-- a list of calls, each on the store that the one before left
unfoldable pub run : List Call → Store → Store × List Answer
run [] st = (st, [])
run (c ∷ cs) st =
    let one : Store × Answer = step c st in
    let rest : Store × List Answer = run cs one.0 in
    (rest.0, one.1 ∷ rest.1)

-- which answers are refusals
unfoldable pub is_refused : Answer → Bool
is_refused (Refused n) = true
is_refused (Accepted r) = false

-- ---- what a look hands back: "a part of the thread buffer or of the process buffer;
--      an empty part for a mark or for nothing"; "a refused look is the empty part too"

pub data Part : Type 0 where
  empty_part : Part
  thread_slot process_slot : (slot : ℕ) → Part

-- the slot of the oldest record of the queue and the signal
unfoldable pub slot_of : Store → Queue → ℕ → Part
slot_of st q s =
    cond (eqb q.thread 0) (process_slot (find (in_queue q s) (records_for q st)))
    (thread_slot (find (in_queue q s) (records_for q st)))

unfoldable pub part_of : Store → Next → Part
part_of st no_next = empty_part
part_of st (next_mark q s) = empty_part
part_of st (next_record q s r) = slot_of st q s

unfoldable pub look_part : (thread : ℕ) → Store → Part
look_part t st = cond (eqb (refusal_of st (look t)) 0) (part_of st (next (view st) (the_thread (view st) t))) empty_part
