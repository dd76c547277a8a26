-- "When the layer refuses": the table's rows, a test and its number each, for every call.
use Rattle.std.specs.Prelude.{ℕ, Bool, true, false, not, ◌&&◌, ◌||◌, cond, List, [], ◌∷◌, eqb, leb, ltb}
use Rattle.std.proofs.Math.Option.{Option, some, none}
use Rattle.limits.specs.Limits.{signals, record_limit, EPERM, ESRCH, EAGAIN, EFAULT, EEXIST, EINVAL, sig_setmask}
use Rattle.lists.specs.Lists.{any, is_some}
use Rattle.sigset.specs.declared.SigSet.{SigSet}
use Rattle.sigset.specs.Set.{is_unmaskable}
use Rattle.types.specs.declared.Action.{Action}
use Rattle.rules.specs.Types.{Call, clear, add_process, add_thread, end_process, end_thread, kill, sigqueue}
use Rattle.rules.specs.Types.{sigaction, sigmask, sigpending, look, who, take, sigreturn, Kind, clearing, adding}
use Rattle.rules.specs.Types.{queueing, taking, other, kind_of}
use Rattle.rules.specs.View.{View, target_queue, live_process, live_thread, the_process, the_thread}
use Rattle.rules.specs.Store.{Store, view, is_free_process, is_free_thread}
use Rattle.rules.specs.Sound.{good_id, flags_known, lengths_right, sound}
use Rattle.rules.specs.Sending.{may_signal, generation, needs_record}

-- the errnos in the table's order
abbrev pub table_order : List ℕ
table_order = EFAULT ∷ EINVAL ∷ ESRCH ∷ EPERM ∷ EEXIST ∷ EAGAIN ∷ []

-- a test, and the errno that is given where it holds
pub record Row : Type 0 where
  pub applies : Bool
  pub errno : ℕ

-- "Checked in table order; the first that applies is returned"; 0 where none does
unfoldable pub refusal : List Row → ℕ
refusal [] = 0
refusal (r ∷ rs) = cond r.applies r.errno (refusal rs)

-- ---- 22 EINVAL

-- "signal over 64"
unfoldable pub over_last : ℕ → Bool
over_last s = ltb signals s

-- "a new action for 9 or 19", or one "with a bit we don't know" (request Six)
unfoldable pub unstorable : ℕ → Option Action → Bool
unstorable s none = false
unstorable s (some a) = is_unmaskable s || not (flags_known a)

-- "signal over 64, or 0 where an action is asked"
unfoldable pub bad_action : ℕ → Option Action → Bool
bad_action s new = over_last s || (eqb s 0 || unstorable s new)

-- "with a set given, a way other than 0, 1, 2"
unfoldable pub bad_way : ℕ → Option SigSet → Bool
bad_way way set = is_some set && ltb sig_setmask way

-- "an added id of 0 or over 2,147,483,647"
unfoldable pub bad_id : ℕ → Bool
bad_id n = not (good_id n)

abbrev pub einval : Bool → Row
einval b = record { applies = b; errno = EINVAL }

abbrev pub esrch : Bool → Row
esrch b = record { applies = b; errno = ESRCH }

abbrev pub eperm : Bool → Row
eperm b = record { applies = b; errno = EPERM }

abbrev pub eexist : Bool → Row
eexist b = record { applies = b; errno = EEXIST }

abbrev pub eagain : Bool → Row
eagain b = record { applies = b; errno = EAGAIN }

module _ (v : View) where
  -- ---- 3 ESRCH: "the acting process or thread, the target process, the target thread, or a creator is not live,
  --      or the target thread is not of that process"

  unfoldable pub no_process_live : ℕ → Bool
  no_process_live n = not (live_process v n)

  unfoldable pub no_thread_live : ℕ → Bool
  no_thread_live n = not (live_thread v n)

  -- thread 0 is the process itself
  unfoldable pub bad_target : (to thread : ℕ) → Bool
  bad_target to t = no_process_live to || (not (eqb t 0) && (no_thread_live t || not (eqb (the_thread v t).process to)))

  -- ---- 1 EPERM: "sender may not signal the target"

  unfoldable pub may_not : (by to signal : ℕ) → Bool
  may_not by to s = not (may_signal (the_process v by) (the_process v to) s)

  -- ---- 11 EAGAIN

  -- "no free place for what is added"
  unfoldable pub no_process_place : Bool
  no_process_place = not (any is_free_process v.processes)

  unfoldable pub no_thread_place : Bool
  no_thread_place = not (any is_free_thread v.threads)

  -- "a queued send needs a record and the target process had 32 before the call"
  unfoldable pub no_room : (to thread signal : ℕ) → Bool
  no_room to t s = needs_record (generation v true (target_queue to t) s) && leb record_limit (v.queued to)

  -- ---- the rows below 14, in table order

  unfoldable pub rows : Call → List Row
  rows clear = []
  rows (add_process new) =
      einval (bad_id new.id || bad_id new.thread)
      ∷ eexist (live_process v new.id || live_thread v new.thread)
      ∷ eagain (no_process_place || no_thread_place)
      ∷ []
  rows (add_thread creator id) =
      einval (bad_id id) ∷ esrch (no_thread_live creator) ∷ eexist (live_thread v id) ∷ eagain no_thread_place ∷ []
  rows (end_process id) = esrch (no_process_live id) ∷ []
  rows (end_thread id) = esrch (no_thread_live id) ∷ []
  rows (kill by to t s) = einval (over_last s) ∷ esrch (no_process_live by || bad_target to t) ∷ eperm (may_not by to s)
      ∷ []
  rows (sigqueue by to t s value) =
      einval (over_last s) ∷ esrch (no_process_live by || bad_target to t) ∷ eperm (may_not by to s)
      ∷ eagain (no_room to t s) ∷ []
  rows (sigaction p s new) = einval (bad_action s new) ∷ esrch (no_process_live p) ∷ []
  rows (sigmask t way set) = einval (bad_way way set) ∷ esrch (no_thread_live t) ∷ []
  rows (sigpending t) = esrch (no_thread_live t) ∷ []
  rows (look t) = esrch (no_thread_live t) ∷ []
  rows (who p) = esrch (no_process_live p) ∷ []
  rows (take t) = esrch (no_thread_live t) ∷ []
  rows (sigreturn t saved) = esrch (no_thread_live t) ∷ []

-- ---- 14 EFAULT: "a lent table has another length than above,
--      or the store is not sound (clearing checks lengths only)"

abbrev pub clears : {c : Call} → Kind c → Bool
clears clearing = true
clears (adding new) = false
clears (queueing by to t s value) = false
clears (taking t) = false
clears other = false

unfoldable pub is_clear : Call → Bool
is_clear c = clears (kind_of c)

unfoldable pub fault : Store → Call → Row
fault st c = record { applies = not (cond (is_clear c) (lengths_right st) (sound st)); errno = EFAULT }

-- the whole table
unfoldable pub table : Store → Call → List Row
table st c = fault st c ∷ rows (view st) c

unfoldable pub refusal_of : Store → Call → ℕ
refusal_of st c = refusal (table st c)
