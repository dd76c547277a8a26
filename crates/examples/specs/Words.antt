-- Short words for the tables of calls: a process to add, and the answers.
use Rattle.std.specs.Prelude.{ℕ, Some, None}
use Rattle.sigset.specs.declared.SigSet.{SigSet}
use Rattle.types.specs.declared.Action.{Action}
use Rattle.types.specs.declared.Siginfo.{Siginfo}
use Rattle.types.specs.declared.Sent.TheVariants as sends
use Rattle.types.specs.declared.Pending.TheVariants as pending
use Rattle.types.specs.declared.Taken as takes
use Rattle.types.specs.declared.Taken.TheVariants.{Handler, End, Stop, NoAction}
use Rattle.types.specs.declared.Reply.TheVariants.{Done, Sent, OldAction, OldMask, PendingSet, Looked, Taker}
use Rattle.types.specs.declared.Reply.TheVariants.{Taken}
use Rattle.types.specs.Answers.{Answer, Refused, Accepted}
use Rattle.types.specs.Values.{new_of}
use Rattle.rules.specs.Types.{Call, add_process}

abbrev pub adds : (id real effective saved session thread : ℕ) → SigSet → Call
adds id real effective saved session thread mask = add_process (new_of id real effective saved session thread mask)

-- ---- the answers

abbrev pub refused : ℕ → Answer
refused n = Refused n

abbrev pub done : Answer
done = Accepted Done

abbrev pub tested : Answer
tested = Accepted (Sent sends.Tested)

abbrev pub acted : Answer
acted = Accepted (Sent sends.Acted)

abbrev pub dropped : Answer
dropped = Accepted (Sent sends.Dropped)

abbrev pub absorbed : Answer
absorbed = Accepted (Sent sends.Absorbed)

abbrev pub marked : Answer
marked = Accepted (Sent sends.Marked)

abbrev pub kept : Answer
kept = Accepted (Sent sends.Kept)

abbrev pub old_action : Action → Answer
old_action a = Accepted (OldAction a)

abbrev pub old_mask : SigSet → Answer
old_mask m = Accepted (OldMask m)

abbrev pub pending_set : SigSet → Answer
pending_set m = Accepted (PendingSet m)

abbrev pub looked_nothing : Answer
looked_nothing = Accepted (Looked None)

abbrev pub looked_mark : (process thread signal : ℕ) → Answer
looked_mark p t s = Accepted (Looked (Some (pending.Mark p t s)))

abbrev pub looked_record : Siginfo → Answer
looked_record r = Accepted (Looked (Some (pending.Record r)))

abbrev pub can_take : ℕ → Answer
can_take t = Accepted (Taker (Some t))

abbrev pub none_can : Answer
none_can = Accepted (Taker None)

abbrev taken : takes.Taken → Answer
taken x = Accepted (Taken (Some x))

abbrev pub nothing : Answer
nothing = Accepted (Taken None)

abbrev pub handler : (number signal : ℕ) → Siginfo → (flags : ℕ) → SigSet → Answer
handler n s r flags saved = taken (Handler n s r flags saved)

abbrev pub end : ℕ → Answer
end s = taken (End s)

abbrev pub stop : ℕ → Answer
stop s = taken (Stop s)

abbrev pub no_action : ℕ → Answer
no_action s = taken (NoAction s)
