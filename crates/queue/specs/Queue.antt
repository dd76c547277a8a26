-- A buffer of records seen as a list: "Used records come first, oldest first; the rest is zero."
use Rattle.std.specs.Prelude.{ℕ, suc, Bool, not, ◌&&◌, List, [], ◌∷◌, ◌++◌, eqb, length, take, drop}
use Rattle.limits.specs.Limits.{buffer_records, buffer_bytes}
use Rattle.lists.specs.Lists.{any}
use Rattle.sigset.specs.declared.SigSet.{SigSet}
use Rattle.sigset.specs.Set.{set_of}
use Rattle.types.specs.declared.Siginfo.{Siginfo}
use Rattle.siginfo.specs.Bytes.{slots}
use Rattle.rules.specs.Types.{Queue}
use Rattle.rules.specs.View.{in_queue}
use Rattle.rules.specs.Store.{used, left_by}
use Rattle.rules.specs.Sound.{rest_zero}
use Rattle.queue.specs.declared.Discarded.{Discarded}
use Rattle.queue.specs.declared.Discarded.TheVariants.{OfProcess, OfThread, OfSignals}

-- every slot of the buffer
unfoldable pub slots_of : List ℕ → List Siginfo
slots_of b = slots buffer_records b

-- the records in use
unfoldable pub records_of : List ℕ → List Siginfo
records_of b = used (slots_of b)

-- of a buffer's length, and zero behind the records in use
unfoldable pub is_laid : List ℕ → Bool
is_laid b = eqb (length b) buffer_bytes && rest_zero (slots_of b)

-- the signals that have a record of the queue
unfoldable pub signals_in : Queue → List Siginfo → SigSet
signals_in q rs = set_of (λ s. any (in_queue q s) rs)

-- ---- what the operations do to the records

unfoldable pub appended : Siginfo → List Siginfo → List Siginfo
appended r rs = rs ++ (r ∷ [])

unfoldable pub remove_at : ℕ → List Siginfo → List Siginfo
remove_at k rs = take k rs ++ drop (suc k) rs

-- the records that a discard leaves: all but those of a process or a thread that ends,
-- or of a process's signals that go
unfoldable pub is_left : Discarded → Siginfo → Bool
is_left (OfProcess p) r = not (eqb r.process p)
is_left (OfThread t) r = not (eqb r.thread t)
is_left (OfSignals p signals) r = left_by p signals r
