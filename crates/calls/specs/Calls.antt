-- The rules' call for each case of the enums.
use Rattle.rules.specs.Types.{Call, clear, add_process, add_thread, end_process, end_thread, kill, sigqueue, sigaction}
use Rattle.rules.specs.Types.{sigmask, sigpending, look, who, take, sigreturn}
use Rattle.types.specs.Answers.{given}
use Rattle.calls.specs.declared.Placing.{Placing}
use Rattle.calls.specs.declared.Placing.TheVariants.{AddProcess, AddThread, EndProcess, EndThread}
use Rattle.calls.specs.declared.Sending.{Sending}
use Rattle.calls.specs.declared.Sending.TheVariants.{Kill, Sigqueue}
use Rattle.calls.specs.declared.Setting.{Setting}
use Rattle.calls.specs.declared.Setting.TheVariants.{Sigaction, Sigmask, Sigreturn}
use Rattle.calls.specs.declared.Asking.{Asking}
use Rattle.calls.specs.declared.Asking.TheVariants.{Sigpending, Look, Who}
use Rattle.calls.specs.declared.Call as declared
use Rattle.calls.specs.declared.Call.TheVariants as cases

unfoldable pub placing_of : Placing → Call
placing_of (AddProcess new) = add_process new
placing_of (AddThread creator id) = add_thread creator id
placing_of (EndProcess id) = end_process id
placing_of (EndThread id) = end_thread id

unfoldable pub sending_of : Sending → Call
sending_of (Kill by to t s) = kill by to t s
sending_of (Sigqueue by to t s value) = sigqueue by to t s value

unfoldable pub setting_of : Setting → Call
setting_of (Sigaction p s new) = sigaction p s (given new)
setting_of (Sigmask t way set) = sigmask t way (given set)
setting_of (Sigreturn t saved) = sigreturn t saved

unfoldable pub asking_of : Asking → Call
asking_of (Sigpending t) = sigpending t
asking_of (Look t) = look t
asking_of (Who p) = who p

unfoldable pub call_of : declared.Call → Call
call_of cases.Clear = clear
call_of (cases.Place c) = placing_of c
call_of (cases.Send c) = sending_of c
call_of (cases.Set c) = setting_of c
call_of (cases.Ask c) = asking_of c
call_of (cases.Take t) = take t
