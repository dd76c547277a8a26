use Rattle.rules.specs.Sound.{kill_stop_default}
use Rattle.places.proofs.ProcessPlace.kill_stop_default.Goals as goal

pub returns : goal.returns
unfolding kill_stop_default
returns c =
    rw (
      c.is_default-stop.ensures,
      c.action-2.ensures,
      c.is_default-kill.ensures,
      c.action.ensures,
    )
