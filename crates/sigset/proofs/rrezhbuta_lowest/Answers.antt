-- `rrezhbuta_lowest` meets its contract. Assumes nothing.
use Rattle.std.proofs.Common.{ap, ◌∙◌}
use Rattle.std.specs.Prelude.{unwrap_or}
use Rattle.sigset.specs.Set.{lowest, bits}
use Rattle.sigset.proofs.Nonzero.{nonzero-or}
use Rattle.sigset.proofs.rrezhbuta_lowest.Goals as goal

pub returns : goal.returns
returns c =
    c.unwrap_or.ensures ∙ ap (λ o. unwrap_or o 0) c.lowest.ensures ∙ nonzero-or (lowest (bits c.args.set))
