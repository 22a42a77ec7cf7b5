use Rattle.links.specs.Thin.{thinning}
use Rattle.links.proofs.thinning.thinning_laws.Goals as goal

pub returns : goal.returns
returns c = thinning
