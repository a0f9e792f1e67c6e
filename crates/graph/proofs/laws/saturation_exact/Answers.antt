use Rattle.graph.proofs.Saturated.{saturation_exact}
use Rattle.graph.proofs.laws.saturation_exact.Goals as goal

pub returns : goal.returns
returns c = saturation_exact
