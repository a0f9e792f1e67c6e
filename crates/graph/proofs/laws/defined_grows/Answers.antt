use Rattle.graph.proofs.Definedness.{defined_grows}
use Rattle.graph.proofs.laws.defined_grows.Goals as goal

pub returns : goal.returns
returns c = defined_grows
