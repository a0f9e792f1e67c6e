use Rattle.graph.proofs.Definedness.{defined_least}
use Rattle.graph.proofs.laws.defined_least.Goals as goal

pub returns : goal.returns
returns c = defined_least
