use Rattle.graph.proofs.Definedness.{edges_defined}
use Rattle.graph.proofs.laws.edges_defined.Goals as goal

pub returns : goal.returns
returns c = edges_defined
