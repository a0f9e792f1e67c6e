use Rattle.graph.proofs.Definedness.{due_defined}
use Rattle.graph.proofs.laws.due_defined.Goals as goal

pub returns : goal.returns
returns c = due_defined
