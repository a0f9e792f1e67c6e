use Rattle.graph.proofs.Definedness.{defined_in_range}
use Rattle.graph.proofs.laws.defined_in_range.Goals as goal

pub returns : goal.returns
returns c = defined_in_range
