use Rattle.graph.proofs.Definedness.{solution_exact}
use Rattle.graph.proofs.laws.solution_exact.Goals as goal

pub returns : goal.returns
returns c = solution_exact
