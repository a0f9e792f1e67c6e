use Rattle.graph.proofs.Worked.{worked_cases}
use Rattle.graph.proofs.laws.worked_cases.Goals as goal

pub returns : goal.returns
returns c = worked_cases
