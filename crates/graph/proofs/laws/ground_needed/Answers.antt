use Rattle.graph.proofs.Ungrounded.{ground_needed}
use Rattle.graph.proofs.laws.ground_needed.Goals as goal

pub returns : goal.returns
returns c = ground_needed
