-- The worked cases, computed together; that each graph defines what it should stands below, over the same cases.
-- Assumes nothing.
use mathlib.Core.Path.{◌≡◌, refl}
use mathlib.Core.Bool.{true}
use Rattle.graph.proofs.Worked as graphs
use Rattle.worked.specs.Worked.{all_hold, WorkedCases}

all_computed : all_hold ≡ true
all_computed = refl

pub worked_cases : WorkedCases
worked_cases =
    let defined = graphs.worked_cases in
    record {
      computed = all_computed;
      defined = (defined.1, defined.2, defined.3, defined.4, defined.5);
      pairs_weigh = (refl, refl, refl, refl);
      cells_weigh = (refl, refl, refl, refl);
      high = (refl, refl, refl, refl);
      added = refl;
      roomy = refl;
      crowded = refl;
    }
