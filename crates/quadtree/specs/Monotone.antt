-- A set contained in another weighs no more than it: the law of the weight, which a quadtree owes as a store. Assumes nothing.
use Rattle.std.specs.Prelude.{ℕ, suc, ◌≤◌}
use Rattle.std.proofs.lemmas.Bool.{and_parts, and_from}
use Rattle.graph.specs.Graph.{Triples, Within}
use Rattle.graph.proofs.Tested.{some_below_mono}
use Rattle.relation.specs.Sets.{one_mono}
use Rattle.relation.proofs.Sums.{sum_mono, sum_over_mono}
use Rattle.quadtree.specs.Weights.{covering, weight_of}

pub covering_mono : (n j : ℕ) (s t : Triples) → Within s t → Within (covering n j s) (covering n j t)
covering_mono n j s t within a p q =
    some_below_mono n _ _ (λ u. some_below_mono n _ _ (λ v e.
    let k = and_parts (s a u v) _ e in
    and_from (t a u v) _ (within a u v k.0) k.1))

pub weight_mono : (l n h : ℕ) (s t : Triples) → Within s t → weight_of l n h s ≤ weight_of l n h t
weight_mono l n h s t within =
    sum_mono h _ _ (λ j _. sum_over_mono l n _ _ (λ a p q _ _ _. one_mono (covering n (suc j) s a p q) (covering n (suc j) t a p q) (covering_mono n (suc j) s t within a p q)))
