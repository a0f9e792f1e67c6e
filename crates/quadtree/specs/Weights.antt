-- The weight of a set of triples in quadtrees: how many blocks it takes. Assumes nothing.
use Rattle.std.specs.Prelude.{ℕ, suc, ◌/◌, ◌^◌, ◌&&◌, ◌==◌}
use Rattle.graph.specs.Graph.{Triples}
use Rattle.graph.specs.Saturation.{some_below}
use Rattle.relation.specs.Sets.{sum_below, size_of}
use Rattle.quadtree.specs.Heights.{height_of}

-- the blocks of height j that cover a triple of the set: all (a, u div 2 ^ j, v div 2 ^ j) for a triple (a, u, v) with nodes below n
abbrev pub covering : ℕ → ℕ → Triples → Triples
covering n j s a p q = some_below n (λ u. some_below n (λ v. s a u v && (u / 2 ^ j == p && v / 2 ^ j == q)))

-- the sum, over j from 1 to h, of how many distinct (a, u div 2 ^ j, v div 2 ^ j) there are among the triples with a label below l and nodes below n
abbrev pub weight_of : ℕ → ℕ → ℕ → Triples → ℕ
weight_of l n h s = sum_below h (λ j. size_of l n (covering n (suc j) s))

-- what a set weighs in a quadtree of l labels and n nodes
abbrev pub quad_weight : ℕ → ℕ → Triples → ℕ
quad_weight l n s = weight_of l n (height_of n) s
