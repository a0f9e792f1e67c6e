-- What a quadtree means that is made, with a fit and without. Assumes nothing.
use Rattle.std.specs.Prelude.{ℕ, min, cond}
use Rattle.graph.specs.Counts.{counts_fit}
use Rattle.relation.specs.Meaning.{Meaning, empty_store}
use Rattle.quadtree.specs.Weights.{quad_weight}

-- the pool's length, or 65,536 if that is less
abbrev pub capacity_of : ℕ → ℕ
capacity_of blocks = min blocks 65536

-- a quadtree that holds nothing
abbrev pub empty_quadtree : ℕ → ℕ → ℕ → Meaning
empty_quadtree l n capacity = empty_store l n capacity (quad_weight l n)

-- what is made over a pool of so many blocks; without a fit there are no labels, no nodes and no capacity
abbrev pub made : ℕ → ℕ → ℕ → Meaning
made l n blocks = cond (counts_fit l n) (empty_quadtree l n (capacity_of blocks)) (empty_quadtree 0 0 0)
