-- A tree for each label, all in one pool. Assumes nothing.
use Rattle.std.specs.Prelude.{◌≡◌, ℕ, ◌^◌, true, ◌&&◌, List, slice_index}
use Rattle.graph.specs.declared.triple.Triple.{Triple}
use Rattle.graph.specs.Graph.{Triples, in_set}
use Rattle.graph.specs.Counts.{in_range?}
use Rattle.relation.specs.Sets.{sum_below}
use Rattle.quadtree.specs.Links.{Links, cell, visits, bare}

-- the triples in range whose cells stand in the trees
abbrev pub holding : Links → List ℕ → ℕ → ℕ → ℕ → Triples
holding ch roots l n h a u v = in_range? l n a u v && cell ch (slice_index roots a) h u v

-- how often the block with index b stands in the trees of the labels below l
abbrev pub in_trees : Links → List ℕ → ℕ → ℕ → ℕ → ℕ
in_trees ch roots l h b = sum_below l (λ a. visits ch (slice_index roots a) h b)

-- how many blocks in the trees of the labels below l have four empty quarters
abbrev pub bare_in_trees : Links → List ℕ → ℕ → ℕ → ℕ
bare_in_trees ch roots l h = sum_below l (λ a. bare ch (slice_index roots a) h)

-- each triple whose cell stands in the trees has nodes below n
abbrev pub Inside : Links → List ℕ → ℕ → ℕ → ℕ → Type 0
Inside ch roots l n h = (t : Triple) → in_set (holding ch roots l (2 ^ h) h) t ≡ true → in_set (in_range? l n) t ≡ true
