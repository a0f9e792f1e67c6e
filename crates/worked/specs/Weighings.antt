-- Sets of triples over three labels and four nodes with what they weigh in a quadtree, and heights. Assumes nothing.
use Rattle.std.specs.Prelude.{◌≡◌, Bool, List, [], ◌∷◌, ℕ, ◌-◌, ◌==◌, nat_le}
use Rattle.graph.specs.declared.triple.Triple.{Triple}
use Rattle.graph.specs.Graph.{triple, set_of}
use Rattle.graph.specs.Saturation.{inside, from_all}
use Rattle.relation.specs.Sets.{size_of}
use Rattle.quadtree.specs.Heights.{height_of}
use Rattle.quadtree.specs.Making.{capacity_of}
use Rattle.quadtree.specs.Weights.{quad_weight}
use Rattle.graph.specs.Cases.{Case, matched_pairs, expected}

-- triples, and what they weigh together
pub record Weighing : Type 0 where
  pub triples : List Triple
  pub weight : ℕ

abbrev pub weighs : List Triple → ℕ → Weighing
weighs ts w = record { triples = ts; weight = w }

-- those of the matched pairs that have label a
abbrev pub matched : ℕ → List Triple
matched a = inside (λ b _ _. b == a) (expected matched_pairs)

-- a set of one label, which grows by one triple at a time; and all pairs of a label
abbrev pub first_cell : List Triple
first_cell = triple 0 0 0 ∷ []

abbrev pub far_apart : List Triple
far_apart = triple 0 3 3 ∷ first_cell

abbrev pub three_cells : List Triple
three_cells = triple 0 1 1 ∷ far_apart

abbrev pub all_pairs : List Triple
all_pairs = from_all 0 4 4

abbrev pub weighings : List Weighing
weighings =
    weighs (matched 0) 3 ∷ weighs (matched 1) 3 ∷ weighs (matched 2) 4 ∷ weighs (expected matched_pairs) 10 ∷
    weighs first_cell 2 ∷ weighs far_apart 3 ∷ weighs three_cells 3 ∷ weighs all_pairs 5 ∷ []

abbrev pub weighing_holds : Weighing → Bool
weighing_holds w = quad_weight 3 4 (set_of w.triples) == w.weight

-- the set weighs so much
abbrev pub Weighs : Weighing → Type 0
Weighs w = quad_weight 3 4 (set_of w.triples) ≡ w.weight

-- all that is defined in the case is light enough for a pool of so many blocks
abbrev pub settles? : Case → ℕ → Bool
settles? c blocks = nat_le (quad_weight c.labels c.nodes (set_of (expected c))) (capacity_of blocks)

-- how many triples are defined beside the edges
abbrev pub additions : Case → ℕ
additions c = size_of c.labels c.nodes (set_of (expected c)) - size_of c.labels c.nodes (set_of c.edges)

-- a number of nodes, and the height over so many
pub record Height : Type 0 where
  pub nodes : ℕ
  pub height : ℕ

abbrev pub over : ℕ → ℕ → Height
over n h = record { nodes = n; height = h }

abbrev pub heights : List Height
heights = over 1 1 ∷ over 2 1 ∷ over 3 2 ∷ over 1024 10 ∷ []

abbrev pub height_holds : Height → Bool
height_holds x = height_of x.nodes == x.height

-- so many nodes have this height
abbrev pub HasHeight : Height → Type 0
HasHeight x = height_of x.nodes ≡ x.height
