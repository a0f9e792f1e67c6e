-- What a grid means, that this is lawful, what a new one means, and which bit a triple has. Assumes nothing.
use Rattle.std.specs.Prelude.{◌≡◌, ℕ, ◌*◌, ◌<◌, cond, length, Ok, Err, Result}
use Rattle.std.proofs.Common.{lit≤}
use Rattle.std.proofs.lemmas.Bool.{and_parts}
use Rattle.graph.specs.declared.counts.RangeFault.{RangeFault}
use Rattle.graph.specs.declared.triple.Triple.{Triple}
use Rattle.graph.specs.Graph.{Triples, at}
use Rattle.graph.specs.Counts.{in_range?, Ranged, range_answer}
use Rattle.relation.specs.Meaning.{Meaning, Lawful, empty_store}
use Rattle.relation.proofs.Ranges.{range_places}
use Rattle.grid.specs.Bits.{bit_of, cell}
use Rattle.grid.specs.Layout.{fitting}
use Rattle.grid.specs.declared.grid.Grid.{Grid}

-- every set weighs nothing
abbrev pub weightless : Triples → ℕ
weightless _ = 0

-- a grid holds the triples whose bits are set
abbrev pub grid_meaning : Grid → Meaning
grid_meaning g = record { labels = g.counts.labels; nodes = g.counts.nodes; capacity = 0; weight = weightless; held = cell g.words.now g.counts.labels g.counts.nodes }

pub grid_lawful : (g : Grid) → Lawful (grid_meaning g)
grid_lawful g =
    record {
      few_labels = g.few.0;
      few_nodes = g.few.1;
      ranged = λ a u v held. range_places g.counts.labels g.counts.nodes a u v (and_parts (in_range? g.counts.labels g.counts.nodes a u v) _ held).0;
      monotone = λ s t within. lit≤ tt;
      bounded = lit≤ tt;
    }

-- a new grid in k words holds nothing, and has no labels and no nodes where it cannot be made as asked
abbrev pub made : ℕ → ℕ → ℕ → Meaning
made l n k = cond (fitting l n k) (empty_store l n 0 weightless) (empty_store 0 0 0 weightless)

-- the triple (a, u, v) is in the grid's range, and has bit k, which is in the words
pub record Placed (g : Grid) (a u v k : ℕ) : Type 0 where
  pub range : Ranged g.counts.labels g.counts.nodes a u v
  pub is : k ≡ bit_of g.counts.nodes a u v
  pub within : k < 64 * length g.words.now

-- the bit of a triple in range, or what is out of range
abbrev pub Places : Grid → Triple → Result ℕ RangeFault → Type 0
Places g t (Ok k) = Placed g t.label t.from t.to k
Places g t (Err fault) = at (range_answer g.counts.labels g.counts.nodes) t ≡ Err fault
