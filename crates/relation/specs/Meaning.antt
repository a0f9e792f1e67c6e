-- What a store means, the laws that it owes, and what its calls answer and change. Assumes nothing.
use Rattle.std.specs.Prelude.{ℕ, ◌≤◌, cond, ◌&&◌, Ok, Err, Result, nat_le, nat_lt}
use Rattle.graph.specs.Graph.{Triples, Holds, Implies, Within, below, InRange}
use Rattle.relation.specs.declared.answer.Grant.{Grant}
use Rattle.relation.specs.declared.answer.Grant.TheVariants.{Known, New}
use Rattle.relation.specs.declared.answer.StoreFault.{StoreFault}
use Rattle.relation.specs.declared.answer.StoreFault.TheVariants.{Label, Node, Full}
use Rattle.graph.specs.Counts.{in_range?}
use Rattle.relation.specs.Sets.{no_triples, with_triple, size_of}

-- the numbers of labels and nodes, how much may be held, what each set weighs, and the set that is held
pub record Meaning : Type 0 where
  pub labels : ℕ
  pub nodes : ℕ
  pub capacity : ℕ
  pub weight : Triples → ℕ
  pub held : Triples

-- what every store owes
pub record Lawful (m : Meaning) : Type 0 where
  pub few_labels : m.labels ≤ 64
  pub few_nodes : m.nodes ≤ 1024
  -- each held triple has a label and nodes in range
  pub ranged : Implies (Holds m.held) (InRange m.labels (below m.nodes))
  -- a set contained in another weighs no more than it
  pub monotone : (s t : Triples) → Within s t → m.weight s ≤ m.weight t
  -- the held set weighs no more than the capacity
  pub bounded : m.weight m.held ≤ m.capacity

abbrev pub held_size : Meaning → ℕ
held_size m = size_of m.labels m.nodes m.held

abbrev pub held_weight : Meaning → ℕ
held_weight m = m.weight m.held

-- the held set together with the triple weighs no more than the capacity
abbrev pub light? : Meaning → Triples
light? m a u v = nat_le (m.weight (with_triple m.held a u v)) m.capacity

-- the triple is in range, and light enough
abbrev pub fits? : Meaning → Triples
fits? m a u v = in_range? m.labels m.nodes a u v && light? m a u v

-- a label out of range is refused first, then a node, then what does not fit; else the triple is new, or known where it is held
abbrev pub put_answer : Meaning → ℕ → ℕ → ℕ → Result Grant StoreFault
put_answer m a u v =
    cond (nat_lt a m.labels)
    (cond (nat_lt u m.nodes && nat_lt v m.nodes)
    (cond (light? m a u v) (Ok (cond (m.held a u v) Known New)) (Err Full))
    (Err Node))
    (Err Label)

-- the same store with another set
abbrev pub with_held : Meaning → Triples → Meaning
with_held m s = record { labels = m.labels; nodes = m.nodes; capacity = m.capacity; weight = m.weight; held = s }

-- a triple that fits joins the set, and any other changes nothing
abbrev pub after_put : Meaning → ℕ → ℕ → ℕ → Meaning
after_put m a u v = with_held m (cond (fits? m a u v) (with_triple m.held a u v) m.held)

-- a store that holds nothing
abbrev pub empty_store : ℕ → ℕ → ℕ → (Triples → ℕ) → Meaning
empty_store l n capacity weight = record { labels = l; nodes = n; capacity = capacity; weight = weight; held = no_triples }
