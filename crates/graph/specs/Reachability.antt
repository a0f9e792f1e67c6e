-- What a grammar defines over a graph, and what is due over a set of triples. Assumes nothing.
use Rattle.std.specs.Prelude.{◌≡◌, ℕ, false}
use Rattle.graph.specs.Graph.{Triples, Relation, Holds, Implies, Within, Nodes, Spells}
use Rattle.graph.specs.Grammar.{String, Rule, Grammar, ◌∈◌, Derives}

-- (X, u, v) is defined: some path from u to v over the edges spells a string that X derives
abbrev pub Defined : Nodes → Grammar → Triples → Relation
Defined places R E X u v = (s : String) × Derives R X s × Spells places (Holds E) u v s

-- some rule with head X leads from u to v: a path over the relation spells its items
abbrev pub Leads : Nodes → Grammar → Relation → Relation
Leads places R P X u v = (p : Rule) × (p ∈ R) × (p.head ≡ X) × Spells places P u v p.items

-- (X, u, v) is due over H: it is not in H, and some rule with head X leads from u to v by triples of H
abbrev pub Due : Nodes → Grammar → Triples → Relation
Due places R H X u v = (H X u v ≡ false) × Leads places R (Holds H) X u v

abbrev pub NoneDue : Nodes → Grammar → Triples → Type 0
NoneDue places R H = (X u v : ℕ) → Due places R H X u v → ⊥

-- H contains the edges, holds only what is defined, and leaves none due
pub record Solves (places : Nodes) (R : Grammar) (E H : Triples) : Type 0 where
  pub edges : Within E H
  pub defined : Implies (Holds H) (Defined places R E)
  pub settled : NoneDue places R H
