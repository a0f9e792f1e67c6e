-- The laws of what is defined. Most of them ask that edges go from places to places; `GroundNeeded` says that this is no idle condition. Assumes nothing.
use Rattle.std.specs.Prelude.{ℕ, ◌↔◌}
use Rattle.graph.specs.Graph.{Triples, Holds, Implies, Within, Nodes, NodesWithin, Grounded, InRange}
use Rattle.graph.specs.Grammar.{Grammar, Extends, HeadsBelow}
use Rattle.graph.specs.Reachability.{Defined, Due, NoneDue, Solves}

-- An edge is defined.
abbrev pub EdgesDefined : Type 0
EdgesDefined =
    (places : Nodes) (R : Grammar) (E : Triples) → Grounded places (Holds E) → Implies (Holds E) (Defined places R E)

-- More places, more rules and more edges define no less, wherever the edges go.
abbrev pub DefinedGrows : Type 0
DefinedGrows =
    (places places' : Nodes) (R R' : Grammar) (E E' : Triples) →
    NodesWithin places places' → Extends R R' → Within E E' → Implies (Defined places R E) (Defined places' R' E')

-- Every set that contains the edges and leaves none due contains all that is defined.
abbrev pub DefinedLeast : Type 0
DefinedLeast =
    (places : Nodes) (R : Grammar) (E H : Triples) →
    Grounded places (Holds E) → Within E H → NoneDue places R H → Implies (Defined places R E) (Holds H)

-- The law of the least is wrong without its condition that edges go from places to places.
abbrev pub GroundNeeded : Type 0
GroundNeeded =
    ((places : Nodes) (R : Grammar) (E H : Triples) → Within E H → NoneDue places R H → Implies (Defined places R E) (Holds H)) → ⊥

-- What is due over a set of defined triples is defined.
abbrev pub DueDefined : Type 0
DueDefined =
    (places : Nodes) (R : Grammar) (E H : Triples) →
    Grounded places (Holds E) → Implies (Holds H) (Defined places R E) → Implies (Due places R H) (Defined places R E)

-- A set that contains the edges, holds only defined triples and leaves none due holds exactly the defined ones.
abbrev pub SolutionExact : Type 0
SolutionExact =
    (places : Nodes) (R : Grammar) (E H : Triples) →
    Grounded places (Holds E) → Solves places R E H → (a u v : ℕ) → Holds H a u v ↔ Defined places R E a u v

-- Where the edges and the heads of the rules are in range, so is all that is defined.
abbrev pub DefinedInRange : Type 0
DefinedInRange =
    (l : ℕ) (places : Nodes) (R : Grammar) (E : Triples) →
    Implies (Holds E) (InRange l places) → HeadsBelow l R → Implies (Defined places R E) (InRange l places)
