-- Triples, sets of them, and the paths over such a set that spell a string. Assumes nothing.
use Rattle.std.specs.Prelude.{◌≡◌, ℕ, ◌<◌, Bool, true, false, ◌&&◌, ◌||◌, List, [], ◌∷◌, ◌==◌, nat_lt}
use Rattle.graph.specs.declared.item.Item.{Item}
use Rattle.graph.specs.declared.item.Item.TheVariants.{Forward, Reversed}
use Rattle.graph.specs.declared.triple.Triple.{Triple}
use Rattle.graph.specs.Grammar.{String}

abbrev pub triple : ℕ → ℕ → ℕ → Triple
triple a u v = record { label = a; from = u; to = v }

-- the triple is the one of this label, from this node, to that
abbrev pub is : Triple → ℕ → ℕ → ℕ → Bool
is t a u v = t.label == a && (t.from == u && t.to == v)

-- a set of triples says of a label, a from and a to whether their triple is in it; the edges of a graph are such a set
abbrev pub Triples : Type 0
Triples = ℕ → ℕ → ℕ → Bool

-- what a function of a label, a from and a to says of a triple
abbrev pub at : {A : Type 0} → (ℕ → ℕ → ℕ → A) → Triple → A
at f t = f t.label t.from t.to

abbrev pub in_set : Triples → Triple → Bool
in_set = at

-- the set of the triples in a list
abbrev pub set_of : List Triple → Triples
set_of [] a u v = false
set_of (t ∷ ts) a u v = is t a u v || set_of ts a u v

-- a property of triples: to be in a set, or to be defined
abbrev pub Relation : Type 1
Relation = ℕ → ℕ → ℕ → Type 0

abbrev pub Holds : Triples → Relation
Holds E a u v = E a u v ≡ true

abbrev pub Implies : Relation → Relation → Type 0
Implies P Q = (a u v : ℕ) → P a u v → Q a u v

-- each triple of A is a triple of B
abbrev pub Within : Triples → Triples → Type 0
Within A B = Implies (Holds A) (Holds B)

-- a set of nodes says of a number whether it is in it
abbrev pub Nodes : Type 0
Nodes = ℕ → Bool

-- all nodes below n
abbrev pub below : ℕ → Nodes
below n u = nat_lt u n

-- each node of A is a node of B
abbrev pub NodesWithin : Nodes → Nodes → Type 0
NodesWithin A B = (u : ℕ) → A u ≡ true → B u ≡ true

-- both nodes are places
abbrev pub Between : Nodes → ℕ → ℕ → Type 0
Between places u v = (places u ≡ true) × (places v ≡ true)

-- every triple of the relation goes from a place to a place
abbrev pub Grounded : Nodes → Relation → Type 0
Grounded places P = (a u v : ℕ) → P a u v → Between places u v

-- the label is below l and the nodes are places
abbrev pub InRange : ℕ → Nodes → Relation
InRange l places a u v = (a < l) × Between places u v

-- a step from w to w' by an item: along a triple for a forward item, against one for a reversed item
abbrev pub Takes : Relation → Item → ℕ → ℕ → Type 0
Takes P (Forward Y) w w' = P Y w w'
Takes P (Reversed Y) w w' = P Y w' w

-- a path from u to v spells the string, by a step for each of its items in order; the empty string is spelled from every place to itself
abbrev pub Spells : Nodes → Relation → ℕ → ℕ → String → Type 0
Spells places P u v [] = (u ≡ v) × (places u ≡ true)
Spells places P u v (x ∷ s) = (w : ℕ) × Takes P x u w × Spells places P w v s
