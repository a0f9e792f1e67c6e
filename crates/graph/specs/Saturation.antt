-- What a grammar defines over a finite graph, computed: round after round, the triples that are due join those that are held. Assumes nothing.
use Rattle.std.specs.Prelude.{ℕ, zero, suc, Bool, true, false, not, ◌&&◌, ◌||◌, ◌↔◌, List, [], ◌∷◌, ◌++◌, length, ◌==◌}
use Rattle.graph.specs.declared.item.Item.{Item}
use Rattle.graph.specs.declared.item.Item.TheVariants.{Forward, Reversed}
use Rattle.graph.specs.Grammar.{String, Grammar, HeadsBelow}
use Rattle.graph.specs.declared.triple.Triple.{Triple}
use Rattle.graph.specs.Graph.{triple, Triples, in_set, set_of, Holds, Implies, Nodes, below, NodesWithin, InRange}
use Rattle.graph.specs.Reachability.{Defined}

-- some number below n passes the test
abbrev pub some_below : ℕ → (ℕ → Bool) → Bool
some_below zero test = false
some_below (suc n) test = test n || some_below n test

-- a step by an item over H
abbrev pub takes? : Triples → Item → ℕ → ℕ → Bool
takes? H (Forward Y) w w' = H Y w w'
takes? H (Reversed Y) w w' = H Y w' w

-- a path from u to v over H, by nodes below n, spells the string
abbrev pub spells? : ℕ → Nodes → Triples → ℕ → ℕ → String → Bool
spells? n places H u v [] = u == v && places u
spells? n places H u v (x ∷ s) = some_below n (λ w. takes? H x u w && spells? n places H w v s)

-- some rule with head X leads from u to v by triples of H
abbrev pub leads? : ℕ → Nodes → Grammar → Triples → Triples
leads? n places [] H X u v = false
leads? n places (p ∷ R) H X u v = (p.head == X && spells? n places H u v p.items) || leads? n places R H X u v

abbrev pub keep : Bool → Triple → List Triple → List Triple
keep true t ts = t ∷ ts
keep false t ts = ts

-- those of the list that are in the set
abbrev pub inside : Triples → List Triple → List Triple
inside A [] = []
inside A (t ∷ ts) = keep (in_set A t) t (inside A ts)

-- those of the list that are not
abbrev pub outside : Triples → List Triple → List Triple
outside A [] = []
outside A (t ∷ ts) = keep (not (in_set A t)) t (outside A ts)

-- where nothing was found the answer stands, and else it is what comes of going on
abbrev pub unless_none : List Triple → List Triple → List Triple → List Triple
unless_none [] answer more = answer
unless_none (t ∷ ts) answer more = more

-- a round moves the missing triples to which a rule leads by held ones; there are no more rounds than missing triples
abbrev pub saturate : ℕ → Nodes → Grammar → ℕ → List Triple → List Triple → List Triple
saturate n places R zero held missing = held
saturate n places R (suc rounds) held missing =
    let led = leads? n places R (set_of held) in
    let found = inside led missing in
    unless_none found held (saturate n places R rounds (found ++ held) (outside led missing))

-- the triples of label a from u, to every node below a number
abbrev pub to_all : ℕ → ℕ → ℕ → List Triple
to_all a u zero = []
to_all a u (suc v) = triple a u v ∷ to_all a u v

-- those of label a from every node below a number, to every node below n
abbrev pub from_all : ℕ → ℕ → ℕ → List Triple
from_all a zero n = []
from_all a (suc u) n = to_all a u n ++ from_all a u n

-- all triples with a label below l and nodes below n
abbrev pub all_triples : ℕ → ℕ → List Triple
all_triples zero n = []
all_triples (suc l) n = from_all l n n ++ all_triples l n

-- the edges first, and then what follows from them
abbrev pub saturated : ℕ → ℕ → Nodes → Grammar → Triples → List Triple
saturated l n places R E =
    let missing = outside E (all_triples l n) in
    saturate n places R (length missing) (inside E (all_triples l n)) missing

abbrev pub saturation : ℕ → ℕ → Nodes → Grammar → Triples → Triples
saturation l n places R E = set_of (saturated l n places R E)

-- Where the places are below n, and the edges and the heads of the rules in range, the saturation holds exactly the defined triples.
abbrev pub SaturationExact : Type 0
SaturationExact =
    (l n : ℕ) (places : Nodes) (R : Grammar) (E : Triples) →
    NodesWithin places (below n) → Implies (Holds E) (InRange l places) → HeadsBelow l R →
    (a u v : ℕ) → Holds (saturation l n places R E) a u v ↔ Defined places R E a u v
