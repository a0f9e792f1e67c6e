-- Worked cases: small graphs with a few rules, and all that is defined over each. Assumes nothing.
use Rattle.std.specs.Prelude.{◌≡◌, ℕ, Bool, true, ◌&&◌, ◌↔◌, List, [], ◌∷◌, ◌++◌, nat_lt}
use Rattle.graph.specs.declared.item.Item.TheVariants.{Forward, Reversed}
use Rattle.graph.specs.Grammar.{String, Rule, Grammar}
use Rattle.graph.specs.declared.triple.Triple.{Triple}
use Rattle.graph.specs.Counts.{in_range?}
use Rattle.graph.specs.Graph.{triple, at, in_set, set_of, Holds, below}
use Rattle.graph.specs.Reachability.{Defined}
use Rattle.graph.specs.Saturation.{saturated}

-- a graph and its rules, and the triples that are defined beside the edges
pub record Case : Type 0 where
  pub labels : ℕ
  pub nodes : ℕ
  pub rules : Grammar
  pub edges : List Triple
  pub derived : List Triple

infix 30 ◌⇒◌
abbrev pub ◌⇒◌ : ℕ → String → Rule
X ⇒ s = record { head = X; items = s }

-- a is 0, b is 1 and S is 2, with S to a S b and S to nothing: matched pairs
abbrev pub matched_pairs : Case
matched_pairs = record {
  labels = 3;
  nodes = 4;
  rules = (2 ⇒ (Forward 0 ∷ Forward 2 ∷ Forward 1 ∷ [])) ∷ (2 ⇒ []) ∷ [];
  edges = triple 0 0 1 ∷ triple 0 1 2 ∷ triple 1 2 3 ∷ triple 1 3 0 ∷ [];
  derived = triple 2 0 0 ∷ triple 2 1 1 ∷ triple 2 1 3 ∷ triple 2 2 2 ∷ triple 2 3 3 ∷ [];
}

-- 1 is 0 reversed, and 2 is 1 reversed: there and back
abbrev pub turned_twice : Case
turned_twice = record {
  labels = 3;
  nodes = 4;
  rules = (1 ⇒ (Reversed 0 ∷ [])) ∷ (2 ⇒ (Reversed 1 ∷ [])) ∷ [];
  edges = triple 0 0 1 ∷ [];
  derived = triple 1 1 0 ∷ triple 2 0 1 ∷ [];
}

-- 2 is 0 and then 3, and 1 is 2 reversed: its items come in opposite order
abbrev pub turned_order : Case
turned_order = record {
  labels = 4;
  nodes = 8;
  rules = (2 ⇒ (Forward 0 ∷ Forward 3 ∷ [])) ∷ (1 ⇒ (Reversed 2 ∷ [])) ∷ [];
  edges = triple 0 5 6 ∷ triple 3 6 7 ∷ [];
  derived = triple 2 5 7 ∷ triple 1 7 5 ∷ [];
}

-- the empty string alone, at every node
abbrev pub nothing_else : Case
nothing_else = record {
  labels = 3;
  nodes = 4;
  rules = (2 ⇒ []) ∷ [];
  edges = [];
  derived = triple 2 0 0 ∷ triple 2 1 1 ∷ triple 2 2 2 ∷ triple 2 3 3 ∷ [];
}

-- a rule that leads only to itself derives no string of edges
abbrev pub only_itself : Case
only_itself = record {
  labels = 3;
  nodes = 4;
  rules = (2 ⇒ (Forward 2 ∷ [])) ∷ [];
  edges = [];
  derived = [];
}

abbrev pub cases : List Case
cases = matched_pairs ∷ turned_twice ∷ turned_order ∷ nothing_else ∷ only_itself ∷ []

abbrev pub expected : Case → List Triple
expected c = c.edges ++ c.derived

abbrev pub every : {A : Type 0} → (A → Bool) → List A → Bool
every test [] = true
every test (x ∷ xs) = test x && every test xs

abbrev pub edge_fits : Case → Triple → Bool
edge_fits c = at (in_range? c.labels c.nodes)

abbrev pub head_fits : Case → Rule → Bool
head_fits c p = nat_lt p.head c.labels

abbrev pub found : Case → List Triple
found c = saturated c.labels c.nodes (below c.nodes) c.rules (set_of c.edges)

abbrev pub covers : List Triple → List Triple → Bool
covers ts ss = every (in_set (set_of ts)) ss

-- the case is in range, and its saturation holds the expected triples and no others
abbrev pub case_holds : Case → Bool
case_holds c =
    every (edge_fits c) c.edges && (every (head_fits c) c.rules && (covers (found c) (expected c) && covers (expected c) (found c)))

-- exactly the expected triples are defined
abbrev pub CaseExact : Case → Type 0
CaseExact c = (a u v : ℕ) → Holds (set_of (expected c)) a u v ↔ Defined (below c.nodes) c.rules (set_of c.edges) a u v

-- All cases in one computation, and what it tells: in each of them, exactly the expected triples are defined.
abbrev pub WorkedCases : Type 0
WorkedCases =
    (every case_holds cases ≡ true) ×
    CaseExact matched_pairs × CaseExact turned_twice × CaseExact turned_order × CaseExact nothing_else × CaseExact only_itself
