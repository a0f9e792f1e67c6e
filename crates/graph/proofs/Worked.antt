-- The worked cases are computed, and what their computation tells of what is defined.
-- Assumes nothing.
use Rattle.std.proofs.Common.{◌≡◌, ℕ, Bool, true, ◌&&◌, ltb, ◌↔◌, List, [], ◌∷◌, sym, refl, subst}
use mathlib.Core.List.Memᴰ
use Rattle.std.proofs.lemmas.Bool.{ltb-true, and_parts}
use Rattle.graph.specs.Grammar.{◌∈◌, HeadsBelow}
use Rattle.graph.specs.declared.triple.Triple.{Triple}
use Rattle.graph.specs.Graph.{in_set, set_of, Holds, Implies, Within, below, InRange}
use Rattle.graph.specs.Reachability.{Defined}
use Rattle.graph.specs.Cases.{Case, matched_pairs, turned_twice, turned_order, nothing_else, only_itself, cases, expected, every, edge_fits, head_fits, found, covers, case_holds, CaseExact, WorkedCases}
use Rattle.graph.proofs.Listed.{set_listed}
use Rattle.graph.proofs.Saturated.{saturation_exact}

-- what a test says of a whole list it says of each that is in it
every_each : {A : Type 0} (test : A → Bool) (xs : List A) → every test xs ≡ true → (x : A) → x ∈ xs → test x ≡ true
every_each test [] h x i = elim i [ ]
every_each test (y ∷ ys) h x (Memᴰ.head e) = subst (λ z. test z ≡ true) (sym e) (and_parts (test y) (every test ys) h).0
every_each test (y ∷ ys) h x (Memᴰ.tail i) = every_each test ys (and_parts (test y) (every test ys) h).1 x i

covers_within : (ts ss : List Triple) → covers ts ss ≡ true → Within (set_of ss) (set_of ts)
covers_within ts ss h a u v e = every_each (in_set (set_of ts)) ss h _ (set_listed ss a u v e)

module _ (c : Case) where
  edges_fit : every (edge_fits c) c.edges ≡ true → Implies (Holds (set_of c.edges)) (InRange c.labels (below c.nodes))
  edges_fit h a u v e =
      let k = every_each (edge_fits c) c.edges h _ (set_listed c.edges a u v e) in
      let l = and_parts (ltb a c.labels) (ltb u c.nodes && ltb v c.nodes) k in
      (ltb-true a c.labels l.0, and_parts (ltb u c.nodes) (ltb v c.nodes) l.1)

  heads_fit : every (head_fits c) c.rules ≡ true → HeadsBelow c.labels c.rules
  heads_fit h p i = ltb-true p.head c.labels (every_each (head_fits c) c.rules h p i)

  -- what the saturation of a case in range holds is what is defined
  found_exact : every (edge_fits c) c.edges ≡ true → every (head_fits c) c.rules ≡ true →
      (a u v : ℕ) → Holds (set_of (found c)) a u v ↔ Defined (below c.nodes) c.rules (set_of c.edges) a u v
  found_exact edges heads =
      saturation_exact c.labels c.nodes (below c.nodes) c.rules (set_of c.edges) (λ w i. i) (edges_fit edges) (heads_fit heads)

  -- so a case that holds is exact
  case_exact : case_holds c ≡ true → CaseExact c
  case_exact h a u v =
      let k = and_parts (every (edge_fits c) c.edges) _ h in
      let l = and_parts (every (head_fits c) c.rules) _ k.1 in
      let m = and_parts (covers (found c) (expected c)) (covers (expected c) (found c)) l.1 in
      let exact = found_exact k.0 l.0 a u v in
      (λ e. exact.0 (covers_within (found c) (expected c) m.0 a u v e), λ d. covers_within (expected c) (found c) m.1 a u v (exact.1 d))

computed : every case_holds cases ≡ true
computed = refl

listed_exact : (c : Case) → c ∈ cases → CaseExact c
listed_exact c i = case_exact c (every_each case_holds cases computed c i)

pub worked_cases : WorkedCases
worked_cases = (
  computed,
  listed_exact matched_pairs (Memᴰ.head refl),
  listed_exact turned_twice (Memᴰ.tail (Memᴰ.head refl)),
  listed_exact turned_order (Memᴰ.tail (Memᴰ.tail (Memᴰ.head refl))),
  listed_exact nothing_else (Memᴰ.tail (Memᴰ.tail (Memᴰ.tail (Memᴰ.head refl)))),
  listed_exact only_itself (Memᴰ.tail (Memᴰ.tail (Memᴰ.tail (Memᴰ.tail (Memᴰ.head refl))))),
)
