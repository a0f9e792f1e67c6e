-- The saturation ends with a solution: a round takes out of the missing triples those that are due, and where a round finds none, none is due.
-- Assumes nothing.
use Rattle.std.proofs.Common.{◌≡◌, ℕ, zero, suc, ◌≤◌, ◌⊎◌, List, [], ◌∷◌, ◌++◌, length, refl, ap, inl, inr, arith}
use mathlib.Core.List.Memᴰ
use Rattle.std.proofs.lemmas.Bool.{false≢true, ltb-true}
use Rattle.graph.specs.Grammar.{Grammar, HeadsBelow}
use Rattle.graph.specs.declared.triple.Triple.{Triple}
use Rattle.graph.specs.Graph.{Triples, set_of, Holds, Implies, Within, Nodes, below, NodesWithin, Grounded, InRange}
use Rattle.graph.specs.Reachability.{Defined, NoneDue, Solves}
use Rattle.graph.specs.Saturation.{leads?, inside, outside, unless_none, saturate, all_triples, saturation, SaturationExact}
use Rattle.graph.proofs.Definedness.{edges_defined, leads_in_range, defined_in_range, leads_defined, solution_exact}
use Rattle.graph.proofs.Listed.{Listed, set_listed, listed_set, inside_has, inside_holds, parted, parted_length, all_has}
use Rattle.graph.proofs.Tested.{leads_told, leads_tested}

module _ (l n : ℕ) (places : Nodes) (R : Grammar) (E : Triples)
    (nodes : NodesWithin places (below n)) (edges-in : Implies (Holds E) (InRange l places)) (heads : HeadsBelow l R) where
  grounded : Grounded places (Holds E)
  grounded a u v e = (edges-in a u v e).1

  all_in_range : (a u v : ℕ) → InRange l places a u v → Listed (all_triples l n) a u v
  all_in_range a u v h = all_has l n a u v h.0 (ltb-true u n (nodes u h.1.0)) (ltb-true v n (nodes v h.1.1))

  -- what holds between rounds: the edges are held, only defined triples are, and each triple in range is held or missing
  record Underway (held missing : List Triple) : Type 0 where
    edges : Within E (set_of held)
    defined : Implies (Holds (set_of held)) (Defined places R E)
    either : (a u v : ℕ) → InRange l places a u v → Listed held a u v ⊎ Listed missing a u v

  held_grounded : {held missing : List Triple} → Underway held missing → Grounded places (Holds (set_of held))
  held_grounded k a u v h = (defined_in_range l places R E edges-in heads a u v (k.defined a u v h)).1

  -- where no rule leads to a missing triple, what is held is a solution
  rests : (held missing : List Triple) → Underway held missing →
      ((a u v : ℕ) → Listed missing a u v → Holds (leads? n places R (set_of held)) a u v → ⊥) → Solves places R E (set_of held)
  rests held missing k none = record { edges = k.edges; defined = k.defined; settled = settled }
    where
      settled : NoneDue places R (set_of held)
      settled a u v (e, h) =
          elim (k.either a u v (leads_in_range l places R (Holds (set_of held)) (held_grounded k) heads a u v h)) [
            | inl m ↦ false≢true (rw e at (listed_set held a u v m))
            | inr m ↦ none a u v m (leads_tested n places (set_of held) nodes (held_grounded k) R a u v h)
          ]

  -- a round keeps all of that: what it moves is defined, since a rule leads to it by defined triples
  goes_on : (held missing : List Triple) → Underway held missing →
      let led = leads? n places R (set_of held) in Underway (inside led missing ++ held) (outside led missing)
  goes_on held missing k = record { edges = edges; defined = defined; either = either }
    where
      led : Triples
      led = leads? n places R (set_of held)

      found : List Triple
      found = inside led missing

      edges : Within E (set_of (found ++ held))
      edges a u v e = listed_set (found ++ held) a u v (Memᴰ.append_right found (set_listed held a u v (k.edges a u v e)))

      defined : Implies (Holds (set_of (found ++ held))) (Defined places R E)
      defined a u v h =
          elim (Memᴰ.append_cases found (set_listed (found ++ held) a u v h)) [
            | inl m ↦
                leads_defined places R E grounded (set_of held) k.defined a u v
                (leads_told n places (set_of held) R a u v (inside_holds led missing a u v m))
            | inr m ↦ k.defined a u v (listed_set held a u v m)
          ]

      moved : (a u v : ℕ) → Listed missing a u v → Listed (found ++ held) a u v ⊎ Listed (outside led missing) a u v
      moved a u v m = elim (parted led missing a u v m) [ inl i ↦ inl (Memᴰ.append_left held i) | inr i ↦ inr i ]

      either : (a u v : ℕ) → InRange l places a u v → Listed (found ++ held) a u v ⊎ Listed (outside led missing) a u v
      either a u v h = elim (k.either a u v h) [ inl m ↦ inl (Memᴰ.append_right found m) | inr m ↦ moved a u v m ]

  none_listed : (ts : List Triple) → length ts ≡ 0 → (a u v : ℕ) → Listed ts a u v → ⊥
  none_listed [] e a u v m = Memᴰ.not-nil m
  none_listed (t ∷ ts) e a u v m = omega arith

  -- rounds end where one finds nothing, or where nothing is missing, and by then there were enough of them
  saturate_solves : (rounds : ℕ) (held missing : List Triple) → length missing ≤ rounds → Underway held missing →
      Solves places R E (set_of (saturate n places R rounds held missing))
  saturate_solves zero held missing few k =
      rests held missing k (λ a u v m h. none_listed missing (omega arith) a u v m)
  saturate_solves (suc rounds) held missing few k =
      round found refl (λ fewer. saturate_solves rounds (found ++ held) (outside led missing) fewer (goes_on held missing k))
    where
      led : Triples
      led = leads? n places R (set_of held)

      found : List Triple
      found = inside led missing

      more : List Triple
      more = saturate n places R rounds (found ++ held) (outside led missing)

      round : (f : List Triple) → found ≡ f → (length (outside led missing) ≤ rounds → Solves places R E (set_of more)) →
          Solves places R E (set_of (unless_none f held more))
      round [] e go = rests held missing k (λ a u v m h. Memᴰ.not-nil (rw e at (inside_has led missing a u v m h)))
      round (t ∷ ts) e go = go (omega (arith, parted_length led missing, ap length e))

  -- at the beginning the edges are held, and all else is missing
  begins : Underway (inside E (all_triples l n)) (outside E (all_triples l n))
  begins = record { edges = edges; defined = defined; either = either }
    where
      all : List Triple
      all = all_triples l n

      edges : Within E (set_of (inside E all))
      edges a u v e =
          listed_set (inside E all) a u v (inside_has E all a u v (all_in_range a u v (edges-in a u v e)) e)

      defined : Implies (Holds (set_of (inside E all))) (Defined places R E)
      defined a u v h =
          edges_defined places R E grounded a u v (inside_holds E all a u v (set_listed (inside E all) a u v h))

      either : (a u v : ℕ) → InRange l places a u v → Listed (inside E all) a u v ⊎ Listed (outside E all) a u v
      either a u v h = parted E all a u v (all_in_range a u v h)

  saturation_solves : Solves places R E (saturation l n places R E)
  saturation_solves = saturate_solves _ (inside E (all_triples l n)) (outside E (all_triples l n)) (omega arith) begins

pub saturation_exact : SaturationExact
saturation_exact l n places R E nodes edges-in heads =
    solution_exact places R E (saturation l n places R E) (λ a u v e. (edges-in a u v e).1) (saturation_solves l n places R E nodes edges-in heads)
