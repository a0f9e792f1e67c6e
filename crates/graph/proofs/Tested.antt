-- The tests of a path and of a rule tell what they test, for a set whose triples go between places below n.
-- Assumes nothing.
use Rattle.std.proofs.Common.{◌≡◌, ℕ, zero, suc, ◌<◌, Bool, true, ◌&&◌, eqb, [], ◌∷◌, sym, refl, ap, subst, inl, inr, arith}
use mathlib.Core.List.Memᴰ
use Rattle.std.proofs.lemmas.Bool.{false≢true, eqb-true, eq-eqb, ltb-true, and_parts, and_from, or_cases, or_left, or_right, cases_eq}
use Rattle.graph.specs.declared.item.Item.{Item}
use Rattle.graph.specs.declared.item.Item.TheVariants.{Forward, Reversed}
use Rattle.graph.specs.Grammar.{String, Rule, Grammar, ◌∈◌}
use Rattle.graph.specs.Graph.{Triples, Holds, Implies, Nodes, below, NodesWithin, Grounded, Takes, Spells}
use Rattle.graph.specs.Reachability.{Leads}
use Rattle.graph.specs.Saturation.{some_below, takes?, spells?, leads?}
use Rattle.graph.proofs.Paths.{takes_between}

pub some_below_found : (n : ℕ) (test : ℕ → Bool) → some_below n test ≡ true → (w : ℕ) × (w < n) × (test w ≡ true)
some_below_found zero test h = absurd (false≢true h)
some_below_found (suc n) test h =
    elim (or_cases (test n) (some_below n test) h) [
      | inl e ↦ (n, omega arith, e)
      | inr e ↦ let k = some_below_found n test e in (k.0, omega (arith, k.1), k.2)
    ]

pub some_below_from : (n : ℕ) (test : ℕ → Bool) (w : ℕ) → w < n → test w ≡ true → some_below n test ≡ true
some_below_from zero test w h e = absurd (omega arith)
some_below_from (suc n) test w h e =
    elim (cases_eq w n) [
      | inl k ↦ or_left (test n) (some_below n test) (rw k at e)
      | inr k ↦ or_right (test n) (some_below n test) (some_below_from n test w (omega arith) e)
    ]

pub some_below_mono : (n : ℕ) (f g : ℕ → Bool) → ((w : ℕ) → f w ≡ true → g w ≡ true) → some_below n f ≡ true → some_below n g ≡ true
some_below_mono n f g each h = let k = some_below_found n f h in some_below_from n g k.0 k.1 (each k.0 k.2)

-- one step
takes_told : (H : Triples) (x : Item) (u w : ℕ) → takes? H x u w ≡ true → Takes (Holds H) x u w
takes_told H (Forward y) u w h = h
takes_told H (Reversed y) u w h = h

takes_tested : (H : Triples) (x : Item) (u w : ℕ) → Takes (Holds H) x u w → takes? H x u w ≡ true
takes_tested H (Forward y) u w h = h
takes_tested H (Reversed y) u w h = h

module _ (n : ℕ) (places : Nodes) (H : Triples) where
  -- a test that says yes has found a path
  spells_told : (s : String) (u v : ℕ) → spells? n places H u v s ≡ true → Spells places (Holds H) u v s
  spells_told [] u v h = let k = and_parts (eqb u v) (places u) h in (eqb-true u v k.0, k.1)
  spells_told (x ∷ s) u v h =
      let k = some_below_found n (λ w. takes? H x u w && spells? n places H w v s) h in
      let l = and_parts (takes? H x u k.0) (spells? n places H k.0 v s) k.2 in
      (k.0, takes_told H x u k.0 l.0, spells_told s k.0 v l.1)

  pub leads_told : (R : Grammar) → Implies (Holds (leads? n places R H)) (Leads places R (Holds H))
  leads_told [] X u v h = absurd (false≢true h)
  leads_told (q ∷ R) X u v h =
      elim (or_cases (eqb q.head X && spells? n places H u v q.items) (leads? n places R H X u v) h) [
        | inl e ↦
            let k = and_parts (eqb q.head X) (spells? n places H u v q.items) e in
            (q, Memᴰ.head refl, eqb-true q.head X k.0, spells_told q.items u v k.1)
        | inr e ↦
            let k = leads_told R X u v e in
            (k.0, Memᴰ.tail k.1, k.2, k.3)
      ]

  module _ (nodes : NodesWithin places (below n)) (grounded : Grounded places (Holds H)) where
    -- a path goes over nodes below n alone, so a test over these finds it
    spells_tested : (s : String) (u v : ℕ) → Spells places (Holds H) u v s → spells? n places H u v s ≡ true
    spells_tested [] u v h = and_from (eqb u v) (places u) (eq-eqb u v h.0) h.1
    spells_tested (x ∷ s) u v h =
        let w = h.0 in
        let less = ltb-true w n (nodes w (takes_between (Holds H) places grounded x u w h.1).1) in
        let here = and_from (takes? H x u w) (spells? n places H w v s) (takes_tested H x u w h.1) (spells_tested s w v h.2) in
        some_below_from n (λ z. takes? H x u z && spells? n places H z v s) w less here

    rule_tested : (R : Grammar) (p : Rule) → p ∈ R → (u v : ℕ) → Spells places (Holds H) u v p.items → leads? n places R H p.head u v ≡ true
    rule_tested [] p i u v h = elim i [ ]
    rule_tested (q ∷ R) p (Memᴰ.head e) u v h =
        or_left (eqb q.head p.head && spells? n places H u v q.items) (leads? n places R H p.head u v)
        (and_from (eqb q.head p.head) (spells? n places H u v q.items) (eq-eqb q.head p.head (ap (λ r. r.head) (sym e)))
        (subst (λ r. spells? n places H u v r.items ≡ true) e (spells_tested p.items u v h)))
    rule_tested (q ∷ R) p (Memᴰ.tail i) u v h =
        or_right (eqb q.head p.head && spells? n places H u v q.items) (leads? n places R H p.head u v) (rule_tested R p i u v h)

    pub leads_tested : (R : Grammar) → Implies (Leads places R (Holds H)) (Holds (leads? n places R H))
    leads_tested R X u v (p, i, e, h) = subst (λ a. leads? n places R H a u v ≡ true) e (rule_tested R p i u v h)
