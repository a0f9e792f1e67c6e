-- The laws of what is defined: least, because a replacement read backwards keeps a path over a shut relation; sound, because being defined is itself shut.
-- Assumes nothing.
use Rattle.std.proofs.Common.{◌≡◌, ℕ, ◌<◌, [], ◌∷◌, ◌++◌, sym, refl, subst, inl, inr}
use Rattle.std.proofs.lemmas.Bool.{cases_Bool}
use Rattle.graph.specs.declared.item.Item.{Item}
use Rattle.graph.specs.declared.item.Item.TheVariants.{Forward, Reversed}
use Rattle.graph.specs.Grammar.{String, Rule, Grammar, ◌∈◌, HeadsBelow, turned, item_label, in_place_of, Replacement, Becomes, Becomes.stays, Becomes.replaced}
use Rattle.graph.specs.Graph.{Triples, Relation, Holds, Implies, Nodes, Between, Grounded, InRange, Takes, Spells}
use Rattle.graph.specs.Reachability.{Defined, Leads, NoneDue}
use Rattle.graph.specs.Laws.{EdgesDefined, DefinedGrows, DefinedLeast, DueDefined, SolutionExact, DefinedInRange}
use Rattle.graph.proofs.Derivations.{chained, beside, becomes_turned, derives_items, more_becomes}
use Rattle.graph.proofs.Paths.{carried, joined, spells_between, split, turn, turn_back}

-- an edge is a path of one step, and no replacement is needed
pub edges_defined : EdgesDefined
edges_defined places R E grounded a u v e = (Forward a ∷ [], stays, (v, e, (refl, (grounded a u v e).1)))

-- the same string, the same derivation, the same path
pub defined_grows : DefinedGrows
defined_grows places places' R R' E E' nodes rules edges X u v d =
    (d.0, more_becomes rules d.1, carried edges nodes d.0 u v d.2)

-- wherever a rule leads over the relation, its head holds
abbrev Shut : Nodes → Grammar → Relation → Type 0
Shut places R P = Implies (Leads places R P) P

-- a set that leaves none due is shut, since each triple is in it or not
settled_shut : (places : Nodes) (R : Grammar) (H : Triples) → NoneDue places R H → Shut places R (Holds H)
settled_shut places R H settled a u v leads =
    elim (cases_Bool (H a u v)) [ inl e ↦ e | inr e ↦ absurd (settled a u v (e, leads)) ]

-- least: over a relation that is shut and stays between places, a path that spells what a replacement made can be had for what it was made from
module _ (places : Nodes) (R : Grammar) (P : Relation) (grounded : Grounded places P) (shut : Shut places R P) where
  -- an item for the items that took its place: its rule leads there, from the other end if it is reversed
  item_back : (x : Item) (p : Rule) → p ∈ R → p.head ≡ item_label x → (u v : ℕ) →
      Spells places P u v (in_place_of x p.items) → Spells places P u v (x ∷ [])
  item_back (Forward X) p i e u v h =
      let t = shut X u v (p, i, e, h) in
      (v, t, (refl, (grounded X u v t).1))
  item_back (Reversed X) p i e u v h =
      let t = shut X v u (p, i, e, turn_back places P grounded p.items v u h) in
      (v, t, (refl, (grounded X v u t).0))

  replacement_back : (s t : String) → Replacement R s t → (u v : ℕ) → Spells places P u v t → Spells places P u v s
  replacement_back s t r u v h =
      let b = r.before in
      let put = in_place_of r.item r.rule.items in
      let h' : Spells places P u v (b ++ (put ++ r.after)) = rw r.put at h in
      let k = split places P grounded b (put ++ r.after) u v h' in
      let l = split places P grounded put r.after k.0 v k.2 in
      let i = item_back r.item r.rule r.granted r.head k.0 l.0 l.1 in
      let rest = joined places P (r.item ∷ []) r.after k.0 l.0 v i l.2 in
      let back = joined places P b (r.item ∷ r.after) u k.0 v k.1 rest in
      subst (λ z. Spells places P u v z) (sym r.taken) back

  becomes_back : {s t : String} → Becomes R s t → (u v : ℕ) → Spells places P u v t → Spells places P u v s
  becomes_back stays u v h = h
  becomes_back (replaced {s = s} {m = m} r d) u v h = replacement_back s m r u v (becomes_back d u v h)

  -- back from the last string to the first, the single item X, whose path is one step
  shut_defined : (E : Triples) → Implies (Holds E) P → Implies (Defined places R E) P
  shut_defined E edges X u v d =
      let k = becomes_back d.1 u v (carried edges (λ w h. h) d.0 u v d.2) in
      subst (λ w. P X u w) k.2.0 k.1

-- a rule leads from a place to a place, and to its head
pub leads_in_range : (l : ℕ) (places : Nodes) (R : Grammar) (P : Relation) → Grounded places P → HeadsBelow l R →
    Implies (Leads places R P) (InRange l places)
leads_in_range l places R P grounded heads X u v (p, i, e, h) =
    (subst (λ a. a < l) e (heads p i), spells_between places P grounded p.items u v h)

-- so being in range is shut, and holds of all that is defined
pub defined_in_range : DefinedInRange
defined_in_range l places R E edges heads =
    shut_defined places R (InRange l places) between (leads_in_range l places R (InRange l places) between heads) E edges
  where
    between : Grounded places (InRange l places)
    between a u v h = h.1

-- the set may hold triples that are not between places, but those that are make up a shut relation
pub defined_least : DefinedLeast
defined_least places R E H grounded edges settled X u v d = (shut_defined places R Inside between shut E inside X u v d).0
  where
    Inside : Relation
    Inside a x y = Holds H a x y × Between places x y

    between : Grounded places Inside
    between a x y h = h.1

    inside : Implies (Holds E) Inside
    inside a x y e = (edges a x y e, grounded a x y e)

    shut : Shut places R Inside
    shut a x y (p, i, e, h) =
        let held = carried (λ b w z k. k.0) (λ w k. k) p.items x y h in
        (settled_shut places R H settled a x y (p, i, e, held), spells_between places Inside between p.items x y h)

-- sound: a path over defined triples gives a string of edges
module _ (places : Nodes) (R : Grammar) (E : Triples) (grounded : Grounded places (Holds E)) where
  -- some string that the given one becomes is spelled by the edges
  abbrev SpelledOut : String → ℕ → ℕ → Type 0
  SpelledOut s u v = (t : String) × Becomes R s t × Spells places (Holds E) u v t

  -- a step against a defined triple is spelled out by its string turned
  item_spelled_out : (x : Item) (u w : ℕ) → Takes (Defined places R E) x u w → SpelledOut (x ∷ []) u w
  item_spelled_out (Forward y) u w d = d
  item_spelled_out (Reversed y) u w d = (turned d.0, becomes_turned d.1, turn places (Holds E) grounded d.0 w u d.2)

  -- item by item, the strings side by side
  spelled_out : (s : String) (u v : ℕ) → Spells places (Defined places R E) u v s → SpelledOut s u v
  spelled_out [] u v h = ([], stays, h)
  spelled_out (x ∷ s) u v h =
      let first = item_spelled_out x u h.0 h.1 in
      let rest = spelled_out s h.0 v h.2 in
      let path = joined places (Holds E) first.0 rest.0 u h.0 v first.2 rest.2 in
      (first.0 ++ rest.0, beside first.1 rest.1, path)

  -- a rule that leads by defined triples replaces its head by items that are spelled out
  defined_shut : Shut places R (Defined places R E)
  defined_shut X u v (p, i, e, h) =
      let k = spelled_out p.items u v h in
      subst (λ a. Defined places R E a u v) e (k.0, chained (derives_items p i) k.1, k.2)

  pub leads_defined : (H : Triples) → Implies (Holds H) (Defined places R E) → Implies (Leads places R (Holds H)) (Defined places R E)
  leads_defined H defined X u v (p, i, e, h) =
      defined_shut X u v (p, i, e, carried defined (λ w k. k) p.items u v h)

pub due_defined : DueDefined
due_defined places R E H grounded defined X u v due = leads_defined places R E grounded H defined X u v due.1

pub solution_exact : SolutionExact
solution_exact places R E H grounded s a u v =
    (s.defined a u v, defined_least places R E H grounded s.edges s.settled a u v)
