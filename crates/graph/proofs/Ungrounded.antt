-- Why least asks that edges go between places. Node 0 is the only place; edge 0 goes from node 1 to node 0; the rules are 1 to 2 0, and 2 to nothing.
-- So 1 derives the string 0, and is defined from 1 to 0. But 2 is due at node 0 alone: once it is held there, none is due, and (1, 1, 0) is not held.
-- Assumes nothing.
use Rattle.std.proofs.Common.{◌≡◌, ℕ, true, List, [], ◌∷◌, sym, refl, ap, ◌∙◌, subst, arith}
use mathlib.Core.List.Memᴰ
use Rattle.std.proofs.lemmas.Bool.{false≢true, ltb-true}
use Rattle.graph.specs.declared.item.Item.TheVariants.{Forward}
use Rattle.graph.specs.Grammar.{Rule, Grammar, Becomes.stays, Becomes.replaced}
use Rattle.graph.specs.declared.triple.Triple.{Triple}
use Rattle.graph.specs.Graph.{triple, Triples, set_of, Holds, Within, below, Spells}
use Rattle.graph.specs.Reachability.{Defined, NoneDue}
use Rattle.graph.specs.Laws.{GroundNeeded}
use Rattle.graph.proofs.Listed.{Listed, set_listed, listed_set}

abbrev pair : Rule
pair = record { head = 1; items = Forward 2 ∷ Forward 0 ∷ [] }

abbrev empty : Rule
empty = record { head = 2; items = [] }

abbrev R : Grammar
R = pair ∷ empty ∷ []

abbrev E : Triples
E = set_of (triple 0 1 0 ∷ [])

abbrev held : List Triple
held = triple 2 0 0 ∷ triple 0 1 0 ∷ []

abbrev H : Triples
H = set_of held

within : Within E H
within a u v e =
    listed_set held a u v (Memᴰ.tail (set_listed (triple 0 1 0 ∷ []) a u v e))

-- what H holds of labels 2 and 0
two_listed : (u v : ℕ) → Listed held 2 u v → v ≡ 0
two_listed u v (Memᴰ.head e) = ap (λ t. t.to) e
two_listed u v (Memᴰ.tail (Memᴰ.head e)) = absurd (omega (arith, ap (λ t. t.label) e))
two_listed u v (Memᴰ.tail (Memᴰ.tail i)) = elim i [ ]

zero_listed : (u v : ℕ) → Listed held 0 u v → u ≡ 1
zero_listed u v (Memᴰ.head e) = absurd (omega (arith, ap (λ t. t.label) e))
zero_listed u v (Memᴰ.tail (Memᴰ.head e)) = ap (λ t. t.from) e
zero_listed u v (Memᴰ.tail (Memᴰ.tail i)) = elim i [ ]

-- the two never meet, and 2 is held where the empty string may stand
pair_leads_nowhere : (u v : ℕ) → Spells (below 1) (Holds H) u v pair.items → ⊥
pair_leads_nowhere u v h =
    let m = two_listed u h.0 (set_listed _ 2 u h.0 h.1) in
    let k = zero_listed h.0 h.2.0 (set_listed _ 0 h.0 h.2.0 h.2.1) in
    omega arith

empty_held : (u v : ℕ) → Spells (below 1) (Holds H) u v empty.items → H 2 u v ≡ true
empty_held u v h =
    let low = ltb-true u 1 h.1 in
    let from : u ≡ 0 = omega arith in
    let to : v ≡ 0 = omega (arith, h.0) in
    rw (from, to) refl

settled : NoneDue (below 1) R H
settled X u v (e, (p, Memᴰ.head same, head, h)) =
    pair_leads_nowhere u v (subst (λ q. Spells (below 1) (Holds H) u v q.items) same h)
settled X u v (e, (p, Memᴰ.tail (Memᴰ.head same), head, h)) =
    let two = empty_held u v (subst (λ q. Spells (below 1) (Holds H) u v q.items) same h) in
    let label : 2 ≡ X = sym (ap (λ q. q.head) same) ∙ head in
    false≢true (sym e ∙ subst (λ a. H a u v ≡ true) label two)
settled X u v (e, (p, Memᴰ.tail (Memᴰ.tail i), head, h)) = elim i [ ]

defined : Defined (below 1) R E 1 1 0
defined = (
  Forward 0 ∷ [],
  replaced (record { before = []; item = Forward 1; after = []; rule = pair; granted = Memᴰ.head refl; head = refl; taken = refl; put = refl })
      (replaced (record { before = []; item = Forward 2; after = Forward 0 ∷ []; rule = empty; granted = Memᴰ.tail (Memᴰ.head refl); head = refl; taken = refl; put = refl }) stays),
  (0, refl, (refl, refl)),
)

pub ground_needed : GroundNeeded
ground_needed least = false≢true (least (below 1) R E H within settled 1 1 0 defined)
