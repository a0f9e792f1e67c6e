-- Paths are joined, split, turned round, and carried from one relation and its places to another.
-- Assumes nothing.
use Rattle.std.proofs.Common.{◌≡◌, ℕ, true, [], ◌∷◌, ◌++◌, map, refl, subst}
use mathlib.Core.List.{reverse_aux}
use Rattle.graph.specs.declared.item.Item.{Item}
use Rattle.graph.specs.declared.item.Item.TheVariants.{Forward, Reversed}
use Rattle.graph.specs.Grammar.{String, turned_item, turned}
use Rattle.graph.specs.Graph.{Relation, Implies, Nodes, NodesWithin, Between, Grounded, Takes, Spells}

takes_carried : {P Q : Relation} → Implies P Q → (x : Item) (u w : ℕ) → Takes P x u w → Takes Q x u w
takes_carried f (Forward y) u w h = f y _ _ h
takes_carried f (Reversed y) u w h = f y _ _ h

-- more triples and more places leave a path as it is
pub carried : {P Q : Relation} → Implies P Q → {places places' : Nodes} → NodesWithin places places' →
    (s : String) (u v : ℕ) → Spells places P u v s → Spells places' Q u v s
carried f g [] u v h = (h.0, g u h.1)
carried f g (x ∷ s) u v h = (h.0, takes_carried f x u h.0 h.1, carried f g s h.0 v h.2)

module _ (P : Relation) where
  -- a step the other way is a step by the turned item
  takes_turned : (x : Item) (u w : ℕ) → Takes P x u w → Takes P (turned_item x) w u
  takes_turned (Forward y) u w h = h
  takes_turned (Reversed y) u w h = h

  takes_back : (x : Item) (u w : ℕ) → Takes P (turned_item x) w u → Takes P x u w
  takes_back (Forward y) u w h = h
  takes_back (Reversed y) u w h = h

  pub takes_between : (places : Nodes) → Grounded places P → (x : Item) (u w : ℕ) → Takes P x u w → Between places u w
  takes_between places grounded (Forward y) u w h = grounded y u w h
  takes_between places grounded (Reversed y) u w h = ((grounded y w u h).1, (grounded y w u h).0)

module _ (places : Nodes) (P : Relation) where
  -- one path behind another
  pub joined : (s t : String) (u m v : ℕ) → Spells places P u m s → Spells places P m v t → Spells places P u v (s ++ t)
  joined [] t u m v h k = rw h.0 k
  joined (x ∷ s) t u m v h k = (h.0, h.1, joined s t h.0 m v h.2 k)

  ends_placed : (s : String) (u v : ℕ) → Spells places P u v s → places v ≡ true
  ends_placed [] u v h = rw h.0 at h.1
  ends_placed (x ∷ s) u v h = ends_placed s h.0 v h.2

  -- a path turned round, in front of another from the same node
  turned_onto : (s t : String) (u v w : ℕ) → Spells places P u v s → Spells places P u w t → Spells places P v w (reverse_aux (map turned_item s) t)
  turned_onto [] t u v w h k = rw h.0 at k
  turned_onto (x ∷ s) t u v w h k = turned_onto s (turned_item x ∷ t) h.0 v w h.2 (u, takes_turned P x u h.0 h.1, k)

  module _ (grounded : Grounded places P) where
    -- a path starts at a place even where it is not empty, by its first step
    starts_placed : (s : String) (u v : ℕ) → Spells places P u v s → places u ≡ true
    starts_placed [] u v h = h.1
    starts_placed (x ∷ s) u v h = (takes_between P places grounded x u h.0 h.1).0

    pub spells_between : (s : String) (u v : ℕ) → Spells places P u v s → Between places u v
    spells_between s u v h = (starts_placed s u v h, ends_placed s u v h)

    -- a path that spells two strings in a row has a node between them
    pub split : (s t : String) (u v : ℕ) → Spells places P u v (s ++ t) → (m : ℕ) × Spells places P u m s × Spells places P m v t
    split [] t u v h = (u, (refl, starts_placed t u v h), h)
    split (x ∷ s) t u v h = let k = split s t h.0 v h.2 in (k.0, (h.0, h.1, k.1), k.2)

    -- and back: such a path is made of two from one node
    turned_off : (s t : String) (v w : ℕ) → Spells places P v w (reverse_aux (map turned_item s) t) →
        (u : ℕ) × Spells places P u v s × Spells places P u w t
    turned_off [] t v w h = (v, (refl, starts_placed t v w h), h)
    turned_off (x ∷ s) t v w h =
        let k = turned_off s (turned_item x ∷ t) v w h in
        (k.2.0, (k.0, takes_back P x k.2.0 k.0 k.2.1, k.1), k.2.2)

    -- a path walked from its end spells the turned string, and back
    pub turn : (s : String) (u v : ℕ) → Spells places P u v s → Spells places P v u (turned s)
    turn s u v h = turned_onto s [] u v u h (refl, starts_placed s u v h)

    pub turn_back : (s : String) (u v : ℕ) → Spells places P v u (turned s) → Spells places P u v s
    turn_back s u v h = let k = turned_off s [] v u h in subst (λ m. Spells places P m v s) k.2.0 k.1
