-- Strings turned round: twice is not at all, and the parts of a string change places.
-- Assumes nothing.
use Rattle.std.proofs.Common.{◌≡◌, [], ◌∷◌, ◌++◌, map, reverse, sym, refl, ap, ◌∙◌, ap₂, append_assoc}
use mathlib.Core.List.{reverse_aux}
use Rattle.std.proofs.lemmas.List.{map-append, reverse-append, reverse-reverse}
use Rattle.graph.specs.declared.item.Item.{Item}
use Rattle.graph.specs.declared.item.Item.TheVariants.{Forward, Reversed}
use Rattle.graph.specs.Grammar.{String, item_label, turned_item, turned, in_place_of}

turned_item_twice : (x : Item) → turned_item (turned_item x) ≡ x
turned_item_twice (Forward y) = refl
turned_item_twice (Reversed y) = refl

pub turned_item_label : (x : Item) → item_label (turned_item x) ≡ item_label x
turned_item_label (Forward y) = refl
turned_item_label (Reversed y) = refl

items_twice : (s : String) → map turned_item (map turned_item s) ≡ s
items_twice [] = refl
items_twice (x ∷ s) = ap₂ ◌∷◌ (turned_item_twice x) (items_twice s)

items_onto : (s t : String) → map turned_item (reverse_aux s t) ≡ reverse_aux (map turned_item s) (map turned_item t)
items_onto [] t = refl
items_onto (x ∷ s) t = items_onto s (x ∷ t)

-- two parts change places
pub turned_append : (s t : String) → turned (s ++ t) ≡ turned t ++ turned s
turned_append s t = ap reverse (map-append turned_item s t) ∙ reverse-append (map turned_item s) (map turned_item t)

-- so do the parts around an item
pub turned_around : (b : String) (x : Item) (a : String) → turned (b ++ (x ∷ a)) ≡ turned a ++ (turned_item x ∷ turned b)
turned_around b x a =
    turned_append b (x ∷ a) ∙ ap (λ s. s ++ turned b) (turned_append (x ∷ []) a) ∙ append_assoc (turned a) (turned_item x ∷ []) (turned b)

turned_twice : (s : String) → turned (turned s) ≡ s
turned_twice s = ap reverse (items_onto (map turned_item s) []) ∙ reverse-reverse (map turned_item (map turned_item s)) ∙ items_twice s

-- what takes the place of a turned item is what takes the place of the item, turned
pub turned_in_place : (x : Item) (s : String) → in_place_of (turned_item x) s ≡ turned (in_place_of x s)
turned_in_place (Forward y) s = refl
turned_in_place (Reversed y) s = sym (turned_twice s)
