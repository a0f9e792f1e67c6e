-- Strings of items, rules, and what a label derives by replacements. Assumes nothing.
use Rattle.std.specs.Prelude.{◌≡◌, ℕ, ◌<◌, List, [], ◌∷◌, ◌++◌, map, reverse}
use mathlib.Core.List.{Memᴰ}
use Rattle.graph.specs.declared.item.Item.{Item}
use Rattle.graph.specs.declared.item.Item.TheVariants.{Forward, Reversed}

-- a string is a list of items
abbrev pub String : Type 0
String = List Item

-- a rule is a head label and its items in order
pub record Rule : Type 0 where
  pub head : ℕ
  pub items : String

abbrev pub Grammar : Type 0
Grammar = List Rule

infix 40 ◌∈◌
abbrev pub ◌∈◌ : {A : Type 0} → A → List A → Type 0
x ∈ xs = Memᴰ x xs

-- each rule of R is a rule of S
abbrev pub Extends : Grammar → Grammar → Type 0
Extends R S = (p : Rule) → p ∈ R → p ∈ S

-- every rule has a head below l
abbrev pub HeadsBelow : ℕ → Grammar → Type 0
HeadsBelow l R = (p : Rule) → p ∈ R → p.head < l

abbrev pub item_label : Item → ℕ
item_label (Forward X) = X
item_label (Reversed X) = X

-- an item with its direction turned
abbrev pub turned_item : Item → Item
turned_item (Forward X) = Reversed X
turned_item (Reversed X) = Forward X

-- a string in opposite order, each item with its direction turned
abbrev pub turned : String → String
turned s = reverse (map turned_item s)

-- what the items of a rule become where they take the place of an item: they stay for a forward item, and are turned for a reversed one
abbrev pub in_place_of : Item → String → String
in_place_of (Forward X) s = s
in_place_of (Reversed X) s = turned s

-- a replacement makes t from s: an item is taken out, and the items of a rule with its label as head are put in
pub record Replacement (R : Grammar) (s t : String) : Type 0 where
  pub before : String
  pub item : Item
  pub after : String
  pub rule : Rule
  pub granted : rule ∈ R
  pub head : rule.head ≡ item_label item
  pub taken : s ≡ before ++ (item ∷ after)
  pub put : t ≡ before ++ (in_place_of item rule.items ++ after)

-- zero or more replacements make t from s
pub data Becomes (R : Grammar) : String → String → Type 0 where
  stays : {s : String} → Becomes R s s
  replaced : {s m t : String} → Replacement R s m → Becomes R m t → Becomes R s t

-- X derives what zero or more replacements make from the single forward item X
abbrev pub Derives : Grammar → ℕ → String → Type 0
Derives R X s = Becomes R (Forward X ∷ []) s
