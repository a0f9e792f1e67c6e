-- Items, and the bytes that stand for them in files. Assumes nothing.
use Rattle.std.specs.Prelude.{◌≡◌, ℕ, ◌+◌, ◌-◌, cond, ◌↔◌, Ok, Err, Result, nat_lt}
use Rattle.graph.specs.declared.refusal.Refusal.{Refusal}
use Rattle.graph.specs.declared.refusal.Refusal.TheVariants.{Label}
use Rattle.graph.specs.declared.item.Item.{Item}
use Rattle.graph.specs.declared.item.Item.TheVariants.{Forward, Reversed}

-- the item for which a byte stands: 0 to 63 for that label forward, 128 to 191 for the byte less 128 reversed, any other for a label out of range
abbrev pub byte_item : ℕ → Result Item Refusal
byte_item b =
    cond (nat_lt b 64) (Ok (Forward b))
    (cond (nat_lt b 128) (Err Label)
    (cond (nat_lt b 192) (Ok (Reversed (b - 128))) (Err Label)))

-- the byte that stands for an item
abbrev pub item_byte : Item → Result ℕ Refusal
item_byte (Forward label) = cond (nat_lt label 64) (Ok label) (Err Label)
item_byte (Reversed label) = cond (nat_lt label 64) (Ok (label + 128)) (Err Label)

-- A byte stands for an item exactly where the item has that byte.
abbrev pub BytesMatch : Type 0
BytesMatch = (b : ℕ) (x : Item) → (byte_item b ≡ Ok x) ↔ (item_byte x ≡ Ok b)
