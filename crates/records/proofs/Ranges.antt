-- Bytes encode only fields that are in their ranges. Assumes nothing.
use Rattle.std.proofs.Common.{ℕ, suc, ◌<◌, List, [], ◌∷◌, ◌++◌, get_or, subst, arith, Fits, w8}
use Rattle.std.specs.List.{AllByRecursion}
use Rattle.records.specs.Format.{Entry, header, rule, edge, end, encode, encode_all, InRange}
use Rattle.records.specs.Reading.{Ranged}

-- every number of the list is a byte
abbrev pub Bytes : List ℕ → Type 0
Bytes xs = (i : ℕ) → get_or xs i 0 < 256

front_bytes : (xs ys : List ℕ) → Bytes (xs ++ ys) → AllByRecursion (λ x. x < 256) xs × Bytes ys
front_bytes [] ys h = (tt, h)
front_bytes (x ∷ xs) ys h = let rest = front_bytes xs ys (λ i. h (suc i)) in ((h 0, rest.0), rest.1)

in_range : (e : Entry) → AllByRecursion (λ x. x < 256) (encode e) → InRange e
in_range (header labels nodes) h = let fields = h.1.1 in (fields.0, omega (arith, fields.1.0))
in_range (rule head items) h = let fields = h.1.1 in (fields.0, fields.1.0, fields.1.1)
in_range (edge label from to) h = let fields = h.1.1 in (fields.0, omega (arith, fields.1.0), omega (arith, fields.1.1.1.0))
in_range end h = tt

all_in_range : (es : List Entry) → Bytes (encode_all es) → AllByRecursion InRange es
all_in_range [] h = tt
all_in_range (e ∷ es) h = let parts = front_bytes (encode e) (encode_all es) h in (in_range e parts.0, all_in_range es parts.1)

pub ranged : {bytes : List ℕ} → ((i : ℕ) → Fits w8 (get_or bytes i 0)) → Ranged bytes
ranged h = λ es e. all_in_range es (subst Bytes e (λ i. omega (arith, h i)))
