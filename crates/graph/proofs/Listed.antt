-- Lists of triples: which triples are in the set of a list, what parting a list by a set leaves on either side, and that the list of all triples lacks none.
-- Assumes nothing.
use Rattle.std.proofs.Common.{◌≡◌, ℕ, zero, suc, ◌+◌, ◌<◌, Bool, true, false, not, ◌&&◌, eqb, ◌⊎◌, List, [], ◌∷◌, length, sym, refl, ap, subst, inl, inr, arith}
use mathlib.Core.List.Memᴰ
use Rattle.std.proofs.lemmas.Bool.{false≢true, eqb-true, eq-eqb, and_parts, and_from, or_cases, or_left, or_right, cases_Bool, cases_eq, not_from_false}
use Rattle.graph.specs.Grammar.{◌∈◌}
use Rattle.graph.specs.declared.triple.Triple.{Triple}
use Rattle.graph.specs.Graph.{triple, is, Triples, in_set, set_of, Relation, Holds}
use Rattle.graph.specs.Saturation.{keep, inside, outside, to_all, from_all, all_triples}

abbrev pub Listed : List Triple → Relation
Listed ts a u v = triple a u v ∈ ts

-- the test of one triple
is_same : (t : Triple) (a u v : ℕ) → is t a u v ≡ true → triple a u v ≡ t
is_same t a u v h =
    let k = and_parts (eqb t.label a) (eqb t.from u && eqb t.to v) h in
    let l = and_parts (eqb t.from u) (eqb t.to v) k.1 in
    let label = eqb-true t.label a k.0 in
    let from = eqb-true t.from u l.0 in
    let to = eqb-true t.to v l.1 in
    λ i. record { label = sym label i; from = sym from i; to = sym to i }

is_itself : (a u v : ℕ) → is (triple a u v) a u v ≡ true
is_itself a u v =
    and_from (eqb a a) (eqb u u && eqb v v) (eq-eqb a a refl) (and_from (eqb u u) (eqb v v) (eq-eqb u u refl) (eq-eqb v v refl))

-- the set of a list, and the list
pub set_listed : (ts : List Triple) (a u v : ℕ) → Holds (set_of ts) a u v → Listed ts a u v
set_listed [] a u v h = absurd (false≢true h)
set_listed (t ∷ ts) a u v h =
    elim (or_cases (is t a u v) (set_of ts a u v) h) [
      | inl e ↦ Memᴰ.head (is_same t a u v e)
      | inr e ↦ Memᴰ.tail (set_listed ts a u v e)
    ]

pub listed_set : (ts : List Triple) (a u v : ℕ) → Listed ts a u v → Holds (set_of ts) a u v
listed_set [] a u v i = elim i [ ]
listed_set (t ∷ ts) a u v (Memᴰ.head e) =
    or_left (is t a u v) (set_of ts a u v) (subst (λ x. is x a u v ≡ true) e (is_itself a u v))
listed_set (t ∷ ts) a u v (Memᴰ.tail i) = or_right (is t a u v) (set_of ts a u v) (listed_set ts a u v i)

-- parting a list
keep_here : (b : Bool) (x t : Triple) (ts : List Triple) → b ≡ true → x ≡ t → x ∈ keep b t ts
keep_here true x t ts h e = Memᴰ.head e
keep_here false x t ts h e = absurd (false≢true h)

keep_later : (b : Bool) (x t : Triple) (ts : List Triple) → x ∈ ts → x ∈ keep b t ts
keep_later true x t ts i = Memᴰ.tail i
keep_later false x t ts i = i

keep_cases : (b : Bool) (x t : Triple) (ts : List Triple) → x ∈ keep b t ts → ((b ≡ true) × (x ≡ t)) ⊎ x ∈ ts
keep_cases true x t ts (Memᴰ.head e) = inl (refl, e)
keep_cases true x t ts (Memᴰ.tail i) = inr i
keep_cases false x t ts i = inr i

pub inside_has : (A : Triples) (ts : List Triple) (a u v : ℕ) → Listed ts a u v → Holds A a u v → Listed (inside A ts) a u v
inside_has A [] a u v i h = elim i [ ]
inside_has A (t ∷ ts) a u v (Memᴰ.head e) h =
    keep_here (in_set A t) (triple a u v) t (inside A ts) (subst (λ x. in_set A x ≡ true) e h) e
inside_has A (t ∷ ts) a u v (Memᴰ.tail i) h =
    keep_later (in_set A t) (triple a u v) t (inside A ts) (inside_has A ts a u v i h)

pub inside_holds : (A : Triples) (ts : List Triple) (a u v : ℕ) → Listed (inside A ts) a u v → Holds A a u v
inside_holds A [] a u v i = absurd (Memᴰ.not-nil i)
inside_holds A (t ∷ ts) a u v i =
    elim (keep_cases (in_set A t) (triple a u v) t (inside A ts) i) [
      | inl k ↦ subst (λ x. in_set A x ≡ true) (sym k.1) k.0
      | inr j ↦ inside_holds A ts a u v j
    ]

outside_has : (A : Triples) (ts : List Triple) (a u v : ℕ) → Listed ts a u v → A a u v ≡ false → Listed (outside A ts) a u v
outside_has A [] a u v i h = elim i [ ]
outside_has A (t ∷ ts) a u v (Memᴰ.head e) h =
    keep_here (not (in_set A t)) (triple a u v) t (outside A ts) (not_from_false (in_set A t) (subst (λ x. in_set A x ≡ false) e h)) e
outside_has A (t ∷ ts) a u v (Memᴰ.tail i) h =
    keep_later (not (in_set A t)) (triple a u v) t (outside A ts) (outside_has A ts a u v i h)

-- each triple of the list is on one of the sides
pub parted : (A : Triples) (ts : List Triple) (a u v : ℕ) → Listed ts a u v → Listed (inside A ts) a u v ⊎ Listed (outside A ts) a u v
parted A ts a u v i =
    elim (cases_Bool (A a u v)) [ inl e ↦ inl (inside_has A ts a u v i e) | inr e ↦ inr (outside_has A ts a u v i e) ]

kept_once : (b : Bool) (t : Triple) (xs ys : List Triple) → length (keep b t xs) + length (keep (not b) t ys) ≡ suc (length xs + length ys)
kept_once true t xs ys = omega arith
kept_once false t xs ys = omega arith

-- and on one only: the lengths add up
pub parted_length : (A : Triples) (ts : List Triple) → length (inside A ts) + length (outside A ts) ≡ length ts
parted_length A [] = omega arith
parted_length A (t ∷ ts) = omega (arith, kept_once (in_set A t) t (inside A ts) (outside A ts), parted_length A ts)

-- all triples
to_all_has : (a u n v : ℕ) → v < n → Listed (to_all a u n) a u v
to_all_has a u zero v h = absurd (omega arith)
to_all_has a u (suc n) v h =
    elim (cases_eq v n) [
      | inl e ↦ Memᴰ.head (ap (triple a u) e)
      | inr e ↦ Memᴰ.tail (to_all_has a u n v (omega arith))
    ]

from_all_has : (a m n u v : ℕ) → u < m → v < n → Listed (from_all a m n) a u v
from_all_has a zero n u v h k = absurd (omega arith)
from_all_has a (suc m) n u v h k =
    elim (cases_eq u m) [
      | inl e ↦ Memᴰ.append_left (from_all a m n) (rw e (to_all_has a m n v k))
      | inr e ↦ Memᴰ.append_right (to_all a m n) (from_all_has a m n u v (omega arith) k)
    ]

pub all_has : (l n a u v : ℕ) → a < l → u < n → v < n → Listed (all_triples l n) a u v
all_has zero n a u v h k m = absurd (omega arith)
all_has (suc l) n a u v h k m =
    elim (cases_eq a l) [
      | inl e ↦ Memᴰ.append_left (all_triples l n) (rw e (from_all_has l n n u v k m))
      | inr e ↦ Memᴰ.append_right (from_all l n n) (all_has l n a u v (omega arith) k m)
    ]
