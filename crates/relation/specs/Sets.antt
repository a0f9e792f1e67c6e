-- A set with one triple more, and how many triples a set has. Assumes nothing.
use Rattle.std.specs.Prelude.{◌≡◌, ℕ, zero, suc, ◌+◌, ◌≤◌, Bool, true, false, cond, ◌||◌, refl}
use Rattle.std.proofs.Common.{ap, arith}
use Rattle.graph.specs.Graph.{triple, is, Triples}

abbrev pub no_triples : Triples
no_triples a u v = false

-- the set together with the triple (a, u, v)
abbrev pub with_triple : Triples → ℕ → ℕ → ℕ → Triples
with_triple s a u v = λ b x y. is (triple a u v) b x y || s b x y

-- 1 for yes, 0 for no
abbrev pub one : Bool → ℕ
one b = cond b 1 0

-- what implies another counts no more than it
pub one_mono : (x y : Bool) → (x ≡ true → y ≡ true) → one x ≤ one y
one_mono true y implies = omega (arith, ap one (implies refl))
one_mono false y implies = omega arith

-- f 0 + .. + f (n - 1)
abbrev pub sum_below : ℕ → (ℕ → ℕ) → ℕ
sum_below zero f = 0
sum_below (suc n) f = sum_below n f + f n

-- the sum of f a u v over all a below l, and all u and v below n
abbrev pub sum_over : ℕ → ℕ → (ℕ → ℕ → ℕ → ℕ) → ℕ
sum_over l n f = sum_below l (λ a. sum_below n (λ u. sum_below n (λ v. f a u v)))

-- how many triples of the set have a label below l and nodes below n
abbrev pub size_of : ℕ → ℕ → Triples → ℕ
size_of l n s = sum_over l n (λ a u v. one (s a u v))
