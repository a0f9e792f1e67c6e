-- Numbers by their lowest bits: below 2 ^ h, two pairs of nodes are the same where their quarters are the same at every height.
-- Assumes nothing.
use Rattle.std.proofs.Common.{◌≡◌, ℕ, zero, suc, ◌+◌, ◌*◌, ◌/◌, ◌%◌, ◌^◌, ◌<◌, true, false, eqb, sym, refl, ap, ◌∙◌, zero-mul, add-one, arith}
use Rattle.std.proofs.Math.Nat.{div-eq_of_lt}
use Rattle.std.proofs.lemmas.Nat.{mod_below, pow_pos, shr-shr, shr_split}
use Rattle.std.proofs.lemmas.Bool.{eqb-true, eq-eqb, false_from_ne_true, and_parts, and_from}
use Rattle.quadtree.specs.Links.{quarter_of, same_low}

pub half : (u j : ℕ) → u / 2 ^ suc j ≡ u / 2 ^ j / 2
half u j = sym (shr-shr u j 1 ∙ ap (λ k. u / 2 ^ k) (add-one j))

pub below_top : (h u : ℕ) → u < 2 ^ h → (x : ℕ) → x / 2 ^ h ≡ u / 2 ^ h → x < 2 ^ h
below_top h u below x e =
    let none : x / 2 ^ h * 2 ^ h ≡ 0 = ap (λ q. q * 2 ^ h) (e ∙ div-eq_of_lt below) ∙ zero-mul (2 ^ h) in
    omega (arith, shr_split x h, mod_below x (2 ^ h) (pow_pos h))

bits : (u v x y : ℕ) → 2 * (u % 2) + v % 2 ≡ 2 * (x % 2) + y % 2 → (u % 2 ≡ x % 2) × (v % 2 ≡ y % 2)
bits u v x y e = (omega arith, omega arith)

same_whole : (j u v x y : ℕ) → u / 2 ^ j ≡ x / 2 ^ j → v / 2 ^ j ≡ y / 2 ^ j → same_low j u v x y ≡ true → (u ≡ x) × (v ≡ y)
same_whole zero u v x y eu ev t = (omega arith, omega arith)
same_whole (suc j) u v x y eu ev t =
    let p = and_parts (eqb (quarter_of j u v) (quarter_of j x y)) (same_low j u v x y) t in
    let b = bits (u / 2 ^ j) (v / 2 ^ j) (x / 2 ^ j) (y / 2 ^ j) (eqb-true (quarter_of j u v) (quarter_of j x y) p.0) in
    let hu : u / 2 ^ j / 2 ≡ x / 2 ^ j / 2 = sym (half u j) ∙ eu ∙ half x j in
    let hv : v / 2 ^ j / 2 ≡ y / 2 ^ j / 2 = sym (half v j) ∙ ev ∙ half y j in
    same_whole j u v x y (omega arith) (omega arith) p.1

pub same_self : (j u v : ℕ) → same_low j u v u v ≡ true
same_self zero u v = refl
same_self (suc j) u v =
    and_from (eqb (quarter_of j u v) (quarter_of j u v)) (same_low j u v u v) (eq-eqb (quarter_of j u v) (quarter_of j u v) refl) (same_self j u v)

pub same_not : (h u v x y : ℕ) → u < 2 ^ h → v < 2 ^ h → x < 2 ^ h → y < 2 ^ h → ((u ≡ x) × (v ≡ y) → ⊥) → same_low h u v x y ≡ false
same_not h u v x y hu hv hx hy apart =
    false_from_ne_true (same_low h u v x y)
    (λ t. apart (same_whole h u v x y (div-eq_of_lt hu ∙ sym (div-eq_of_lt hx)) (div-eq_of_lt hv ∙ sym (div-eq_of_lt hy)) t))
