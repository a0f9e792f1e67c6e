-- The triples of a row of words: each in range has a bit of its own, and setting that bit adds just that triple.
-- Assumes nothing.
use Rattle.std.proofs.Common.{◌≡◌, ℕ, ◌+◌, ◌*◌, ◌/◌, ◌%◌, ◌<◌, ◌≤◌, Bool, true, false, ◌&&◌, ◌||◌, eqb, List, length, sym, ap, ◌∙◌, ap₂, ⊎_elim, mul_comm, arith}
use mathlib.Core.Path.{fun_ext}
use Rattle.std.proofs.lemmas.Nat.{mul-add-lt, div-mul-add, mod-mul-add}
use Rattle.std.proofs.lemmas.Bool.{both_ways, cases_Bool, cases_eq, eq-eqb, ne_eqb}
use Rattle.graph.specs.Graph.{triple, is}
use Rattle.graph.specs.Counts.{in_range?, Ranged}
use Rattle.relation.specs.Sets.{with_triple}
use Rattle.relation.proofs.Added.{Same, is_same, is_other}
use Rattle.relation.proofs.Ranges.{range_told, range_tested}
use Rattle.grid.specs.Bits.{bit, with_bit, bit_of, cell}
use Rattle.grid.proofs.Words.{bit_with_bit}

-- the bits of the triples in range are the first l * n * n
pub bit_within : (l n a u v : ℕ) → Ranged l n a u v → bit_of n a u v < l * n * n
bit_within l n a u v r =
    let row : a * n + u < n * l = mul-add-lt a n u l r.label r.from in
    let all : (a * n + u) * n + v < n * (n * l) = mul-add-lt (a * n + u) n v (n * l) row r.to in
    omega (arith, all, mul_comm n (n * l), ap (λ x. x * n) (mul_comm n l))

-- the numbers of a triple are found again from its bit
same_bit : (n a u v b x y : ℕ) → u < n → v < n → x < n → y < n → bit_of n b x y ≡ bit_of n a u v → Same a u v b x y
same_bit n a u v b x y hu hv hx hy e =
    let row : b * n + x ≡ a * n + u = sym (div-mul-add (b * n + x) n y hy) ∙ ap (λ k. k / n) e ∙ div-mul-add (a * n + u) n v hv in (
      sym (div-mul-add b n x hx) ∙ ap (λ k. k / n) row ∙ div-mul-add a n u hu,
      sym (mod-mul-add b n x hx) ∙ ap (λ k. k % n) row ∙ mod-mul-add a n u hu,
      sym (mod-mul-add (b * n + x) n y hy) ∙ ap (λ k. k % n) e ∙ mod-mul-add (a * n + u) n v hv,
    )

-- so two triples have one bit just where they are the same
same_bit_test : (n a u v b x y : ℕ) → u < n → v < n → x < n → y < n → eqb (bit_of n b x y) (bit_of n a u v) ≡ is (triple a u v) b x y
same_bit_test n a u v b x y hu hv hx hy =
    ⊎_elim
    (λ e. eq-eqb (bit_of n b x y) (bit_of n a u v) e ∙ sym (is_same a u v b x y (same_bit n a u v b x y hu hv hx hy e)))
    (λ ne. ne_eqb (bit_of n b x y) (bit_of n a u v) ne
    ∙ sym (is_other a u v b x y (λ e. ne (ap (λ k. bit_of n k x y) e.0 ∙ ap (λ k. bit_of n a k y) e.1 ∙ ap (λ k. bit_of n a u k) e.2))))
    (cases_eq (bit_of n b x y) (bit_of n a u v))

-- a triple in range is held where its bit is set, and no other
pub cell_range : (ws : List ℕ) (l n a u v : ℕ) (t : Bool) → in_range? l n a u v ≡ t → cell ws l n a u v ≡ (t && bit ws (bit_of n a u v))
cell_range ws l n a u v t e = ap (λ k. k && bit ws (bit_of n a u v)) e

module _ (ws : List ℕ) (l n a u v : ℕ) (r : Ranged l n a u v) where
  pub cell_bit : cell ws l n a u v ≡ bit ws (bit_of n a u v)
  cell_bit = cell_range ws l n a u v true (range_tested l n a u v r)

  module _ (room : l * n * n ≤ 64 * length ws) where
    abbrev after : List ℕ
    after = with_bit ws (bit_of n a u v)

    -- a triple out of range is held neither before nor after
    cell_at : (b x y : ℕ) → cell after l n b x y ≡ with_triple (cell ws l n) a u v b x y
    cell_at b x y =
        ⊎_elim
        (λ inside. let h = range_told l n b x y inside in
        cell_range after l n b x y true inside
        ∙ bit_with_bit ws (bit_of n a u v) (bit_of n b x y) (omega (arith, bit_within l n a u v r))
        ∙ ap₂ (λ p q. p || q) (same_bit_test n a u v b x y r.from r.to h.from h.to) (sym (cell_range ws l n b x y true inside)))
        (λ outside. let apart : Same a u v b x y → ⊥ = λ e.
        both_ways (in_range? l n b x y) outside (range_tested l n b x y (record { label = omega (arith, e.0, r.label); from = omega (arith, e.1, r.from); to = omega (arith, e.2, r.to) })) in
        cell_range after l n b x y false outside ∙ sym (cell_range ws l n b x y false outside)
        ∙ ap (λ p. p || cell ws l n b x y) (sym (is_other a u v b x y apart)))
        (cases_Bool (in_range? l n b x y))

    pub cell_with_bit : cell after l n ≡ with_triple (cell ws l n) a u v
    cell_with_bit = fun_ext (λ b. fun_ext (λ x. fun_ext (λ y. cell_at b x y)))
