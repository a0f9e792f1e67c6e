-- A set with one triple more: which triples it has, and how many.
-- Assumes nothing.
use Rattle.std.proofs.Common.{◌≡◌, ℕ, ◌+◌, ◌*◌, ◌≤◌, true, false, ◌||◌, ◌⊎◌, sym, refl, ap, ◌∙◌, inl, inr, ⊎_elim, arith}
use mathlib.Core.Path.{fun_ext}
use Rattle.std.proofs.lemmas.Nat.{mul-le}
use Rattle.std.proofs.lemmas.Bool.{cases_eq, eq-eqb, ne_eqb, or_left, or_right}
use Rattle.graph.specs.Graph.{triple, is, Triples, Within}
use Rattle.graph.specs.Counts.{Ranged}
use Rattle.relation.specs.Sets.{no_triples, with_triple, one, size_of}
use Rattle.relation.proofs.Sums.{sum_over_more, sum_over_zero, sum_over_bound}

-- one triple is another where all three numbers are the same
abbrev pub Same : ℕ → ℕ → ℕ → ℕ → ℕ → ℕ → Type 0
Same a u v b x y = (b ≡ a) × (x ≡ u) × (y ≡ v)

pub is_same : (a u v b x y : ℕ) → Same a u v b x y → is (triple a u v) b x y ≡ true
is_same a u v b x y e = simp (eq-eqb a b (sym e.0), eq-eqb u x (sym e.1), eq-eqb v y (sym e.2))

pub is_other : (a u v b x y : ℕ) → (Same a u v b x y → ⊥) → is (triple a u v) b x y ≡ false
is_other a u v b x y apart =
    ⊎_elim
    (λ p. ⊎_elim
    (λ q. ⊎_elim (λ r. absurd (apart (sym p, sym q, sym r))) (λ r. simp (eq-eqb a b p, eq-eqb u x q, ne_eqb v y r)) (cases_eq v y))
    (λ q. simp (eq-eqb a b p, ne_eqb u x q)) (cases_eq u x))
    (λ p. simp (ne_eqb a b p)) (cases_eq a b)

pub same_or_other : (a u v b x y : ℕ) → Same a u v b x y ⊎ (Same a u v b x y → ⊥)
same_or_other a u v b x y =
    ⊎_elim
    (λ p. ⊎_elim (λ q. ⊎_elim (λ r. inl (p, q, r)) (λ r. inr (λ e. r e.2)) (cases_eq y v)) (λ q. inr (λ e. q e.1)) (cases_eq x u))
    (λ p. inr (λ e. p e.0)) (cases_eq b a)

module _ (s : Triples) (a u v : ℕ) where
  pub with_here : with_triple s a u v a u v ≡ true
  with_here = or_left (is (triple a u v) a u v) (s a u v) (is_same a u v a u v (refl, refl, refl))

  pub with_other : (b x y : ℕ) → (Same a u v b x y → ⊥) → with_triple s a u v b x y ≡ s b x y
  with_other b x y apart = ap (λ t. t || s b x y) (is_other a u v b x y apart)

  pub within_with : Within s (with_triple s a u v)
  within_with b x y e = or_right (is (triple a u v) b x y) (s b x y) e

  -- a triple that is in the set already
  pub with_known : s a u v ≡ true → with_triple s a u v ≡ s
  with_known known =
      fun_ext (λ b. fun_ext (λ x. fun_ext (λ y.
      ⊎_elim
      (λ e. or_left (is (triple a u v) b x y) (s b x y) (is_same a u v b x y e)
      ∙ sym (ap (λ k. s k x y) e.0 ∙ ap (λ k. s a k y) e.1 ∙ ap (λ k. s a u k) e.2 ∙ known))
      (with_other b x y) (same_or_other a u v b x y))))

  -- one more where it was not in the set
  pub size_with : (l n : ℕ) → Ranged l n a u v → s a u v ≡ false → size_of l n (with_triple s a u v) ≡ size_of l n s + 1
  size_with l n r new =
      sum_over_more l n (λ b x y. one (s b x y)) (λ b x y. one (with_triple s a u v b x y)) a u v 1 r.label r.from r.to
      (λ b x y _ _ _ apart. ap one (with_other b x y apart)) (ap one with_here ∙ sym (ap (λ t. one t + 1) new))

pub size_none : (l n : ℕ) → size_of l n no_triples ≡ 0
size_none l n = sum_over_zero l n (λ _ _ _. 0) (λ _ _ _. refl)

-- the triples of 64 labels and 1,024 nodes can be counted in 32 bits
pub size_small : (l n : ℕ) (s : Triples) → l ≤ 64 → n ≤ 1024 → size_of l n s ≤ 67108864
size_small l n s few_labels few_nodes =
    omega (
      arith,
      sum_over_bound l n s,
      mul-le l (n * (n * 1)) 64 (1024 * (1024 * 1)) few_labels (mul-le n (n * 1) 1024 (1024 * 1) few_nodes (mul-le n 1 1024 1 few_nodes (omega arith))),
    )
