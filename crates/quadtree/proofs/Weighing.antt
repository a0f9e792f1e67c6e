-- What one triple more weighs: as much as there are blocks around it that cover no triple yet.
-- Assumes nothing.
use Rattle.std.proofs.Common.{◌≡◌, ℕ, zero, suc, ◌+◌, ◌/◌, ◌^◌, ◌<◌, Bool, true, false, not, ◌&&◌, eqb, sym, refl, ap, ◌∙◌, ⊎_elim, arith}
use Rattle.std.proofs.lemmas.Nat.{shr_le}
use Rattle.std.proofs.lemmas.Bool.{eq-eqb, eqb-true, cases_Bool, and_parts, and_from, true≢false, false_from_ne_true}
use Rattle.graph.specs.Graph.{Triples}
use Rattle.graph.specs.Saturation.{some_below}
use Rattle.graph.proofs.Tested.{some_below_found, some_below_from}
use Rattle.graph.specs.Counts.{Ranged}
use Rattle.relation.specs.Sets.{no_triples, with_triple, one, sum_below, size_of}
use Rattle.relation.proofs.Added.{Same, same_or_other, with_here, with_other, within_with}
use Rattle.relation.proofs.Sums.{sum_zero, sum_over_zero, sum_over_more}
use Rattle.quadtree.specs.Monotone.{covering_mono}
use Rattle.quadtree.specs.Weights.{covering, weight_of}

-- a triple of the set that the block (a, p, q) of height j covers
pub record Covered (n j : ℕ) (s : Triples) (a p q : ℕ) : Type 0 where
  pub from : ℕ
  pub to : ℕ
  pub from_below : from < n
  pub to_below : to < n
  pub member : s a from to ≡ true
  pub row : from / 2 ^ j ≡ p
  pub column : to / 2 ^ j ≡ q

module _ (n j : ℕ) (s : Triples) (a p q : ℕ) where
  abbrev covers? : ℕ → ℕ → Bool
  covers? u v = s a u v && (eqb (u / 2 ^ j) p && eqb (v / 2 ^ j) q)

  pub covering_found : covering n j s a p q ≡ true → Covered n j s a p q
  covering_found e =
      let f = some_below_found n (λ u. some_below n (covers? u)) e in
      let t = some_below_found n (covers? f.0) f.2 in
      let k = and_parts (s a f.0 t.0) _ t.2 in
      let l = and_parts (eqb (f.0 / 2 ^ j) p) (eqb (t.0 / 2 ^ j) q) k.1 in
      record {
        from = f.0;
        to = t.0;
        from_below = f.1;
        to_below = t.1;
        member = k.0;
        row = eqb-true (f.0 / 2 ^ j) p l.0;
        column = eqb-true (t.0 / 2 ^ j) q l.1;
      }

  pub covering_from : Covered n j s a p q → covering n j s a p q ≡ true
  covering_from c =
      some_below_from n (λ u. some_below n (covers? u)) c.from c.from_below
      (some_below_from n (covers? c.from) c.to c.to_below
      (and_from (s a c.from c.to) _ c.member
      (and_from (eqb (c.from / 2 ^ j) p) _ (eq-eqb (c.from / 2 ^ j) p c.row) (eq-eqb (c.to / 2 ^ j) q c.column))))

  -- a block that covers nothing
  pub covering_not : (Covered n j s a p q → ⊥) → covering n j s a p q ≡ false
  covering_not none = false_from_ne_true (covering n j s a p q) (λ yes. none (covering_found yes))

pub weight_none : (l n h : ℕ) → weight_of l n h no_triples ≡ 0
weight_none l n h =
    sum_zero h _ (λ j _. sum_over_zero l n _ (λ a p q. ap one (covering_not n (suc j) no_triples a p q (λ c. true≢false (sym c.member)))))

-- how many of the blocks around (a, u, v), of heights 1 to h, cover no triple of the set
abbrev pub gains : ℕ → ℕ → Triples → ℕ → ℕ → ℕ → ℕ
gains n h s a u v = sum_below h (λ j. one (not (covering n (suc j) s a (u / 2 ^ suc j) (v / 2 ^ suc j))))

module _ (l n : ℕ) (s : Triples) (a u v : ℕ) (r : Ranged l n a u v) where
  -- the block of height j around the triple
  abbrev row : ℕ → ℕ
  row j = u / 2 ^ j

  abbrev column : ℕ → ℕ
  column j = v / 2 ^ j

  covering_here : (j : ℕ) → covering n j (with_triple s a u v) a (row j) (column j) ≡ true
  covering_here j =
      covering_from n j (with_triple s a u v) a (row j) (column j)
      (record { from = u; to = v; from_below = r.from; to_below = r.to; member = with_here s a u v; row = refl; column = refl })

  -- any other block covers what it covered
  covering_other : (j b p q : ℕ) → (Same a (row j) (column j) b p q → ⊥) → covering n j (with_triple s a u v) b p q ≡ covering n j s b p q
  covering_other j b p q apart =
      ⊎_elim
      (λ yes. covering_mono n j s (with_triple s a u v) (within_with s a u v) b p q yes ∙ sym yes)
      (λ no. covering_not n j (with_triple s a u v) b p q (λ c.
      ⊎_elim
      (λ e. apart (e.0, sym c.row ∙ ap (λ x. x / 2 ^ j) e.1, sym c.column ∙ ap (λ x. x / 2 ^ j) e.2))
      (λ ne. true≢false (sym (covering_from n j s b p q
      (record { from = c.from; to = c.to; from_below = c.from_below; to_below = c.to_below; member = sym (with_other s a u v b c.from c.to ne) ∙ c.member; row = c.row; column = c.column }))
      ∙ no))
      (same_or_other a u v b c.from c.to)) ∙ sym no)
      (cases_Bool (covering n j s b p q))

  one_more : (x y : Bool) → y ≡ true → one y ≡ one x + one (not x)
  one_more true y e = ap one e
  one_more false y e = ap one e

  blocks_with : (j : ℕ) → size_of l n (covering n j (with_triple s a u v)) ≡ size_of l n (covering n j s) + one (not (covering n j s a (row j) (column j)))
  blocks_with j =
      sum_over_more l n (λ b p q. one (covering n j s b p q)) (λ b p q. one (covering n j (with_triple s a u v) b p q)) a (row j) (column j)
      (one (not (covering n j s a (row j) (column j)))) r.label (omega (arith, r.from, shr_le u j)) (omega (arith, r.to, shr_le v j))
      (λ b p q _ _ _ apart. ap one (covering_other j b p q apart))
      (one_more (covering n j s a (row j) (column j)) _ (covering_here j))

  pub weight_with : (h : ℕ) → weight_of l n h (with_triple s a u v) ≡ weight_of l n h s + gains n h s a u v
  weight_with zero = refl
  weight_with (suc h) = omega (arith, blocks_with (suc h), weight_with h)
