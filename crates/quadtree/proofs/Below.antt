-- What stands below a link: nothing below 0, the same as long as no block there changes, and the parts of it below each quarter.
-- Assumes nothing.
use Rattle.std.proofs.Common.{◌≡◌, ℕ, zero, suc, ◌+◌, ◌-◌, ◌/◌, ◌^◌, ◌<◌, ◌≤◌, false, eqb, sym, refl, ap, ◌∙◌, not-suc-le-zero, arith}
use Rattle.std.proofs.lemmas.Nat.{mod_below}
use Rattle.std.proofs.lemmas.Bool.{eq-eqb}
use Rattle.std.proofs.lemmas.Bool.Decides.{nat_tests}
use Rattle.relation.specs.Sets.{one, sum_below}
use Rattle.relation.proofs.Sums.{sum_same, sum_term}
use Rattle.quadtree.specs.Growth.{Tree}
use Rattle.quadtree.specs.Links.{Links, quarter_of, cell, lacks, visits, bare}

pub quarter_below : (j u v : ℕ) → quarter_of j u v < 4
quarter_below j u v = omega (arith, mod_below (u / 2 ^ j) 2 (omega arith), mod_below (v / 2 ^ j) 2 (omega arith))

pub one_self : (i : ℕ) → one (eqb i i) ≡ 1
one_self i = ap one (eq-eqb i i refl)

module _ (ch : Links) where
  pub cell_none : (j u v : ℕ) → cell ch 0 j u v ≡ false
  cell_none zero u v = refl
  cell_none (suc j) u v = cell_none j u v

  -- every block on the way is lacking
  pub lacks_none : (j u v : ℕ) → lacks ch 0 j u v ≡ j
  lacks_none zero u v = refl
  lacks_none (suc j) u v = omega (arith, lacks_none j u v)

  pub visits_none : (j b : ℕ) → visits ch 0 j b ≡ 0
  visits_none zero b = refl
  visits_none (suc j) b = refl

  pub bare_none : (j : ℕ) → bare ch 0 j ≡ 0
  bare_none zero = refl
  bare_none (suc j) = refl

  -- what stands below a quarter stands below the block
  pub visits_child : (i j b q : ℕ) → q < 4 → visits ch (ch i q) j b ≤ visits ch (suc i) (suc j) b
  visits_child i j b q within = omega (arith, sum_term 4 (λ q. visits ch (ch i q) j b) q within)

  pub bare_child : (i j q : ℕ) → q < 4 → bare ch (suc i) (suc j) ≡ 0 → bare ch (ch i q) j ≡ 0
  bare_child i j q within e = omega (arith, sum_term 4 (λ q. bare ch (ch i q) j) q within)

  -- a block that a link leads to is one of the first n, and below its quarters there are trees again
  pub tree_block : (i j n : ℕ) → Tree ch (suc i) (suc j) n → i < n
  tree_block i j n tree = grind (arith, nat_tests, tree i, one_self i)

  pub tree_child : (i j n q : ℕ) → q < 4 → Tree ch (suc i) (suc j) n → Tree ch (ch i q) j n
  tree_child i j n q within tree b = omega (arith, tree b, visits_child i j b q within)

  -- the same, with the link and the height as the code has them
  pub at_block : (l j n : ℕ) → 0 < l → 0 < j → Tree ch l j n → l ≤ n
  at_block zero j n hl hj tree = absurd (not-suc-le-zero hl)
  at_block (suc i) zero n hl hj tree = absurd (not-suc-le-zero hj)
  at_block (suc i) (suc j) n hl hj tree = omega (arith, tree_block i j n tree)

  pub at_child : (l j n q : ℕ) → 0 < l → 0 < j → q < 4 → Tree ch l j n → Tree ch (ch (l - 1) q) (j - 1) n
  at_child zero j n q hl hj hq tree b = absurd (not-suc-le-zero hl)
  at_child (suc i) zero n q hl hj hq tree b = absurd (not-suc-le-zero hj)
  at_child (suc i) (suc j) n q hl hj hq tree b =
      let ei : suc i - 1 ≡ i = omega arith in
      let ej : suc j - 1 ≡ j = omega arith in
      rw (ei, ej) (tree_child i j n q hq tree b)

-- Where no block below a link has changed, what stands below it has not.
module _ (ch ch' : Links) where
  abbrev Kept : ℕ → ℕ → Type 0
  Kept l j = (b q : ℕ) → 0 < visits ch l j b → ch' b q ≡ ch b q

  -- the block itself is kept, and so is what stands below each of its quarters
  kept_here : (i j : ℕ) → Kept (suc i) (suc j) → (q : ℕ) → ch' i q ≡ ch i q
  kept_here i j kept q = kept i q (omega (arith, one_self i))

  kept_child : (i j q : ℕ) → q < 4 → Kept (suc i) (suc j) → Kept (ch i q) j
  kept_child i j q within kept b r some = kept b r (omega (arith, visits_child ch i j b q within))

  pub frame_visits : (l j : ℕ) → ((b q : ℕ) → 0 < visits ch l j b → ch' b q ≡ ch b q) → (b : ℕ) → visits ch' l j b ≡ visits ch l j b
  frame_visits l zero kept b = refl
  frame_visits zero (suc j) kept b = refl
  frame_visits (suc i) (suc j) kept b =
      ap (λ n. one (eqb i b) + n) (sum_same 4 (λ q. visits ch (ch i q) j b) (λ q. visits ch' (ch' i q) j b)
      (λ q within. ap (λ l. visits ch' l j b) (kept_here i j kept q) ∙ frame_visits (ch i q) j (kept_child i j q within kept) b))

  pub frame_cell : (l j : ℕ) → ((b q : ℕ) → 0 < visits ch l j b → ch' b q ≡ ch b q) → (x y : ℕ) → cell ch' l j x y ≡ cell ch l j x y
  frame_cell l zero kept x y = refl
  frame_cell zero (suc j) kept x y = cell_none ch' j x y ∙ sym (cell_none ch j x y)
  frame_cell (suc i) (suc j) kept x y =
      let q : ℕ = quarter_of j x y in
      ap (λ l. cell ch' l j x y) (kept_here i j kept q) ∙ frame_cell (ch i q) j (kept_child i j q (quarter_below j x y) kept) x y

  pub frame_bare : (l j : ℕ) → ((b q : ℕ) → 0 < visits ch l j b → ch' b q ≡ ch b q) → bare ch' l j ≡ bare ch l j
  frame_bare l zero kept = refl
  frame_bare zero (suc j) kept = refl
  frame_bare (suc i) (suc j) kept =
      let each : (q : ℕ) → q < 4 → bare ch' (ch' i q) j ≡ bare ch (ch i q) j =
      λ q within. ap (λ l. bare ch' l j) (kept_here i j kept q) ∙ frame_bare (ch i q) j (kept_child i j q within kept) in
      let first : one (eqb (sum_below 4 (ch' i)) 0) ≡ one (eqb (sum_below 4 (ch i)) 0) =
      ap (λ n. one (eqb n 0)) (sum_same 4 (ch i) (ch' i) (λ q _. kept_here i j kept q)) in
      let rest : sum_below 4 (λ q. bare ch' (ch' i q) j) ≡ sum_below 4 (λ q. bare ch (ch i q) j) =
      sum_same 4 (λ q. bare ch (ch i q) j) (λ q. bare ch' (ch' i q) j) each in
      omega arith
