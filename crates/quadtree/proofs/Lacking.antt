-- An insertion takes as many blocks as the weight rises: a block is lacking exactly where it would cover no triple yet.
-- Assumes nothing.
use Rattle.std.proofs.Common.{◌≡◌, ℕ, zero, suc, ◌+◌, ◌*◌, ◌/◌, ◌%◌, ◌^◌, ◌<◌, true, not, eqb, sym, refl, ap, ◌∙◌, ⊎_elim, not-suc-le-zero, arith}
use Rattle.std.proofs.lemmas.Bool.{eq-eqb, ne_eqb, cases_eq, lt-ltb, true≢false}
use Rattle.graph.specs.Graph.{Triples}
use Rattle.relation.specs.Sets.{one, sum_below}
use Rattle.relation.proofs.Sums.{sum_some}
use Rattle.quadtree.specs.Links.{Links, quarter_of, down, cell, lacks, bare}
use Rattle.quadtree.specs.Weights.{covering}
use Rattle.quadtree.proofs.Below.{quarter_below, cell_none, bare_none, bare_child}
use Rattle.quadtree.proofs.Lowest.{half}
use Rattle.quadtree.proofs.Weighing.{covering_from, covering_not, gains}

-- a cell that stands below the link l of height j, in the block (p, q)
record Spot (ch : Links) (l j p q : ℕ) : Type 0 where
  from : ℕ
  to : ℕ
  row : from / 2 ^ j ≡ p
  column : to / 2 ^ j ≡ q
  stands : cell ch l j from to ≡ true

-- where no block is bare, some cell stands below every link that is not 0
spot : (ch : Links) (l j : ℕ) → 0 < l → bare ch l j ≡ 0 → (p q : ℕ) → Spot ch l j p q
spot ch l zero some full p q = record { from = p; to = q; row = omega arith; column = omega arith; stands = lt-ltb 0 l some }
spot ch zero (suc j) some full p q = absurd (not-suc-le-zero some)
spot ch (suc i) (suc j) some full p q =
    let linked : 0 < sum_below 4 (ch i) =
    ⊎_elim (λ none. absurd (omega (arith, ap one (eq-eqb (sum_below 4 (ch i)) 0 none)))) (λ ne. omega arith) (cases_eq (sum_below 4 (ch i)) 0) in
    let quarter = sum_some 4 (ch i) linked in
    let k : ℕ = quarter.0 in
    let k_below : k < 4 = quarter.1 in
    let s = spot ch (ch i k) j quarter.2 (bare_child ch i j k k_below full) (2 * p + k / 2) (2 * q + k % 2) in
    let at : quarter_of j s.from s.to ≡ k = omega (arith, s.row, s.column) in
    record {
      from = s.from;
      to = s.to;
      row = half s.from j ∙ omega (arith, s.row);
      column = half s.to j ∙ omega (arith, s.column);
      stands = ap (λ x. cell ch (ch i x) j s.from s.to) at ∙ s.stands;
    }

-- nodes in one block of height j are in one block of height j + 1
higher : (j x u : ℕ) → x / 2 ^ j ≡ u / 2 ^ j → x / 2 ^ suc j ≡ u / 2 ^ suc j
higher j x u e = half x j ∙ ap (λ z. z / 2) e ∙ sym (half u j)

same_quarter : (j u v x y : ℕ) → x / 2 ^ j ≡ u / 2 ^ j → y / 2 ^ j ≡ v / 2 ^ j → quarter_of j x y ≡ quarter_of j u v
same_quarter j u v x y ex ey = ap (λ z. 2 * (z % 2) + y / 2 ^ j % 2) ex ∙ ap (λ z. 2 * (u / 2 ^ j % 2) + z % 2) ey

full_below : (ch : Links) (l j k : ℕ) → k < 4 → bare ch l (suc j) ≡ 0 → bare ch (down ch l k) j ≡ 0
full_below ch zero j k within full = bare_none ch j
full_below ch (suc i) j k within full = bare_child ch i j k within full

-- The tree of the link r and height h holds the triples of label a: those of s, with nodes below n.
module _ (n : ℕ) (s : Triples) (a u v : ℕ) (ch : Links) (r h : ℕ) (reads : (x y : ℕ) → x < n → y < n → s a x y ≡ cell ch r h x y)
    (inside : (x y : ℕ) → x < 2 ^ h → y < 2 ^ h → cell ch r h x y ≡ true → (x < n) × (y < n)) where
  -- l is the link of height j over the cell (u, v) in that tree
  record Over (l j : ℕ) : Type 0 where
    at : (x y : ℕ) → x / 2 ^ j ≡ u / 2 ^ j → y / 2 ^ j ≡ v / 2 ^ j → cell ch r h x y ≡ cell ch l j x y
    rows : (x : ℕ) → x / 2 ^ j ≡ u / 2 ^ j → x < 2 ^ h
    columns : (y : ℕ) → y / 2 ^ j ≡ v / 2 ^ j → y < 2 ^ h
    full : bare ch l j ≡ 0

  over_below : (l j : ℕ) → Over l (suc j) → Over (down ch l (quarter_of j u v)) j
  over_below l j o =
      record {
        at = λ x y ex ey. o.at x y (higher j x u ex) (higher j y v ey) ∙ ap (λ k. cell ch (down ch l k) j x y) (same_quarter j u v x y ex ey);
        rows = λ x e. o.rows x (higher j x u e);
        columns = λ y e. o.columns y (higher j y v e);
        full = full_below ch l j (quarter_of j u v) (quarter_below j u v) o.full;
      }

  -- the link is 0 exactly where its block would cover no triple yet
  lacking_here : (l j : ℕ) → Over l j → one (eqb l 0) ≡ one (not (covering n j s a (u / 2 ^ j) (v / 2 ^ j)))
  lacking_here l j o =
      ⊎_elim
      (λ none.
      let no = covering_not n j s a (u / 2 ^ j) (v / 2 ^ j) (λ c. true≢false
      (sym c.member ∙ reads c.from c.to c.from_below c.to_below ∙ o.at c.from c.to c.row c.column
      ∙ ap (λ l. cell ch l j c.from c.to) none ∙ cell_none ch j c.from c.to)) in
      ap one (eq-eqb l 0 none) ∙ ap (λ t. one (not t)) (sym no))
      (λ some.
      let c = spot ch l j (omega arith) o.full (u / 2 ^ j) (v / 2 ^ j) in
      let stands : cell ch r h c.from c.to ≡ true = o.at c.from c.to c.row c.column ∙ c.stands in
      let within = inside c.from c.to (o.rows c.from c.row) (o.columns c.to c.column) stands in
      let yes = covering_from n j s a (u / 2 ^ j) (v / 2 ^ j)
      (record { from = c.from; to = c.to; from_below = within.0; to_below = within.1; member = reads c.from c.to within.0 within.1 ∙ stands; row = c.row; column = c.column }) in
      ap one (ne_eqb l 0 some) ∙ ap (λ t. one (not t)) (sym yes))
      (cases_eq l 0)

  lacks_over : (l j : ℕ) → Over l j → lacks ch l j u v ≡ gains n j s a u v
  lacks_over l zero o = refl
  lacks_over l (suc j) o = omega (arith, lacking_here l (suc j) o, lacks_over (down ch l (quarter_of j u v)) j (over_below l j o))

  -- as many blocks are lacking below the root as the weight rises
  pub lacks_gains : ((x : ℕ) → x / 2 ^ h ≡ u / 2 ^ h → x < 2 ^ h) → ((y : ℕ) → y / 2 ^ h ≡ v / 2 ^ h → y < 2 ^ h) → bare ch r h ≡ 0 →
      lacks ch r h u v ≡ gains n h s a u v
  lacks_gains rows columns full = lacks_over r h (record { at = λ x y _ _. refl; rows = rows; columns = columns; full = full })
