-- What always holds of the trees, and that an insertion of a new triple keeps it.
-- Assumes nothing.
use Rattle.std.proofs.Common.{◌≡◌, ℕ, ◌+◌, ◌^◌, ◌<◌, ◌≤◌, true, false, ◌&&◌, ◌||◌, ltb, ◌≢◌, List, get_or, replicate, sym, ap, ◌∙◌, ⊎_elim, arith}
use mathlib.Core.Path.{fun_ext}
use mathlib.Core.Bool.{or-false}
use Rattle.std.proofs.lemmas.List.{get_or-replicate, get_or_past}
use Rattle.std.proofs.lemmas.Bool.{cases_eq, cases_lt, cases_Bool, and_parts, and_from, and_left, and_right, or_right, true≢false}
use Rattle.std.proofs.lemmas.Bool.Decides.{nat_tests}
use Rattle.graph.specs.Graph.{triple, Triples}
use Rattle.graph.specs.Counts.{in_range?, Ranged}
use Rattle.relation.specs.Sets.{no_triples, with_triple, one, sum_below, size_of}
use Rattle.relation.proofs.Added.{Same, same_or_other, with_here, with_other, size_with, size_none}
use Rattle.relation.proofs.Ranges.{range_told, range_tested}
use Rattle.relation.proofs.Sums.{sum_zero, sum_term, sum_two_terms, sum_more}
use Rattle.quadtree.specs.Growth.{Tree, between, Grown}
use Rattle.quadtree.specs.Links.{Links, cell, lacks, visits, bare, same_low}
use Rattle.quadtree.specs.Trees.{holding, in_trees, bare_in_trees, Inside}
use Rattle.quadtree.specs.Weights.{weight_of}
use Rattle.quadtree.proofs.Below.{cell_none, visits_none, bare_none, frame_visits, frame_cell, frame_bare}
use Rattle.quadtree.proofs.Lacking.{lacks_gains}
use Rattle.quadtree.proofs.Lowest.{below_top, same_self, same_not}
use Rattle.quadtree.proofs.Weighing.{weight_none, weight_with}

-- Each of the first s blocks stands in the trees once, and no other does; none of them is bare; no cell is out of range; s is what the held set weighs, and z is its size.
pub record Sound (ch : Links) (roots : List ℕ) (l n h s z : ℕ) : Type 0 where
  pub tree : (b : ℕ) → in_trees ch roots l h b ≡ one (ltb b s)
  pub full : bare_in_trees ch roots l h ≡ 0
  pub inside : Inside ch roots l n h
  pub weighed : s ≡ weight_of l n h (holding ch roots l n h)
  pub sized : z ≡ size_of l n (holding ch roots l n h)

-- the tree of one label, among the first m blocks where all that are taken are among them
pub label_tree : (ch : Links) (roots : List ℕ) (l h s a m : ℕ) → a < l → s ≤ m → ((b : ℕ) → in_trees ch roots l h b ≡ one (ltb b s)) → Tree ch (get_or roots a 0) h m
label_tree ch roots l h s a m ha le tree b =
    let wider : one (ltb b s) ≤ one (ltb b m) = grind (arith, nat_tests) in
    omega (arith, tree b, sum_term l (λ a. visits ch (get_or roots a 0) h b) a ha)

module _ (ch : Links) (roots : List ℕ) (l n h s z a u v : ℕ) (wide : n ≤ 2 ^ h) (r : Ranged l n a u v) (sound : Sound ch roots l n h s z) where
  -- what is held
  abbrev H : Triples
  H = holding ch roots l n h

  u_below : u < 2 ^ h
  u_below = omega (arith, r.from)

  v_below : v < 2 ^ h
  v_below = omega (arith, r.to)

  holding_cell : (x y : ℕ) → x < n → y < n → H a x y ≡ cell ch (get_or roots a 0) h x y
  holding_cell x y hx hy = ap (λ t. t && cell ch (get_or roots a 0) h x y) (range_tested l n a x y (record { label = r.label; from = hx; to = hy }))

  -- in the trees every number below 2 ^ h has a cell, but only nodes have one that stands
  cell_inside : (b : ℕ) → b < l → (x y : ℕ) → x < 2 ^ h → y < 2 ^ h → cell ch (get_or roots b 0) h x y ≡ true → (x < n) × (y < n)
  cell_inside b hb x y hx hy stands =
      let at = range_tested l (2 ^ h) b x y (record { label = hb; from = hx; to = hy }) in
      let k = range_told l n b x y (sound.inside (triple b x y) (and_from (in_range? l (2 ^ h) b x y) _ at stands)) in
      (k.from, k.to)

  full_label : bare ch (get_or roots a 0) h ≡ 0
  full_label = omega (arith, sound.full, sum_term l (λ a. bare ch (get_or roots a 0) h) a r.label)

  -- the held set with the triple weighs as much as there will be blocks taken
  pub weight_lacking : weight_of l n h (with_triple H a u v) ≡ s + lacks ch (get_or roots a 0) h u v
  weight_lacking =
      let rise = lacks_gains n H a u v ch (get_or roots a 0) h holding_cell (cell_inside a r.label) (below_top h u u_below) (below_top h v v_below) full_label in
      omega (arith, weight_with l n H a u v r h, sound.weighed)

  -- The triple is inserted.
  module _ (ch' : Links) (roots' : List ℕ) (s' : ℕ) (grown : Grown ch ch' (get_or roots a 0) (get_or roots' a 0) s s' h u v)
      (others : (b : ℕ) → b ≢ a → get_or roots' b 0 ≡ get_or roots b 0) where
    -- the blocks of another label's tree stay
    apart : (b : ℕ) → b < l → b ≢ a → (c q : ℕ) → 0 < visits ch (get_or roots b 0) h c → ch' c q ≡ ch c q
    apart b hb ne c q some =
        let f : ℕ → ℕ = λ a. visits ch (get_or roots a 0) h c in
        let two : f a + f b ≤ sum_below l f = sum_two_terms l f a b r.label hb ne in
        let all : sum_below l f ≡ one (ltb c s) = sound.tree c in
        let taken : c < s = grind (arith, nat_tests) in
        let none : f a ≡ 0 = grind (arith, nat_tests) in
        grown.kept c q taken none

    cell_here : cell ch' (get_or roots' a 0) h u v ≡ true
    cell_here = grown.cells u v ∙ or_right (cell ch (get_or roots a 0) h u v) (same_low h u v u v) (same_self h u v)

    cell_other : (b x y : ℕ) → b < l → x < 2 ^ h → y < 2 ^ h → (Same a u v b x y → ⊥) → cell ch' (get_or roots' b 0) h x y ≡ cell ch (get_or roots b 0) h x y
    cell_other b x y hb hx hy ne =
        ⊎_elim
        (λ e. let away = same_not h u v x y u_below v_below hx hy (λ k. ne (e, sym k.0, sym k.1)) in
        rw e (grown.cells x y ∙ ap (λ t. cell ch (get_or roots a 0) h x y || t) away ∙ or-false (cell ch (get_or roots a 0) h x y)))
        (λ nb. ap (λ l. cell ch' l h x y) (others b nb) ∙ frame_cell ch ch' (get_or roots b 0) h (apart b hb nb) x y)
        (cases_eq b a)

    holding_at : (b x y : ℕ) → holding ch' roots' l n h b x y ≡ with_triple H a u v b x y
    holding_at b x y =
        ⊎_elim
        (λ e. ap (λ b. holding ch' roots' l n h b x y) e.0 ∙ ap (λ x. holding ch' roots' l n h a x y) e.1 ∙ ap (λ y. holding ch' roots' l n h a u y) e.2
        ∙ and_from (in_range? l n a u v) (cell ch' (get_or roots' a 0) h u v) (range_tested l n a u v r) cell_here
        ∙ sym (ap (λ b. with_triple H a u v b x y) e.0 ∙ ap (λ x. with_triple H a u v a x y) e.1 ∙ ap (λ y. with_triple H a u v a u y) e.2 ∙ with_here H a u v))
        (λ ne. ⊎_elim
        (λ yes. let k = range_told l n b x y yes in
        ap (λ t. in_range? l n b x y && t) (cell_other b x y k.label (omega (arith, k.from)) (omega (arith, k.to)) ne))
        (λ no. and_left (in_range? l n b x y) (cell ch' (get_or roots' b 0) h x y) no ∙ sym (and_left (in_range? l n b x y) (cell ch (get_or roots b 0) h x y) no))
        (cases_Bool (in_range? l n b x y)) ∙ sym (with_other H a u v b x y ne))
        (same_or_other a u v b x y)

    pub holding_with : holding ch' roots' l n h ≡ with_triple H a u v
    holding_with = fun_ext (λ b. fun_ext (λ x. fun_ext (λ y. holding_at b x y)))

    grown_tree : (c : ℕ) → in_trees ch' roots' l h c ≡ one (ltb c s')
    grown_tree c =
        let more : in_trees ch' roots' l h c ≡ in_trees ch roots l h c + between s s' c =
        sum_more l (λ b. visits ch (get_or roots b 0) h c) (λ b. visits ch' (get_or roots' b 0) h c) a (between s s' c) r.label
        (λ b hb ne. ap (λ l. visits ch' l h c) (others b ne) ∙ frame_visits ch ch' (get_or roots b 0) h (apart b hb ne) c)
        (grown.counted c) in
        let up : s ≤ s' = omega (arith, grown.spent) in
        let was : in_trees ch roots l h c ≡ one (ltb c s) = sound.tree c in
        let joined : one (ltb c s) + between s s' c ≡ one (ltb c s') = grind (arith, nat_tests) in
        omega arith

    grown_full : bare_in_trees ch' roots' l h ≡ 0
    grown_full =
        let same : bare_in_trees ch' roots' l h ≡ bare_in_trees ch roots l h + 0 =
        sum_more l (λ b. bare ch (get_or roots b 0) h) (λ b. bare ch' (get_or roots' b 0) h) a 0 r.label
        (λ b hb ne. ap (λ l. bare ch' l h) (others b ne) ∙ frame_bare ch ch' (get_or roots b 0) h (apart b hb ne))
        (omega (arith, grown.full full_label, full_label)) in
        omega (arith, sound.full)

    grown_inside : Inside ch' roots' l n h
    grown_inside t stands =
        let b = t.label in
        let x = t.from in
        let y = t.to in
        let k = and_parts (in_range? l (2 ^ h) b x y) _ stands in
        let m = range_told l (2 ^ h) b x y k.0 in
        let nodes : (x < n) × (y < n) =
        ⊎_elim (λ e. (omega (arith, e.1, r.from), omega (arith, e.2, r.to)))
        (λ ne. cell_inside b m.label x y m.from m.to (sym (cell_other b x y m.label m.from m.to ne) ∙ k.1)) (same_or_other a u v b x y) in
        range_tested l n b x y (record { label = m.label; from = nodes.0; to = nodes.1 })

    pub sound_grown : H a u v ≡ false → Sound ch' roots' l n h s' (z + 1)
    sound_grown new =
        record {
          tree = grown_tree;
          full = grown_full;
          inside = grown_inside;
          weighed = omega (arith, grown.spent, weight_lacking, ap (weight_of l n h) holding_with);
          sized = omega (arith, sound.sized, size_with H a u v l n r new, ap (size_of l n) holding_with);
        }

-- no root, and so no triple
module _ (ch : Links) (roots : List ℕ) (l n h : ℕ) (none : (a : ℕ) → get_or roots a 0 ≡ 0) where
  no_cell : (a x y : ℕ) → cell ch (get_or roots a 0) h x y ≡ false
  no_cell a x y = ap (λ r. cell ch r h x y) (none a) ∙ cell_none ch h x y

  pub holding_none : holding ch roots l n h ≡ no_triples
  holding_none = fun_ext (λ a. fun_ext (λ u. fun_ext (λ v. and_right (in_range? l n a u v) (cell ch (get_or roots a 0) h u v) (no_cell a u v))))

  pub sound_none : Sound ch roots l n h 0 0
  sound_none =
      record {
        tree = λ b. sum_zero l (λ a. visits ch (get_or roots a 0) h b) (λ a _. ap (λ r. visits ch r h b) (none a) ∙ visits_none ch h b) ∙ sym (nothing b);
        full = sum_zero l (λ a. bare ch (get_or roots a 0) h) (λ a _. ap (λ r. bare ch r h) (none a) ∙ bare_none ch h);
        inside = λ t stands. absurd (true≢false (sym stands ∙ and_right (in_range? l (2 ^ h) t.label t.from t.to) _ (no_cell t.label t.from t.to)));
        weighed = sym (ap (weight_of l n h) holding_none ∙ weight_none l n h);
        sized = sym (ap (size_of l n) holding_none ∙ size_none l n);
      }
    where
      nothing : (b : ℕ) → one (ltb b 0) ≡ 0
      nothing b = grind (arith, nat_tests)

-- the roots of no tree
pub zero_roots : (a : ℕ) → ◌≡◌ {A = ℕ} (get_or (replicate 64 0) a 0) 0
zero_roots a = ⊎_elim (get_or-replicate 64 a 0 0) (get_or_past (replicate {A = ℕ} 64 0) a 0) (cases_lt a 64)
