-- One level of an insertion: from what happens below a quarter to what happens below its block.
-- Assumes nothing.
use Rattle.std.proofs.Common.{◌≡◌, ℕ, zero, suc, ◌+◌, ◌-◌, ◌<◌, ◌≤◌, ◌&&◌, ◌||◌, eqb, ltb, ◌≢◌, sym, refl, ap, ◌∙◌, subst, ⊎_elim, not-suc-le-zero, arith}
use mathlib.Core.Bool.{or-false}
use Rattle.std.proofs.lemmas.Bool.{eq-eqb, ne_eqb, cases_eq}
use Rattle.std.proofs.lemmas.Bool.Decides.{nat_tests}
use Rattle.relation.specs.Sets.{one, sum_below}
use Rattle.relation.proofs.Sums.{sum_zero, sum_term, sum_two_terms, sum_more}
use Rattle.quadtree.specs.Growth.{Tree, Linked, Opened, between, Grown}
use Rattle.quadtree.specs.Links.{Links, quarter_of, down, cell, lacks, visits, bare, same_low}
use Rattle.quadtree.proofs.Below.{quarter_below, one_self, cell_none, lacks_none, visits_none, bare_none, bare_child, tree_block, tree_child, frame_visits, frame_cell, frame_bare}

between_joined : (s s1 s2 b : ℕ) → s ≤ s1 → s1 ≤ s2 → between s s1 b + between s1 s2 b ≡ between s s2 b
between_joined s s1 s2 b h k = grind (arith, nat_tests)

between_none : (s b : ℕ) → between s s b ≡ 0
between_none s b = grind (arith, nat_tests)

between_below : (s s1 b : ℕ) → b < s → between s s1 b ≡ 0
between_below s s1 b h = grind (arith, nat_tests)

between_one : (s b : ℕ) → one (eqb s b) ≡ between s (s + 1) b
between_one s b = grind (arith, nat_tests)

-- what opening a link of height j + 1 leaves: the block with index i, which the link leads to from here on
record Begun (ch ch1 : Links) (l i s s1 j : ℕ) : Type 0 where
  spent : s1 ≡ s + one (eqb l 0)
  counted : (b : ℕ) → visits ch1 (suc i) (suc j) b ≡ visits ch l (suc j) b + between s s1 b
  cells : (x y : ℕ) → cell ch1 (suc i) (suc j) x y ≡ cell ch l (suc j) x y
  lacking : (q u v : ℕ) → lacks ch1 (ch1 i q) j u v ≡ lacks ch (down ch l q) j u v
  kept : (b q : ℕ) → b < s → ch1 b q ≡ ch b q
  full : bare ch l (suc j) ≡ 0 → (q : ℕ) → q < 4 → bare ch1 (ch1 i q) j ≡ 0

begun_old : (ch ch1 : Links) (i s s1 j : ℕ) → s1 ≡ s → ((b q : ℕ) → ch1 b q ≡ ch b q) → Begun ch ch1 (suc i) i s s1 j
begun_old ch ch1 i s s1 j e kept =
    let same : ch1 ≡ ch = λ t b q. kept b q t in
    record {
      spent = omega (arith, ap one (ne_eqb (suc i) 0 (omega arith)));
      counted = λ b.
          let none : between s s1 b ≡ 0 = rw e (between_none s b) in
          ap (λ c. visits c (suc i) (suc j) b) same ∙ omega arith;
      cells = λ x y. ap (λ c. cell c (suc i) (suc j) x y) same;
      lacking = λ q u v. ap (λ c. lacks c (c i q) j u v) same;
      kept = λ b q _. kept b q;
      full = λ none q within. ap (λ c. bare c (c i q) j) same ∙ bare_child ch i j q within none;
    }

begun_fresh : (ch ch1 : Links) (s s1 j : ℕ) → s1 ≡ s + 1 → ((q : ℕ) → ch1 s q ≡ 0) → ((b q : ℕ) → b ≢ s → ch1 b q ≡ ch b q) → Begun ch ch1 0 s s s1 j
begun_fresh ch ch1 s s1 j e empty kept =
    record {
      spent = e;
      counted = λ b.
          let none : sum_below 4 (λ q. visits ch1 (ch1 s q) j b) ≡ 0 =
          sum_zero 4 (λ q. visits ch1 (ch1 s q) j b) (λ q _. ap (λ l. visits ch1 l j b) (empty q) ∙ visits_none ch1 j b) in
          let here : one (eqb s b) ≡ between s s1 b = rw e (between_one s b) in
          omega arith;
      cells = λ x y. ap (λ l. cell ch1 l j x y) (empty (quarter_of j x y)) ∙ cell_none ch1 j x y ∙ sym (cell_none ch j x y);
      lacking = λ q u v. ap (λ l. lacks ch1 l j u v) (empty q) ∙ lacks_none ch1 j u v ∙ sym (lacks_none ch j u v);
      kept = λ b q below. kept b q (omega arith);
      full = λ _ q _. ap (λ l. bare ch1 l j) (empty q) ∙ bare_none ch1 j;
    }

opened_begun : (ch ch1 : Links) (l l1 s s1 j : ℕ) → Opened ch ch1 l l1 s s1 → Begun ch ch1 l (l1 - 1) s s1 j
opened_begun ch ch1 zero l1 s s1 j opened =
    let fresh = opened.fresh refl in
    let e : s ≡ l1 - 1 = omega (arith, fresh.link) in
    rw (← e) (begun_fresh ch ch1 s s1 j fresh.spent fresh.empty fresh.blocks)
opened_begun ch ch1 (suc i) l1 s s1 j opened =
    let old = opened.old (omega arith) in
    let e : i ≡ l1 - 1 = omega (arith, old.link) in
    rw (← e) (begun_old ch ch1 i s s1 j old.spent old.blocks)

opened_some : (ch ch1 : Links) (l l1 s s1 : ℕ) → Opened ch ch1 l l1 s s1 → 0 < l1
opened_some ch ch1 zero l1 s s1 opened = omega (arith, (opened.fresh refl).link)
opened_some ch ch1 (suc i) l1 s s1 opened = omega (arith, (opened.old (omega arith)).link)

begun_tree : (ch ch1 : Links) (l i s s1 j : ℕ) → Tree ch l (suc j) s → Begun ch ch1 l i s s1 j → Tree ch1 (suc i) (suc j) s1
begun_tree ch ch1 l i s s1 j tree begun b =
    let up : s ≤ s1 = omega (arith, begun.spent) in
    grind (arith, nat_tests, tree b, begun.counted b)

-- A link of height j + 1 is opened, the cell is inserted below the quarter in which it lies, and the quarter is linked to what came of that.
module _ (ch ch1 ch2 ch3 : Links) (l i s s1 s2 j u v c' : ℕ) (tree : Tree ch l (suc j) s) (begun : Begun ch ch1 l i s s1 j)
    (below : Grown ch1 ch2 (ch1 i (quarter_of j u v)) c' s1 s2 j u v) (linked : Linked ch2 ch3 i (quarter_of j u v) c') where
  abbrev k : ℕ
  k = quarter_of j u v

  k_below : k < 4
  k_below = quarter_below j u v

  -- how often block b stands below quarter q of the opened block
  abbrev at : ℕ → ℕ → ℕ
  at b q = visits ch1 (ch1 i q) j b

  -- each of the first s1 blocks stands below the opened link at most once
  whole : (b : ℕ) → one (eqb i b) + sum_below 4 (at b) ≤ one (ltb b s1)
  whole b = begun_tree ch ch1 l i s s1 j tree begun b

  i_taken : i < s1
  i_taken = grind (arith, nat_tests, whole i, one_self i)

  -- so the opened block stands below none of its quarters
  i_apart : (q : ℕ) → q < 4 → at i q ≡ 0
  i_apart q within =
      let none : sum_below 4 (at i) ≡ 0 = grind (arith, nat_tests, whole i, one_self i) in
      omega (arith, sum_term 4 (at i) q within)

  taken : (b q : ℕ) → q < 4 → 0 < at b q → b < s1
  taken b q within here =
      let some : 0 < sum_below 4 (at b) = omega (arith, sum_term 4 (at b) q within) in
      grind (arith, nat_tests, whole b)

  other : (b q : ℕ) → q < 4 → 0 < at b q → b ≢ i
  other b q within here e =
      let none : at b q ≡ 0 = rw e (i_apart q within) in
      omega arith

  -- and what stands below another quarter does not stand below quarter k
  apart : (b q : ℕ) → q < 4 → q ≢ k → 0 < at b q → at b k ≡ 0
  apart b q within ne here =
      let once : sum_below 4 (at b) ≤ 1 = grind (arith, nat_tests, whole b) in
      omega (arith, sum_two_terms 4 (at b) k q k_below within ne)

  -- the quarters beside k stay as they were
  side_kept : (q : ℕ) → q < 4 → q ≢ k → (b r : ℕ) → 0 < at b q → ch3 b r ≡ ch1 b r
  side_kept q within ne b r here =
      linked.blocks b r (other b q within here) ∙ below.kept b r (taken b q within here) (apart b q within ne here)

  side_link : (q : ℕ) → q ≢ k → ch3 i q ≡ ch1 i q
  side_link q ne = linked.quarters q ne ∙ below.kept i q i_taken (i_apart k k_below)

  side_visits : (b q : ℕ) → q < 4 → q ≢ k → visits ch3 (ch3 i q) j b ≡ at b q
  side_visits b q within ne =
      ap (λ m. visits ch3 m j b) (side_link q ne) ∙ frame_visits ch1 ch3 (ch1 i q) j (side_kept q within ne) b

  side_cells : (q : ℕ) → q < 4 → q ≢ k → (x y : ℕ) → cell ch3 (ch3 i q) j x y ≡ cell ch1 (ch1 i q) j x y
  side_cells q within ne x y =
      ap (λ m. cell ch3 m j x y) (side_link q ne) ∙ frame_cell ch1 ch3 (ch1 i q) j (side_kept q within ne) x y

  -- below quarter k stands what was inserted there
  k_kept : (b r : ℕ) → 0 < visits ch2 c' j b → ch3 b r ≡ ch2 b r
  k_kept b r here =
      linked.blocks b r (λ e.
      let none : visits ch2 c' j i ≡ 0 = omega (arith, below.counted i, i_apart k k_below, between_below s1 s2 i i_taken) in
      let none_b : visits ch2 c' j b ≡ 0 = rw e none in
      omega arith)

  k_visits : (b : ℕ) → visits ch3 (ch3 i k) j b ≡ at b k + between s1 s2 b
  k_visits b = ap (λ m. visits ch3 m j b) linked.here ∙ frame_visits ch2 ch3 c' j k_kept b ∙ below.counted b

  k_cells : (x y : ℕ) → cell ch3 (ch3 i k) j x y ≡ (cell ch1 (ch1 i k) j x y || same_low j u v x y)
  k_cells x y = ap (λ m. cell ch3 m j x y) linked.here ∙ frame_cell ch2 ch3 c' j k_kept x y ∙ below.cells x y

  grown_cells : (x y : ℕ) → cell ch3 (suc i) (suc j) x y ≡ (cell ch l (suc j) x y || same_low (suc j) u v x y)
  grown_cells x y =
      let q : ℕ = quarter_of j x y in
      let was : cell ch1 (ch1 i q) j x y ≡ cell ch l (suc j) x y = begun.cells x y in
      ⊎_elim
      (λ e. subst (λ r. cell ch3 (ch3 i r) j x y ≡ (cell ch1 (ch1 i r) j x y || same_low j u v x y)) (sym e) (k_cells x y)
      ∙ ap (λ t. t || same_low j u v x y) was
      ∙ ap (λ t. cell ch l (suc j) x y || (t && same_low j u v x y)) (sym (eq-eqb k q (sym e))))
      (λ ne. side_cells q (quarter_below j x y) ne x y ∙ was ∙ sym (or-false (cell ch l (suc j) x y))
      ∙ ap (λ t. cell ch l (suc j) x y || (t && same_low j u v x y)) (sym (ne_eqb k q (λ e. ne (sym e)))))
      (cases_eq q k)

  grown_counted : (b : ℕ) → visits ch3 (suc i) (suc j) b ≡ visits ch l (suc j) b + between s s2 b
  grown_counted b =
      let quarters : sum_below 4 (λ q. visits ch3 (ch3 i q) j b) ≡ sum_below 4 (at b) + between s1 s2 b =
      sum_more 4 (at b) (λ q. visits ch3 (ch3 i q) j b) k (between s1 s2 b) k_below (side_visits b) (k_visits b) in
      omega (arith, quarters, begun.counted b, between_joined s s1 s2 b (omega (arith, begun.spent)) (omega (arith, below.spent)))

  grown_kept : (b q : ℕ) → b < s → visits ch l (suc j) b ≡ 0 → ch3 b q ≡ ch b q
  grown_kept b q before none =
      let nowhere : one (eqb i b) + sum_below 4 (at b) ≡ 0 = omega (arith, begun.counted b, between_below s s1 b before) in
      let ne : b ≢ i = λ e. (let here : one (eqb i b) ≡ 1 = rw e (one_self i) in omega arith) in
      linked.blocks b q ne
      ∙ below.kept b q (omega (arith, begun.spent)) (omega (arith, sum_term 4 (at b) k k_below))
      ∙ begun.kept b q before

  grown_full : bare ch l (suc j) ≡ 0 → bare ch3 (suc i) (suc j) ≡ 0
  grown_full none =
      let some : 0 < sum_below 4 (ch3 i) = omega (arith, sum_term 4 (ch3 i) k k_below, linked.here, below.link) in
      let first : one (eqb (sum_below 4 (ch3 i)) 0) ≡ 0 = ap one (ne_eqb (sum_below 4 (ch3 i)) 0 (omega arith)) in
      let beside : (q : ℕ) → q < 4 → q ≢ k → bare ch3 (ch3 i q) j ≡ 0 =
      λ q within ne. ap (λ m. bare ch3 m j) (side_link q ne) ∙ frame_bare ch1 ch3 (ch1 i q) j (side_kept q within ne) ∙ begun.full none q within in
      let at_k : bare ch3 (ch3 i k) j ≡ 0 =
      ap (λ m. bare ch3 m j) linked.here ∙ frame_bare ch2 ch3 c' j k_kept ∙ below.full (begun.full none k k_below) in
      let rest : sum_below 4 (λ q. bare ch3 (ch3 i q) j) ≡ 0 =
      sum_zero 4 (λ q. bare ch3 (ch3 i q) j) (λ q within. ⊎_elim (λ e. rw e at_k) (beside q within) (cases_eq q k)) in
      omega arith

  grow_step : Grown ch ch3 l (suc i) s s2 (suc j) u v
  grow_step =
      record {
        link = omega arith;
        spent = omega (arith, below.spent, begun.spent, begun.lacking k u v);
        cells = grown_cells;
        counted = grown_counted;
        kept = grown_kept;
        full = grown_full;
      }

-- What the code knows once it has opened a link of height h and goes on below quarter k.
pub record Ready (ch ch1 : Links) (l l1 s s1 h k u v : ℕ) : Type 0 where
  pub some : 0 < l1
  pub block : l1 ≤ s1
  pub room : s1 + lacks ch1 (ch1 (l1 - 1) k) (h - 1) u v ≡ s + lacks ch l h u v
  pub tree : Tree ch1 (ch1 (l1 - 1) k) (h - 1) s1

module _ {ch ch1 : Links} {l l1 s s1 : ℕ} where
  pub ready : (h k u v : ℕ) → 0 < h → k ≡ quarter_of (h - 1) u v → Tree ch l h s → Opened ch ch1 l l1 s s1 → Ready ch ch1 l l1 s s1 h k u v
  ready zero k u v pos e tree opened = absurd (not-suc-le-zero pos)
  ready (suc j) k u v pos e tree opened =
      let begun = opened_begun ch ch1 l l1 s s1 j opened in
      let tree1 = begun_tree ch ch1 l (l1 - 1) s s1 j tree begun in
      let ej : suc j - 1 ≡ j = omega arith in
      let ek : k ≡ quarter_of j u v = e ∙ ap (λ x. quarter_of x u v) ej in
      record {
        some = opened_some ch ch1 l l1 s s1 opened;
        block = omega (arith, tree_block ch1 (l1 - 1) j s1 tree1);
        room = rw (ej, ek) (omega (arith, begun.spent, begun.lacking (quarter_of j u v) u v));
        tree = λ b. rw ej (tree_child ch1 (l1 - 1) j s1 k (omega (arith, quarter_below j u v)) tree1 b);
      }

  pub grown : {ch2 ch3 : Links} {s2 c' : ℕ} (h k u v : ℕ) → 0 < h → k ≡ quarter_of (h - 1) u v → Tree ch l h s → Opened ch ch1 l l1 s s1 →
      Grown ch1 ch2 (ch1 (l1 - 1) k) c' s1 s2 (h - 1) u v → Linked ch2 ch3 (l1 - 1) k c' → Grown ch ch3 l l1 s s2 h u v
  grown zero k u v pos e tree opened below linked = absurd (not-suc-le-zero pos)
  grown {ch2} {ch3} {s2} {c'} (suc j) k u v pos e tree opened below linked =
      let ej : suc j - 1 ≡ j = omega arith in
      let ek : k ≡ quarter_of j u v = e ∙ ap (λ x. quarter_of x u v) ej in
      let some = opened_some ch ch1 l l1 s s1 opened in
      let el : suc (l1 - 1) ≡ l1 = omega arith in
      rw (← el)
      (grow_step ch ch1 ch2 ch3 l (l1 - 1) s s1 s2 j u v c' tree (opened_begun ch ch1 l l1 s s1 j opened) (rw (ej, ek) at below) (rw ek at linked))
