-- What the facts in a quadtree's type give for the calls of a store.
-- Assumes nothing.
use Rattle.std.proofs.Common.{◌≡◌, ℕ, ◌+◌, ◌^◌, ◌<◌, ◌≤◌, Bool, true, false, cond, leb, ◌&&◌, ◌≢◌, List, length, get_or, set, Some, None, Ok, Err, Option, unwrap_or, refl, sym, ap, ◌∙◌, subst, arith}
use Rattle.std.proofs.lemmas.Bool.{leb-true, lt-ltb}
use Rattle.std.proofs.lemmas.List.{get_or-set_same, get_or-set_other}
use Rattle.graph.specs.declared.triple.Triple.{Triple}
use Rattle.graph.specs.Graph.{Triples}
use Rattle.relation.specs.declared.answer.Grant.TheVariants.{Known, New}
use Rattle.relation.specs.declared.answer.StoreFault.TheVariants.{Full}
use Rattle.relation.specs.Meaning.{light?, fits?, put_answer, with_held, after_put}
use Rattle.graph.specs.Counts.{Ranged}
use Rattle.relation.specs.Sets.{with_triple}
use Rattle.relation.proofs.Puts.{fits_in_range, light_known, answer_taken, after_taken, after_known, after_refused}
use Rattle.relation.proofs.Ranges.{range_tested}
use Rattle.quadtree.specs.declared.quadtree.Quadtree.{Quadtree}
use Rattle.quadtree.specs.Growth.{Tree, Grown}
use Rattle.quadtree.specs.Links.{Links, cell, lacks}
use Rattle.quadtree.specs.Pools.{links}
use Rattle.quadtree.specs.Quadtrees.{blocks_of, quad_meaning, quad_lawful, Lacking}
use Rattle.quadtree.specs.Trees.{holding}
use Rattle.quadtree.specs.Weights.{weight_of}
use Rattle.quadtree.proofs.Least.{heights_least}
use Rattle.quadtree.proofs.Standing.{Sound, label_tree, weight_lacking, holding_with, sound_grown}

module _ (q : Quadtree) where
  abbrev ch : Links
  ch = links (blocks_of q)

  sound : Sound ch q.roots q.counts.labels q.counts.nodes q.height q.spent q.size
  sound = record { tree = q.tree; full = q.full; inside = q.inside; weighed = q.weighed; sized = q.sized }

  wide : q.counts.nodes ≤ 2 ^ q.height
  wide = rw q.tall (heights_least q.counts.nodes).wide

  pub low : q.height ≤ 16
  low = omega (arith, q.tall, (heights_least q.counts.nodes).least 10 (omega arith) q.few.1)

  -- the height in the weight is the height of the trees
  weight_is : (s : Triples) → (quad_meaning q).weight s ≡ weight_of q.counts.labels q.counts.nodes q.height s
  weight_is s = ap (λ h. weight_of q.counts.labels q.counts.nodes h s) (sym q.tall)

  pub tree_among : (a m : ℕ) → a < q.counts.labels → q.spent ≤ m → Tree ch (get_or q.roots a 0) q.height m
  tree_among a m ha within = label_tree ch q.roots q.counts.labels q.height q.spent a m ha within q.tree

-- what a put of a new triple has done, over the links, the roots and the spent count that it leaves
pub record Inserted (q : Quadtree) (a u v : ℕ) (ch' : Links) (roots' : List ℕ) (s' : ℕ) : Type 0 where
  pub sound : Sound ch' roots' q.counts.labels q.counts.nodes q.height s' (q.size + 1)
  pub room : s' ≤ q.capacity
  pub after : with_held (quad_meaning q) (holding ch' roots' q.counts.labels q.counts.nodes q.height) ≡ after_put (quad_meaning q) a u v

none_told : (b : Bool) (n : ℕ) → None ≡ cond b None (Some n) → b ≡ true
none_told true n e = refl
none_told false n e = cc

some_told : (b : Bool) (n k : ℕ) → Some k ≡ cond b None (Some n) → (b ≡ false) × (k ≡ n)
some_told true n k e = cc
some_told false n k e = (refl, ap (λ o. unwrap_or o 0) e)

-- A triple in range, and what the way down to its cell tells: how many blocks are lacking, or none where it is held.
module _ {q : Quadtree} {t : Triple} {o : Option ℕ} (way : Lacking q t o) where
  abbrev a : ℕ
  a = t.label

  abbrev u : ℕ
  u = t.from

  abbrev v : ℕ
  v = t.to

  abbrev r : Ranged q.counts.labels q.counts.nodes a u v
  r = way.range

  abbrev root : ℕ
  root = get_or q.roots a 0

  held_is : (quad_meaning q).held a u v ≡ cell (ch q) root q.height u v
  held_is = ap (λ t. t && cell (ch q) root q.height u v) (range_tested q.counts.labels q.counts.nodes a u v r)

  -- it is light enough where the blocks that it lacks are there
  light_is : light? (quad_meaning q) a u v ≡ leb (q.spent + lacks (ch q) root q.height u v) q.capacity
  light_is =
      ap (λ w. leb w q.capacity)
      (weight_is q (with_triple (quad_meaning q).held a u v)
      ∙ weight_lacking (ch q) q.roots q.counts.labels q.counts.nodes q.height q.spent q.size a u v (wide q) r (sound q))

  -- A put of a triple that is held says so, and changes nothing.
  module _ (none : o ≡ None) where
    held : (quad_meaning q).held a u v ≡ true
    held = held_is ∙ none_told _ _ (sym none ∙ way.is)

    pub held_fits : fits? (quad_meaning q) a u v ≡ true
    held_fits = fits_in_range (quad_meaning q) a u v r ∙ light_known (quad_meaning q) a u v (quad_lawful q).bounded held

    pub known_answer : Ok Known ≡ put_answer (quad_meaning q) a u v
    known_answer = sym (answer_taken (quad_meaning q) a u v held_fits true held)

    pub known_after : quad_meaning q ≡ after_put (quad_meaning q) a u v
    known_after = sym (after_known (quad_meaning q) a u v held_fits held)

  -- Of one that is not, k blocks are lacking.
  module _ {k : ℕ} (some : o ≡ Some k) where
    new : (quad_meaning q).held a u v ≡ false
    new = held_is ∙ (some_told _ _ k (sym some ∙ way.is)).0

    k_is : k ≡ lacks (ch q) root q.height u v
    k_is = (some_told _ _ k (sym some ∙ way.is)).1

    light_with : light? (quad_meaning q) a u v ≡ leb (q.spent + k) q.capacity
    light_with = light_is ∙ ap (λ n. leb (q.spent + n) q.capacity) (sym k_is)

    pub fits_is : fits? (quad_meaning q) a u v ≡ leb (q.spent + k) q.capacity
    fits_is = fits_in_range (quad_meaning q) a u v r ∙ light_with

    -- Where they are more than are left, a put is refused and changes nothing.
    module _ (full : false ≡ leb (q.spent + k) q.capacity) where
      pub full_answer : Err Full ≡ put_answer (quad_meaning q) a u v
      full_answer = simp (lt-ltb a q.counts.labels r.label, lt-ltb u q.counts.nodes r.from, lt-ltb v q.counts.nodes r.to, light_with, sym full)

      pub full_after : quad_meaning q ≡ after_put (quad_meaning q) a u v
      full_after = sym (after_refused (quad_meaning q) a u v (fits_is ∙ sym full))

    -- Else it says that the triple is new, and makes the trees grow by it.
    module _ (room : true ≡ leb (q.spent + k) q.capacity) where
      fits : fits? (quad_meaning q) a u v ≡ true
      fits = fits_is ∙ sym room

      pub new_answer : Ok New ≡ put_answer (quad_meaning q) a u v
      new_answer = sym (answer_taken (quad_meaning q) a u v fits false new)

      module _ {i x s' cu cv : ℕ} {ch' : Links} (place : i ≡ a) (rooted : i < length q.roots) (same : (cu ≡ u) × (cv ≡ v))
          (grown : Grown (ch q) ch' (get_or q.roots i 0) x q.spent s' q.height cu cv) where
        abbrev roots' : List ℕ
        roots' = set q.roots i x

        grown_here : Grown (ch q) ch' root (get_or roots' a 0) q.spent s' q.height u v
        grown_here =
            subst (λ k. Grown (ch q) ch' (get_or q.roots k 0) (get_or roots' k 0) q.spent s' q.height u v) place
            (subst (λ n. Grown (ch q) ch' (get_or q.roots i 0) (get_or roots' i 0) q.spent s' q.height u n) same.1
            (subst (λ n. Grown (ch q) ch' (get_or q.roots i 0) (get_or roots' i 0) q.spent s' q.height n cv) same.0 (rw get_or-set_same grown)))

        others : (b : ℕ) → b ≢ a → get_or roots' b 0 ≡ get_or q.roots b 0
        others b ne = get_or-set_other q.roots i b x 0 (omega arith)

        pub inserted : Inserted q a u v ch' roots' s'
        inserted =
            let s = sound_grown (ch q) q.roots q.counts.labels q.counts.nodes q.height q.spent q.size a u v (wide q) r (sound q) ch' roots' s' grown_here others new in
            let joins = holding_with (ch q) q.roots q.counts.labels q.counts.nodes q.height q.spent q.size a u v (wide q) r (sound q) ch' roots' s' grown_here others in
            record {
              sound = s;
              room = omega (arith, leb-true (q.spent + k) q.capacity (sym room), grown_here.spent, k_is);
              after = ap (with_held (quad_meaning q)) joins ∙ sym (after_taken (quad_meaning q) a u v fits);
            }
