-- What a write to a block leaves of the pool, and what a write to one of its quarters does to the links.
-- Assumes nothing.
use Rattle.std.proofs.Common.{◌≡◌, ℕ, ◌+◌, ◌-◌, ◌<◌, ◌≤◌, List, length, get_or, drop, set, sym, ap, ◌∙◌, arith}
use Rattle.std.proofs.lemmas.List.{length-set, get_or-set_same, get_or-set_other, drop-drop}
use Rattle.quadtree.specs.declared.block.Block.{Block}
use Rattle.quadtree.specs.Growth.{Linked}
use Rattle.quadtree.specs.Pools.{links, no_block, Untouched}

-- what is untouched from s on is so from any later index on
pub untouched_later : (pool pool' : List Block) (s t : ℕ) → s ≤ t → Untouched pool pool' s → Untouched pool pool' t
untouched_later pool pool' s t le kept =
    let e : s + (t - s) ≡ t = omega arith in
    ap (λ n. drop n pool') (sym e) ∙ sym (drop-drop (t - s) s pool') ∙ ap (drop (t - s)) kept ∙ drop-drop (t - s) s pool ∙ ap (λ n. drop n pool) e

-- the block with index i is written again, with x in its quarter k
pub linked_set : (pool : List Block) (i k x : ℕ) (block : Block) → i < length pool → k < 4 →
    block.children ≡ set (get_or pool i no_block).children k x → length block.children ≡ 4 → Linked (links pool) (links (set pool i block)) i k x
linked_set pool i k x block within quarter is four =
    let at : get_or (set pool i block) i no_block ≡ block = get_or-set_same pool i block no_block within in
    let old : List ℕ = (get_or pool i no_block).children in
    let long : length block.children ≡ length old = ap length is ∙ length-set old k x in
    record {
      here = ap (λ b. get_or b.children k 0) at ∙ ap (λ c. get_or c k 0) is ∙ get_or-set_same old k x 0 (omega arith);
      quarters = λ q ne. ap (λ b. get_or b.children q 0) at ∙ ap (λ c. get_or c q 0) is ∙ get_or-set_other old k q x 0 ne;
      blocks = λ b q ne. ap (λ b. get_or b.children q 0) (get_or-set_other pool i b block no_block ne);
    }
