-- A pool of blocks as a list, its links, and what of it stays as it was. Assumes nothing.
use Rattle.std.specs.Prelude.{◌≡◌, ℕ, List, [], drop, slice_index, slice_index_or}
use Rattle.quadtree.specs.declared.block.Block.{Block}
use Rattle.quadtree.specs.Links.{Links}

-- what stands past the pool's end
abbrev pub no_block : Block
no_block = record { children = [] }

-- the link in quarter k of the block with index i
abbrev pub links : List Block → Links
links pool i k = slice_index (slice_index_or pool i no_block).children k

-- the blocks from index s on are as they were
abbrev pub Untouched : List Block → List Block → ℕ → Type 0
Untouched pool pool' s = drop s pool' ≡ drop s pool
