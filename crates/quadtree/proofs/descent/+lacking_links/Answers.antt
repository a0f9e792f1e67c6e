use Rattle.std.proofs.Common.{arith}
use Rattle.quadtree.specs.Pools.{links}
use Rattle.quadtree.proofs.Below.{cell_none, lacks_none, at_block, at_child}
use Rattle.quadtree.proofs.descent.+lacking_links.Goals as goal

pub returns-then-link-eq0 : goal.returns-then-link-eq0
returns-then-link-eq0 t c = grind (arith, cell_none, lacks_none)

pub bounds-blocks-link : goal.bounds-blocks-link
bounds-blocks-link t c = grind (arith, at_block)

pub lacking_links-requires : goal.lacking_links-requires
lacking_links-requires t c =
    (omega arith, (omega arith, at_child (links c.args.blocks.now) c.args.link c.args.height _ _ (omega arith) (omega arith) c.quarter.ensures.of_four c.requires.tree))
