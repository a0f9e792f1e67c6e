use Rattle.std.proofs.Common.{length, sym, ◌∙◌, arith}
use Rattle.relation.proofs.Ranges.{range_checked}
use Rattle.quadtree.specs.Quadtrees.{blocks_of}
use Rattle.quadtree.proofs.Stored.{low, tree_among}
use Rattle.quadtree.proofs.quadtree.Quadtree.lacking.Goals as goal

pub lacking_links-requires-clause-low : goal.lacking_links-requires-clause-low
lacking_links-requires-clause-low c = low c.args.self.now

pub lacking_links-requires-clause-tree : goal.lacking_links-requires-clause-tree
lacking_links-requires-clause-tree c =
    let q = c.args.self.now in
    let r = range_checked q.counts.labels q.counts.nodes c.args.triple.label c.args.triple.from c.args.triple.to (sym c.check.ensures ∙ c.in_ok-check.was) in
    tree_among q c.from.result (length (blocks_of q)) (omega arith) (omega arith)
