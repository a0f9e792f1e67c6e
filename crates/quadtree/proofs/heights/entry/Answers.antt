use Rattle.quadtree.proofs.Least.{table_right}
use Rattle.quadtree.proofs.heights.entry.Goals as goal

pub returns : goal.returns
returns c = rw c.from.ensures (table_right c.args.table.now c.requires.right c.args.nodes c.requires.within)
