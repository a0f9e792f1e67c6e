use Rattle.std.proofs.Common.{replicate, ap, arith}
use Rattle.relation.specs.Meaning.{with_held}
use Rattle.quadtree.specs.Making.{empty_quadtree}
use Rattle.quadtree.specs.Pools.{links}
use Rattle.quadtree.proofs.Standing.{sound_none, holding_none, zero_roots}
use Rattle.quadtree.proofs.quadtree.Quadtree.empty.Goals as goal

pub invariant_of-result : goal.invariant_of-result
invariant_of-result c =
    let s = sound_none (links c.args.blocks.now) (replicate 64 0) c.args.counts.labels c.args.counts.nodes c.tree_height.result zero_roots in
    record {
      few = (omega arith, omega arith);
      tall = c.tree_height.ensures;
      room = (omega arith, omega arith, omega arith);
      tree = s.tree;
      full = s.full;
      inside = s.inside;
      weighed = s.weighed;
      sized = s.sized;
    }

pub returns-clause-empty : goal.returns-clause-empty
returns-clause-empty c =
    ap (with_held (empty_quadtree c.args.counts.labels c.args.counts.nodes c.args.capacity))
    (holding_none (links c.args.blocks.now) (replicate 64 0) c.args.counts.labels c.args.counts.nodes c.tree_height.result zero_roots)
