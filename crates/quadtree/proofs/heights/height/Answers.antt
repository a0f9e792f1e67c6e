use Rattle.std.proofs.Common.{leb, Some, sym, ap, ◌∙◌, arith}
use Rattle.std.proofs.lemmas.Bool.{le-leb, lt-leb, cond-true, cond-false}
use Rattle.quadtree.proofs.Least.{heights_least}
use Rattle.quadtree.proofs.heights.height.Goals as goal

pub returns-then-nodes-gt1024 : goal.returns-then-nodes-gt1024
returns-then-nodes-gt1024 c =
    record {
      answer = sym (cond-false (leb c.args.nodes 1024) _ _ (lt-leb c.args.nodes 1024 (omega arith)));
      least = heights_least;
    }

pub returns : goal.returns
returns c =
    record {
      answer = ap Some c.tree_height.ensures ∙ sym (cond-true (leb c.args.nodes 1024) _ _ (le-leb c.args.nodes 1024 (omega arith)));
      least = heights_least;
    }
