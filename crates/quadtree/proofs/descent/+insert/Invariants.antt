use Rattle.quadtree.proofs.descent.+insert.Given as goal

abbrev pub decreases-insert : goal.decreases-insert
decreases-insert l = l.height
