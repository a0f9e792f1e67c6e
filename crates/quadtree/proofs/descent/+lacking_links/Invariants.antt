use Rattle.quadtree.proofs.descent.+lacking_links.Given as goal

abbrev pub decreases-lacking_links : goal.decreases-lacking_links
decreases-lacking_links l = l.height
