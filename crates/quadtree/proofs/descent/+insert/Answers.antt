use Rattle.std.proofs.Common.{◌-◌, ◌∙◌, arith}
use Rattle.std.proofs.lemmas.List.{drop-set-lt}
use Rattle.quadtree.proofs.Growing.{ready, grown}
use Rattle.quadtree.proofs.Relinked.{untouched_later, linked_set}
use Rattle.quadtree.proofs.descent.+insert.Goals as goal

pub bounds-blocks-i : goal.bounds-blocks-i
bounds-blocks-i t c =
    let r = ready _ _ _ _ (omega arith) c.quarter-k.ensures.is c.requires.tree c.open-block.ensures.opened in
    omega arith

pub insert-below-requires : goal.insert-below-requires
insert-below-requires t c =
    let r = ready _ _ _ _ (omega arith) c.quarter-k.ensures.is c.requires.tree c.open-block.ensures.opened in
    (omega arith, (omega arith, (omega arith, r.tree)))

pub bounds-blocks-i-2 : goal.bounds-blocks-i-2
bounds-blocks-i-2 t c =
    let r = ready _ _ _ _ (omega arith) c.quarter-k.ensures.is c.requires.tree c.open-block.ensures.opened in
    omega arith

pub returns-clause-untouched : goal.returns-clause-untouched
returns-clause-untouched t c =
    let r = ready _ _ _ _ (omega arith) c.quarter-k.ensures.is c.requires.tree c.open-block.ensures.opened in
    let up = c.insert-below.ensures.grown.spent in
    drop-set-lt c.insert-below.result.spent c.insert-below.new.blocks (c.open-block.result.link - 1) c.set.new.self (omega arith)
    ∙ c.insert-below.ensures.untouched
    ∙ untouched_later c.args.blocks.now c.open-block.new.blocks c.open-block.result.spent c.insert-below.result.spent (omega arith)
    c.open-block.ensures.untouched

pub returns-clause-grown : goal.returns-clause-grown
returns-clause-grown t c =
    let r = ready _ _ _ _ (omega arith) c.quarter-k.ensures.is c.requires.tree c.open-block.ensures.opened in
    grown _ _ _ _ (omega arith) c.quarter-k.ensures.is c.requires.tree c.open-block.ensures.opened c.insert-below.ensures.grown
    (linked_set _ _ _ _ _ (omega arith) c.quarter-k.ensures.of_four c.set.ensures.written c.set.ensures.four)
