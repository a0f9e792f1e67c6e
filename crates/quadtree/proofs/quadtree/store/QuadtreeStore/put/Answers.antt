use Rattle.std.proofs.Common.{arith}
use Rattle.relation.proofs.Added.{size_small}
use Rattle.quadtree.specs.Quadtrees.{quad_meaning}
use Rattle.quadtree.proofs.Stored.{low, tree_among, known_answer, known_after, full_answer, full_after, new_answer, inserted}
use Rattle.quadtree.proofs.quadtree.store.QuadtreeStore.put.Goals as goal

pub returns-in_default-clause-answer : goal.returns-in_default-clause-answer
returns-in_default-clause-answer c = known_answer c.in_ok-lacking.ensures c.in_default.is

pub returns-in_default-clause-after : goal.returns-in_default-clause-after
returns-in_default-clause-after c = known_after c.in_ok-lacking.ensures c.in_default.is

pub returns-then-not-has_room-clause-answer : goal.returns-then-not-has_room-clause-answer
returns-then-not-has_room-clause-answer c = full_answer c.in_ok-lacking.ensures c.in-Some.is c.if-not-has_room.ensures

pub returns-then-not-has_room-clause-after : goal.returns-then-not-has_room-clause-after
returns-then-not-has_room-clause-after c = full_after c.in_ok-lacking.ensures c.in-Some.is c.if-not-has_room.ensures

pub insert-taken-requires-clause-low : goal.insert-taken-requires-clause-low
insert-taken-requires-clause-low c = low c.args.self.now

pub insert-taken-requires-clause-tree : goal.insert-taken-requires-clause-tree
insert-taken-requires-clause-tree c =
    let q = c.args.self.now in
    tree_among q c.from-i.result q.spent (omega (arith, c.from-i.ensures, c.in_ok-lacking.ensures.range.label)) (omega arith)

pub overflow_add-self : goal.overflow_add-self
overflow_add-self c =
    let q = c.args.self.now in
    omega (arith, q.sized, size_small q.counts.labels q.counts.nodes (quad_meaning q).held q.few.0 q.few.1)

pub invariant_of-self : goal.invariant_of-self
invariant_of-self c =
    let q = c.args.self.now in
    let i =
    inserted c.in_ok-lacking.ensures c.in-Some.is c.if-not-has_room.ensures c.from-i.ensures
    (omega (arith, c.in_ok-lacking.ensures.range.label)) c.into.ensures c.insert-taken.ensures.grown in
    let s = i.sound in
    record {
      few = q.few;
      tall = q.tall;
      room = (i.room, omega (arith, q.room.1, c.insert-taken.auto.blocks), q.room.2);
      tree = s.tree;
      full = s.full;
      inside = s.inside;
      weighed = s.weighed;
      sized = s.sized;
    }

pub returns-clause-answer : goal.returns-clause-answer
returns-clause-answer c = new_answer c.in_ok-lacking.ensures c.in-Some.is c.if-not-has_room.ensures

pub returns-clause-after : goal.returns-clause-after
returns-clause-after c =
    let i =
    inserted c.in_ok-lacking.ensures c.in-Some.is c.if-not-has_room.ensures c.from-i.ensures
    (omega (arith, c.in_ok-lacking.ensures.range.label)) c.into.ensures c.insert-taken.ensures.grown in
    i.after
