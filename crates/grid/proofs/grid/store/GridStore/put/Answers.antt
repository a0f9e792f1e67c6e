-- A triple in range is known where its bit is set; else its bit is set, and there is one triple more.
-- Assumes nothing.
use Rattle.std.proofs.Common.{true, false, sym, refl, arith}
use Rattle.grid.proofs.Takes.{taken_answer, known_after, known_memory, new_memory, new_after, new_room, new_counted, new_small}
use Rattle.grid.proofs.grid.store.GridStore.put.Goals as goal

pub returns-then-is_set : goal.returns-then-is_set
returns-then-is_set c =
    let p = c.in_ok-at.ensures in
    let known = sym c.if-is_set.ensures in
    record { answer = sym (taken_answer p true known); after = known_after p known; memory = known_memory p known; lent = refl }

pub overflow_add-self : goal.overflow_add-self
overflow_add-self c = omega (arith, new_small c.in_ok-at.ensures (sym c.if-is_set.ensures))

pub invariant_of-self : goal.invariant_of-self
invariant_of-self c =
    let p = c.in_ok-at.ensures in
    record { few = c.args.self.now.few; room = new_room p; counted = new_counted p (sym c.if-is_set.ensures) }

pub returns : goal.returns
returns c =
    let p = c.in_ok-at.ensures in
    record { answer = sym (taken_answer p false (sym c.if-is_set.ensures)); after = new_after p; memory = new_memory p; lent = refl }
