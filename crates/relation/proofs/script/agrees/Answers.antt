use Rattle.std.proofs.lemmas.Bool.{both_ways}
use Rattle.relation.proofs.Consistency.{consistent_put}
use Rattle.relation.proofs.script.agrees.Goals as goal

-- this way is never taken
pub returns-else-consistent : goal.returns-else-consistent
returns-else-consistent g c =
    let put = c.args.put.now.triple in
    let consistent = consistent_put (g.S.Store.meaning c.args.store.now) put.label put.from put.to (g.S.Store.lawful c.args.store.now)
    c.put-answer.result (g.S.Store.meaning c.put-answer.new.self) c.put-answer.ensures.answer c.put-answer.ensures.after in
    absurd (both_ways c.consistent.result c.if-consistent.false (c.consistent.ensures.1 (rw (c.look-before.ensures, c.look-after.ensures) consistent)))
