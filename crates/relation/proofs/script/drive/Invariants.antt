use Rattle.relation.proofs.Driven.{Left}
use Rattle.relation.proofs.script.drive.Given as goal

abbrev pub invariant-loop-index : goal.invariant-loop-index
invariant-loop-index g l = Left (g.S.Store.meaning l.initial.store) l.script l.index (g.S.Store.meaning l.store)
