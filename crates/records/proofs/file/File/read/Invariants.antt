use Rattle.std.proofs.Common.{List}
use Rattle.records.specs.Format.{Entry}
use Rattle.records.proofs.Sofar.{Sofar}
use Rattle.records.proofs.file.File.read.Given as goal

abbrev pub invariant-loop-place : goal.invariant-loop-place
invariant-loop-place l = (es : List Entry) × Sofar l.bytes es l.stage l.end l.place-iterator
