use Rattle.std.proofs.Common.{ℕ, List}
use Rattle.records.specs.Format.{Entry}
use Rattle.records.proofs.Memory.{CopiedTo}
use Rattle.records.proofs.copy.copy_file.Given as goal

abbrev pub invariant-loop-place : goal.invariant-loop-place
invariant-loop-place l = (place : ℕ) × (es : List Entry) × CopiedTo l.bytes l.initial.out l.out place es l.place-iterator
