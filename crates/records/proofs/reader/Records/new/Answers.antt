use Rattle.std.proofs.Common.{refl}
use Rattle.records.proofs.Turns.{gives_all}
use Rattle.records.proofs.reader.Records.new.Goals as goal

pub returns-clause-passes : goal.returns-clause-passes
returns-clause-passes c = λ es bytes. gives_all es 0 _ bytes refl
