use Rattle.records.proofs.Files.{is_file}
use Rattle.records.proofs.file.File.records.Goals as goal

pub returns-clause-gives : goal.returns-clause-gives
returns-clause-gives c =
    let file = is_file c.args.self.now.is_file in
    (file.0, file.1, file.2, c.new.ensures.passes file.0 file.2)
