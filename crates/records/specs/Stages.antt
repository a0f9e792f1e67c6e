-- What the reader still expects of a file, for the private function that follows it. What a file is stands in Format. Assumes nothing.
use Rattle.std.specs.Prelude.{Some, None, Option}
use Rattle.records.specs.declared.file.Stage.{Stage}
use Rattle.records.specs.declared.file.Stage.TheVariants.{Start, Body, Done}
use Rattle.records.specs.Format.{Entry, header, rule, edge, end}

-- the stage after a record, if the record may stand there
abbrev pub follow : Stage → Entry → Option Stage
follow Start (header labels nodes) = Some Body
follow Start (rule head items) = None
follow Start (edge label from to) = None
follow Start end = None
follow Body (header labels nodes) = None
follow Body (rule head items) = Some Body
follow Body (edge label from to) = Some Body
follow Body end = Some Done
follow Done e = None
