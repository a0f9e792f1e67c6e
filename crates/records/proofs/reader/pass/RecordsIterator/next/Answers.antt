use Rattle.std.proofs.Common.{◌+◌, ◌++◌, sym, refl, ap, ◌∙◌}
use Rattle.std.proofs.lemmas.List.{take_rest}
use Rattle.records.specs.Format.{encode}
use Rattle.records.specs.Reading.{entry}
use Rattle.records.proofs.Marks.{further}
use Rattle.records.proofs.reader.pass.RecordsIterator.next.Goals as goal

pub returns-clause-steps : goal.returns-clause-steps
returns-clause-steps c =
    let was = c.args.self.now in
    let found = c.in_ok-record.ensures in
    let here = sym (take_rest was.input.now was.place) ∙ found.1 in
    let next = further was.input.now was.place _ _ _ was.within here c.size.ensures in
    record {
      input = refl;
      here = refl;
      place = ap (λ n. was.place + n) c.size.ensures;
      front = here ∙ ap (λ l. encode (entry c.in_ok-record.record) ++ l) (sym next.1);
    }
