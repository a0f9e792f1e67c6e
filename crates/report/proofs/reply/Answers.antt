use Rattle.std.proofs.Common.{◌<◌, arith, rules}
use Rattle.std.proofs.lemmas.Result.{Ok-from_Ok_iff, OkIff-at_ok}
use Rattle.report.specs.Reply.{refusal_record}
use Rattle.report.proofs.Ends.{copied, replied, refused}
use Rattle.report.proofs.reply.Goals as goal

pub unwrap-place-requires : goal.unwrap-place-requires
unwrap-place-requires c =
    let fits : c.in-Err.field-0.place < 4294967296 = omega (arith, (refused c.in-Err.field-0 c.in-Err.ensures).small) in
    rw (Ok-from_Ok_iff c.try_from.result _ _ c.try_from.ensures fits) (search rules)

pub returns-in-Ok : goal.returns-in-Ok
returns-in-Ok c = replied c.in-Ok.size (copied c.in-Ok.size c.in-Ok.ensures)

pub returns-in-Err : goal.returns-in-Err
returns-in-Err c =
    let f = c.in-Err.field-0 in
    let why = refused f c.in-Err.ensures in
    let place = (OkIff-at_ok c.try_from.result _ _ _ c.try_from.ensures c.unwrap-place.ensures).1 in
    record {
      bytes = refusal_record f.refusal f.place;
      answers = why.answers;
      answer = cc (c.write.ensures.answer, why.same);
      memory = cc (c.write.ensures.memory, why.same, place);
    }
