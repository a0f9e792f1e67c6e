use Rattle.std.proofs.Common.{◌≡◌, Ok, Err, sym, refl, ◌∙◌, arith}
use Rattle.std.proofs.lemmas.Result.{err_from_is_err_and}
use Rattle.records.proofs.Sofar.{more, misplaced, cut_off, whole, end_where_empty, answered}
use Rattle.records.proofs.file.File.read.Goals as goal
use Rattle.records.proofs.file.File.read.Goals.{in_default-via-in-Done+else-end-bytes, in_default-via-in_default}

pub returns-in_err-stage : goal.returns-in_err-stage
returns-in_err-stage c =
    let none = c.in_err-stage.ensures.ok_part in
    let stops = misplaced c.loop-place.invariant.1 c.in-Some.ensures.steps (sym c.after.ensures ∙ none) in
    let said = rw none at c.in_err-stage.ensures.value in
    let p = err_from_is_err_and c.from_residual.result c.from_residual.ensures.1 in
    let answer : c.from_residual.result ≡ Err (record { place = c.in-Some.field-0.place }) = cc (p.1, p.2, said) in
    rw answer (answered (Err _) c.type_inv.bytes stops)

pub loop-place-preserved : goal.loop-place-preserved
loop-place-preserved c = (_, more c.loop-place.invariant.1 c.in-Some.ensures.steps (sym c.after.ensures ∙ c.in_ok-stage.ensures.ok_part) c.size.ensures)

pub returns-in_default : goal.returns-in_default
returns-in_default c =
    let sofar = c.loop-place.invariant.1 in
    answered (Err _) c.type_inv.bytes (cut_off sofar c.in-None.ensures.steps.1 (elim c.in_default.branch [
      | in_default-via-in_default w ↦ λ done empty. w.in_default.not-Done done
      | in_default-via-in-Done+else-end-bytes w ↦ λ done empty. omega (arith, end_where_empty sofar empty)
    ]))

pub invariant_of-result : goal.invariant_of-result
invariant_of-result c = record { is_file = ∣ whole c.loop-place.invariant.1 c.in-Done.is (omega arith) ∣₁ }

pub returns-in-Done : goal.returns-in-Done
returns-in-Done c = answered (Ok _) c.type_inv.bytes (whole c.loop-place.invariant.1 c.in-Done.is (omega arith), refl)
