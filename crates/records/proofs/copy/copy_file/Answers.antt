use Rattle.std.proofs.Common.{length, refl, ◌∙◌, arith}
use Rattle.std.proofs.lemmas.Result.{err_from_is_err_and}
use Rattle.std.proofs.lemmas.Bool.{lt-ltb, le-ltb}
use Rattle.records.proofs.Copied.{copied, refused}
use Rattle.records.proofs.Memory.{here, goes_further, all_copied}
use Rattle.records.proofs.copy.copy_file.Goals as goal

pub returns-in_err-file : goal.returns-in_err-file
returns-in_err-file c =
    let p = err_from_is_err_and c.from_residual.result c.from_residual.ensures.1 in
    refused c.in_err-file.field-0.0.place c.in_err-file.ensures.cases (cc (p.1, p.2)) refl

pub returns-then-out-bytes : goal.returns-then-out-bytes
returns-then-out-bytes c =
    let short = lt-ltb (length c.args.out.now) (length c.args.bytes.now) (omega arith) in
    copied c.in_ok-file.ensures.cases.0 (rw short refl) (rw short refl)

pub slice_bounds-write-count : goal.slice_bounds-write-count
slice_bounds-write-count c = omega (arith, (here c.loop-place.invariant.2 c.in-Some.ensures.steps).within)

pub slice_bounds-write-start : goal.slice_bounds-write-start
slice_bounds-write-start c = omega (arith, (here c.loop-place.invariant.2 c.in-Some.ensures.steps).within)

pub loop-place-preserved : goal.loop-place-preserved
loop-place-preserved c = (goes_further c.loop-place.invariant.2 c.in-Some.ensures.steps c.type_inv.bytes (omega arith)).1 _ c.write.ensures.memory

pub returns-in_err-map_err : goal.returns-in_err-map_err
returns-in_err-map_err c =
    let wrote = (goes_further c.loop-place.invariant.2 c.in-Some.ensures.steps c.type_inv.bytes (omega arith)).0 in
    let said = rw (c.write.ensures.answer ∙ wrote) at c.in_err-map_err.ensures.cases in
    cc said

pub returns : goal.returns
returns c =
    let fits = le-ltb (length c.args.out.now) (length c.args.bytes.now) (omega arith) in
    copied c.in_ok-file.ensures.cases.0 (rw fits refl) (rw fits (all_copied c.loop-place.invariant.2 c.in-None.ensures.steps))
