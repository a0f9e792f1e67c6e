use Rattle.std.proofs.Common.{drop, arith, ltb-false}
use Rattle.records.proofs.Marks.{opened, two_read}
use Rattle.records.proofs.front.header.Goals as goal

pub returns : goal.returns
returns c =
    let s = c.args.fields.now in
    let e = opened 3 0 s (omega (arith, ltb-false)) in
    let nodes = two_read _ _ _ c.from_be_bytes-nodes.ensures (omega (arith, c.type_inv.fields 2)) in
    (drop 3 s, cc (nodes.0, nodes.1))
