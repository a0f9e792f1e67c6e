use Rattle.std.proofs.Common.{◌≡◌, ◌≤◌, length, is_ok, ap, arith}
use Rattle.report.specs.Reply.{limit}
use Rattle.report.proofs.Ends.{answered}
use Rattle.listing.proofs.main.Goals as goal

-- the memory has as many bytes as the longest answer, so it is never too short
pub unwrap-size-requires : goal.unwrap-size-requires
unwrap-size-requires c =
    let long = c.in_ok-out.ensures.len in
    let room : limit ≤ length c.deref_mut.result.now = omega (arith, c.deref_mut.ensures.len) in
    ap is_ok (answered c.reply.ensures room).1

pub slice_bounds-write_all-end : goal.slice_bounds-write_all-end
slice_bounds-write_all-end c =
    let long = c.in_ok-out.ensures.len in
    let room : limit ≤ length c.deref_mut.result.now = omega (arith, c.deref_mut.ensures.len) in
    let a = answered c.reply.ensures room in
    let size : c.unwrap-size.result ≡ a.0 = cc (c.unwrap-size.ensures, a.1) in
    omega (arith, c.deref-2.ensures.len, c.reply.auto.out)
