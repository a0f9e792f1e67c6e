-- Labels, nodes and counts in range: what the tests tell, and what they test.
-- Assumes nothing.
use Rattle.std.proofs.Common.{◌≡◌, ℕ, ◌≤◌, Bool, true, false, cond, ◌&&◌, ltb, leb, Ok, Err, Result, refl}
use Rattle.std.proofs.lemmas.Bool.{lt-ltb, ltb-true, leb-true, and_parts, and_from}
use Rattle.graph.specs.Graph.{below, InRange}
use Rattle.graph.specs.declared.counts.RangeFault.TheVariants.{Label, Node}
use Rattle.graph.specs.Counts.{counts_fit, in_range?, Ranged, range_answer}

-- two tests, one after the other, each with its own error
abbrev pub two_tests : {E : Type 0} → E → E → Bool → Bool → Result (Unit {0}) E
two_tests e f p q = cond p (cond q (Ok tt) (Err f)) (Err e)

-- nothing is refused only where both hold
pub both_hold : {E : Type 0} (e f : E) (p q : Bool) → two_tests e f p q ≡ Ok tt → (p && q) ≡ true
both_hold e f true true passed = refl
both_hold e f true false passed = cc
both_hold e f false q passed = cc

module _ (l n a u v : ℕ) where
  -- the same in the words of the definitions over graphs
  pub range_places : in_range? l n a u v ≡ true → InRange l (below n) a u v
  range_places e =
      let k = and_parts (ltb a l) (ltb u n && ltb v n) e in
      (ltb-true a l k.0, and_parts (ltb u n) (ltb v n) k.1)

  pub range_told : in_range? l n a u v ≡ true → Ranged l n a u v
  range_told e =
      let k = range_places e in
      record { label = k.0; from = ltb-true u n k.1.0; to = ltb-true v n k.1.1 }

  pub range_tested : Ranged l n a u v → in_range? l n a u v ≡ true
  range_tested r = and_from (ltb a l) _ (lt-ltb a l r.label) (and_from (ltb u n) _ (lt-ltb u n r.from) (lt-ltb v n r.to))

  -- a triple that passes the check of its range is in range
  pub range_checked : range_answer l n a u v ≡ Ok tt → Ranged l n a u v
  range_checked e = range_told (both_hold Label Node (ltb a l) (ltb u n && ltb v n) e)

pub counts_few : (l n : ℕ) → counts_fit l n ≡ true → (l ≤ 64) × (n ≤ 1024)
counts_few l n e =
    let low = and_parts (leb 1 l) (leb l 64 && (leb 1 n && leb n 1024)) e in
    let high = and_parts (leb l 64) (leb 1 n && leb n 1024) low.1 in
    (leb-true l 64 high.0, leb-true n 1024 (and_parts (leb 1 n) (leb n 1024) high.1).1)
