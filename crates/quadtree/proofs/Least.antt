-- The height over so many nodes is the least one that is wide enough, and a table of heights is right where one test over the whole of it says so.
-- Assumes nothing.
use Rattle.std.proofs.Common.{◌≡◌, ℕ, zero, suc, ◌+◌, ◌^◌, ◌<◌, ◌≤◌, true, cond, eqb, leb, List, [], ◌∷◌, length, get_or, sym, ap, ◌∙◌, subst, ⊎_elim, pow-suc, arith}
use Rattle.std.proofs.lemmas.Bool.{cases_lt, cases_Bool, leb-true, leb-false, eqb-true, and_parts}
use Rattle.quadtree.specs.Heights.{first_from, height_of, LeastHeight, HeightsLeast, heights_from?}

-- k is the least, where every smaller number from 1 up is too small
least_here : (k n : ℕ) → 1 ≤ k → ((i : ℕ) → 1 ≤ i → i < k → 2 ^ i < n) → n ≤ 2 ^ k → LeastHeight n k
least_here k n one smaller wide =
    record {
      from_one = one;
      wide = wide;
      least = λ i from_one enough. ⊎_elim (λ lt. absurd (omega (arith, smaller i from_one lt))) (λ le. le) (cases_lt i k);
    }

first_least : (more k n : ℕ) → n ≤ 2 ^ (k + more) → 1 ≤ k → ((i : ℕ) → 1 ≤ i → i < k → 2 ^ i < n) → LeastHeight n (first_from more k n)
first_least zero k n wide one smaller =
    least_here k n one smaller (let e : k + 0 ≡ k = omega arith in subst (λ i. n ≤ 2 ^ i) e wide)
first_least (suc more) k n wide one smaller =
    ⊎_elim
    (λ yes. subst (λ t. LeastHeight n (cond t k (first_from more (suc k) n))) (sym yes) (least_here k n one smaller (leb-true n (2 ^ k) yes)))
    (λ no. let e : k + suc more ≡ suc k + more = omega arith in
    subst (λ t. LeastHeight n (cond t k (first_from more (suc k) n))) (sym no)
    (first_least more (suc k) n (subst (λ i. n ≤ 2 ^ i) e wide) (omega arith)
    (λ i from_one lt. ⊎_elim (λ below. smaller i from_one below)
    (λ at. let same : i ≡ k = omega arith in subst (λ j. 2 ^ j < n) (sym same) (leb-false n (2 ^ k) no)) (cases_lt i k))))
    (cases_Bool (leb n (2 ^ k)))

-- a power of two is more than its exponent
below_pow : (n : ℕ) → n < 2 ^ n
below_pow zero = omega arith
below_pow (suc n) = omega (arith, below_pow n, pow-suc 2 n)

pub heights_least : HeightsLeast
heights_least n =
    first_least n 1 n (omega (arith, below_pow n, below_pow (1 + n))) (omega arith) (λ i from_one lt. absurd (omega arith))

-- the test, made once over the whole list, tells each entry
table_from : (n : ℕ) (hs : List ℕ) → heights_from? n hs ≡ true → (k : ℕ) → k < length hs → get_or hs k 0 ≡ height_of (n + k)
table_from n [] right k within = absurd (omega arith)
table_from n (h ∷ hs) right zero within =
    let place : n ≡ n + 0 = omega arith in
    eqb-true h (height_of n) (and_parts (eqb h (height_of n)) (heights_from? (suc n) hs) right).0 ∙ ap height_of place
table_from n (h ∷ hs) right (suc k) within =
    let place : suc n + k ≡ n + suc k = omega arith in
    table_from (suc n) hs (and_parts (eqb h (height_of n)) (heights_from? (suc n) hs) right).1 k (omega arith) ∙ ap height_of place

pub table_right : (hs : List ℕ) → heights_from? 0 hs ≡ true → (n : ℕ) → n < length hs → get_or hs n 0 ≡ height_of n
table_right hs right n within = let place : 0 + n ≡ n = omega arith in table_from 0 hs right n within ∙ ap height_of place
