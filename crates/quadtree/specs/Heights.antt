-- The height of a tree over so many nodes. Assumes nothing.
use Rattle.std.specs.Prelude.{ℕ, zero, suc, ◌^◌, ◌≤◌, Bool, true, cond, ◌&&◌, List, [], ◌∷◌, Some, None, Option, ◌==◌, nat_le}

-- the first number from k up whose power of two is at least n, where at most so many are passed over
abbrev pub first_from : ℕ → ℕ → ℕ → ℕ
first_from zero k n = k
first_from (suc more) k n = cond (nat_le n (2 ^ k)) k (first_from more (suc k) n)

-- the height over n nodes; 2 ^ n is more than n, so that no more than n numbers need be passed over
abbrev pub height_of : ℕ → ℕ
height_of n = first_from n 1 n

-- h is the least number from 1 up whose power of two is at least n
pub record LeastHeight (n h : ℕ) : Type 0 where
  pub from_one : 1 ≤ h
  pub wide : n ≤ 2 ^ h
  pub least : (k : ℕ) → 1 ≤ k → n ≤ 2 ^ k → h ≤ k

-- The height over n nodes is the least number from 1 up whose power of two is at least n.
abbrev pub HeightsLeast : Type 0
HeightsLeast = (n : ℕ) → LeastHeight n (height_of n)

-- there is a height for up to 1,024 nodes
abbrev pub height_answer : ℕ → Option ℕ
height_answer n = cond (nat_le n 1024) (Some (height_of n)) None

-- each entry of the list is the height over as many nodes as its place says, counted from n
abbrev pub heights_from? : ℕ → List ℕ → Bool
heights_from? n [] = true
heights_from? n (h ∷ hs) = h == height_of n && heights_from? (suc n) hs
