-- What the steps of an insertion do to the links. Assumes nothing.
use Rattle.std.specs.Prelude.{◌≡◌, ℕ, ◌+◌, ◌<◌, ◌≤◌, ◌&&◌, ◌||◌, ◌≢◌, nat_le, nat_lt}
use Rattle.relation.specs.Sets.{one}
use Rattle.quadtree.specs.Links.{Links, cell, lacks, visits, bare, same_low}

-- each block below the link is one of the first s, and stands there once
abbrev pub Tree : Links → ℕ → ℕ → ℕ → Type 0
Tree ch l j s = (b : ℕ) → visits ch l j b ≤ one (nat_lt b s)

-- quarter k of block i is x, and each other quarter is as it was
pub record Linked (ch ch' : Links) (i k x : ℕ) : Type 0 where
  pub here : ch' i k ≡ x
  pub quarters : (q : ℕ) → q ≢ k → ch' i q ≡ ch i q
  pub blocks : (b q : ℕ) → b ≢ i → ch' b q ≡ ch b q

-- a link that leads to a block stays, and all else with it
pub record Old (ch ch' : Links) (l l' s s' : ℕ) : Type 0 where
  pub link : l' ≡ l
  pub spent : s' ≡ s
  pub blocks : (b q : ℕ) → ch' b q ≡ ch b q

-- the first block that is not taken is taken, and cleared
pub record Fresh (ch ch' : Links) (l' s s' : ℕ) : Type 0 where
  pub link : l' ≡ s + 1
  pub spent : s' ≡ s + 1
  pub empty : (q : ℕ) → ch' s q ≡ 0
  pub blocks : (b q : ℕ) → b ≢ s → ch' b q ≡ ch b q

-- a link is opened: from here on it leads to a block
pub record Opened (ch ch' : Links) (l l' s s' : ℕ) : Type 0 where
  pub old : 0 < l → Old ch ch' l l' s s'
  pub fresh : l ≡ 0 → Fresh ch ch' l' s s'

-- 1 where b is one of the blocks from s on, below s'
abbrev pub between : ℕ → ℕ → ℕ → ℕ
between s s' b = one (nat_le s b && nat_lt b s')

-- the cell (u, v) is inserted below the link l of height j, with s blocks taken before it and s' after it
pub record Grown (ch ch' : Links) (l l' s s' j u v : ℕ) : Type 0 where
  pub link : 0 < l'
  pub spent : s' ≡ s + lacks ch l j u v
  pub cells : (x y : ℕ) → cell ch' l' j x y ≡ (cell ch l j x y || same_low j u v x y)
  pub counted : (b : ℕ) → visits ch' l' j b ≡ visits ch l j b + between s s' b
  pub kept : (b q : ℕ) → b < s → visits ch l j b ≡ 0 → ch' b q ≡ ch b q
  pub full : bare ch l j ≡ 0 → bare ch' l' j ≡ 0
