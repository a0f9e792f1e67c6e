-- Trees of blocks, over a function that gives the link in each quarter of each block. A link is 0, or the index of a block plus 1; below a block of height 1 a link that is not 0 is a single cell. Assumes nothing.
use Rattle.std.specs.Prelude.{ℕ, zero, suc, ◌+◌, ◌*◌, ◌/◌, ◌%◌, ◌^◌, Bool, true, cond, ◌&&◌, Some, None, Option, ◌==◌, nat_lt}
use Rattle.relation.specs.Sets.{one, sum_below}

-- the link in quarter k of the block with index i
abbrev pub Links : Type 0
Links = ℕ → ℕ → ℕ

-- the quarter of a block of height j + 1 in which the cell (u, v) lies
abbrev pub quarter_of : ℕ → ℕ → ℕ → ℕ
quarter_of j u v = 2 * (u / 2 ^ j % 2) + v / 2 ^ j % 2

-- the link in quarter k of what the link l leads to
abbrev pub down : Links → ℕ → ℕ → ℕ
down ch zero k = 0
down ch (suc i) k = ch i k

-- whether the cell (u, v) stands below the link l of height j; only the lowest j bits of u and v count
abbrev pub cell : Links → ℕ → ℕ → ℕ → ℕ → Bool
cell ch l zero u v = nat_lt 0 l
cell ch l (suc j) u v = cell ch (down ch l (quarter_of j u v)) j u v

-- how many blocks are lacking on the way down to the cell (u, v)
abbrev pub lacks : Links → ℕ → ℕ → ℕ → ℕ → ℕ
lacks ch l zero u v = 0
lacks ch l (suc j) u v = one (l == 0) + lacks ch (down ch l (quarter_of j u v)) j u v

-- how many links are lacking there, that of the cell itself among them: none where the cell stands
abbrev pub lacking_links : Links → ℕ → ℕ → ℕ → ℕ → ℕ
lacking_links ch l j u v = cond (cell ch l j u v) 0 (lacks ch l j u v + 1)

-- how many blocks are lacking, or none where the cell stands
abbrev pub lacking : Links → ℕ → ℕ → ℕ → ℕ → Option ℕ
lacking ch l j u v = cond (cell ch l j u v) None (Some (lacks ch l j u v))

-- how often the block with index b stands below the link l of height j
abbrev pub visits : Links → ℕ → ℕ → ℕ → ℕ
visits ch l zero b = 0
visits ch zero (suc j) b = 0
visits ch (suc i) (suc j) b = one (i == b) + sum_below 4 (λ q. visits ch (ch i q) j b)

-- how many blocks below the link l of height j have four empty quarters
abbrev pub bare : Links → ℕ → ℕ → ℕ
bare ch l zero = 0
bare ch zero (suc j) = 0
bare ch (suc i) (suc j) = one (sum_below 4 (ch i) == 0) + sum_below 4 (λ q. bare ch (ch i q) j)

-- whether (u, v) and (x, y) agree in their lowest j bits
abbrev pub same_low : ℕ → ℕ → ℕ → ℕ → ℕ → Bool
same_low zero u v x y = true
same_low (suc j) u v x y = quarter_of j u v == quarter_of j x y && same_low j u v x y
