-- A triple in the range of a grid: what a put of it answers, and what setting its bit changes.
-- Assumes nothing.
use Rattle.std.proofs.Common.{◌≡◌, ℕ, ◌+◌, ◌*◌, ◌^◌, ◌<◌, ◌≤◌, Bool, true, false, cond, List, length, Ok, sym, ap, ◌∙◌, arith}
use Rattle.std.proofs.lemmas.List.{length-set}
use Rattle.std.proofs.lemmas.Bool.{cond-true}
use Rattle.relation.specs.declared.answer.Grant.TheVariants.{Known, New}
use Rattle.graph.specs.Counts.{in_range?}
use Rattle.relation.specs.Sets.{with_triple, size_of}
use Rattle.relation.specs.Meaning.{fits?, put_answer, with_held, after_put}
use Rattle.relation.proofs.Added.{size_with, size_small}
use Rattle.relation.proofs.Puts.{fits_in_range, answer_taken, after_taken, after_known}
use Rattle.relation.proofs.Ranges.{range_tested}
use Rattle.grid.specs.declared.grid.Grid.{Grid}
use Rattle.grid.specs.Bits.{bit, with_bit, bit_of, cell, words_after_put}
use Rattle.grid.specs.Grids.{grid_meaning, Placed}
use Rattle.grid.proofs.Cells.{cell_bit, cell_with_bit}
use Rattle.grid.proofs.Words.{written, written_with_bit, with_bit_again}

module _ {g : Grid} {a u v k : ℕ} (p : Placed g a u v k) where
  abbrev ws : List ℕ
  ws = g.words.now

  abbrev l : ℕ
  l = g.counts.labels

  abbrev n : ℕ
  n = g.counts.nodes

  fits : fits? (grid_meaning g) a u v ≡ true
  fits = fits_in_range (grid_meaning g) a u v p.range

  held_bit : cell ws l n a u v ≡ bit ws k
  held_bit = cell_bit ws l n a u v p.range ∙ ap (bit ws) (sym p.is)

  pub taken_answer : (known : Bool) → bit ws k ≡ known → put_answer (grid_meaning g) a u v ≡ Ok (cond known Known New)
  taken_answer known e = answer_taken (grid_meaning g) a u v fits known (held_bit ∙ e)

  memory_is : words_after_put ws l n a u v ≡ with_bit ws k
  memory_is =
      cond-true (in_range? l n a u v) (with_bit ws (bit_of n a u v)) ws (range_tested l n a u v p.range)
      ∙ ap (with_bit ws) (sym p.is)

  -- where the bit is set already nothing changes
  module _ (known : bit ws k ≡ true) where
    pub known_after : grid_meaning g ≡ after_put (grid_meaning g) a u v
    known_after = sym (after_known (grid_meaning g) a u v fits (held_bit ∙ known))

    pub known_memory : ws ≡ words_after_put ws l n a u v
    known_memory = sym (memory_is ∙ with_bit_again ws k known)

  pub new_memory : written ws k ≡ words_after_put ws l n a u v
  new_memory = written_with_bit ws k ∙ sym memory_is

  new_cell : cell (written ws k) l n ≡ with_triple (cell ws l n) a u v
  new_cell =
      ap (λ w. cell w l n) (written_with_bit ws k ∙ ap (with_bit ws) p.is)
      ∙ cell_with_bit ws l n a u v p.range g.room

  pub new_after : with_held (grid_meaning g) (cell (written ws k) l n) ≡ after_put (grid_meaning g) a u v
  new_after =
      ap (with_held (grid_meaning g)) new_cell
      ∙ sym (after_taken (grid_meaning g) a u v fits)

  pub new_room : l * n * n ≤ 64 * length (written ws k)
  new_room = simp length-set g.room

  -- where it is not there is one triple more
  module _ (new : bit ws k ≡ false) where
    pub new_counted : g.size + 1 ≡ size_of l n (cell (written ws k) l n)
    new_counted =
        ap (λ i. i + 1) g.counted
        ∙ sym (size_with (cell ws l n) a u v l n p.range (held_bit ∙ new))
        ∙ ap (size_of l n) (sym new_cell)

    pub new_small : g.size + 1 < 2 ^ 32
    new_small = omega (arith, new_counted, size_small l n (cell (written ws k) l n) g.few.0 g.few.1)
