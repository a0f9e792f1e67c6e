-- A new grid: the words that it clears hold no triple, and neither do any where it has no label.
-- Assumes nothing.
use Rattle.std.proofs.Common.{◌≡◌, ℕ, ◌*◌, ◌/◌, ◌%◌, ◌^◌, ◌<◌, ◌≤◌, true, false, eqb, List, ◌++◌, length, get_or, take, drop, replicate, Ok, sym, ap, ◌∙◌, subst, ap₂, ⊎_elim, arith}
use mathlib.Core.Path.{fun_ext}
use native.Mathlib.Nat.{zero-div}
use Rattle.std.proofs.lemmas.List.{get_or_append_left, get_or-replicate, length-append, length-drop, length-replicate, length-take-le}
use Rattle.std.proofs.lemmas.Bool.{and_parts, cases_Bool, cond-true, leb-true}
use Rattle.graph.specs.declared.counts.FitFault.TheVariants.{Counts, Memory}
use Rattle.graph.specs.Counts.{counts_fit, in_range?}
use Rattle.relation.specs.Meaning.{empty_store, with_held}
use Rattle.relation.specs.Sets.{no_triples, size_of}
use Rattle.relation.proofs.Added.{size_none}
use Rattle.relation.proofs.Ranges.{both_hold, range_told, counts_few}
use Rattle.grid.specs.Bits.{bit, bit_of, cell}
use Rattle.grid.specs.Grids.{weightless, made}
use Rattle.grid.specs.Layout.{enough, fit_answer, fitting, words_for, with_zeros}
use Rattle.grid.proofs.Cells.{bit_within, cell_range}

bit_with_zeros : (ws : List ℕ) (m k : ℕ) → k / 64 < m → bit (with_zeros m ws) k ≡ false
bit_with_zeros ws m k within =
    let word : get_or (with_zeros m ws) (k / 64) 0 ≡ 0 =
    get_or_append_left (replicate m 0) (drop m ws) 0 (k / 64) (simp length-replicate within) ∙ get_or-replicate m (k / 64) 0 0 within in
    ap (λ w. eqb (w / 2 ^ (k % 64) % 2) 1) word ∙ ap (λ x. eqb (x % 2) 1) (zero-div (2 ^ (k % 64)))

length_with_zeros : (ws : List ℕ) (m : ℕ) → m ≤ length ws → length (with_zeros m ws) ≡ length ws
length_with_zeros ws m few = simp (length-append, length-replicate, length-drop) (omega arith)

-- the words after `words[..k].fill(0)`
filled : (ws front : List ℕ) (k m : ℕ) → k ≡ m → m ≤ length ws → front ≡ replicate (length (take k ws)) 0 → front ++ drop k ws ≡ with_zeros m ws
filled ws front k m k-is few front-is =
    let size : length (take k ws) ≡ m = ap (λ i. length (take i ws)) k-is ∙ length-take-le m ws few in
    ap₂ (λ x i. x ++ drop i ws) (front-is ∙ ap (λ i. replicate i 0) size) k-is

-- what a new grid keeps, and what it means
pub record Made (l n : ℕ) (ws after : List ℕ) : Type 0 where
  pub few : (l ≤ 64) × (n ≤ 1024)
  pub room : l * n * n ≤ 64 * length after
  pub counted : 0 ≡ size_of l n (cell after l n)
  pub means : with_held (empty_store l n 0 weightless) (cell after l n) ≡ made l n (length ws)

module _ (l n : ℕ) (ws : List ℕ) where
  -- the bit of a triple in range is in one of the cleared words
  cell_zeros_at : (a u v : ℕ) → cell (with_zeros (words_for l n) ws) l n a u v ≡ false
  cell_zeros_at a u v =
      ⊎_elim
      (λ inside. let r = range_told l n a u v inside in
      cell_range (with_zeros (words_for l n) ws) l n a u v true inside
      ∙ bit_with_zeros ws (words_for l n) (bit_of n a u v) (omega (arith, bit_within l n a u v r)))
      (cell_range (with_zeros (words_for l n) ws) l n a u v false) (cases_Bool (in_range? l n a u v))

  cell_zeros : cell (with_zeros (words_for l n) ws) l n ≡ no_triples
  cell_zeros = fun_ext (λ a. fun_ext (λ u. fun_ext (λ v. cell_zeros_at a u v)))

  pub made_filled : {k : ℕ} {front : List ℕ} → fit_answer l n (length ws) ≡ Ok tt → k ≡ words_for l n →
      front ≡ replicate (length (take k ws)) 0 → Made l n ws (front ++ drop k ws)
  made_filled {k} {front} fit k-is front-is =
      let fits : fitting l n (length ws) ≡ true = both_hold Counts Memory (counts_fit l n) (enough l n (length ws)) fit in
      let halves = and_parts (counts_fit l n) (enough l n (length ws)) fits in
      let room : l * n * n ≤ 64 * length ws = leb-true (l * n * n) (64 * length ws) halves.1 in
      let few : words_for l n ≤ length ws = omega arith in
      subst (Made l n ws) (sym (filled ws front k (words_for l n) k-is few front-is)) (record {
        few = counts_few l n halves.0;
        room = omega (arith, length_with_zeros ws (words_for l n) few);
        counted = sym (ap (size_of l n) cell_zeros ∙ size_none l n);
        means =
            ap (with_held (empty_store l n 0 weightless)) cell_zeros
            ∙ sym (cond-true (fitting l n (length ws)) (empty_store l n 0 weightless) (empty_store 0 0 0 weightless) fits);
      })
