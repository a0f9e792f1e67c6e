-- The bits of a row of words, one of them set.
-- Assumes nothing.
use Rattle.std.proofs.Common.{◌≡◌, ℕ, ◌*◌, ◌/◌, ◌%◌, ◌^◌, ◌<◌, true, ◌||◌, eqb, List, length, get_or, set, sym, ap, ◌∙◌, ⊎_elim, one-mul, arith}
use lib.Bits.{bit_and, bit_or, or_add_and}
use Rattle.std.proofs.lemmas.Nat.{one_shl}
use Rattle.std.proofs.lemmas.Nat.Bits.{bit_at_or, bit_at-pow_same, bit_at-pow_other, bit_at-lt, and_pow}
use Rattle.std.proofs.lemmas.List.{get_or-set_same, get_or-set_other, set-get_or}
use Rattle.std.proofs.lemmas.Bool.{cases_eq, eq-eqb, ne_eqb, eqb-true}
use Rattle.grid.specs.Bits.{bit, with_bit}

-- one word with bit j set
word_bit : (w j i : ℕ) → eqb (bit_or w (2 ^ j) / 2 ^ i % 2) 1 ≡ (eqb i j || eqb (w / 2 ^ i % 2) 1)
word_bit w j i =
    ⊎_elim
    (λ e. let one : bit_or w (2 ^ j) / 2 ^ i % 2 ≡ 1 = rw e (omega (arith, bit_at_or w (2 ^ j) j, bit_at-pow_same j, bit_at-lt w j)) in
    ap (λ x. eqb x 1) one ∙ sym (ap (λ t. t || eqb (w / 2 ^ i % 2) 1) (eq-eqb i j e)))
    (λ ne. let same : bit_or w (2 ^ j) / 2 ^ i % 2 ≡ w / 2 ^ i % 2 = omega (arith, bit_at_or w (2 ^ j) i, bit_at-pow_other j i ne) in
    ap (λ x. eqb x 1) same ∙ sym (ap (λ t. t || eqb (w / 2 ^ i % 2) 1) (ne_eqb i j ne)))
    (cases_eq i j)

-- in the word of bit k the bits are those of one word, and all other words stay
pub bit_with_bit : (ws : List ℕ) (k j : ℕ) → k < 64 * length ws → bit (with_bit ws k) j ≡ (eqb j k || bit ws j)
bit_with_bit ws k j within =
    let w : ℕ = get_or ws (k / 64) 0 in
    let room : k / 64 < length ws = omega arith in
    let new : ℕ = bit_or w (2 ^ (k % 64)) in
    ⊎_elim
    (λ e. let read : get_or (set ws (k / 64) new) (j / 64) 0 ≡ new = ap (λ i. get_or (set ws (k / 64) new) i 0) e ∙ get_or-set_same ws (k / 64) new 0 room in
    let old : w ≡ get_or ws (j / 64) 0 = ap (λ i. get_or ws i 0) (sym e) in
    let index : eqb (j % 64) (k % 64) ≡ eqb j k =
    ⊎_elim (λ same. eq-eqb (j % 64) (k % 64) same ∙ sym (eq-eqb j k (omega arith)))
    (λ ne. ne_eqb (j % 64) (k % 64) ne ∙ sym (ne_eqb j k (λ same. ne (ap (λ x. x % 64) same)))) (cases_eq (j % 64) (k % 64)) in
    ap (λ x. eqb (x / 2 ^ (j % 64) % 2) 1) read ∙ word_bit w (k % 64) (j % 64)
    ∙ ap (λ t. t || eqb (w / 2 ^ (j % 64) % 2) 1) index ∙ ap (λ x. eqb j k || eqb (x / 2 ^ (j % 64) % 2) 1) old)
    (λ ne. ap (λ x. eqb (x / 2 ^ (j % 64) % 2) 1) (get_or-set_other ws (k / 64) (j / 64) new 0 ne)
    ∙ sym (ap (λ t. t || bit ws j) (ne_eqb j k (λ same. ne (ap (λ x. x / 64) same)))))
    (cases_eq (j / 64) (k / 64))

-- the words after `words[k / 64] |= 1 << (k % 64)`
abbrev pub written : List ℕ → ℕ → List ℕ
written ws k = set ws (k / 64) (bit_or (get_or ws (k / 64) 0) (1 * 2 ^ (k % 64) % 2 ^ 64))

pub written_with_bit : (ws : List ℕ) (k : ℕ) → written ws k ≡ with_bit ws k
written_with_bit ws k = ap (λ m. set ws (k / 64) (bit_or (get_or ws (k / 64) 0) m)) (one_shl (k % 64) 64 (omega arith))

or_again : (w j : ℕ) → eqb (w / 2 ^ j % 2) 1 ≡ true → bit_or w (2 ^ j) ≡ w
or_again w j is =
    let one : w / 2 ^ j % 2 ≡ 1 = eqb-true (w / 2 ^ j % 2) 1 is in
    let low : bit_and w (2 ^ j) ≡ 2 ^ j = and_pow w j ∙ ap (λ x. x * 2 ^ j) one ∙ one-mul (2 ^ j) in
    omega (arith, or_add_and w (2 ^ j), low)

-- a bit that is set already
pub with_bit_again : (ws : List ℕ) (k : ℕ) → bit ws k ≡ true → with_bit ws k ≡ ws
with_bit_again ws k is =
    ap (set ws (k / 64)) (or_again (get_or ws (k / 64) 0) (k % 64) is) ∙ set-get_or ws (k / 64) 0
