-- No record's bytes begin with another's, since a record can be told from its bytes. Assumes nothing.
use Rattle.std.proofs.Common.{◌≡◌, ℕ, ◌+◌, ◌*◌, ◌/◌, ◌%◌, ◌<◌, cond, eqb, List, [], ◌++◌, length, get_or, take, drop, sym, refl, ap, ◌∙◌, arith, length-append}
use Rattle.std.proofs.lemmas.List.{take_at, drop_at}
use Rattle.records.specs.Format.{Entry, header, rule, edge, end, encode}

-- the number whose two bytes stand at i
abbrev number_at : List ℕ → ℕ → ℕ
number_at bytes i = get_or bytes i 0 * 256 + get_or bytes (i + 1) 0

-- the record that the bytes begin with, by the second letter of its mark, and the bytes behind it
abbrev told_from : List ℕ → Entry × List ℕ
told_from bytes =
    cond (eqb (get_or bytes 1 0) 82)
    (header (get_or bytes 2 0) (number_at bytes 3), drop 5 bytes)
    (cond (eqb (get_or bytes 1 0) 76)
    (rule (get_or bytes 2 0) (take (get_or bytes 3 0) (drop 4 bytes)), drop (get_or bytes 3 0) (drop 4 bytes))
    (cond (eqb (get_or bytes 1 0) 68) (edge (get_or bytes 2 0) (number_at bytes 3) (number_at bytes 5), drop 7 bytes) (end, drop 2 bytes)))

high_and_low : (n : ℕ) → n / 256 * 256 + n % 256 ≡ n
high_and_low n = omega arith

told_encoded : (e : Entry) (s : List ℕ) → told_from (encode e ++ s) ≡ (e, s)
told_encoded (header labels nodes) s = ap (λ n. (header labels n, s)) (high_and_low nodes)
told_encoded (rule head items) s = let front = take_at items s (length items) refl in let back = drop_at items s (length items) refl in cc
told_encoded (edge label from to) s = let f = high_and_low from in let t = high_and_low to in cc
told_encoded end s = refl

pub same_front : (e f : Entry) (s t : List ℕ) → encode e ++ s ≡ encode f ++ t → (e ≡ f) × (s ≡ t)
same_front e f s t h =
    let same : (e, s) ≡ (f, t) = sym (told_encoded e s) ∙ ap told_from h ∙ told_encoded f t in
    (ap (λ p. p.0) same, ap (λ p. p.1) same)

-- and none is empty
pub not_empty : (e : Entry) → 0 < length (encode e)
not_empty (header l n) = omega arith
not_empty (rule x xs) = omega arith
not_empty (edge l n m) = omega arith
not_empty end = omega arith

pub nothing_encoded : (e : Entry) (t : List ℕ) → [] ≡ encode e ++ t → ⊥
nothing_encoded e t h = omega (arith, not_empty e, ap length h ∙ length-append (encode e) t)
