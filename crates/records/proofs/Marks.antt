-- The first bytes of a list, one by one, as a number and as a rule, and what stands further on. Assumes nothing.
use Rattle.std.proofs.Common.{◌≡◌, ℕ, zero, suc, ◌+◌, ◌-◌, ◌*◌, ◌/◌, ◌%◌, ◌<◌, ◌≤◌, List, [], ◌∷◌, ◌++◌, length, get_or, take, drop, sym, refl, ap, ◌∙◌, add-zero, arith, length-append, length-drop, take-append-drop, drop-cons}
use Rattle.std.proofs.lemmas.List.{take_rest, drop-drop, drop_at}

-- the n bytes of s from i on, each read by its index
abbrev reads : ℕ → ℕ → List ℕ → List ℕ
reads zero i s = []
reads (suc n) i s = get_or s i 0 ∷ reads n (suc i) s

pub opened : (n i : ℕ) (s : List ℕ) → i + n ≤ length s → drop i s ≡ reads n i s ++ drop (i + n) s
opened zero i s h = rw add-zero refl
opened (suc n) i s h =
    let k : suc i + n ≡ i + suc n = omega arith in
    let here : i < length s = omega arith in
    drop-cons s i 0 here ∙ ap (λ l. get_or s i 0 ∷ l) (opened n (suc i) s (omega arith) ∙ ap (λ m. reads n (suc i) s ++ drop m s) k)

-- a number of two bytes is read as it is written
pub two_read : (n high low : ℕ) → n ≡ high * 256 + low → low < 256 → (high ≡ n / 256) × (low ≡ n % 256)
two_read n high low e lt = (omega arith, omega arith)

-- a rule whose items all follow
pub whole_rule : (s items : List ℕ) (n : ℕ) → 2 ≤ length s → n ≡ get_or s 1 0 → items ≡ take (n - 0) (take (length s - 2) (drop 2 s)) → length items + 0 ≡ n → s ≡ get_or s 0 0 ∷ length items ∷ (items ++ drop n (drop 2 s))
whole_rule s items n le count part long =
    let e = opened 2 0 s le in
    let f = take_rest s 2 in
    let z : n - 0 ≡ n = omega arith in
    let m : length items ≡ n = omega arith in
    let both = take-append-drop n (drop 2 s) in
    cc

-- n bytes further on in xs, past e
pub further : (xs : List ℕ) (p n : ℕ) (e t : List ℕ) → p ≤ length xs → drop p xs ≡ e ++ t → n ≡ length e → (p + n ≤ length xs) × (drop (p + n) xs ≡ t)
further xs p n e t within front long =
    let all : length xs - p ≡ length e + length t = sym (length-drop p xs) ∙ ap length front ∙ length-append e t in
    (omega arith, sym (drop-drop n p xs) ∙ ap (drop n) front ∙ drop_at e t n (sym long))
