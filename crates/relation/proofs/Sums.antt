-- Sums over numbers below a bound, and over all triples in range: of equal terms, of larger ones, with one term raised, and their bounds.
-- Assumes nothing.
use Rattle.std.proofs.Common.{◌≡◌, ℕ, zero, suc, ◌+◌, ◌*◌, ◌<◌, ◌≤◌, Bool, true, false, sym, refl, subst, ⊎_elim, suc-mul, arith}
use Rattle.std.proofs.lemmas.Bool.{cases_eq}
use Rattle.relation.specs.Sets.{one, sum_below, sum_over}

pub sum_same : (n : ℕ) (f g : ℕ → ℕ) → ((k : ℕ) → k < n → g k ≡ f k) → sum_below n g ≡ sum_below n f
sum_same zero f g same = refl
sum_same (suc n) f g same = omega (arith, sum_same n f g (λ k h. same k (omega arith)), same n (omega arith))

pub sum_mono : (n : ℕ) (f g : ℕ → ℕ) → ((k : ℕ) → k < n → f k ≤ g k) → sum_below n f ≤ sum_below n g
sum_mono zero f g each = omega arith
sum_mono (suc n) f g each = omega (arith, sum_mono n f g (λ k h. each k (omega arith)), each n (omega arith))

pub sum_zero : (n : ℕ) (f : ℕ → ℕ) → ((k : ℕ) → k < n → f k ≡ 0) → sum_below n f ≡ 0
sum_zero zero f each = refl
sum_zero (suc n) f each = omega (arith, sum_zero n f (λ k h. each k (omega arith)), each n (omega arith))

pub sum_bound : (n : ℕ) (f : ℕ → ℕ) (m : ℕ) → ((k : ℕ) → k < n → f k ≤ m) → sum_below n f ≤ n * m
sum_bound zero f m each = omega arith
sum_bound (suc n) f m each =
    omega (arith, suc-mul n m, sum_bound n f m (λ k h. each k (omega arith)), each n (omega arith))

-- a term is no more than the sum
pub sum_term : (n : ℕ) (f : ℕ → ℕ) (i : ℕ) → i < n → f i ≤ sum_below n f
sum_term zero f i within = absurd (omega arith)
sum_term (suc n) f i within =
    ⊎_elim (λ e. (let last : f i ≤ f n = subst (λ k. f i ≤ f k) e (omega arith) in omega arith))
    (λ ne. omega (arith, sum_term n f i (omega arith))) (cases_eq i n)

-- nor are two of them
pub sum_two_terms : (n : ℕ) (f : ℕ → ℕ) (i k : ℕ) → i < n → k < n → (k ≡ i → ⊥) → f i + f k ≤ sum_below n f
sum_two_terms zero f i k hi hk apart = absurd (omega arith)
sum_two_terms (suc n) f i k hi hk apart =
    ⊎_elim
    (λ e. (let last : f i ≤ f n = subst (λ j. f i ≤ f j) e (omega arith) in omega (arith, sum_term n f k (omega arith))))
    (λ ni. ⊎_elim (λ e. (let last : f k ≤ f n = subst (λ j. f k ≤ f j) e (omega arith) in omega (arith, sum_term n f i (omega arith))))
    (λ nk. omega (arith, sum_two_terms n f i k (omega arith) (omega arith) apart)) (cases_eq k n))
    (cases_eq i n)

-- a sum that is not 0 has a term that is not
pub sum_some : (n : ℕ) (f : ℕ → ℕ) → 0 < sum_below n f → (k : ℕ) × (k < n) × (0 < f k)
sum_some zero f some = absurd (omega arith)
sum_some (suc n) f some =
    ⊎_elim (λ none. let k = sum_some n f (omega arith) in (k.0, omega (arith, k.1), k.2)) (λ here. (n, omega arith, omega arith)) (cases_eq (f n) 0)

-- g is f, but for d more at i
pub sum_more : (n : ℕ) (f g : ℕ → ℕ) (i d : ℕ) → i < n → ((k : ℕ) → k < n → (k ≡ i → ⊥) → g k ≡ f k) → g i ≡ f i + d
    → sum_below n g ≡ sum_below n f + d
sum_more zero f g i d within other here = absurd (omega arith)
sum_more (suc n) f g i d within other here =
    ⊎_elim
    (λ e. let rest = sum_same n f g (λ k h. other k (omega arith) (λ same. omega arith)) in
    let last = subst (λ k. g k ≡ f k + d) (sym e) here in omega (arith, rest, last))
    (λ ne. let rest = sum_more n f g i d (omega arith) (λ k h. other k (omega arith)) here in
    omega (arith, rest, other n (omega arith) ne))
    (cases_eq n i)

module _ (l n : ℕ) (f g : ℕ → ℕ → ℕ → ℕ) where
  pub sum_over_mono : ((a u v : ℕ) → a < l → u < n → v < n → f a u v ≤ g a u v) → sum_over l n f ≤ sum_over l n g
  sum_over_mono each =
      sum_mono l _ _ (λ a ha. sum_mono n _ _ (λ u hu. sum_mono n _ _ (λ v hv. each a u v ha hu hv)))

  -- g is f, but for d more at (a, u, v)
  pub sum_over_more : (a u v d : ℕ) → a < l → u < n → v < n →
      ((b x y : ℕ) → b < l → x < n → y < n → ((b ≡ a) × (x ≡ u) × (y ≡ v) → ⊥) → g b x y ≡ f b x y) → g a u v ≡ f a u v + d →
      sum_over l n g ≡ sum_over l n f + d
  sum_over_more a u v d ha hu hv other here =
      sum_more l (λ b. sum_below n (λ x. sum_below n (λ y. f b x y))) (λ b. sum_below n (λ x. sum_below n (λ y. g b x y))) a d ha
      (λ b hb ne. sum_same n (λ x. sum_below n (λ y. f b x y)) (λ x. sum_below n (λ y. g b x y))
      (λ x hx. sum_same n (f b x) (g b x) (λ y hy. other b x y hb hx hy (λ e. ne e.0))))
      (sum_more n (λ x. sum_below n (λ y. f a x y)) (λ x. sum_below n (λ y. g a x y)) u d hu
      (λ x hx ne. sum_same n (f a x) (g a x) (λ y hy. other a x y ha hx hy (λ e. ne e.1)))
      (sum_more n (f a u) (g a u) v d hv (λ y hy ne. other a u y ha hu hy (λ e. ne e.2)) here))

pub sum_over_zero : (l n : ℕ) (f : ℕ → ℕ → ℕ → ℕ) → ((a u v : ℕ) → f a u v ≡ 0) → sum_over l n f ≡ 0
sum_over_zero l n f each = sum_zero l _ (λ a _. sum_zero n _ (λ u _. sum_zero n _ (λ v _. each a u v)))

one_bound : (b : Bool) → one b ≤ 1
one_bound true = omega arith
one_bound false = omega arith

-- as many terms, each at most one
pub sum_over_bound : (l n : ℕ) (s : ℕ → ℕ → ℕ → Bool) → sum_over l n (λ a u v. one (s a u v)) ≤ l * (n * (n * 1))
sum_over_bound l n s =
    sum_bound l _ (n * (n * 1)) (λ a _. sum_bound n _ (n * 1) (λ u _. sum_bound n _ 1 (λ v _. one_bound (s a u v))))
