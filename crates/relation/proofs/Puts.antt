-- What a put answers and changes: a triple that does not fit is refused, one that is held is known, and any other joins.
-- Assumes nothing.
use Rattle.std.proofs.Common.{◌≡◌, ℕ, ◌≤◌, Bool, true, false, cond, ◌&&◌, ltb, leb, Ok, Err, Result, sym, refl, ap, ◌∙◌}
use Rattle.std.proofs.lemmas.Bool.{le-leb, true≢false, and_parts}
use Rattle.relation.specs.declared.answer.Grant.{Grant}
use Rattle.relation.specs.declared.answer.Grant.TheVariants.{Known, New}
use Rattle.relation.specs.declared.answer.StoreFault.{StoreFault}
use Rattle.relation.specs.declared.answer.StoreFault.TheVariants.{Label, Node, Full}
use Rattle.graph.specs.Counts.{in_range?, Ranged}
use Rattle.relation.specs.Sets.{with_triple}
use Rattle.relation.specs.Meaning.{Meaning, light?, fits?, put_answer, with_held, after_put}
use Rattle.relation.proofs.Added.{with_known}
use Rattle.relation.proofs.Ranges.{range_told, range_tested}

-- the three tests of a put, one after another: the first that fails gives the answer
first_refusal : (label nodes light : Bool) (taken : Result Grant StoreFault) → (label && nodes && light) ≡ false →
    (fault : StoreFault) × (cond label (cond nodes (cond light taken (Err Full)) (Err Node)) (Err Label) ≡ Err fault)
first_refusal true true true taken fails = absurd (true≢false fails)
first_refusal true true false taken fails = (Full, refl)
first_refusal true false light taken fails = (Node, refl)
first_refusal false nodes light taken fails = (Label, refl)

all_pass : (label nodes light : Bool) (taken : Result Grant StoreFault) → ((label && nodes) && light) ≡ true →
    cond label (cond nodes (cond light taken (Err Full)) (Err Node)) (Err Label) ≡ taken
all_pass true true true taken pass = refl
all_pass true true false taken pass = absurd (true≢false (sym pass))
all_pass true false light taken pass = absurd (true≢false (sym pass))
all_pass false nodes light taken pass = absurd (true≢false (sym pass))

module _ (m : Meaning) (a u v : ℕ) where
  -- a triple in range fits where it is light enough
  pub fits_in_range : Ranged m.labels m.nodes a u v → fits? m a u v ≡ light? m a u v
  fits_in_range r = ap (λ t. t && light? m a u v) (range_tested m.labels m.nodes a u v r)

  -- one that is held is light enough
  pub light_known : m.weight m.held ≤ m.capacity → m.held a u v ≡ true → light? m a u v ≡ true
  light_known bounded known =
      ap (λ s. leb (m.weight s) m.capacity) (with_known m.held a u v known) ∙ le-leb (m.weight m.held) m.capacity bounded

  module _ (fails : fits? m a u v ≡ false) where
    pub answer_refused : (fault : StoreFault) × (put_answer m a u v ≡ Err fault)
    answer_refused = first_refusal (ltb a m.labels) (ltb u m.nodes && ltb v m.nodes) (light? m a u v) (Ok (cond (m.held a u v) Known New)) fails

    pub after_refused : after_put m a u v ≡ m
    after_refused = ap (λ t. with_held m (cond t (with_triple m.held a u v) m.held)) fails

  module _ (fits : fits? m a u v ≡ true) where
    fits_parts : (in_range? m.labels m.nodes a u v ≡ true) × (light? m a u v ≡ true)
    fits_parts = and_parts (in_range? m.labels m.nodes a u v) (light? m a u v) fits

    pub fits_range : Ranged m.labels m.nodes a u v
    fits_range = range_told m.labels m.nodes a u v fits_parts.0

    pub fits_light : light? m a u v ≡ true
    fits_light = fits_parts.1

    pub answer_taken : (known : Bool) → m.held a u v ≡ known → put_answer m a u v ≡ Ok (cond known Known New)
    answer_taken known e =
        all_pass (ltb a m.labels) (ltb u m.nodes && ltb v m.nodes) (light? m a u v) (Ok (cond (m.held a u v) Known New)) fits
        ∙ ap (λ t. Ok (cond t Known New)) e

    pub after_taken : after_put m a u v ≡ with_held m (with_triple m.held a u v)
    after_taken = ap (λ t. with_held m (cond t (with_triple m.held a u v) m.held)) fits

    -- a triple that is held changes nothing
    pub after_known : m.held a u v ≡ true → after_put m a u v ≡ m
    after_known known = after_taken ∙ ap (with_held m) (with_known m.held a u v known)
