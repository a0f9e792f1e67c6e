-- What a lawful store says before and after a put goes with its answer.
-- Assumes nothing.
use Rattle.std.proofs.Common.{◌≡◌, ℕ, true, false, ltb, Result, refl, ◌∙◌, ⊎_elim}
use Rattle.std.proofs.lemmas.Bool.{lt-ltb, leb-true, and_from, cases_Bool}
use Rattle.relation.specs.declared.answer.Grant.{Grant}
use Rattle.relation.specs.declared.answer.StoreFault.{StoreFault}
use Rattle.graph.specs.Counts.{in_range?}
use Rattle.graph.specs.Graph.{triple}
use Rattle.relation.specs.Sets.{with_triple}
use Rattle.relation.specs.Meaning.{Meaning, Lawful, light?, fits?, put_answer, after_put}
use Rattle.relation.specs.Driving.{seen, Consistent}
use Rattle.relation.proofs.Added.{with_here, within_with, size_with}
use Rattle.relation.proofs.Puts.{light_known, answer_refused, after_refused, fits_range, fits_light, answer_taken, after_taken, after_known}

module _ (m : Meaning) (a u v : ℕ) (lawful : Lawful m) where
  fits_where_held : m.held a u v ≡ true → fits? m a u v ≡ true
  fits_where_held held =
      let range = lawful.ranged a u v held in
      and_from (in_range? m.labels m.nodes a u v) (light? m a u v)
      (and_from (ltb a m.labels) _ (lt-ltb a m.labels range.0) (and_from (ltb u m.nodes) _ range.1.0 range.1.1))
      (light_known m a u v lawful.bounded held)

  module _ (answer : Result Grant StoreFault) (after : Meaning) (answered : answer ≡ put_answer m a u v) (changed : after ≡ after_put m a u v) where
    consistent_known : m.held a u v ≡ true → Consistent answer (seen m (triple a u v)) (seen after (triple a u v))
    consistent_known held =
        let fits = fits_where_held held in
        rw (answered ∙ answer_taken m a u v fits true held, changed ∙ after_known m a u v fits held) ((held, fits, refl), lawful.bounded)

    consistent_new : m.held a u v ≡ false → fits? m a u v ≡ true → Consistent answer (seen m (triple a u v)) (seen after (triple a u v))
    consistent_new new fits =
        rw (answered ∙ answer_taken m a u v fits false new, changed ∙ after_taken m a u v fits) (
          (
            new,
            fits,
            with_here m.held a u v,
            size_with m.held a u v m.labels m.nodes (fits_range m a u v fits) new,
            lawful.monotone m.held (with_triple m.held a u v) (within_with m.held a u v),
            refl,
            refl,
          ),
          leb-true (m.weight (with_triple m.held a u v)) m.capacity (fits_light m a u v fits),
        )

    consistent_refused : m.held a u v ≡ false → fits? m a u v ≡ false → Consistent answer (seen m (triple a u v)) (seen after (triple a u v))
    consistent_refused new fails =
        rw (answered ∙ (answer_refused m a u v fails).1, changed ∙ after_refused m a u v fails) ((new, fails, refl), lawful.bounded)

    pub consistent_put : Consistent answer (seen m (triple a u v)) (seen after (triple a u v))
    consistent_put =
        ⊎_elim consistent_known (λ new. ⊎_elim (consistent_new new) (consistent_refused new) (cases_Bool (fits? m a u v)))
        (cases_Bool (m.held a u v))
