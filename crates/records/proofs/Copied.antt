-- The two ways in which a copy ends. Assumes nothing.
use Rattle.std.proofs.Common.{◌≡◌, ℕ, List, Err, Result, ap, ◌∙◌, inl, inr}
use Rattle.graph.specs.declared.refusal.Refusal.TheVariants.{Shape}
use Rattle.records.specs.declared.copy.Fault.{Fault}
use Rattle.records.specs.Copying.{fault, copy_answer, Copies}
use Rattle.records.specs.Format.{IsFile}
use Rattle.records.specs.Shape.{Stops}
use Rattle.records.specs.Writing.{after_put}
use Rattle.records.proofs.Places.{not_a_file, one_place}

module _ {bytes was is : List ℕ} {r : Result ℕ Fault} where
  pub copied : IsFile bytes → r ≡ copy_answer bytes was → is ≡ after_put bytes was → Copies bytes was is r
  copied whole answer memory = record { either = inl whole; file = λ f. (answer, memory); other = λ p s. absurd (not_a_file s whole) }

  pub refused : (p : ℕ) → Stops bytes p → r ≡ Err (fault Shape p) → is ≡ was → Copies bytes was is r
  refused p stops answer memory = record {
    either = inr (p, stops);
    file = λ f. absurd (not_a_file stops f);
    other = λ q s. (answer ∙ ap (λ n. Err (fault Shape n)) (one_place stops s), memory);
  }
