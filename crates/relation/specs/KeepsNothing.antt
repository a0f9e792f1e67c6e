-- A store for the tests, of one label and one node, whose one triple weighs 1 against a capacity of 0. Assumes nothing.
use Rattle.std.proofs.Common.{lit≤}
use Rattle.std.proofs.lemmas.Bool.{false≢true}
use Rattle.relation.specs.Sets.{one, one_mono}
use Rattle.relation.specs.Meaning.{Meaning, Lawful, empty_store}

abbrev pub keeps_nothing : Meaning
keeps_nothing = empty_store 1 1 0 (λ s. one (s 0 0 0))

pub keeps_nothing_lawful : Lawful keeps_nothing
keeps_nothing_lawful = record {
  few_labels = lit≤ tt;
  few_nodes = lit≤ tt;
  ranged = λ a u v held. absurd (false≢true held);
  monotone = λ s t within. one_mono (s 0 0 0) (t 0 0 0) (within 0 0 0);
  bounded = lit≤ tt;
}
