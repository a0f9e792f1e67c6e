-- Which put of a script a store answers otherwise than expected, what it holds then, and what it has to say before and after each put. Assumes nothing.
use Rattle.std.specs.Prelude.{◌≡◌, ℕ, ◌+◌, ◌≤◌, Bool, true, false, cond, List, [], ◌∷◌, Some, None, Ok, Err, Option, Result, ◌==◌}
use Rattle.std.specs.Option.{option_map}
use Rattle.graph.specs.declared.triple.Triple.{Triple}
use Rattle.graph.specs.Counts.{counts}
use Rattle.graph.specs.Graph.{at}
use Rattle.relation.specs.declared.answer.Grant.{Grant}
use Rattle.relation.specs.declared.answer.Grant.TheVariants.{Known, New}
use Rattle.relation.specs.declared.answer.StoreFault.{StoreFault}
use Rattle.relation.specs.declared.script.Put.{Put}
use Rattle.relation.specs.declared.script.Seen.{Seen}
use Rattle.relation.specs.Answers.{put_number}
use Rattle.relation.specs.Meaning.{Meaning, held_size, held_weight, fits?, put_answer, after_put}

-- the store after a put
abbrev pub after_one : Meaning → Put → Meaning
after_one m p = at (after_put m) p.triple

-- the store answers the put by the number of the expected answer
abbrev pub as_expected : Meaning → Put → Bool
as_expected m p = put_number (at (put_answer m) p.triple) == put_number p.expected

-- the index of the first put that is not answered as expected
abbrev pub first_wrong : Meaning → List Put → Option ℕ
first_wrong m [] = None
first_wrong m (p ∷ ps) = cond (as_expected m p) (option_map (λ i. i + 1) (first_wrong (after_one m p) ps)) (Some 0)

-- the store after all puts, or after the first that is not answered as expected
abbrev pub driven : Meaning → List Put → Meaning
driven m [] = m
driven m (p ∷ ps) = cond (as_expected m p) (driven (after_one m p) ps) (after_one m p)

-- what a store says of a triple and of itself
abbrev pub seen : Meaning → Triple → Seen
seen m t = record {
  has = at m.held t;
  fits = at (fits? m) t;
  size = held_size m;
  spent = held_weight m;
  counts = counts m.labels m.nodes;
  capacity = m.capacity;
}

-- What was seen before and after goes with the answer: a new triple was not held and did fit, and now it is held and one more, with no less spent; a known one was held and did fit, a refused one was not held and did not fit, and neither changes anything.
abbrev pub GoesWith : Result Grant StoreFault → Seen → Seen → Type 0
GoesWith (Ok New) s t =
    (s.has ≡ false) × (s.fits ≡ true) × (t.has ≡ true) × (t.size ≡ s.size + 1) × (s.spent ≤ t.spent)
    × (t.counts ≡ s.counts) × (t.capacity ≡ s.capacity)
GoesWith (Ok Known) s t = (s.has ≡ true) × (s.fits ≡ true) × (t ≡ s)
GoesWith (Err fault) s t = (s.has ≡ false) × (s.fits ≡ false) × (t ≡ s)

-- and no more is spent then than the capacity
abbrev pub Consistent : Result Grant StoreFault → Seen → Seen → Type 0
Consistent answer s t = GoesWith answer s t × (t.spent ≤ t.capacity)
