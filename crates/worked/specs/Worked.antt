-- The worked cases of all definitions, as one computed test, and what each of them says. Assumes nothing.
use Rattle.std.specs.Prelude.{◌≡◌, Bool, true, false, not, ◌&&◌, ◌==◌}
use Rattle.graph.specs.Cases.{matched_pairs, turned_twice, turned_order, nothing_else, only_itself, cases, expected, every, case_holds, CaseExact}
use Rattle.worked.specs.Weighings.{weighs, matched, first_cell, far_apart, three_cells, all_pairs, weighings, weighing_holds, Weighs, settles?, additions, over, heights, height_holds, HasHeight}

-- sets and heights come out as they should; and the matched pairs have five triples beside the edges, which ten blocks have room for and nine have not
abbrev pub stores_hold : Bool
stores_hold =
    every weighing_holds weighings && (every height_holds heights && (additions matched_pairs == 5 && (settles? matched_pairs 10 && not (settles? matched_pairs 9))))

-- every case of all
abbrev pub all_hold : Bool
all_hold = every case_holds cases && stores_hold

-- All cases in one computation, and what it tells of each of them.
pub record WorkedCases : Type 0 where
  pub computed : all_hold ≡ true
  -- in each graph exactly the expected triples are defined
  pub defined : CaseExact matched_pairs × CaseExact turned_twice × CaseExact turned_order × CaseExact nothing_else × CaseExact only_itself
  -- the matched pairs weigh 10: three of them for each of the first two labels, and four for the third
  pub pairs_weigh : Weighs (weighs (matched 0) 3) × Weighs (weighs (matched 1) 3) × Weighs (weighs (matched 2) 4) × Weighs (weighs (expected matched_pairs) 10)
  -- one triple more weighs no more where its blocks are there already
  pub cells_weigh : Weighs (weighs first_cell 2) × Weighs (weighs far_apart 3) × Weighs (weighs three_cells 3) × Weighs (weighs all_pairs 5)
  pub high : HasHeight (over 1 1) × HasHeight (over 2 1) × HasHeight (over 3 2) × HasHeight (over 1024 10)
  pub added : additions matched_pairs ≡ 5
  pub roomy : settles? matched_pairs 10 ≡ true
  pub crowded : settles? matched_pairs 9 ≡ false
