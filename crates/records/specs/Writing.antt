-- What the writer answers, and what it leaves in the output memory. Assumes nothing.
use Rattle.std.specs.Prelude.{ℕ, Bool, false, cond, List, ◌++◌, length, drop, Ok, Err, Result, nat_lt}
use Rattle.graph.specs.declared.refusal.Refusal.{Refusal}
use Rattle.graph.specs.declared.refusal.Refusal.TheVariants.{Long, Short}
use Rattle.records.specs.Format.{Entry, header, rule, edge, end, encode}

-- bytes are put at the front of the memory where they fit, and what lies behind them stays; where they do not, the memory stays as it was
abbrev pub put_answer : List ℕ → List ℕ → Result ℕ Refusal
put_answer bytes memory = cond (nat_lt (length memory) (length bytes)) (Err Short) (Ok (length bytes))

abbrev pub after_put : List ℕ → List ℕ → List ℕ
after_put bytes memory = cond (nat_lt (length memory) (length bytes)) memory (bytes ++ drop (length bytes) memory)

-- a rule has more items than a count of 8 bits can say
abbrev pub too_long : Entry → Bool
too_long (header labels nodes) = false
too_long (rule head items) = nat_lt 255 (length items)
too_long (edge label from to) = false
too_long end = false

-- a record is put so, unless it is too long, which comes first and leaves the memory as it was
abbrev pub write_answer : Entry → List ℕ → Result ℕ Refusal
write_answer e memory = cond (too_long e) (Err Long) (put_answer (encode e) memory)

abbrev pub after_write : Entry → List ℕ → List ℕ
after_write e memory = cond (too_long e) memory (after_put (encode e) memory)
