-- Bytes that are no file stop being one at one place. Assumes nothing.
use Rattle.std.proofs.Common.{◌≡◌, ℕ, ◌≤◌, List, [], ◌∷◌, ◌++◌, length, Some, sym, refl, ap, ◌∙◌, subst, append-nil, arith, length-append}
use Rattle.records.specs.declared.file.Stage.{Stage}
use Rattle.records.specs.declared.file.Stage.TheVariants.{Start, Body, Done}
use Rattle.records.specs.Format.{Entry, encode_all, IsFile}
use Rattle.records.specs.Shape.{Opens, Stops, bad_record, after_end, no_end}
use Rattle.records.specs.Stages.{follow}
use Rattle.records.proofs.Codes.{nothing_encoded}
use Rattle.records.proofs.Runs.{Run, run_append, run_split, one_stage, file_from_run, run_from_file, opens_from_run, run_from_opens, Stuck, furthest, unfinished}

-- the records up to the place are a run, which is stuck there
pub record StuckAt (bytes : List ℕ) (place : ℕ) : Type 0 where
  pub before : List Entry
  pub stage : Stage
  pub rest : List ℕ
  pub run : Run Start before stage
  pub stuck : Stuck stage rest
  pub front : bytes ≡ encode_all before ++ rest
  pub here : place ≡ length (encode_all before)

-- one record more after a run
follows : (before : List Entry) (t next : Stage) (e : Entry) → Run Start before t → follow t e ≡ Some next → Opens (before ++ e ∷ [])
follows before t next e run placed = opens_from_run (before ++ e ∷ []) next (run_append Start t next before (e ∷ []) run (next, placed, refl))

followed : (before : List Entry) (t : Stage) (e : Entry) → Run Start before t → Opens (before ++ e ∷ []) → (next : Stage) × (follow t e ≡ Some next)
followed before t e run opens =
    let all = run_from_opens (before ++ e ∷ []) opens in
    let parts = run_split Start all.0 before (e ∷ []) all.1 in
    let last = parts.2 in
    (last.0, subst (λ s. follow s e ≡ Some last.0) (one_stage Start parts.0 t before parts.1 run) last.1)

pub stuck_from_stops : {bytes : List ℕ} {place : ℕ} → Stops bytes place → StuckAt bytes place
stuck_from_stops (bad_record b) =
    let r = run_from_opens b.before b.opens in
    record {
      before = b.before;
      stage = r.0;
      rest = b.rest;
      run = r.1;
      stuck = record {
        none = λ e t next placed front. b.none e t (follows b.before r.0 next e r.1 placed) front;
        unended = λ done empty. b.something empty;
      };
      front = b.front;
      here = b.here;
    }
stuck_from_stops (after_end a) = record {
  before = a.before;
  stage = Done;
  rest = a.rest;
  run = run_from_file a.before a.file;
  stuck = record { none = λ e t next placed front. cc placed; unended = λ done empty. a.something empty };
  front = a.front;
  here = a.here;
}
stuck_from_stops (no_end n) =
    let r = run_from_opens n.before n.opens in
    record {
      before = n.before;
      stage = r.0;
      rest = [];
      run = r.1;
      stuck = record {
        none = λ e t next placed front. nothing_encoded e t front;
        unended = λ done empty. n.unended (file_from_run n.before (subst (Run Start n.before) done r.1));
      };
      front = n.front ∙ sym (append-nil (encode_all n.before));
      here = n.here ∙ ap length n.front;
    }

-- where a run is stuck, the bytes stop
module _ {bytes : List ℕ} {place : ℕ} (before : List Entry) where
  amid : (stage : Stage) → (stage ≡ Done → ⊥) → (rest : List ℕ) → Run Start before stage → Stuck stage rest → bytes ≡ encode_all before ++ rest → place ≡ length (encode_all before) → Stops bytes place
  amid stage undone [] run stuck front here =
      let all : bytes ≡ encode_all before = front ∙ append-nil (encode_all before) in
      no_end (record {
        before = before;
        opens = opens_from_run before stage run;
        unended = λ file. undone (one_stage Start stage Done before run (run_from_file before file));
        front = all;
        here = here ∙ ap length (sym all);
      })
  amid stage undone (x ∷ rest) run stuck front here = bad_record (record {
    before = before;
    rest = x ∷ rest;
    opens = opens_from_run before stage run;
    unended = λ file. undone (one_stage Start stage Done before run (run_from_file before file));
    front = front;
    something = λ e. omega (arith, ap length e);
    none = λ e t opens here'. let next = followed before stage e run opens in stuck.none e t next.0 next.1 here';
    here = here;
  })

  pub stops_from_stuck : (stage : Stage) (rest : List ℕ) → Run Start before stage → Stuck stage rest → bytes ≡ encode_all before ++ rest → place ≡ length (encode_all before) → Stops bytes place
  stops_from_stuck Start rest run stuck front here = amid Start (λ e. cc e) rest run stuck front here
  stops_from_stuck Body rest run stuck front here = amid Body (λ e. cc e) rest run stuck front here
  stops_from_stuck Done rest run stuck front here = after_end (record {
    before = before;
    rest = rest;
    file = file_from_run before run;
    front = front;
    something = stuck.unended refl;
    here = here;
  })

pub not_a_file : {bytes : List ℕ} {place : ℕ} → Stops bytes place → IsFile bytes → ⊥
not_a_file s file =
    let k = stuck_from_stops s in
    unfinished Start k.stage k.before file.0 k.rest k.run (run_from_file file.0 file.1) k.stuck (sym k.front ∙ file.2)

no_further : {bytes : List ℕ} {p q : ℕ} → StuckAt bytes p → StuckAt bytes q → q ≤ p
no_further a b =
    let le = furthest Start a.stage b.stage a.before b.before a.rest b.rest a.run b.run a.stuck (sym a.front ∙ b.front) in
    omega (arith, a.here, b.here)

pub one_place : {bytes : List ℕ} {p q : ℕ} → Stops bytes p → Stops bytes q → p ≡ q
one_place s t =
    let a = stuck_from_stops s in
    let b = stuck_from_stops t in
    omega (arith, no_further a b, no_further b a)

pub stops_within : {bytes : List ℕ} {p : ℕ} → Stops bytes p → p ≤ length bytes
stops_within s =
    let k = stuck_from_stops s in
    omega (arith, k.here, ap length k.front ∙ length-append (encode_all k.before) k.rest)
