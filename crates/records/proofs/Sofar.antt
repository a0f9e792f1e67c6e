-- How far a reading has come, and how it ends. Assumes nothing.
use Rattle.std.proofs.Common.{◌≡◌, ℕ, ◌+◌, ◌≤◌, List, [], ◌∷◌, ◌++◌, length, Some, None, Ok, Err, Result, sym, refl, ap, ◌∙◌, subst, append_assoc, append-nil, arith, length-append, length-drop, get_or, Fits, w8}
use Rattle.std.proofs.lemmas.List.{flat_map_more, nil_from_length}
use Rattle.records.specs.declared.file.File.{File}
use Rattle.records.specs.declared.file.Misshapen.{Misshapen}
use Rattle.records.specs.declared.file.Stage.{Stage}
use Rattle.records.specs.declared.file.Stage.TheVariants.{Start, Done}
use Rattle.records.specs.declared.reader.Records.{Records}
use Rattle.records.specs.declared.record.Token.{Token}
use Rattle.records.specs.Format.{Entry, encode, encode_all, IsFile, placed}
use Rattle.records.specs.Reading.{entry, rest_of, NoRecord, Reads, Reading, Exact, Ranged}
use Rattle.records.specs.Shape.{Stops}
use Rattle.records.specs.Stages.{follow}
use Rattle.records.proofs.Codes.{same_front, nothing_encoded}
use Rattle.records.proofs.Places.{stops_from_stuck, not_a_file, one_place}
use Rattle.records.proofs.Ranges.{ranged}
use Rattle.records.proofs.Runs.{Run, run_append, file_from_run}

-- the pass has read the records es from the start of the bytes, up to the place, and they lead to the stage
pub record Sofar (bytes : List ℕ) (es : List Entry) (stage : Stage) (place : ℕ) (r : Records) : Type 0 where
  pub run : Run Start es stage
  pub input : r.input.now ≡ bytes
  pub here : place ≡ r.place
  pub size : r.place ≡ length (encode_all es)
  pub front : bytes ≡ encode_all es ++ rest_of r

module _ {bytes : List ℕ} {es : List Entry} {stage : Stage} {place : ℕ} {was : Records} (sofar : Sofar bytes es stage place was) where
  pub more : {t : Token} {is : Records} {next : Stage} {n : ℕ} → Reads t was is → follow stage (entry t.record) ≡ Some next → n ≡ length (encode (entry t.record)) → Sofar bytes (es ++ entry t.record ∷ []) next (t.place + n) is
  more {t} {is} {next} {n} r placed size =
      let e = entry t.record in
      let one_more = flat_map_more encode [] es e in
      record {
        run = run_append Start stage next es (e ∷ []) sofar.run (next, placed, refl);
        input = r.input ∙ sofar.input;
        here = omega (arith, r.here, r.place);
        size = r.place ∙ ap (λ n. n + length (encode e)) sofar.size ∙ sym (length-append (encode_all es) (encode e)) ∙ ap length one_more;
        front = sofar.front ∙ ap (λ l. encode_all es ++ l) r.front ∙ sym (append_assoc (encode_all es) (encode e) (rest_of is)) ∙ ap (λ l. l ++ rest_of is) one_more;
      }

  -- a record that may not stand here
  pub misplaced : {t : Token} {is : Records} → Reads t was is → follow stage (entry t.record) ≡ None → Stops bytes t.place
  misplaced {t} {is} r not =
      stops_from_stuck es stage (rest_of was) sofar.run
      (record {
        none = λ e rest next placed front.
            let same = same_front e (entry t.record) rest (rest_of is) (sym front ∙ r.front) in
            cc (not, same.0, placed);
        unended = λ done empty. nothing_encoded (entry t.record) (rest_of is) (sym empty ∙ r.front);
      })
      sofar.front (r.here ∙ sofar.size)

  -- no record stands here, and the file does not end here
  pub cut_off : NoRecord (rest_of was) → (stage ≡ Done → rest_of was ≡ [] → ⊥) → Stops bytes place
  cut_off none unended = stops_from_stuck es stage (rest_of was) sofar.run (record { none = λ e t next placed front. none e t front; unended = unended }) sofar.front (sofar.here ∙ sofar.size)

  -- the file has ended, and nothing is left of the bytes
  pub whole : stage ≡ Done → length bytes ≤ place → IsFile bytes
  whole done end =
      let empty = nil_from_length (rest_of was) (omega (arith, sofar.here, ap length sofar.input, length-drop was.place was.input.now)) in
      (es, file_from_run es (subst (Run Start es) done sofar.run), sofar.front ∙ ap (λ l. encode_all es ++ l) empty ∙ append-nil (encode_all es))

  -- the pass has come to their length where nothing is left
  pub end_where_empty : rest_of was ≡ [] → place ≡ length bytes
  end_where_empty empty =
      let within : was.place ≤ length was.input.now = was.within in
      omega (arith, sofar.here, ap length sofar.input, sym (length-drop was.place was.input.now) ∙ ap length empty)

-- a reading that answers so answers nothing else
exact : {bytes : List ℕ} (r : Result File Misshapen) → Reading bytes r → Exact bytes r
exact (Ok f) h = record { file = λ file. refl; place = λ p s. absurd (not_a_file s h.0) }
exact (Err m) h = record { file = λ file. absurd (not_a_file h file); place = λ p s. ap (λ n. Err (record { place = n })) (one_place h s) }

-- all that a reading promises of its answer
pub answered : {bytes : List ℕ} (r : Result File Misshapen) → ((i : ℕ) → Fits w8 (get_or bytes i 0)) → Reading bytes r → record { cases : Reading bytes r; exact : Exact bytes r; ranges : Ranged bytes }
answered r fits h = record { cases = h; exact = exact r h; ranges = ranged fits }
