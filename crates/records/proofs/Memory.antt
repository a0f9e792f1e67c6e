-- How far the copy of a file has come, and what memory holds then. Assumes nothing.
use Rattle.std.proofs.Common.{◌≡◌, ℕ, ◌+◌, ◌-◌, ◌<◌, ◌≤◌, false, ltb, List, ◌++◌, length, get_or, take, drop, Some, None, Ok, sym, refl, ap, ◌∙◌, subst, arith, length-append, length-drop, take-append-drop, Fits, w8}
use borrow.Rule.Slice.PartMut.{put_mid}
use Rattle.std.proofs.lemmas.List.Prefix.{at_reads}
use Rattle.std.proofs.lemmas.List.{append-nil, append_assoc, drop-drop, drop_all, drop_at, length-take-le, take_at, take_rest, take_all}
use Rattle.std.proofs.lemmas.Bool.{le-ltb}
use Rattle.std.specs.Iterator.{AlwaysYields}
use Rattle.records.specs.declared.reader.Records.{Records}
use Rattle.records.specs.declared.record.Token.{Token}
use Rattle.records.specs.Format.{Entry, header, rule, edge, end, encode, encode_all, placed}
use Rattle.records.specs.Reading.{entry, told, Steps}
use Rattle.records.specs.Writing.{too_long, write_answer, after_write}
use Rattle.records.proofs.Marks.{further}
use Rattle.records.proofs.Turns.{turn, ahead, ended}

-- what was read from bytes is not too long to be written
not_long : (e : Entry) (t bytes : List ℕ) (p : ℕ) → drop p bytes ≡ encode e ++ t → get_or bytes (p + 3) 0 < 256 → too_long e ≡ false
not_long (header l n) t bytes p h byte = refl
not_long (rule x xs) t bytes p h byte = le-ltb 255 (length xs) (omega (arith, at_reads 0 bytes (encode (rule x xs)) p t h 3 (omega arith)))
not_long (edge l n m) t bytes p h byte = refl
not_long end t bytes p h byte = refl

-- the memory from p on, which a record is written to
abbrev pub from_on : ℕ → List ℕ → List ℕ
from_on p out = take (length out - p) (drop p out)

-- a record of the bytes is written where there is room for all of them
written : (e : Entry) (t bytes out : List ℕ) (p : ℕ) → drop p bytes ≡ encode e ++ t → get_or bytes (p + 3) 0 < 256 → length bytes ≤ length out
    → (write_answer e (from_on p out) ≡ Ok (length (encode e))) × (after_write e (from_on p out) ≡ encode e ++ drop (length (encode e)) (from_on p out))
written e t bytes out p h byte room =
    let fits : ltb (length (from_on p out)) (length (encode e)) ≡ false =
    le-ltb (length (from_on p out)) (length (encode e)) (omega (arith, ap length (take_rest out p) ∙ length-drop p out, sym (length-drop p bytes) ∙ ap length h ∙ length-append (encode e) t)) in
    let short = not_long e t bytes p h byte in
    (rw (short, fits) refl, rw (short, fits) refl)

-- one part more of the bytes is copied
copied_more : (bytes was out part : List ℕ) (p : ℕ) (e t : List ℕ) → p ≤ length bytes → drop p bytes ≡ e ++ t → out ≡ take p bytes ++ drop p was → part ≡ e ++ drop (length e) (from_on p out) → put_mid p (length out - p) out part ≡ take (p + length e) bytes ++ drop (p + length e) was
copied_more bytes was out part p e t within front sofar put =
    let n = length e in
    let size = length-take-le p bytes within in
    let before = ap (take p) sofar ∙ take_at (take p bytes) (drop p was) p size in
    let after = ap (drop p) sofar ∙ drop_at (take p bytes) (drop p was) p size in
    let rest = ap (drop n) (take_rest out p ∙ after) ∙ drop-drop n p was in
    let none = drop_all (length out - p) (drop p out) (omega (arith, length-drop p out)) in
    let whole = sym (take-append-drop p bytes) ∙ ap (λ l. take p bytes ++ l) front ∙ sym (append_assoc (take p bytes) e t) in
    let longer = ap (take (p + n)) whole ∙ take_at (take p bytes ++ e) t (p + n) (omega (arith, length-append (take p bytes) e)) in
    let nil = append-nil part in
    let assoc = append_assoc (take p bytes) e (drop (p + n) was) in
    cc

-- a copy has come to a place: the bytes before it are copied, and the pass gives the records of those behind it
pub record CopiedTo (bytes was out : List ℕ) (place : ℕ) (es : List Entry) (r : Records) : Type 0 where
  pub copied : out ≡ take place bytes ++ drop place was
  pub within : place ≤ length bytes
  pub rest : drop place bytes ≡ encode_all es
  pub goes_on : AlwaysYields Steps told r (placed place es)

module _ {bytes was out : List ℕ} {place : ℕ} {es : List Entry} {r is : Records} (sofar : CopiedTo bytes was out place es r) where
  -- the next token says this place
  pub here : {t : Token} → Steps r (Some t) is → CopiedTo bytes was out t.place es r
  here step = subst (λ n. CopiedTo bytes was out n es r) (sym (turn es place sofar.goes_on step).here) sofar

  -- its record is written, and the copy comes to the place behind it
  pub goes_further : {t : Token} → Steps r (Some t) is → ((i : ℕ) → Fits w8 (get_or bytes i 0)) → length bytes ≤ length out
      → (write_answer (entry t.record) (from_on t.place out) ≡ Ok (length (encode (entry t.record))))
      × ((part : List ℕ) → part ≡ after_write (entry t.record) (from_on t.place out) → (behind : ℕ) × (later : List Entry) × CopiedTo bytes was (put_mid t.place (length out - t.place) out part) behind later is)
  goes_further {t} step fits room =
      let at = here step in
      let p = t.place in
      let e = encode (entry t.record) in
      let now = turn es p at.goes_on step in
      let rest = encode_all now.later in
      let front = ahead at.rest now in
      let wrote = written (entry t.record) rest bytes out p front (omega (arith, fits (p + 3))) room in
      let next = further bytes p (length e) e rest at.within front refl in (
        wrote.0,
        λ part put. (
          p + length e,
          now.later,
          record {
            copied = copied_more bytes was out part p e rest at.within front at.copied (put ∙ wrote.1);
            within = next.0;
            rest = next.1;
            goes_on = now.goes_on;
          },
        ),
      )

  -- where the pass ends, all bytes are copied
  pub all_copied : Steps r None is → out ≡ bytes ++ drop (length bytes) was
  all_copied step =
      let none = sofar.rest ∙ ap encode_all (ended es place sofar.goes_on step) in
      let all : place ≡ length bytes = omega (arith, sym (length-drop place bytes) ∙ ap length none, sofar.within) in
      sofar.copied ∙ ap (λ n. take n bytes ++ drop n was) all ∙ ap (λ l. l ++ drop (length bytes) was) (take_all (length bytes) bytes (omega arith))
