-- What a pass over records gives, and what each turn of a loop over it knows, here and in the crates above. Assumes nothing.
use Rattle.std.proofs.Common.{◌≡◌, ℕ, ◌+◌, List, [], ◌∷◌, ◌++◌, length, Some, None, sym, refl, ap, ◌∙◌, subst}
use Rattle.std.specs.Iterator.{AlwaysYields}
use Rattle.records.specs.declared.reader.Records.{Records}
use Rattle.records.specs.declared.record.Token.{Token}
use Rattle.records.specs.Format.{Entry, encode, encode_all, placed}
use Rattle.records.specs.Reading.{entry, told, rest_of, Steps}
use Rattle.records.proofs.Codes.{same_front, nothing_encoded}

-- whatever records the rest of a pass encodes, those it gives
pub gives_all : (es : List Entry) (at : ℕ) (r : Records) → rest_of r ≡ encode_all es → r.place ≡ at → AlwaysYields Steps told r (placed at es)
gives_all [] at r rest here = λ t is reads. nothing_encoded (entry t.record) (rest_of is) (sym rest ∙ reads.front)
gives_all (e ∷ es) at r rest here = (
  λ is none. none.1 e (encode_all es) rest,
  λ t is reads.
      let same = same_front (entry t.record) e (rest_of is) (encode_all es) (sym reads.front ∙ rest) in
      let next = reads.place ∙ ap (λ n. n + length (encode (entry t.record))) here ∙ ap (λ f. at + length (encode f)) same.0 in
      let place = reads.here in
      let said = same.0 in
      (cc, gives_all es (at + length (encode e)) is same.1 next),
)

-- one turn of a loop over a pass that gives the records es, and its end
pub record Turn (at : ℕ) (es : List Entry) (t : Token) (is : Records) : Type 0 where
  pub later : List Entry
  pub first : es ≡ entry t.record ∷ later
  pub here : t.place ≡ at
  pub goes_on : AlwaysYields Steps told is (placed (at + length (encode (entry t.record))) later)

pub turn : (es : List Entry) (at : ℕ) {was is : Records} {t : Token} → AlwaysYields Steps told was (placed at es) → Steps was (Some t) is → Turn at es t is
turn [] at {was} {is} {t} pass step = absurd (pass t is step)
turn (e ∷ es) at {was} {is} {t} pass step =
    let next = pass.1 t is step in
    let said : entry t.record ≡ e = ap (λ p. p.1) next.0 in
    record {
      later = es;
      first = ap (λ f. f ∷ es) (sym said);
      here = ap (λ p. p.0) next.0;
      goes_on = subst (λ f. AlwaysYields Steps told is (placed (at + length (encode f)) es)) (sym said) next.1;
    }

-- the bytes ahead of the turn are its record's, and then those of the records after it
pub ahead : {es : List Entry} {at : ℕ} {is : Records} {t : Token} {rest : List ℕ} → rest ≡ encode_all es → (now : Turn at es t is) → rest ≡ encode (entry t.record) ++ encode_all now.later
ahead rest now = rest ∙ ap encode_all now.first

pub ended : (es : List Entry) (at : ℕ) {was is : Records} → AlwaysYields Steps told was (placed at es) → Steps was None is → es ≡ []
ended [] at pass step = refl
ended (e ∷ es) at {was} {is} pass step = absurd (pass.0 is step)
