-- Bytes are those of a file in one way at most, so whatever has the bare fact that they are has the records too. Assumes nothing.
use Rattle.std.proofs.Common.{◌≡◌, ℕ, List, [], ◌∷◌, ◌++◌, refl, sym, ◌∙◌}
use Rattle.std.proofs.Math.Logic.{∥∥₁_elim}
use Rattle.std.proofs.Math.Nat.{ℕ_set}
use Rattle.std.proofs.lemmas.List.{append_cancel_right}
use Rattle.std.specs.List.{AllByRecursion, AllByRecursion-prop}
use mathlib.Core.HLevel.{is_prop→PathP}
use mathlib.Core.List.{is_set}
use mathlib.Core.Sum.{⊎_set}
use Rattle.records.specs.Format.{Entry, header, rule, edge, end, encode_all, Inner, FileOf, IsFile}
use Rattle.records.proofs.Codes.{same_front, nothing_encoded}

Entry-set : IsSet Entry
Entry-set = hlevel (⊎_set, is_set, ℕ_set)

Inner-prop : (e : Entry) → IsProp (Inner e)
Inner-prop (header labels nodes) = hlevel
Inner-prop (rule head items) = hlevel
Inner-prop (edge label from to) = hlevel
Inner-prop end = hlevel

FileOf-prop : (es : List Entry) → IsProp (FileOf es)
FileOf-prop es a b =
    let whole : header a.labels a.nodes ∷ (a.body ++ end ∷ []) ≡ header b.labels b.nodes ∷ (b.body ++ end ∷ []) = sym a.whole ∙ b.whole in
    let labels : a.labels ≡ b.labels = cc in
    let nodes : a.nodes ≡ b.nodes = cc in
    let body : a.body ≡ b.body = append_cancel_right a.body b.body (end ∷ []) (cc) in
    λ i. record {
      labels = labels i;
      nodes = nodes i;
      body = body i;
      inner = is_prop→PathP (λ j. AllByRecursion Inner (body j)) (λ j. AllByRecursion-prop Inner Inner-prop (body j)) a.inner b.inner i;
      whole = is_prop→PathP (λ j. es ≡ header (labels j) (nodes j) ∷ (body j ++ end ∷ [])) (λ j. is_set Entry-set es (header (labels j) (nodes j) ∷ (body j ++ end ∷ []))) a.whole b.whole i;
    }

-- the same bytes are those of the same records
pub same_records : (es fs : List Entry) → encode_all es ≡ encode_all fs → es ≡ fs
same_records [] [] h = refl
same_records [] (f ∷ fs) h = absurd (nothing_encoded f (encode_all fs) h)
same_records (e ∷ es) [] h = absurd (nothing_encoded e (encode_all es) (sym h))
same_records (e ∷ es) (f ∷ fs) h =
    let same = same_front e f (encode_all es) (encode_all fs) h in
    let later = same_records es fs same.1 in
    cc same.0

IsFile-prop : (bytes : List ℕ) → IsProp (IsFile bytes)
IsFile-prop bytes a b =
    let es = same_records a.0 b.0 (sym a.2 ∙ b.2) in
    λ i. (
      es i,
      is_prop→PathP (λ j. FileOf (es j)) (λ j. FileOf-prop (es j)) a.1 b.1 i,
      is_prop→PathP (λ j. bytes ≡ encode_all (es j)) (λ j. is_set ℕ_set bytes (encode_all (es j))) a.2 b.2 i,
    )

pub is_file : {bytes : List ℕ} → ∥ IsFile bytes ∥₁ → IsFile bytes
is_file {bytes} fact = ∥∥₁_elim fact (IsFile-prop bytes) (λ file. file)
