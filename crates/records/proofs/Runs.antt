-- Runs of well placed records, which are what a file begins with. Assumes nothing.
use Rattle.std.proofs.Common.{◌≡◌, ℕ, ◌≤◌, List, [], ◌∷◌, ◌++◌, length, Some, sym, refl, ap, ◌∙◌, subst, append_assoc, zero-le, arith, length-append}
use Rattle.std.proofs.lemmas.Option.{same_Some}
use Rattle.std.specs.List.{AllByRecursion}
use Rattle.records.specs.declared.file.Stage.{Stage}
use Rattle.records.specs.declared.file.Stage.TheVariants.{Start, Body, Done}
use Rattle.records.specs.Format.{Entry, header, rule, edge, end, encode, encode_all, Inner, FileOf}
use Rattle.records.specs.Shape.{Opens}
use Rattle.records.specs.Stages.{follow}
use Rattle.records.proofs.Codes.{same_front}

-- from the stage s, the records lead to t, each well placed
abbrev pub Run : Stage → List Entry → Stage → Type 0
Run s [] t = s ≡ t
Run s (e ∷ es) t = (m : Stage) × (follow s e ≡ Some m) × Run m es t

pub run_append : (s t u : Stage) (es fs : List Entry) → Run s es t → Run t fs u → Run s (es ++ fs) u
run_append s t u [] fs a b = subst (λ x. Run x fs u) (sym a) b
run_append s t u (e ∷ es) fs a b = (a.0, a.1, run_append a.0 t u es fs a.2 b)

pub run_split : (s u : Stage) (es fs : List Entry) → Run s (es ++ fs) u → (t : Stage) × Run s es t × Run t fs u
run_split s u [] fs a = (s, refl, a)
run_split s u (e ∷ es) fs a = let r = run_split a.0 u es fs a.2 in (r.0, (a.0, a.1, r.1), r.2)

-- a run leads to one stage
pub one_stage : (s t u : Stage) (es : List Entry) → Run s es t → Run s es u → t ≡ u
one_stage s t u [] a b = sym a ∙ b
one_stage s t u (e ∷ es) a b = one_stage a.0 t u es a.2 (subst (λ m. Run m es u) (same_Some _ _ (sym b.1 ∙ a.1)) b.2)

-- a whole run is a file, and a file a whole run
body_run : (es : List Entry) → Run Body es Done → (body : List Entry) × AllByRecursion Inner body × (es ≡ body ++ end ∷ [])
body_run [] r = cc r
body_run (header l n ∷ es) r = cc r.1
body_run (rule x xs ∷ es) r = let b = body_run es (subst (λ m. Run m es Done) (sym (same_Some _ _ r.1)) r.2) in (rule x xs ∷ b.0, (tt, b.1), ap (λ l. rule x xs ∷ l) b.2)
body_run (edge l n m ∷ es) r = let b = body_run es (subst (λ m. Run m es Done) (sym (same_Some _ _ r.1)) r.2) in (edge l n m ∷ b.0, (tt, b.1), ap (λ l'. edge l n m ∷ l') b.2)
body_run (end ∷ []) r = ([], tt, refl)
body_run (end ∷ e ∷ es) r = cc (r.1, r.2.1)

pub file_from_run : (es : List Entry) → Run Start es Done → FileOf es
file_from_run [] r = cc r
file_from_run (header l n ∷ es) r =
    let b = body_run es (subst (λ m. Run m es Done) (sym (same_Some _ _ r.1)) r.2) in
    record { labels = l; nodes = n; body = b.0; inner = b.1; whole = ap (λ l'. header l n ∷ l') b.2 }
file_from_run (rule x xs ∷ es) r = cc r.1
file_from_run (edge l n m ∷ es) r = cc r.1
file_from_run (end ∷ es) r = cc r.1

run_body : (body : List Entry) → AllByRecursion Inner body → Run Body (body ++ end ∷ []) Done
run_body [] i = (Done, refl, refl)
run_body (header l n ∷ body) i = absurd i.0
run_body (rule x xs ∷ body) i = (Body, refl, run_body body i.1)
run_body (edge l n m ∷ body) i = (Body, refl, run_body body i.1)
run_body (end ∷ body) i = absurd i.0

pub run_from_file : (es : List Entry) → FileOf es → Run Start es Done
run_from_file es f = subst (λ l. Run Start l Done) (sym f.whole) (Body, refl, run_body f.body f.inner)

-- a run goes on to a file, and what a file begins with is a run
ending : (s : Stage) → (more : List Entry) × Run s more Done
ending Start = (header 0 0 ∷ end ∷ [], (Body, refl, (Done, refl, refl)))
ending Body = (end ∷ [], (Done, refl, refl))
ending Done = ([], refl)

pub opens_from_run : (es : List Entry) (t : Stage) → Run Start es t → Opens es
opens_from_run es t r = let rest = ending t in (rest.0, file_from_run (es ++ rest.0) (run_append Start t Done es rest.0 r rest.1))

pub run_from_opens : (es : List Entry) → Opens es → (t : Stage) × Run Start es t
run_from_opens es o = let r = run_split Start Done es o.0 (run_from_file (es ++ o.0) o.1) in (r.0, r.1)

-- no well placed record comes next, and the file does not end here
pub record Stuck (stage : Stage) (rest : List ℕ) : Type 0 where
  pub none : (e : Entry) (t : List ℕ) (next : Stage) → follow stage e ≡ Some next → rest ≡ encode e ++ t → ⊥
  pub unended : stage ≡ Done → rest ≡ [] → ⊥

-- two runs over the same bytes go together, so none goes further than one that is stuck
pub furthest : (s t u : Stage) (es fs : List Entry) (rest more : List ℕ) → Run s es t → Run s fs u → Stuck t rest → encode_all es ++ rest ≡ encode_all fs ++ more → length (encode_all fs) ≤ length (encode_all es)
furthest s t u es [] rest more a b k h = zero-le
furthest s t u [] (f ∷ fs) rest more a b k h =
    absurd (k.none f (encode_all fs ++ more) b.0 (subst (λ x. follow x f ≡ Some b.0) a b.1) (h ∙ append_assoc (encode f) (encode_all fs) more))
furthest s t u (e ∷ es) (f ∷ fs) rest more a b k h =
    let same = same_front e f (encode_all es ++ rest) (encode_all fs ++ more) (sym (append_assoc (encode e) (encode_all es) rest) ∙ h ∙ append_assoc (encode f) (encode_all fs) more) in
    let stage : b.0 ≡ a.0 = cc (same.0, a.1, b.1) in
    let shorter = furthest a.0 t u es fs rest more a.2 (subst (λ m. Run m fs u) stage b.2) k same.1 in
    let first = ap (λ x. length (encode x)) same.0 in
    simp length-append (omega arith)

-- nor does it end as a file does
pub unfinished : (s t : Stage) (es fs : List Entry) (rest : List ℕ) → Run s es t → Run s fs Done → Stuck t rest → encode_all es ++ rest ≡ encode_all fs → ⊥
unfinished s t [] [] rest a b k h = k.unended (sym a ∙ b) h
unfinished s t (e ∷ es) [] rest a b k h = cc (b, a.1)
unfinished s t [] (f ∷ fs) rest a b k h = k.none f (encode_all fs) b.0 (subst (λ x. follow x f ≡ Some b.0) a b.1) h
unfinished s t (e ∷ es) (f ∷ fs) rest a b k h =
    let same = same_front e f (encode_all es ++ rest) (encode_all fs) (sym (append_assoc (encode e) (encode_all es) rest) ∙ h) in
    let stage : b.0 ≡ a.0 = cc (same.0, a.1, b.1) in
    unfinished a.0 t es fs rest a.2 (subst (λ m. Run m fs Done) stage b.2) k same.1
