-- The answer that follows from each way in which a copy ends. Assumes nothing.
use Rattle.std.proofs.Common.{◌≡◌, ℕ, ◌<◌, ◌≤◌, List, length, Ok, Err, Result, refl, ap, ◌∙◌, inl, inr, arith}
use Rattle.std.proofs.lemmas.Bool.{cases_lt, lt-ltb, le-ltb}
use Rattle.graph.specs.declared.refusal.Refusal.{Refusal}
use Rattle.graph.specs.declared.refusal.Refusal.TheVariants.{Shape, Short}
use Rattle.records.specs.declared.copy.Fault.{Fault}
use Rattle.records.specs.Copying.{fault, copy_answer}
use Rattle.records.specs.Format.{IsFile}
use Rattle.records.specs.Writing.{after_put}
use Rattle.records.proofs.Places.{not_a_file, one_place, stops_within}
use Rattle.report.specs.Reply.{limit, refusal_record, Answers, Replies, Limited}

-- what is known of a copy that is refused, and of one that is made
pub record Refused (input was is : List ℕ) (f : Fault) : Type 0 where
  pub small : f.place ≤ limit
  pub same : is ≡ was
  pub answers : Answers (length was) input (refusal_record f.refusal f.place)

pub record Copied (input was is : List ℕ) (n : ℕ) : Type 0 where
  pub within : length input ≤ limit
  pub file : IsFile input
  pub room : length input ≤ length was
  pub size : n ≡ length input
  pub memory : is ≡ after_put input was

-- a copy's answer is a length only where it is the input's, and there is room
size_of : (input was : List ℕ) (n : ℕ) → Ok n ≡ copy_answer input was → (length input ≤ length was) × (n ≡ length input)
size_of input was n answer = elim (cases_lt (length was) (length input)) [
  | inl less ↦
      let short = lt-ltb (length was) (length input) less in
      let never : ◌≡◌ {A = ℕ} 0 1 = cc (rw short at answer) in
      absurd (omega arith)
  | inr room ↦
      let fits = le-ltb (length was) (length input) room in
      let same : ◌≡◌ {A = Result ℕ Fault} (Ok n) (Ok (length input)) = rw fits at answer in
      (room, cc)
]

-- and a refusal only where there is none
fault_of : (input was : List ℕ) (f : Fault) → Err f ≡ copy_answer input was → (length was < length input) × (f ≡ fault Short (length input))
fault_of input was f answer = elim (cases_lt (length was) (length input)) [
  | inl less ↦
      let short = lt-ltb (length was) (length input) less in
      let same : ◌≡◌ {A = Result ℕ Fault} (Err f) (Err (fault Short (length input))) = rw short at answer in
      (less, cc)
  | inr room ↦
      let fits = le-ltb (length was) (length input) room in
      let never : ◌≡◌ {A = ℕ} 0 1 = cc (rw fits at answer) in
      absurd (omega arith)
]

module _ {input was is : List ℕ} where
  pub copied : (n : ℕ) → Limited input was is (Ok n) → Copied input was is n
  copied n limited = elim (cases_lt limit (length input)) [
    | inl large ↦ let never : ◌≡◌ {A = ℕ} 0 1 = cc (limited.over large).0 in absurd (omega arith)
    | inr within ↦
        let copies = limited.copies within in
        elim copies.either [
          | inl file ↦
              let came = copies.file file in
              let sized = size_of input was n came.0 in
              record { within = within; file = file; room = sized.0; size = sized.1; memory = came.1 }
          | inr stops ↦ let never : ◌≡◌ {A = ℕ} 0 1 = cc (copies.other stops.0 stops.1).0 in absurd (omega arith)
        ]
  ]

  pub replied : (n : ℕ) → Copied input was is n → Replies input was is (Ok n)
  replied n c = record {
    bytes = input;
    answers = record {
      over = λ large. absurd (omega (arith, c.within));
      either = λ w. inl c.file;
      file = λ w f r. refl;
      short = λ w f less. absurd (omega (arith, c.room));
      other = λ w place stops. absurd (not_a_file stops c.file);
    };
    answer = let fits = le-ltb (length was) (length input) c.room in rw fits (ap Ok c.size);
    memory = c.memory;
  }

  pub refused : (f : Fault) → Limited input was is (Err f) → Refused input was is f
  refused f limited = elim (cases_lt limit (length input)) [
    | inl large ↦
        let came = limited.over large in
        let why : f ≡ fault Shape limit = cc came.0 in
        record {
          small = omega (arith, ap (λ x. x.place) why);
          same = came.1;
          answers = record {
            over = λ l. ap (λ x. refusal_record x.refusal x.place) why;
            either = λ w. absurd (omega arith);
            file = λ w file room. absurd (omega arith);
            short = λ w file less. absurd (omega arith);
            other = λ w place stops. absurd (omega arith);
          };
        }
    | inr within ↦
        let copies = limited.copies within in
        elim copies.either [
          | inl file ↦
              let came = copies.file file in
              let short = fault_of input was f came.0 in
              record {
                small = omega (arith, ap (λ x. x.place) short.1);
                same = let less = lt-ltb (length was) (length input) short.0 in rw less at came.1;
                answers = record {
                  over = λ large. absurd (omega arith);
                  either = λ w. inl file;
                  file = λ w g room. absurd (omega (arith, short.0));
                  short = λ w g less. ap (λ x. refusal_record x.refusal x.place) short.1;
                  other = λ w place stops. absurd (not_a_file stops file);
                };
              }
          | inr stops ↦
              let came = copies.other stops.0 stops.1 in
              let why : f ≡ fault Shape stops.0 = cc came.0 in
              record {
                small = omega (arith, ap (λ x. x.place) why, stops_within stops.1);
                same = came.1;
                answers = record {
                  over = λ large. absurd (omega arith);
                  either = λ w. inr stops;
                  file = λ w file room. absurd (not_a_file stops.1 file);
                  short = λ w file less. absurd (not_a_file stops.1 file);
                  other = λ w place s. ap (λ x. refusal_record x.refusal x.place) why ∙ ap (refusal_record Shape) (one_place stops.1 s);
                };
              }
        ]
  ]

-- no answer is longer than the longest input
within_limit : {input answer : List ℕ} {room : ℕ} → Answers room input answer → limit ≤ room → length answer ≤ limit
within_limit {input} {answer} {room} answers large = elim (cases_lt limit (length input)) [
  | inl over ↦ omega (arith, ap length (answers.over over))
  | inr within ↦
      elim (answers.either within) [
        | inl file ↦ omega (arith, ap length (answers.file within file (omega arith)))
        | inr stops ↦ omega (arith, ap length (answers.other within stops.0 stops.1))
      ]
]

-- so memory of that length never lacks the room for one
pub answered : {input was is : List ℕ} {r : Result ℕ Refusal} → Replies input was is r → limit ≤ length was → (n : ℕ) × (r ≡ Ok n) × (n ≤ length was)
answered {input} {was} {is} {r} replies large =
    let small = within_limit replies.answers large in
    let fits = le-ltb (length was) (length replies.bytes) (omega arith) in
    (length replies.bytes, rw fits at replies.answer, omega arith)
