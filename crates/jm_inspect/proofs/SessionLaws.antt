-- What a session's step and its run do, from what `serve` answered.
use Rattle.std.proofs.Common.{◌≡◌, ◌≤◌, ℕ, zero, suc, List, [], ◌∷◌, ◌++◌, length, take, drop, Option, Some}
use Rattle.std.proofs.Common.{None, option_map, Result, Ok, Err, IsOk, ◌⊎◌, inl, inr, refl, sym, ap, ◌∙◌}
use Rattle.std.proofs.Common.{subst, arith}
use Rattle.std.proofs.lemmas.Bool.{le-ltb, lt-ltb}
use Rattle.std.proofs.lemmas.List.{length-append, take-append-drop}
use Rattle.std.proofs.Math.Seq.{take-append_seam}
use Rattle.jm_bytes.proofs.Choice.{same_some}
use Rattle.jm_bytes.specs.Metered.{Metered}
use Rattle.jm_outside.specs.Outcome.{CountsFaults, PutsFront, Shows, Told}
use Rattle.jm_outside.specs.Shelves.{ShelfSeen}
use Rattle.jm_jrt.specs.declared.serve_error.ServeError.{ServeError}
use Rattle.jm_jrt.specs.declared.serve_error.ServeError.TheVariants as serve_error
use Rattle.jm_jrt.specs.Lines.{lines_of, replies}
use Rattle.jm_jrt.specs.Sessions.{Ended, IsTooLong, IsTooMany, PutBehind, Serves, answered_in}
use Rattle.jm_jrt.proofs.SessionSteps.{replies_append}
use Rattle.jm_inspect.specs.declared.complaint.Complaint.{Complaint}
use Rattle.jm_inspect.specs.declared.status.Status.TheVariants as status
use Rattle.jm_inspect.specs.declared.complaint.Complaint.TheVariants as complaint
use Rattle.jm_inspect.specs.declared.stop.Stop.{Stop}
use Rattle.jm_inspect.specs.declared.stop.Stop.TheVariants as stop
use Rattle.jm_inspect.specs.Outcome.{reading, session_fault, session_outcome, session_with}
use Rattle.jm_inspect.specs.Steps.{StandSafe, StepDoes, StepOnText, status_of}
use Rattle.jm_inspect.specs.SessionHeld.{EndedBy, Held, StopsAs}
use Rattle.jm_inspect.specs.Sinks.{Failed, Gets, GetsFront}
use Rattle.jm_inspect.specs.Stops.{stop_of_session}
use Rattle.jm_inspect.specs.World.{World}
use Rattle.jm_inspect.proofs.Made.{stays_part, unmade_safe}

-- Which line ends it

fault_of_whole : (lines answered : List (List ℕ)) → answered ≡ lines → session_fault (length lines) (length answered) ≡ None
fault_of_whole lines answered is =
    rw (le-ltb (length answered) (length lines) (let same : length answered ≡ length lines = ap length is in omega arith)) refl

fault_of_long : (text : List ℕ) (k : ℕ) → IsTooLong k text → session_fault (length (lines_of text)) (length (answered_in text))
    ≡ Some (complaint.LongLine k)
fault_of_long text k long =
    let number = long.number in
    let within = long.within in
    let count : length (lines_of text) ≡ length (answered_in text ++ long.line ∷ long.later) = ap length long.lines in
    let sum = length-append (answered_in text) (long.line ∷ long.later) in
    rw (lt-ltb (length (answered_in text)) (length (lines_of text)) (omega arith), lt-ltb (length (answered_in text)) 1000000 (omega arith))
    (ap (λ (n : ℕ). Some (complaint.LongLine n)) (sym number))

fault_of_many : (text : List ℕ) → IsTooMany text → session_fault (length (lines_of text)) (length (answered_in text))
    ≡ Some complaint.TooManyLines
fault_of_many text many =
    let all = many.answered in
    let more = many.more in
    rw (
      lt-ltb (length (answered_in text)) (length (lines_of text)) (omega arith),
      le-ltb (length (answered_in text)) 1000000
          (omega arith),
    ) refl

-- A front of the replies

take_length : (n : ℕ) (xs : List ℕ) → take (length (take n xs)) xs ≡ take n xs
take_length zero xs = refl
take_length (suc n) [] = refl
take_length (suc n) (x ∷ xs) = ap (λ (rest : List ℕ). x ∷ rest) (take_length n xs)

length_front : (n : ℕ) (xs : List ℕ) → length (take n xs) ≤ length xs
length_front zero xs = omega arith
length_front (suc n) [] = omega arith
length_front (suc n) (x ∷ xs) = let less = length_front n xs in omega arith

replies_front : (b : List ℕ) (n : ℕ) (lines : List (List ℕ)) → replies b (take n lines) ≡ take (length (replies b (take n lines)))
    (replies b lines)
replies_front b n lines =
    let all : replies b lines ≡ replies b (take n lines) ++ replies b (drop n lines) =
    ap (replies b) (sym (take-append-drop n lines)) ∙ replies_append b (take n lines) (drop n lines) in
    sym (ap (take (length (replies b (take n lines)))) all ∙ take-append_seam (replies b (take n lines)) (replies b (drop n lines)))

puts_front : (old new more text : List ℕ) (n : ℕ) → new ≡ old ++ more → more ≡ take n text → PutsFront old new text
puts_front old new more text n is front = (
  length (take n text),
  length_front n text,
  is ∙ ap (λ (t : List ℕ). old ++ t) (front
      ∙ sym (take_length n text)),
)

front_put : (old new : Option (List ℕ)) (more text : List ℕ) (n : ℕ) → new ≡ option_map (λ put. put ++ more) old → more
    ≡ take n text → Told old new (λ before after. PutsFront before after text)
front_put None new more text n is front = tt
front_put (Some old) None more text n is front = cc
front_put (Some old) (Some new) more text n is front = puts_front old new more text n (same_some new (old ++ more) is) front

front_told : (old new : Option (List ℕ)) (text : List ℕ) → Told old new (λ before after. (more : List ℕ) × (after ≡ before ++ more)
    × ((n : ℕ) × (more ≡ take n text))) → Told old new (λ before after. PutsFront before after text)
front_told None new text told = tt
front_told (Some old) None text told = told
front_told (Some old) (Some new) text (more, is, (n, front)) = puts_front old new more text n is front

-- The step

-- a fault of the source or of the output comes only where its count rose
ended_by : (answered : Result ℕ ServeError) (old new : World) → CountsFaults old.input.faults new.input.faults (IsOk answered)
    (answered ≡ Err serve_error.ReadFault) → CountsFaults old.out.faults new.out.faults (IsOk answered) (answered
    ≡ Err serve_error.WriteFault) → EndedBy answered old new
ended_by (Ok n) old new input out = tt
ended_by (Err serve_error.ReadFault) old new input out = input.rose refl
ended_by (Err serve_error.WriteFault) old new input out = out.rose refl
ended_by (Err (serve_error.LongLine k)) old new input out = tt
ended_by (Err serve_error.TooManyLines) old new input out = tt
ended_by (Err serve_error.Memory) old new input out = tt

shows_text : (rest new_rest : Option (List ℕ)) (text left : List ℕ) → Told rest new_rest (λ old new. (old ≡ text) × (new ≡ left))
    → Shows rest (λ told. text ≡ told)
shows_text None new_rest text left told = tt
shows_text (Some old) None text left told = absurd told
shows_text (Some old) (Some new) text left told = sym told.0

module _ (b text : List ℕ) (old new : World) (shelf : new.shelf ≡ old.shelf) where
  abbrev output : List ℕ
  output = replies b (answered_in text)

  abbrev HeldAs : Result (Unit {0}) Stop → Type 0
  HeldAs answer = Held b (StopsAs answer) old new

  got : (more : List ℕ) → new.out.told ≡ option_map (λ put. put ++ more) old.out.told → more ≡ output → Gets output old.out new.out
  got more is all = subst (λ (t : List ℕ). Gets t old.out new.out) all is

  files : new.shelf.told ≡ old.shelf.told
  files = ap (λ (s : ShelfSeen). s.told) shelf

  safe : StandSafe [] old.shelf new.shelf
  safe = unmade_safe old.shelf new.shelf files

  step_ended : HeldAs (Ok tt) → Gets output old.out new.out → new.input.faults ≡ old.input.faults → new.out.faults ≡ old.out.faults
      → StepDoes reading (session_with b output None) (Ok tt) old new
  step_ended held gets input out = record {
    answers = (refl, refl);
    output = gets;
    files = safe;
    files_first = inl safe;
    source = held;
    outside = λ failed. cc;
    none_rose = λ ok. record { shelf = ap (λ (s : ShelfSeen). s.faults) shelf; input = input; out = out };
  }

  step_broken : (given : Complaint) → status.Session ≡ status_of given → HeldAs (Err (stop.Complaint given)) → Gets output old.out new.out
      → StepDoes reading (session_with b output (Some given)) (Err (stop.Complaint given)) old new
  step_broken given breaks held gets = record {
    answers = (breaks, refl);
    output = gets;
    files = safe.stand;
    files_first = inl safe;
    source = held;
    outside = λ failed. cc;
    none_rose = λ ok. cc;
  }

  step_outside : (fault : Option Complaint) → HeldAs (Err stop.Outside) → GetsFront output old.out new.out
      → Failed old.input new.input ⊎ Failed old.out new.out → StepDoes reading (session_with b output fault) (Err stop.Outside) old new
  step_outside None held gets failed = record {
    answers = tt;
    output = gets;
    files = stays_part [] old.shelf.told new.shelf.told
        files;
    files_first = inl safe;
    source = held;
    outside = λ is. failed;
    none_rose = λ ok. cc;
  }
  step_outside (Some given) held gets failed = record {
    answers = tt;
    output = gets;
    files = stays_part [] old.shelf.told
        new.shelf.told files;
    files_first = inl safe;
    source = held;
    outside = λ is. failed;
    none_rose = λ ok. cc;
  }

  step_memory : (fault : Option Complaint) → HeldAs (Err stop.Memory) → GetsFront output old.out new.out
      → StepDoes reading (session_with b output fault) (Err stop.Memory) old new
  step_memory None held gets = record {
    answers = tt;
    output = gets;
    files = stays_part [] old.shelf.told new.shelf.told files;
    files_first = inl safe;
    source = held;
    outside = λ failed. cc;
    none_rose = λ ok. cc;
  }
  step_memory (Some given) held gets = record {
    answers = tt;
    output = gets;
    files = stays_part [] old.shelf.told new.shelf.told
        files;
    files_first = inl safe;
    source = held;
    outside = λ failed. cc;
    none_rose = λ ok. cc;
  }

  by_fault : (fault : Option Complaint) (answer : Result (Unit {0}) Stop) → session_fault (length (lines_of text))
      (length (answered_in text)) ≡ fault → StepDoes reading (session_with b output fault) answer old new
      → StepDoes reading (session_outcome b text) answer old new
  by_fault fault answer is = subst (λ (o : Option Complaint). StepDoes reading (session_with b output o) answer old new) (sym is)

  by_answer : (answered : Result ℕ ServeError) (left : List ℕ) → Ended answered text left
      → PutBehind b answered text left old.out.told new.out.told → HeldAs (stop_of_session answered)
      → CountsFaults old.input.faults new.input.faults (IsOk answered) (answered ≡ Err serve_error.ReadFault)
      → CountsFaults old.out.faults new.out.faults (IsOk answered) (answered ≡ Err serve_error.WriteFault)
      → StepDoes reading (session_outcome b text) (stop_of_session answered) old new
  by_answer (Ok n) left ended (more, is, all) held input out =
      by_fault None (Ok tt) (fault_of_whole (lines_of text) (answered_in text) ended.answered) (step_ended held (got more is all)
      (input.kept refl) (out.kept refl))
  by_answer (Err (serve_error.LongLine k)) left ended (more, is, all) held input out =
      by_fault (Some (complaint.LongLine k)) (Err (stop.Complaint (complaint.LongLine k))) (fault_of_long text k ended)
      (step_broken (complaint.LongLine k) refl held (got more is all))
  by_answer (Err serve_error.TooManyLines) left ended (more, is, all) held input out =
      by_fault (Some complaint.TooManyLines) (Err (stop.Complaint complaint.TooManyLines)) (fault_of_many text ended)
      (step_broken complaint.TooManyLines refl held (got more is all))
  by_answer (Err serve_error.ReadFault) left ended (more, is, (given, from, put, (n, among))) held input out =
      step_outside (session_fault (length (lines_of text)) (length (answered_in text))) held
      (front_put old.out.told new.out.told more output (length (replies b (take n (answered_in text)))) is (put
      ∙ ap (replies b) among ∙ replies_front b n (answered_in text)))
      (inl (input.rose refl))
  by_answer (Err serve_error.WriteFault) left ended told held input out =
      step_outside (session_fault (length (lines_of text)) (length (answered_in text))) held (front_told old.out.told new.out.told
      output told) (inr (out.rose refl))
  by_answer (Err serve_error.Memory) left ended (more, is, (n, put)) held input out =
      step_memory (session_fault (length (lines_of text)) (length (answered_in text))) held
      (front_put old.out.told new.out.told more output (length (replies b (take n (answered_in text)))) is (put
      ∙ replies_front b n (answered_in text)))

pub session_step : (b : List ℕ) (answered : Result ℕ ServeError) (old new : World) (reads new_reads : Metered) → new.shelf
    ≡ old.shelf → Serves b answered old.input.told new.input.told old.out.told new.out.told reads new_reads
    → CountsFaults old.input.faults new.input.faults (IsOk answered) (answered ≡ Err serve_error.ReadFault)
    → CountsFaults old.out.faults new.out.faults (IsOk answered) (answered ≡ Err serve_error.WriteFault)
    → StepOnText (session_outcome b) (stop_of_session answered) old new
session_step b answered old new reads new_reads shelf serves input out = inr (
  session_outcome b serves.text,
  (serves.text, shows_text old.input.told new.input.told serves.text serves.left serves.told, refl),
  by_answer b serves.text old new shelf answered serves.left serves.ended serves.put
      (record {
        answered = answered;
        ends = refl;
        ended_by = ended_by answered old new input out;
        reads = reads;
        new_reads =
            new_reads;
        serves = serves;
      }) input out,
)
