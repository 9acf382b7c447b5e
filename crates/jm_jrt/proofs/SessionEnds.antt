-- What a session comes to, from how far it came.
use Rattle.std.proofs.Common.{◌≡◌, ◌<◌, ◌≤◌, ◌+◌, ◌-◌, ◌*◌, ℕ, List, [], ◌∷◌, ◌++◌, All, Option, Some, None, rules}
use Rattle.std.proofs.Common.{option_map, Ok, Err, refl, sym, ap, ◌∙◌, subst, length, take, arith, append-nil}
use Rattle.std.proofs.Math.Seq.{take-append-add, take-append_seam}
use Rattle.std.proofs.lemmas.List.{append_assoc, length-append, take-append-le}
use Rattle.std.proofs.lemmas.List.Elements.{All-push}
use Rattle.jm_bytes.specs.Metered.{Metered}
use Rattle.jm_outside.specs.Outcome.{PutsFront, Shows, Told}
use Rattle.jm_jrt.specs.declared.serve_error.ServeError.{ServeError}
use Rattle.jm_jrt.specs.declared.serve_error.ServeError.TheVariants.{ReadFault, WriteFault, LongLine, TooManyLines, Memory}
use Rattle.jm_jrt.specs.Lines.{answered, ended_lines, last_line, lines_bytes, lines_of, replies}
use Rattle.jm_jrt.specs.Reply.{IsWithin, line_bytes, reply}
use Rattle.jm_jrt.specs.Sessions.{Arrives, Breaks, Ended, IsFree, IsLine, IsOpen, IsTooLong, IsTooMany, piece_of}
use Rattle.jm_jrt.specs.Sessions.{Moment, Passes, Put, PutBehind, PutFails, Serves, answered_in, joined}
use Rattle.jm_jrt.proofs.FramedLaws.{all_framed}
use Rattle.jm_jrt.proofs.LineLaws.{Begins, answered_all, answered_long, answered_nothing, ended_joined}
use Rattle.jm_jrt.proofs.LineLaws.{line_begins, lines_joined, lines_next, lines_part, some_lines}
use Rattle.jm_jrt.proofs.SessionSteps.{breaks_at_once, breaks_more, breaks_then, passes_more, passes_then, put_then, replies_append}
use Rattle.jm_jrt.proofs.TakenLaws.{Cut, HasGot, cut_behind, gives_front, got_all, got_front, line_of, no_line, whole_part}
use Rattle.jm_jrt.proofs.WithinLaws.{within_append, within_one}

-- What is told of the source

abbrev pub left_of : Option (List ℕ) → List ℕ
left_of None = []
left_of (Some left) = left

told_left : (rest new_rest : Option (List ℕ)) (given : List ℕ) → Told rest new_rest (λ old new. old ≡ given ++ new)
    → Told rest new_rest (λ old new. (old ≡ given ++ left_of new_rest) × (new ≡ left_of new_rest))
told_left None new_rest given told = tt
told_left (Some old) None given told = absurd told
told_left (Some old) (Some new) given told = (told, refl)

pub told_then : (rest mid new_rest : Option (List ℕ)) (given piece : List ℕ) → Told rest mid (λ old new. old ≡ given ++ new)
    → Told mid new_rest (λ old new. old ≡ piece ++ new) → Told rest new_rest (λ old new. old ≡ (given ++ piece) ++ new)
told_then None mid new_rest given piece first second = tt
told_then (Some old) None new_rest given piece first second = absurd first
told_then (Some old) (Some now) None given piece first second = absurd second
told_then (Some old) (Some now) (Some new) given piece first second = first ∙ ap (λ (t : List ℕ). given ++ t) second
    ∙ sym (append_assoc given piece new)

-- nothing more came at the end
pub told_same : (rest mid new_rest : Option (List ℕ)) (given piece : List ℕ) (n : ℕ) → n ≡ 0 → Told rest mid (λ old new. old
    ≡ given ++ new) → Told mid new_rest (λ old new. old ≡ take n piece ++ new) → Told rest new_rest (λ old new. old ≡ given ++ new)
told_same rest mid new_rest given piece n none first second = search (rules, append-nil, told_then)

pub told_none : (rest mid new_rest : Option (List ℕ)) (given piece : List ℕ) (n : ℕ) → n ≡ 0 → Told rest mid (λ old new. old
    ≡ given ++ new) → Told mid new_rest (λ old new. old ≡ take n piece ++ new) → Shows mid (λ left. left ≡ [])
    → Told rest new_rest (λ old new. new ≡ [])
told_none None mid new_rest given piece n none first second ends = tt
told_none (Some old) None new_rest given piece n none first second ends = absurd first
told_none (Some old) (Some now) None given piece n none first second ends = absurd second
told_none (Some old) (Some now) (Some new) given piece n none first second ends = sym (sym ends ∙ second
    ∙ ap (λ (k : ℕ). take k piece ++ new) none)

told_end : (rest new_rest : Option (List ℕ)) (given : List ℕ) → Told rest new_rest (λ old new. old ≡ given ++ new)
    → Told rest new_rest (λ old new. new ≡ []) → Told rest new_rest (λ old new. (old ≡ given) × (new ≡ []))
told_end None new_rest given told ends = tt
told_end (Some old) None given told ends = absurd told
told_end (Some old) (Some new) given told ends = (told ∙ ap (λ (t : List ℕ). given ++ t) ends ∙ append-nil given, ends)

-- What is told of the sink

told_front : (out new_out : Option (List ℕ)) (first last : List ℕ) (P : List ℕ → Type 0)
    → Told (option_map (λ put. put ++ first) out) new_out (λ old new. PutsFront old new last) → ((n : ℕ) → n ≤ length last
    → P (first ++ take n last)) → Told out new_out (λ old new. (m : List ℕ) × (new ≡ old ++ m) × P m)
told_front None new_out first last P told from = search (rules)
told_front (Some old) None first last P told from = search (rules)
told_front (Some old) (Some new) first last P told from = search (rules, append_assoc)

-- Lines that were answered are those in front

answered_joined : (text : List ℕ) (done : List (List ℕ)) (more : List (List ℕ)) → lines_of text ≡ done ++ more → All IsLine done
    → length done ≤ 1000000 → answered_in text ≡ done ++ answered (1000000 - length done) more
answered_joined text done more lines good within = ap (answered 1000000) lines ∙ answered_all 1000000 done more good within

-- and they are the first that are answered
front_answered : (text : List ℕ) (done more : List (List ℕ)) → lines_of text ≡ done ++ more → All IsLine done → length done ≤ 1000000
    → done ≡ take (length done) (answered_in text)
front_answered text done more lines good within =
    sym (ap (take (length done)) (answered_joined text done more lines good within)
    ∙ take-append_seam done (answered (1000000 - length done) more))

-- a front of the replies, where one more line was due
front_put : (b : List ℕ) (done : List (List ℕ)) (first : List ℕ) (more : List (List ℕ)) (n : ℕ) → n ≤ length (reply b first)
    → replies b done ++ take n (reply b first) ≡ take (length (replies b done) + n) (replies b (done ++ first ∷ more))
front_put b done first more n within = search (rules, take-append-add, take-append-le, replies_append)

-- the line that is due is among those that are answered
due_answered : (text : List ℕ) (done : List (List ℕ)) (first : List ℕ) (later : List (List ℕ)) → lines_of text ≡ done ++ first
    ∷ later → All IsLine done → IsLine first → length done < 1000000 → answered_in text ≡ done ++ first
    ∷ answered (1000000 - length (done ++ first ∷ [])) later
due_answered text done first later lines good line within =
    answered_joined text (done ++ first ∷ []) later (lines ∙ sym (append_assoc done (first ∷ []) later)) (All-push IsLine done first
    good line) (omega (arith, length-append done (first ∷ [])))
    ∙ append_assoc done (first ∷ []) (answered (1000000 - length (done ++ first ∷ [])) later)

-- one more line was due, of whose reply a front was put
due_put : (b text : List ℕ) (done : List (List ℕ)) (first : List ℕ) (more : List (List ℕ)) (left : List ℕ) (out new_out : Option (List ℕ))
    → answered_in text ≡ done ++ first ∷ more
    → Told (option_map (λ put. put ++ replies b done) out) new_out (λ o n. PutsFront o n (reply b first))
    → PutBehind b (Err WriteFault) text left out new_out
due_put b text done first more left out new_out all told =
    told_front out new_out (replies b done) (reply b first) (λ m. Put b (Err WriteFault) text left m) told (λ n within. (
      length (replies b done) + n,
      front_put b done first more n within
          ∙ ap (λ (l : List (List ℕ)). take (length (replies b done) + n) (replies b l)) (sym all),
    ))

-- After a fault of the source

-- the lines that ended in what came are among those that are answered
given_answered : (given left part : List ℕ) (done : List (List ℕ)) → given ≡ joined done ++ part → All IsLine done
    → length done ≤ 1000000 → done ≡ take (length done) (answered_in (given ++ left))
given_answered given left part done is good within = search (rules, append_assoc, lines_joined, front_answered)

pub serves_given : (b : List ℕ) (rest new_rest : Option (List ℕ)) (old : Moment) (part : List ℕ) (new : Moment) (reads new_reads : Metered)
    → Arrives b rest new_rest old part new → Serves b (Err ReadFault) rest new_rest old.put new.put reads new_reads
serves_given b rest new_rest old part new reads new_reads arrives =
    let given = arrives.given in
    let passes = arrives.passes in
    let ended : ended_lines given ≡ passes.done = ap ended_lines passes.is
    ∙ ended_joined passes.done part passes.good arrives.goes_on.free in
    let first : passes.done ≡ take (length passes.done) (answered_in (given ++ left_of new_rest)) =
    given_answered given (left_of new_rest) part passes.done passes.is passes.good (omega arith) in
    record {
      text = given ++ left_of new_rest;
      given = given;
      left = left_of new_rest;
      told = told_left rest new_rest given arrives.told;
      parted = refl;
      bounded = gives_front 0 b (given ++ left_of new_rest) given passes.done part old.put new.put first
          (got_all (replies b passes.done) old.put new.put passes.put) passes.is (whole_part 0 part (line_of new.lines part arrives.goes_on));
      ended = tt;
      put = (
        replies b passes.done,
        passes.put,
        (given, refl, ap (replies b) (sym ended), (length passes.done, ended ∙ first)),
      );
      framed = all_framed b (answered_in (given ++ left_of new_rest));
      reads = tt;
    }

-- After a line that wasn't answered

module _ (b text : List ℕ) (old : Moment) (none : old.lines ≡ 0) (new_put : Option (List ℕ)) where
  lines_behind : (error : ServeError) (breaks : Breaks error b text old new_put) → lines_of text ≡ breaks.done ++ lines_of breaks.behind
  lines_behind error breaks = ap lines_of breaks.is ∙ lines_joined breaks.done breaks.behind breaks.good

  long_line : (k : ℕ) (breaks : Breaks (LongLine k) b text old new_put) → (IsTooLong k text) × (answered_in text ≡ breaks.done)
  long_line k breaks =
      let begins = breaks.fails.0 in
      let number = breaks.fails.2 in
      let long = begins.long in
      let front : Begins begins.front (begins.front ++ begins.rest) = line_begins begins.front begins.rest begins.free (omega arith) in
      let behind : lines_of breaks.behind ≡ front.first ∷ front.later = ap lines_of begins.is ∙ front.lines in
      let lines : lines_of text ≡ breaks.done ++ front.first ∷ front.later = lines_behind (LongLine k) breaks
      ∙ ap (λ (l : List (List ℕ)). breaks.done ++ l) behind in
      let all : answered_in text ≡ breaks.done =
      answered_joined text breaks.done (front.first ∷ front.later) lines breaks.good (omega arith)
      ∙ ap (λ (l : List (List ℕ)). breaks.done ++ l) (answered_long (1000000 - length breaks.done) front.first front.later
      (omega arith)) ∙ append-nil breaks.done
      in
      let count : length (answered_in text) ≡ length breaks.done = ap length all in (
        record {
          line = front.first;
          later = front.later;
          lines = lines ∙ ap (λ (l : List (List ℕ)). l ++ front.first ∷ front.later) (sym all);
          number = omega arith;
          within = omega arith;
          long = omega arith;
        },
        all,
      )

  many_lines : (breaks : Breaks TooManyLines b text old new_put) → (IsTooMany text) × (answered_in text ≡ breaks.done)
  many_lines breaks =
      let some = breaks.fails.0 in
      let lines = lines_behind TooManyLines breaks in
      let left : 1000000 - length breaks.done ≡ 0 = omega arith in
      let all : answered_in text ≡ breaks.done =
      answered_joined text breaks.done (lines_of breaks.behind) lines breaks.good (omega arith)
      ∙ ap (λ (n : ℕ). breaks.done ++ answered n (lines_of breaks.behind)) left ∙ append-nil breaks.done
      in
      let count : length (answered_in text) ≡ length breaks.done = ap length all in
      let counted : length (lines_of text) ≡ length (breaks.done ++ lines_of breaks.behind) = ap length lines in
      let sum = length-append breaks.done (lines_of breaks.behind) in
      let more = some_lines breaks.behind some in
      (record { answered = omega arith; more = omega arith }, all)

  ends_so : (error : ServeError) → Breaks error b text old new_put → (left : List ℕ) → Ended (Err error) text left
  ends_so ReadFault breaks left = tt
  ends_so WriteFault breaks left = tt
  ends_so Memory breaks left = tt
  ends_so (LongLine k) breaks left = (long_line k breaks).0
  ends_so TooManyLines breaks left = (many_lines breaks).0

  -- the sink has got the replies to all lines that were answered
  got_so : (error : ServeError) (breaks : Breaks error b text old new_put) → HasGot (replies b breaks.done) old.put new_put
  got_so ReadFault breaks = absurd breaks.fails
  got_so WriteFault breaks = got_front (replies b breaks.done) (reply b breaks.fails.0) old.put new_put breaks.fails.3
  got_so Memory breaks = got_all (replies b breaks.done) old.put new_put breaks.fails
  got_so (LongLine k) breaks = got_all (replies b breaks.done) old.put new_put breaks.fails.3
  got_so TooManyLines breaks = got_all (replies b breaks.done) old.put new_put breaks.fails.2

  -- and no more was taken than a piece
  cut_so : (error : ServeError) (breaks : Breaks error b text old new_put) → Cut 65536 breaks.behind → Cut (piece_of error) breaks.behind
  cut_so ReadFault breaks cut = absurd breaks.fails
  cut_so WriteFault breaks cut = cut
  cut_so Memory breaks cut = cut
  cut_so (LongLine k) breaks cut = cut
  cut_so TooManyLines breaks cut = cut

  first_so : (error : ServeError) (breaks : Breaks error b text old new_put) → breaks.done ≡ take (length breaks.done) (answered_in text)
  first_so error breaks =
      front_answered text breaks.done (lines_of breaks.behind) (lines_behind error breaks) breaks.good (omega arith)

  puts_so : (error : ServeError) → Breaks error b text old new_put → (left : List ℕ) → PutBehind b (Err error) text left old.put new_put
  puts_so ReadFault breaks left = absurd breaks.fails
  puts_so WriteFault breaks left =
      let first = breaks.fails.0 in
      let begins = breaks.fails.1 in
      let lines : lines_of text ≡ breaks.done ++ first ∷ lines_of begins.rest = lines_behind WriteFault breaks
      ∙ ap (λ (l : List ℕ). breaks.done ++ lines_of l) begins.is
      ∙ ap (λ (l : List (List ℕ)). breaks.done ++ l) (lines_next first begins.rest begins.good) in
      due_put b text breaks.done first (answered (1000000 - length (breaks.done ++ first ∷ [])) (lines_of begins.rest)) left old.put new_put
      (due_answered text breaks.done first (lines_of begins.rest) lines breaks.good begins.good (omega arith)) breaks.fails.3
  puts_so Memory breaks left =
      (replies b breaks.done, breaks.fails, (length breaks.done, ap (replies b) (first_so Memory breaks)))
  puts_so (LongLine k) breaks left =
      (replies b breaks.done, breaks.fails.3, ap (replies b) (sym (long_line k breaks).1))
  puts_so TooManyLines breaks left =
      (replies b breaks.done, breaks.fails.2, ap (replies b) (sym (many_lines breaks).1))

pub serves_broken : (error : ServeError) (b : List ℕ) (rest new_rest : Option (List ℕ)) (given : List ℕ) (old : Moment)
    (new_put : Option (List ℕ)) (reads new_reads : Metered) → old.lines ≡ 0 → Told rest new_rest (λ o n. o ≡ given ++ n)
    → (breaks : Breaks error b given old new_put) → Cut 65536 breaks.behind → Serves b (Err error) rest new_rest old.put
    new_put reads new_reads
serves_broken error b rest new_rest given old new_put reads new_reads none told breaks cut =
    let left = left_of new_rest in
    let text : List ℕ = given ++ left in
    let longer = breaks_more error b given old new_put left breaks in
    record {
      text = text;
      given = given;
      left = left;
      told = told_left rest new_rest given told;
      parted = refl;
      bounded = gives_front (piece_of error) b text given breaks.done breaks.behind old.put new_put
          (first_so b text old none new_put error longer) (got_so b text old none new_put error longer) breaks.is
          (cut_so b given old none new_put error breaks cut);
      ended = ends_so b text old none new_put error longer left;
      put = puts_so b text old none new_put error longer left;
      framed = all_framed b (answered_in text);
      reads = tt;
    }

pub told_start : (rest : Option (List ℕ)) → Told rest rest (λ old new. old ≡ [] ++ new)
told_start None = tt
told_start (Some rest) = refl

-- no memory was found at once
pub serves_nothing : (b : List ℕ) (rest : Option (List ℕ)) (old : Moment) (reads new_reads : Metered) → old.lines ≡ 0
    → Serves b (Err Memory) rest rest old.put old.put reads new_reads
serves_nothing b rest old reads new_reads none =
    serves_broken Memory b rest rest [] old old.put reads new_reads none (told_start rest) (breaks_at_once Memory b [] old old.put
    (omega arith) refl) (whole_part 65536 [] no_line)

-- After the last line

serves_whole : (b : List ℕ) (rest new_rest : Option (List ℕ)) (given : List ℕ) (lines : List (List ℕ)) (n : ℕ)
    (put new_put : Option (List ℕ)) (reads new_reads : Metered) → Told rest new_rest (λ o n. o ≡ given ++ n)
    → Told rest new_rest (λ o n. n ≡ []) → lines_of given ≡ lines → All IsLine lines → length lines ≤ 1000000 → n ≡ length lines
    → new_put ≡ option_map (λ text. text ++ replies b lines) put → IsWithin (lines_bytes b lines) reads new_reads
    → Serves b (Ok n) rest new_rest put new_put reads new_reads
serves_whole b rest new_rest given lines n put new_put reads new_reads told ends are good within count is cost =
    let all : answered_in given ≡ lines =
    answered_joined given lines [] (are ∙ sym (append-nil lines)) good within
    ∙ ap (λ (l : List (List ℕ)). lines ++ l) (answered_nothing (1000000 - length lines)) ∙ append-nil lines
    in
    record {
      text = given;
      given = given;
      left = [];
      told = told_end rest new_rest given told ends;
      parted = sym (append-nil given);
      bounded = tt;
      ended = record { count = count ∙ ap length (sym are); answered = all ∙ sym are; nothing = refl };
      put = (replies b lines, is, ap (replies b) (sym all));
      framed = all_framed b (answered_in given);
      reads = subst (λ (l : List (List ℕ)). IsWithin (lines_bytes b l) reads new_reads) (sym are) cost;
    }

-- no line had begun
pub serves_all : (b : List ℕ) (rest new_rest : Option (List ℕ)) (old : Moment) (part : List ℕ) (new : Moment) → old.lines ≡ 0
    → Arrives b rest new_rest old part new → Told rest new_rest (λ o n. n ≡ []) → part ≡ []
    → Serves b (Ok new.lines) rest new_rest old.put new.put old.reads new.reads
serves_all b rest new_rest old part new none arrives ends empty =
    let passes = arrives.passes in
    let are : lines_of arrives.given ≡ passes.done = ap lines_of passes.is ∙ ap (λ (t : List ℕ). lines_of (joined passes.done ++ t)) empty
    ∙ lines_joined passes.done [] passes.good ∙ append-nil passes.done in
    serves_whole b rest new_rest arrives.given passes.done new.lines old.put new.put old.reads new.reads arrives.told ends are passes.good
    (omega arith) (omega arith) passes.put passes.reads

last_lines : (b given part : List ℕ) (old new : Moment) (passes : Passes b given old part new) → IsFree part → 0 < length part
    → lines_of given ≡ passes.done ++ part ∷ []
last_lines b given part old new passes free some =
    ap lines_of passes.is ∙ lines_joined passes.done part passes.good ∙ ap (λ (l : List (List ℕ)). passes.done ++ l)
    (lines_part part free ∙ go part some)
  where
    go : (part : List ℕ) → 0 < length part → last_line part ≡ part ∷ []
    go [] some = absurd (omega arith)
    go (x ∷ part) some = refl

-- one had begun, and was answered
pub serves_last : (b : List ℕ) (rest new_rest : Option (List ℕ)) (old : Moment) (part : List ℕ) (new : Moment)
    (last_put : Option (List ℕ)) (last_reads : Metered) → old.lines ≡ 0 → Arrives b rest new_rest old part new
    → Told rest new_rest (λ o n. n ≡ []) → 0 < length part → last_put ≡ option_map (λ text. text ++ reply b part) new.put
    → IsWithin (line_bytes b part) new.reads last_reads
    → Serves b (Ok (new.lines + 1)) rest new_rest old.put last_put old.reads last_reads
serves_last b rest new_rest old part new last_put last_reads none arrives ends some put cost =
    let passes = arrives.passes in
    let below = arrives.goes_on.numbered some in
    let longer = length-append passes.done (part ∷ []) in
    serves_whole b rest new_rest arrives.given (passes.done ++ part ∷ []) (new.lines + 1) old.put last_put old.reads last_reads
    arrives.told ends (last_lines b arrives.given part old new passes arrives.goes_on.free some)
    (All-push IsLine passes.done part passes.good (line_of new.lines part arrives.goes_on)) (omega arith) (omega arith)
    (put ∙ ap (λ (more : List ℕ). option_map (λ text. text ++ more) new.put) (sym (append-nil (reply b part)))
    ∙ put_then b passes.done (part ∷ []) old.put new.put passes.put)
    (within_append b passes.done (part ∷ []) old.reads new.reads last_reads passes.reads (within_one b part new.reads last_reads cost))

-- one had begun, and wasn't
pub serves_not_last : (error : ServeError) (b : List ℕ) (rest new_rest : Option (List ℕ)) (old : Moment) (part : List ℕ) (new : Moment)
    (last_put : Option (List ℕ)) (reads new_reads : Metered) → old.lines ≡ 0 → Arrives b rest new_rest old part new
    → Told rest new_rest (λ o n. n ≡ []) → 0 < length part → PutFails error (reply b part) new.put last_put
    → Serves b (Err error) rest new_rest old.put last_put reads new_reads
serves_not_last error b rest new_rest old part new last_put reads new_reads none arrives ends some fails = go error fails
  where
    given : List ℕ
    given = arrives.given

    passes : Passes b given old part new
    passes = arrives.passes

    later : List (List ℕ)
    later = answered (1000000 - length (passes.done ++ part ∷ [])) []

    all : answered_in given ≡ passes.done ++ part ∷ later
    all =
        let count = passes.lines in
        let below = arrives.goes_on.numbered some in
        due_answered given passes.done part [] (last_lines b given part old new passes arrives.goes_on.free some) passes.good
        (line_of new.lines part arrives.goes_on) (omega arith)

    first : passes.done ≡ take (length passes.done) (answered_in given)
    first = sym (ap (take (length passes.done)) all ∙ take-append_seam passes.done (part ∷ later))

    ends_with : (error : ServeError) → HasGot (replies b passes.done) old.put last_put → Ended (Err error) given []
        → PutBehind b (Err error) given [] old.put last_put → Serves b (Err error) rest new_rest old.put last_put reads new_reads
    ends_with error got ended puts = record {
      text = given;
      given = given;
      left = [];
      told = told_end rest new_rest given arrives.told ends;
      parted = sym (append-nil given);
      bounded = gives_front (piece_of error) b given given passes.done part old.put last_put first got passes.is
          (whole_part (piece_of error) part (line_of new.lines part arrives.goes_on));
      ended = ended;
      put = puts;
      framed = all_framed b (answered_in given);
      reads = tt;
    }

    go : (error : ServeError) → PutFails error (reply b part) new.put last_put
        → Serves b (Err error) rest new_rest old.put last_put reads new_reads
    go ReadFault fails = absurd fails
    go (LongLine k) fails = absurd fails
    go TooManyLines fails = absurd fails
    go WriteFault fails =
        let told = subst (λ (put : Option (List ℕ)). Told put last_put (λ o n. PutsFront o n (reply b part))) passes.put fails in
        ends_with WriteFault (got_front (replies b passes.done) (reply b part) old.put last_put told) tt
        (due_put b given passes.done part later [] old.put last_put all told)
    go Memory fails =
        let put = fails ∙ passes.put in
        ends_with Memory (got_all (replies b passes.done) old.put last_put put) tt
        (replies b passes.done, put, (length passes.done, ap (replies b) first))

-- Each piece brings a session further

module _ (b : List ℕ) (rest mid new_rest : Option (List ℕ)) (old : Moment) (part : List ℕ) (now : Moment) (bytes taken : List ℕ)
    (arrives : Arrives b rest mid old part now) (told : Told mid new_rest (λ o n. o ≡ taken ++ n)) (is : bytes ≡ taken) where
  told_on : Told rest new_rest (λ o n. o ≡ (arrives.given ++ bytes) ++ n)
  told_on = told_then rest mid new_rest arrives.given bytes arrives.told
      (subst (λ (t : List ℕ). Told mid new_rest (λ o n. o ≡ t ++ n)) (sym is) told)

  passed_so : Passes b (arrives.given ++ bytes) old (part ++ bytes) now
  passed_so = passes_more b arrives.given old part now bytes arrives.passes

  pub arrives_more : (new_part : List ℕ) (new : Moment) → Passes b (part ++ bytes) now new_part new → IsOpen new.lines new_part
      → Arrives b rest new_rest old new_part new
  arrives_more new_part new passes goes_on = record {
    given = arrives.given ++ bytes;
    told = told_on;
    passes = passes_then b (arrives.given ++ bytes) old (part ++ bytes) now new_part new passed_so passes;
    goes_on = goes_on;
  }

  pub serves_stopped : (error : ServeError) (new_put : Option (List ℕ)) (reads new_reads : Metered) → old.lines ≡ 0
      → length bytes ≤ 65536 → Breaks error b (part ++ bytes) now new_put
      → Serves b (Err error) rest new_rest old.put new_put reads new_reads
  serves_stopped error new_put reads new_reads none short breaks =
      serves_broken error b rest new_rest (arrives.given ++ bytes) old new_put reads new_reads none told_on
      (breaks_then error b (arrives.given ++ bytes) old (part ++ bytes) now new_put passed_so breaks)
      (cut_behind breaks.done breaks.behind part bytes breaks.is (line_of now.lines part arrives.goes_on) short)

pub comes_further : (b part piece new_part : List ℕ) (old new : Moment) → Passes b (part ++ piece) old new_part new
    → IsOpen old.lines part → 0 < length piece → 8193 * old.lines + length part < 8193 * new.lines + length new_part
comes_further b part piece new_part old new passes further_on some = go passes.done passes.is passes.lines
  where
    go : (done : List (List ℕ)) → part ++ piece ≡ joined done ++ new_part → new.lines ≡ old.lines + length done → 8193 * old.lines
        + length part < 8193 * new.lines + length new_part
    go [] is lines =
        let sum = length-append part piece in
        let same : length (part ++ piece) ≡ length new_part = ap length is in
        omega arith
    go (first ∷ done) is lines = omega arith
