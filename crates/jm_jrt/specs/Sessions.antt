-- What a session does (this project's rule).
use Rattle.std.specs.Prelude.{ℕ, ◌≡◌, ◌+◌, ◌*◌, ◌<◌, ◌≤◌, false, All, List, [], ◌∷◌, ◌++◌, length}
use Rattle.std.specs.Prelude.{take}
use Rattle.std.specs.Prelude.{flat_map, Option, option_map, Result, Ok, Err, OnOk}
use Rattle.jm_bytes.specs.Metered.{Metered, RisesAtMost}
use Rattle.jm_outside.specs.Outcome.{PutsFront, Told}
use Rattle.jm_jrt.specs.declared.serve_error.ServeError.{ServeError}
use Rattle.jm_jrt.specs.declared.serve_error.ServeError.TheVariants.{ReadFault, WriteFault}
use Rattle.jm_jrt.specs.declared.serve_error.ServeError.TheVariants.{LongLine, TooManyLines}
use Rattle.jm_jrt.specs.declared.serve_error.ServeError.TheVariants.{Memory}
use Rattle.jm_jrt.specs.Framed.{IsFramed}
use Rattle.jm_jrt.specs.Lines.{answered, ended_lines, is_newline, lines_bytes, lines_of, replies}
use Rattle.jm_jrt.specs.Reply.{IsWithin, line, reply}

-- The whole session

-- the lines of a text that are answered, of at most 1,000,000
abbrev pub answered_in : List ℕ → List (List ℕ)
answered_in text = answered 1000000 (lines_of text)

-- lines one behind another, each with its newline
abbrev pub joined : List (List ℕ) → List ℕ
joined lines = flat_map line lines

-- line k is the first of more than 8,192 bytes, and no later one than the 1,000,000th
pub record IsTooLong (k : ℕ) (text : List ℕ) : Type 0 where
  pub line : List ℕ
  pub later : List (List ℕ)
  pub lines : lines_of text ≡ answered_in text ++ line ∷ later
  pub number : k ≡ length (answered_in text) + 1
  pub within : k ≤ 1000000
  pub long : 8192 < length line

-- the first 1,000,000 lines are answered, and one more begins
pub record IsTooMany (text : List ℕ) : Type 0 where
  pub answered : length (answered_in text) ≡ 1000000
  pub more : 1000000 < length (lines_of text)

-- all lines were answered, and there is nothing left
pub record IsWhole (n : ℕ) (text left : List ℕ) : Type 0 where
  pub count : n ≡ length (lines_of text)
  pub answered : answered_in text ≡ lines_of text
  pub nothing : left ≡ []

-- why it ended, by the text that the source had and by what is left of it
abbrev pub Ended : Result ℕ ServeError → List ℕ → List ℕ → Type 0
Ended (Ok n) text left = IsWhole n text left
Ended (Err (LongLine k)) text left = IsTooLong k text
Ended (Err TooManyLines) text left = IsTooMany text
Ended (Err ReadFault) text left = Unit {0}
Ended (Err WriteFault) text left = Unit {0}
Ended (Err Memory) text left = Unit {0}

-- what was put: all replies; after a fault of the source, those to the lines whose newline it gave,
-- which are among those that are answered; after one of the sink a front of all; after want of
-- memory a front that ends with a reply
abbrev pub Put : List ℕ → Result ℕ ServeError → List ℕ → List ℕ → List ℕ → Type 0
Put b (Ok n) text left put = put ≡ replies b (answered_in text)
Put b (Err (LongLine k)) text left put = put ≡ replies b (answered_in text)
Put b (Err TooManyLines) text left put = put ≡ replies b (answered_in text)
Put b (Err ReadFault) text left put =
    (given : List ℕ) × (text ≡ given ++ left) × (put ≡ replies b (ended_lines given))
    × ((n : ℕ) × (ended_lines given ≡ take n (answered_in text)))
Put b (Err WriteFault) text left put = (n : ℕ) × (put ≡ take n (replies b (answered_in text)))
Put b (Err Memory) text left put = (n : ℕ) × (put ≡ replies b (take n (answered_in text)))

-- what the sink got behind what it had; a sink that failed may have begun to tell something
abbrev pub PutBehind : List ℕ → Result ℕ ServeError → List ℕ → List ℕ → Option (List ℕ)
    → Option (List ℕ) → Type 0
PutBehind b (Err WriteFault) text left out new_out =
    Told out new_out (λ old new. (more : List ℕ) × (new ≡ old ++ more)
    × Put b (Err WriteFault) text left more)
PutBehind b answer text left out new_out =
    (more : List ℕ) × (new_out ≡ option_map (λ old. old ++ more) out)
    × Put b answer text left more

-- the text is what the source gave and then what is left
abbrev pub IsParted : List ℕ → List ℕ → List ℕ → Type 0
IsParted text given left = text ≡ given ++ left

-- no byte of the text ends a line
abbrev pub IsFree : List ℕ → Type 0
IsFree text = All (λ b. is_newline b ≡ false) text

-- a line that is answered: without a newline, and of at most 8,192 bytes
pub record IsLine (text : List ℕ) : Type 0 where
  pub free : IsFree text
  pub short : length text ≤ 8192

-- the source gave the first lines that are answered, to which the sink has all replies, then the
-- beginning of one more, and after that no more than this many bytes
pub record GivesAtMost (most : ℕ) (b text given : List ℕ) (out new_out : Option (List ℕ))
    : Type 0 where
  pub count : ℕ
  pub lines : List (List ℕ)
  pub first : lines ≡ take count (answered_in text)
  pub put : Told out new_out
      (λ old new. (more : List ℕ) × (new ≡ old ++ (replies b lines ++ more)))
  pub begun : List ℕ
  pub rest : List ℕ
  pub is : given ≡ joined lines ++ (begun ++ rest)
  pub line : IsLine begun
  pub within : length rest ≤ most

-- how many bytes it gave at most after what was kept: none where it failed, and else one piece
abbrev pub piece_of : ServeError → ℕ
piece_of ReadFault = 0
piece_of WriteFault = 65536
piece_of Memory = 65536
piece_of (LongLine k) = 65536
piece_of TooManyLines = 65536

-- what the source gave is bounded, unless all lines were answered
abbrev pub Bounded : List ℕ → Result ℕ ServeError → List ℕ → List ℕ → Option (List ℕ)
    → Option (List ℕ) → Type 0
Bounded b (Ok n) text given out new_out = Unit {0}
Bounded b (Err error) text given out new_out =
    GivesAtMost (piece_of error) b text given out new_out

-- a session over the image's bytes: some text was served; it is what the source had, where that
-- tells its rest; and each reply tells a program where it ends
pub record Serves (b : List ℕ) (answer : Result ℕ ServeError)
    (rest new_rest out new_out : Option (List ℕ)) (old new : Metered) : Type 0 where
  pub text : List ℕ
  pub given : List ℕ
  pub left : List ℕ
  pub told : Told rest new_rest (λ old new. (old ≡ text) × (new ≡ left))
  pub parted : IsParted text given left
  pub bounded : Bounded b answer text given out new_out
  pub ended : Ended answer text left
  pub put : PutBehind b answer text left out new_out
  pub framed : All (λ request. IsFramed request (reply b request)) (answered_in text)
  pub reads : OnOk answer (IsWithin (lines_bytes b (lines_of text)) old new)

-- Its steps

-- what the sink tells, how many lines were answered, and the counters
pub record Moment : Type 0 where
  pub put : Option (List ℕ)
  pub lines : ℕ
  pub hashes : ℕ
  pub reads : Metered

-- what the sink tells, how many lines were answered, and the counters, together
abbrev pub moment : Option (List ℕ) → ℕ → ℕ → Metered → Moment
moment put lines hashes reads = record {
  put = put;
  lines = lines;
  hashes = hashes;
  reads = reads;
}

-- a line may go on: a line that has begun has a number and isn't too long
pub record IsOpen (lines : ℕ) (part : List ℕ) : Type 0 where
  pub free : IsFree part
  pub short : length part ≤ 8192
  pub within : lines ≤ 1000000
  pub numbered : 0 < length part → lines < 1000000

-- a line was answered, and none has begun
pub record IsAnswered (lines new_lines : ℕ) (text part : List ℕ) : Type 0 where
  pub within : lines < 1000000
  pub short : length text ≤ 8192
  pub next : new_lines ≡ lines + 1
  pub begun : part ≡ []

-- some lines at the front of a text were answered, and this part stands behind them
pub record Passes (b text : List ℕ) (old : Moment) (part : List ℕ) (new : Moment) : Type 0 where
  pub done : List (List ℕ)
  pub good : All IsLine done
  pub is : text ≡ joined done ++ part
  pub lines : new.lines ≡ old.lines + length done
  pub put : new.put ≡ option_map (λ put. put ++ replies b done) old.put
  pub hashes : RisesAtMost old.hashes new.hashes (4 * length done)
  pub reads : IsWithin (lines_bytes b done) old.reads new.reads

-- the source gave some bytes, and this part of them is a line that goes on
pub record Arrives (b : List ℕ) (rest new_rest : Option (List ℕ)) (old : Moment) (part : List ℕ)
    (new : Moment) : Type 0 where
  pub given : List ℕ
  pub told : Told rest new_rest (λ old new. old ≡ given ++ new)
  pub passes : Passes b given old part new
  pub goes_on : IsOpen new.lines part

-- a line of so many bytes behind so many lines is one too many or too long, or no memory was found
abbrev pub Refuses : ServeError → ℕ → ℕ → Type 0
Refuses (LongLine k) lines len = (lines < 1000000) × (8192 < len) × (k ≡ lines + 1)
Refuses TooManyLines lines len = lines ≡ 1000000
Refuses ReadFault lines len = ⊥
Refuses WriteFault lines len = ⊥
Refuses Memory lines len = Unit {0}

-- a reply wasn't put whole
abbrev pub PutFails : ServeError → List ℕ → Option (List ℕ) → Option (List ℕ) → Type 0
PutFails WriteFault reply put new_put = Told put new_put (λ old new. PutsFront old new reply)
PutFails Memory reply put new_put = new_put ≡ put
PutFails (LongLine k) reply put new_put = ⊥
PutFails TooManyLines reply put new_put = ⊥
PutFails ReadFault reply put new_put = ⊥

-- a line behind so many lines wasn't answered
abbrev pub LineFails : ServeError → List ℕ → ℕ → List ℕ → Option (List ℕ) → Option (List ℕ) → Type 0
LineFails WriteFault b lines text put new_put =
    (lines < 1000000) × (length text ≤ 8192) × PutFails WriteFault (reply b text) put new_put
LineFails Memory b lines text put new_put = new_put ≡ put
LineFails (LongLine k) b lines text put new_put =
    Refuses (LongLine k) lines (length text) × (new_put ≡ put)
LineFails TooManyLines b lines text put new_put = (lines ≡ 1000000) × (new_put ≡ put)
LineFails ReadFault b lines text put new_put = ⊥

-- a text begins with a line, or with what is too long for one
pub record BeginsWithLine (first text : List ℕ) : Type 0 where
  pub rest : List ℕ
  pub is : text ≡ first ++ 10 ∷ rest
  pub good : IsLine first

-- the text begins with more than 8,192 bytes of which none ends a line
pub record BeginsTooLong (text : List ℕ) : Type 0 where
  pub front : List ℕ
  pub rest : List ℕ
  pub is : text ≡ front ++ rest
  pub free : IsFree front
  pub long : 8192 < length front

-- no more lines of this text were answered
abbrev pub Fails : ServeError → List ℕ → ℕ → List ℕ → Option (List ℕ) → Option (List ℕ) → Type 0
Fails WriteFault b lines text put new_put =
    (line : List ℕ) × BeginsWithLine line text × (lines < 1000000)
    × Told put new_put (λ old new. PutsFront old new (reply b line))
Fails Memory b lines text put new_put = new_put ≡ put
Fails (LongLine k) b lines text put new_put =
    BeginsTooLong text × (lines < 1000000) × (k ≡ lines + 1) × (new_put ≡ put)
Fails TooManyLines b lines text put new_put =
    (0 < length text) × (lines ≡ 1000000) × (new_put ≡ put)
Fails ReadFault b lines text put new_put = ⊥

-- some lines at the front of a text were answered, and no more
pub record Breaks (error : ServeError) (b text : List ℕ) (old : Moment)
    (new_put : Option (List ℕ)) : Type 0 where
  pub done : List (List ℕ)
  pub behind : List ℕ
  pub good : All IsLine done
  pub is : text ≡ joined done ++ behind
  pub most : old.lines + length done ≤ 1000000
  pub fails : Fails error b (old.lines + length done) behind
      (option_map (λ put. put ++ replies b done) old.put) new_put
