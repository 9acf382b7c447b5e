-- The lines of a text that begins with some lines and their newlines.
use Rattle.std.proofs.Common.{◌≡◌, ◌<◌, ◌≤◌, ◌-◌, ℕ, zero, suc, List, [], ◌∷◌, ◌++◌, All, Bool, true, false, rules}
use Rattle.std.proofs.Common.{refl, ap, ◌∙◌, length, take, arith, cond, append-nil}
use Rattle.std.specs.List.{onto_first, slice_split}
use Rattle.std.proofs.lemmas.Bool.{le-leb, lt-leb}
use Rattle.std.proofs.lemmas.List.{append_assoc, length-append}
use Rattle.std.proofs.lemmas.List.Elements.{All-head, All-tail}
use Rattle.std.proofs.lemmas.List.Splits.{length-slice_split, slice_split_at, slice_split_none, slice_split-cons_no}
use Rattle.std.proofs.lemmas.List.Sums.{take_while-cons}
use Rattle.jm_jrt.specs.Lines.{answered, but_empty_last, but_last, ended_lines, is_newline, is_short, last_line, lines_of}
use Rattle.jm_jrt.specs.Reply.{line}
use Rattle.jm_jrt.specs.Sessions.{IsFree, IsLine, joined}

-- the parts of a text that begins so

pub split_joined : (done : List (List ℕ)) (behind : List ℕ) → All IsLine done → slice_split is_newline (joined done ++ behind)
    ≡ done ++ slice_split is_newline behind
split_joined [] behind good = refl
split_joined (first ∷ done) behind good =
    ap (slice_split is_newline) (append_assoc (line first) (joined done) behind ∙ append_assoc first (10 ∷ []) (joined done ++ behind))
    ∙ slice_split_at is_newline first 10 (joined done ++ behind) (All-head IsLine first done good).free refl
    ∙ ap (λ parts. first ∷ parts) (split_joined done behind (All-tail IsLine first done good))

some_parts : (text : List ℕ) → 0 < length (slice_split is_newline text)
some_parts text = omega (arith, length-slice_split is_newline text)

but_empty_last-append : (front parts : List (List ℕ)) → 0 < length parts → but_empty_last (front ++ parts) ≡ front ++ but_empty_last parts
but_empty_last-append [] parts some = refl
but_empty_last-append (part ∷ []) [] some = absurd (omega arith)
but_empty_last-append (part ∷ []) (next ∷ parts) some = refl
but_empty_last-append (part ∷ other ∷ front) parts some = ap (λ (rest : List (List ℕ)). part ∷ rest)
    (but_empty_last-append (other ∷ front) parts some)

but_last-append : (front parts : List (List ℕ)) → 0 < length parts → but_last (front ++ parts) ≡ front ++ but_last parts
but_last-append [] parts some = refl
but_last-append (part ∷ []) [] some = absurd (omega arith)
but_last-append (part ∷ []) (next ∷ parts) some = refl
but_last-append (part ∷ other ∷ front) parts some = ap (λ (rest : List (List ℕ)). part ∷ rest) (but_last-append (other ∷ front) parts some)

-- its lines are these and those of what stands behind

pub lines_joined : (done : List (List ℕ)) (behind : List ℕ) → All IsLine done → lines_of (joined done ++ behind) ≡ done ++ lines_of behind
lines_joined done behind good = ap but_empty_last (split_joined done behind good)
    ∙ but_empty_last-append done (slice_split is_newline behind) (some_parts behind)

pub lines_part : (part : List ℕ) → IsFree part → lines_of part ≡ last_line part
lines_part part free = ap but_empty_last (slice_split_none is_newline part free)

-- and of those that ended, these alone where no newline stands behind

pub ended_joined : (done : List (List ℕ)) (part : List ℕ) → All IsLine done → IsFree part → ended_lines (joined done ++ part) ≡ done
ended_joined done part good free = search (rules, append-nil, slice_split_none, split_joined, some_parts, but_last-append)

-- one more line, by its newline

pub lines_next : (first rest : List ℕ) → IsLine first → lines_of (first ++ 10 ∷ rest) ≡ first ∷ lines_of rest
lines_next first rest good =
    ap but_empty_last (slice_split_at is_newline first 10 rest good.free refl)
    ∙ but_empty_last-append (first ∷ []) (slice_split is_newline rest) (some_parts rest)

-- a text begins with a line that is at least as long as a front without a newline

pub record Begins (front text : List ℕ) : Type 0 where
  pub first : List ℕ
  pub later : List (List ℕ)
  pub lines : lines_of text ≡ first ∷ later
  pub long : length front ≤ length first

split_front : (front rest part : List ℕ) (parts : List (List ℕ)) → IsFree front → slice_split is_newline rest ≡ part ∷ parts
    → slice_split is_newline (front ++ rest) ≡ (front ++ part) ∷ parts
split_front [] rest part parts free split = search (rules)
split_front (b ∷ front) rest part parts free split = search (rules, All-head, All-tail, slice_split-cons_no, (split_front front rest part parts (All-tail (λ c. is_newline c ≡ false) b front free) split))

pub line_begins : (front rest : List ℕ) → IsFree front → 0 < length front → Begins front (front ++ rest)
line_begins [] rest free some = absurd (omega arith)
line_begins (b ∷ front) rest free some = go (slice_split is_newline rest) refl
  where
    from : (part : List ℕ) (parts : List (List ℕ)) → lines_of (b ∷ front ++ rest) ≡ but_empty_last ((b ∷ front ++ part) ∷ parts)
        → Begins (b ∷ front) (b ∷ front ++ rest)
    from part [] lines = record { first = b ∷ front ++ part; later = []; lines = lines; long = omega (arith, length-append front part) }
    from part (next ∷ parts) lines = record {
      first = b ∷ front ++ part;
      later = but_empty_last (next ∷ parts);
      lines =
          lines;
      long = omega (arith, length-append front part);
    }

    go : (parts : List (List ℕ)) → slice_split is_newline rest ≡ parts → Begins (b ∷ front) (b ∷ front ++ rest)
    go [] split =
        let some = some_parts rest in let none : length (slice_split is_newline rest) ≡ 0 = ap length split in absurd (omega arith)
    go (part ∷ parts) split = from part parts (ap but_empty_last (split_front (b ∷ front) rest part parts free split))

-- a text of some bytes has a line

pub some_lines : (text : List ℕ) → 0 < length text → 0 < length (lines_of text)
some_lines [] some = absurd (omega arith)
some_lines (b ∷ text) some = go (is_newline b) (slice_split is_newline text) (some_parts text)
  where
    go : (test : Bool) (parts : List (List ℕ)) → 0 < length parts
        → 0 < length (but_empty_last (cond test ([] ∷ parts) (onto_first b parts)))
    go test [] none = absurd (omega arith)
    go true (part ∷ parts) more = omega arith
    go false (part ∷ []) more = omega arith
    go false (part ∷ next ∷ parts) more = omega arith

-- which lines are answered

pub answered_all : (most : ℕ) (done more : List (List ℕ)) → All IsLine done → length done ≤ most → answered most (done ++ more)
    ≡ done ++ answered (most - length done) more
answered_all most [] more good within = ap (λ (n : ℕ). answered n more) (omega arith)
answered_all zero (first ∷ done) more good within = absurd (omega arith)
answered_all (suc most) (first ∷ done) more good within =
    take_while-cons is_short first (take most (done ++ more))
    ∙ ap (λ test. cond test (first ∷ answered most (done ++ more)) []) (le-leb (length first) 8192 (All-head IsLine first done good).short)
    ∙ ap (λ (rest : List (List ℕ)). first ∷ rest) (answered_all most done more (All-tail IsLine first done good) (omega arith)
    ∙ ap (λ (n : ℕ). done ++ answered n more) (omega arith))

pub answered_long : (most : ℕ) (first : List ℕ) (more : List (List ℕ)) → 8192 < length first → answered most (first ∷ more) ≡ []
answered_long zero first more long = search (rules)
answered_long (suc most) first more long = search (rules, lt-leb, take_while-cons)

pub answered_nothing : (most : ℕ) → answered most [] ≡ []
answered_nothing zero = refl
answered_nothing (suc most) = refl
