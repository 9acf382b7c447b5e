-- A session goes on: what its steps do, put together.
use Rattle.std.proofs.Common.{◌≡◌, ◌<◌, ◌≤◌, ◌+◌, ℕ, List, [], ◌∷◌, ◌++◌, Option, Some, None, option_map, rules}
use Rattle.std.proofs.Common.{refl, sym, ap, ◌∙◌, subst, length, arith, append-nil, true, false}
use Rattle.std.specs.List.{after_first, before_first, list_any}
use Rattle.std.proofs.lemmas.Grind.{flat_map-append}
use Rattle.std.proofs.lemmas.List.{append_assoc, length-append}
use Rattle.std.proofs.lemmas.List.Elements.{All-append, All-cons, All-nil}
use Rattle.jm_bytes.specs.Metered.{RisesAtMost}
use Rattle.jm_jrt.specs.declared.serve_error.ServeError.{ServeError}
use Rattle.jm_jrt.specs.declared.serve_error.ServeError.TheVariants.{ReadFault, WriteFault, LongLine, TooManyLines, Memory}
use Rattle.jm_jrt.specs.Lines.{is_newline, replies}
use Rattle.jm_jrt.specs.Reply.{IsWithin, line, line_bytes, reply}
use Rattle.jm_jrt.specs.Sessions.{BeginsTooLong, BeginsWithLine, Breaks, Fails, IsAnswered, IsFree, IsLine, IsOpen, LineFails, Moment, Passes}
use Rattle.jm_jrt.specs.Sessions.{Refuses, joined}
use Rattle.jm_jrt.proofs.FreeLaws.{front_free, whole_cut}
use Rattle.jm_jrt.proofs.WithinLaws.{within_append, within_nothing, within_one}

-- What was put

pub put_nothing : (put : Option (List ℕ)) → put ≡ option_map (λ text. text ++ []) put
put_nothing None = refl
put_nothing (Some text) = ap (λ (t : List ℕ). Some t) (sym (append-nil text))

pub put_twice : (put : Option (List ℕ)) (first second : List ℕ) → option_map (λ text. text ++ second)
    (option_map (λ text. text ++ first) put) ≡ option_map (λ text. text ++ (first ++ second)) put
put_twice None first second = refl
put_twice (Some text) first second = ap (λ (t : List ℕ). Some t) (append_assoc text first second)

pub replies_append : (b : List ℕ) (front lines : List (List ℕ)) → replies b (front ++ lines) ≡ replies b front ++ replies b lines
replies_append b front lines = flat_map-append (reply b) front lines

pub put_then : (b : List ℕ) (front lines : List (List ℕ)) (old now : Option (List ℕ)) → now
    ≡ option_map (λ text. text ++ replies b front) old → option_map (λ text. text ++ replies b lines) now
    ≡ option_map (λ text. text ++ replies b (front ++ lines)) old
put_then b front lines old now put =
    ap (option_map (λ text. text ++ replies b lines)) put ∙ put_twice old (replies b front) (replies b lines)
    ∙ ap (λ (more : List ℕ). option_map (λ text. text ++ more) old) (sym (replies_append b front lines))

-- Texts

pub joined_append : (front lines : List (List ℕ)) (text : List ℕ) → joined (front ++ lines) ++ text ≡ joined front ++ (joined lines ++ text)
joined_append front lines text = ap (λ (t : List ℕ). t ++ text) (flat_map-append line front lines)
    ∙ append_assoc (joined front) (joined lines) text

joined_one : (first text : List ℕ) → joined (first ∷ []) ++ text ≡ first ++ 10 ∷ text
joined_one first text = ap (λ (t : List ℕ). t ++ text) (append-nil (line first)) ∙ append_assoc first (10 ∷ []) text

-- Lines that were answered

pub passes_nothing : (b text : List ℕ) (old : Moment) → Passes b text old text old
passes_nothing b text old = search (rules, All-nil, within_nothing, put_nothing)

pub passes_then : (b text : List ℕ) (old : Moment) (behind : List ℕ) (now : Moment) (part : List ℕ) (new : Moment)
    → Passes b text old behind now → Passes b behind now part new → Passes b text old part new
passes_then b text old behind now part new first second =
    let count = length-append first.done second.done in
    record {
      done = first.done ++ second.done;
      good = All-append IsLine first.done second.done first.good second.good;
      is = first.is ∙ ap (λ (t : List ℕ). joined first.done ++ t) second.is ∙ sym (joined_append first.done second.done part);
      lines = omega arith;
      put = second.put ∙ put_then b first.done second.done old.put now.put first.put;
      hashes = record { least = omega arith; most = omega arith };
      reads = within_append b first.done second.done old.reads now.reads new.reads first.reads second.reads;
    }

pub passes_more : (b text : List ℕ) (old : Moment) (part : List ℕ) (new : Moment) (more : List ℕ) → Passes b text old part new
    → Passes b (text ++ more) old (part ++ more) new
passes_more b text old part new more passes = search (rules, append_assoc)

-- one line
pub passes_line : (b first rest : List ℕ) (old new : Moment) → IsLine first → new.lines ≡ old.lines + 1 → new.put
    ≡ option_map (λ text. text ++ reply b first) old.put → RisesAtMost old.hashes new.hashes 4
    → IsWithin (line_bytes b first) old.reads new.reads → Passes b (first ++ 10 ∷ rest) old rest new
passes_line b first rest old new good next put hashes reads = record {
  done = first ∷ [];
  good = All-cons IsLine first [] good (All-nil IsLine);
  is = sym (joined_one first rest);
  lines = next;
  put = put ∙ ap (λ (more : List ℕ). option_map (λ text. text ++ more) old.put) (sym (append-nil (reply b first)));
  hashes = hashes;
  reads = within_one b first old.reads new.reads reads;
}

-- Lines that weren't

long_more : (text more : List ℕ) → BeginsTooLong text → BeginsTooLong (text ++ more)
long_more text more begins = search (rules, append_assoc)

line_more : (first text more : List ℕ) → BeginsWithLine first text → BeginsWithLine first (text ++ more)
line_more first text more begins = search (rules, append_assoc)

pub fails_more : (error : ServeError) (b : List ℕ) (lines : ℕ) (text more : List ℕ) (put new_put : Option (List ℕ))
    → Fails error b lines text put new_put → Fails error b lines (text ++ more) put new_put
fails_more WriteFault b lines text more put new_put fails = (fails.0, line_more fails.0 text more fails.1, fails.2, fails.3)
fails_more Memory b lines text more put new_put fails = fails
fails_more (LongLine k) b lines text more put new_put fails = (long_more text more fails.0, fails.1, fails.2, fails.3)
fails_more TooManyLines b lines text more put new_put fails =
    (omega (arith, length-append text more), fails.1, fails.2)
fails_more ReadFault b lines text more put new_put none = absurd none

abbrev pub breaks_more : (error : ServeError) (b text : List ℕ) (old : Moment) (new_put : Option (List ℕ)) (more : List ℕ)
    → Breaks error b text old new_put → Breaks error b (text ++ more) old new_put
breaks_more error b text old new_put more breaks = record {
  done = breaks.done;
  behind = breaks.behind ++ more;
  good = breaks.good;
  is = ap (λ (t : List ℕ). t ++ more) breaks.is ∙ append_assoc (joined breaks.done) breaks.behind more;
  most = breaks.most;
  fails = fails_more error b (old.lines + length breaks.done) breaks.behind more (option_map (λ put. put ++ replies b breaks.done)
      old.put) new_put breaks.fails;
}

abbrev pub breaks_then : (error : ServeError) (b text : List ℕ) (old : Moment) (behind : List ℕ) (now : Moment)
    (new_put : Option (List ℕ)) → Passes b text old behind now → Breaks error b behind now new_put → Breaks error b text old new_put
breaks_then error b text old behind now new_put passes breaks =
    let done : List (List ℕ) = passes.done ++ breaks.done in
    let count = length-append passes.done breaks.done in
    let lines : now.lines + length breaks.done ≡ old.lines + length done = omega arith in
    record {
      done = done;
      behind = breaks.behind;
      good = All-append IsLine passes.done breaks.done passes.good breaks.good;
      is = passes.is ∙ ap (λ (t : List ℕ). joined passes.done ++ t) breaks.is ∙ sym (joined_append passes.done breaks.done breaks.behind);
      most = omega arith;
      fails = subst (λ (n : ℕ). Fails error b n breaks.behind (option_map (λ put. put ++ replies b done) old.put) new_put) lines
          (subst (λ (put : Option (List ℕ)). Fails error b (now.lines + length breaks.done) breaks.behind put new_put)
          (put_then b passes.done breaks.done old.put now.put passes.put) breaks.fails);
    }

abbrev pub breaks_at_once : (error : ServeError) (b text : List ℕ) (old : Moment) (new_put : Option (List ℕ)) → old.lines ≤ 1000000
    → Fails error b old.lines text old.put new_put → Breaks error b text old new_put
breaks_at_once error b text old new_put within fails = record {
  done = [];
  behind = text;
  good = All-nil IsLine;
  is = refl;
  most = omega arith;
  fails = subst (λ (n : ℕ). Fails error b n text (option_map (λ put. put ++ []) old.put) new_put) (omega arith)
      (subst (λ (put : Option (List ℕ)). Fails error b old.lines text put new_put) (put_nothing old.put) fails);
}

-- the line in front of a newline
pub breaks_line : (error : ServeError) (b first rest : List ℕ) (old : Moment) (new_put : Option (List ℕ)) → old.lines ≤ 1000000
    → IsFree first → LineFails error b old.lines first old.put new_put → Breaks error b (first ++ 10 ∷ rest) old new_put
breaks_line error b first rest old new_put within free fails = breaks_at_once error b (first ++ 10 ∷ rest) old new_put within
    (go error fails)
  where
    go : (error : ServeError) → LineFails error b old.lines first old.put new_put → Fails error b old.lines (first ++ 10 ∷ rest)
        old.put new_put
    go WriteFault fails = (first, record { rest = rest; is = refl; good = record { free = free; short = fails.1 } }, fails.0, fails.2)
    go Memory fails = fails
    go (LongLine k) fails = (
      record { front = first; rest = 10 ∷ rest; is = refl; free = free; long = fails.0.1 },
      fails.0.0,
      fails.0.2,
      fails.1,
    )
    go TooManyLines fails = (omega (arith, length-append first (10 ∷ rest)), fails.0, fails.1)
    go ReadFault none = absurd none

-- what stands behind the last newline
pub breaks_part : (error : ServeError) (b part : List ℕ) (old : Moment) → old.lines ≤ 1000000 → IsFree part → 0 < length part
    → Refuses error old.lines (length part) → Breaks error b part old old.put
breaks_part error b part old within free some refuses = breaks_at_once error b part old old.put within (go error refuses)
  where
    go : (error : ServeError) → Refuses error old.lines (length part) → Fails error b old.lines part old.put old.put
    go WriteFault none = absurd none
    go Memory refuses = refl
    go (LongLine k) refuses = (
      record { front = part; rest = []; is = sym (append-nil part); free = free; long = refuses.1 },
      refuses.0,
      refuses.2,
      refl,
    )
    go TooManyLines refuses = (some, refuses, refl)
    go ReadFault none = absurd none

-- A line that ends in a piece, behind a part that was kept

pub empty_part : (lines : ℕ) (part : List ℕ) → part ≡ [] → lines ≤ 1000000 → IsOpen lines part
empty_part lines part empty within = search (rules, All-nil)

module _ (b text : List ℕ) (old : Moment) (part rest front behind : List ℕ) (now : Moment) (goes_on : IsOpen now.lines part)
    (passes : Passes b text old (part ++ rest) now) (some : list_any is_newline rest ≡ true)
    (before : front ≡ before_first is_newline rest) (after : behind ≡ after_first is_newline rest) where
  next_free : IsFree (part ++ front)
  next_free = All-append (λ x. is_newline x ≡ false) part front goes_on.free (front_free rest front before)

  next_cut : Passes b text old ((part ++ front) ++ 10 ∷ behind) now
  next_cut = search (rules, append_assoc, whole_cut)

  pub next_breaks : (error : ServeError) (new_put : Option (List ℕ)) → LineFails error b now.lines (part ++ front) now.put new_put
      → Breaks error b text old new_put
  next_breaks error new_put fails =
      breaks_then error b text old ((part ++ front) ++ 10 ∷ behind) now new_put next_cut
      (breaks_line error b (part ++ front) behind now new_put goes_on.within next_free fails)

  pub next_passes : (new : Moment) (new_part : List ℕ) → IsAnswered now.lines new.lines (part ++ front) new_part
      → new.put ≡ option_map (λ text. text ++ reply b (part ++ front)) now.put → RisesAtMost now.hashes new.hashes 4
      → IsWithin (line_bytes b (part ++ front)) now.reads new.reads → Passes b text old (new_part ++ behind) new
  next_passes new new_part answered put hashes reads = grind (arith, passes_then, passes_line, next_free, next_cut)
