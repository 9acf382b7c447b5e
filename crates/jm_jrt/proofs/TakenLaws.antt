-- What a session took of its source, and what the sink has got at least.
use Rattle.std.proofs.Common.{◌≡◌, ◌≤◌, ℕ, List, [], ◌∷◌, ◌++◌, Option, Some, None, option_map, rules}
use Rattle.std.proofs.Common.{false, refl, sym, ap, ◌∙◌, subst, length, take, arith, append-nil}
use Rattle.std.proofs.lemmas.Bool.{false≢true}
use Rattle.std.proofs.lemmas.List.{append_assoc, length-append}
use Rattle.std.proofs.lemmas.List.Elements.{All-head, All-nil, All-tail}
use Rattle.jm_outside.specs.Outcome.{PutsFront, Told}
use Rattle.jm_jrt.specs.Lines.{is_newline, replies}
use Rattle.jm_jrt.specs.Reply.{line}
use Rattle.jm_jrt.specs.Sessions.{GivesAtMost, IsFree, IsLine, IsOpen, answered_in, joined}

-- What stands behind the lines that a piece ends

-- a part of a line ends no later than the line
free_before : (part piece first behind : List ℕ) → IsFree part → part ++ piece ≡ first ++ 10 ∷ behind → length part ≤ length first
free_before [] piece first behind free is = omega arith
free_before (x ∷ part) piece [] behind free is =
    absurd (false≢true (sym (All-head (λ b. is_newline b ≡ false) x part free) ∙ ap is_newline (ap (λ t. head_or t) is)))
  where
    head_or : List ℕ → ℕ
    head_or [] = 0
    head_or (y ∷ ys) = y
free_before (x ∷ part) piece (y ∷ first) behind free is =
    let shorter = free_before part piece first behind (All-tail (λ b. is_newline b ≡ false) x part free) (ap tail_of is) in
    omega arith
  where
    tail_of : List ℕ → List ℕ
    tail_of [] = []
    tail_of (z ∷ zs) = zs

-- the beginning of a line that was kept, and no more than so many bytes
pub record Cut (most : ℕ) (behind : List ℕ) : Type 0 where
  pub begun : List ℕ
  pub rest : List ℕ
  pub is : behind ≡ begun ++ rest
  pub line : IsLine begun
  pub within : length rest ≤ most

pub no_line : IsLine []
no_line = record { free = All-nil (λ b. is_newline b ≡ false); short = omega arith }

pub line_of : (lines : ℕ) (part : List ℕ) → IsOpen lines part → IsLine part
line_of lines part goes_on = record { free = goes_on.free; short = goes_on.short }

pub whole_part : (most : ℕ) (part : List ℕ) → IsLine part → Cut most part
whole_part most part line =
    record { begun = part; rest = []; is = sym (append-nil part); line = line; within = omega arith }

-- where no line ended in the piece, the part that was kept and all of the piece; or else some of the piece
pub cut_behind : (done : List (List ℕ)) (behind part piece : List ℕ) → part ++ piece ≡ joined done ++ behind → IsLine part
    → length piece ≤ 65536 → Cut 65536 behind
cut_behind [] behind part piece is kept short = record {
  begun = part;
  rest = piece;
  is = sym is;
  line = kept;
  within = short;
}
cut_behind (first ∷ done) behind part piece is kept short =
    let whole : part ++ piece ≡ first ++ 10 ∷ (joined done ++ behind) = is ∙ append_assoc (line first) (joined done) behind
    ∙ append_assoc first (10 ∷ []) (joined done ++ behind) in
    let before = free_before part piece first (joined done ++ behind) kept.free whole in
    let same : length (part ++ piece) ≡ length (first ++ 10 ∷ (joined done ++ behind)) = ap length whole in
    let left = length-append part piece in
    let right = length-append first (10 ∷ (joined done ++ behind)) in
    let behind_done = length-append (joined done) behind in
    record {
      begun = [];
      rest = behind;
      is = refl;
      line = no_line;
      within = omega arith;
    }

-- What the sink has got

-- it has at least this text
abbrev pub HasGot : List ℕ → Option (List ℕ) → Option (List ℕ) → Type 0
HasGot text out new_out = Told out new_out (λ old new. (more : List ℕ) × (new ≡ old ++ (text ++ more)))

pub got_all : (text : List ℕ) (out new_out : Option (List ℕ)) → new_out ≡ option_map (λ put. put ++ text) out
    → HasGot text out new_out
got_all text None new_out is = tt
got_all text (Some old) new_out is =
    subst (HasGot text (Some old)) (sym is) ([], ap (λ (t : List ℕ). old ++ t) (sym (append-nil text)))

pub got_front : (text last : List ℕ) (out new_out : Option (List ℕ)) → Told (option_map (λ put. put ++ text) out) new_out
    (λ old new. PutsFront old new last) → HasGot text out new_out
got_front text last None new_out told = tt
got_front text last (Some old) None told = absurd told
got_front text last (Some old) (Some new) told = (take told.0 last, told.2 ∙ append_assoc old text (take told.0 last))

-- so the source gave the first lines that are answered, and no more than was cut off behind them
pub gives_front : (most : ℕ) (b text given : List ℕ) (done : List (List ℕ)) (behind : List ℕ) (out new_out : Option (List ℕ))
    → done ≡ take (length done) (answered_in text) → HasGot (replies b done) out new_out → given ≡ joined done ++ behind
    → Cut most behind → GivesAtMost most b text given out new_out
gives_front most b text given done behind out new_out first put is cut = search (rules)
