-- The lines of a manifest as they are cut one by one, and what they say of the last that is named.
use Rattle.std.proofs.Common.{◌≡◌, ◌↔◌, ℕ, suc, ◌+◌, ◌<◌, nat_eq, nat_lt, ◌==◌, ◌||◌, ◌&&◌, not, Bool, true, false, cond}
use Rattle.std.proofs.Common.{List, [], ◌∷◌, length, take, drop, map, codes, refl, sym, ap, ◌∙◌, subst, arith, IsTrue, ◌≤◌}
use Rattle.std.proofs.lemmas.Bool.{eqb-true, false≢true, and_parts, false_from_ne_true}
use Rattle.std.proofs.lemmas.Bool.Decides.{nat_tests}
use Rattle.std.proofs.lemmas.List.Sums.{take_while-cons}
use Rattle.std.proofs.lemmas.Slice.Eq.{bytes_eq-Decides}
use Rattle.std.specs.Char.{to_ascii_lowercase}
use Rattle.std.specs.List.{before_first, list_any, position_or_len, take_while, take-map}
use Rattle.std.specs.Str.{bytes_eq}
use Rattle.jm_archive.specs.Manifest.{Line, after_end, continues, is_blank, is_continued, is_end, is_named}
use Rattle.jm_archive.specs.Manifest.{is_true, lines, lowered, onto_line, says}

-- Lines

-- a CR at the front, by whether LF stands behind it
cr_ends : (bytes : List ℕ) → lines (13 ∷ bytes) ≡ record { text = []; is_ended = true } ∷ lines (after_end (13 ∷ bytes))
cr_ends [] = refl
cr_ends (next ∷ bytes) = go (nat_eq 10 next) refl
  where
    go : (b : Bool) → nat_eq 10 next ≡ b
        → lines (13 ∷ next ∷ bytes) ≡ record { text = []; is_ended = true } ∷ lines (after_end (13 ∷ next ∷ bytes))
    go true e = let is : 10 ≡ next = eqb-true 10 next e in subst (λ n. lines (13 ∷ n ∷ bytes)
        ≡ record { text = []; is_ended = true } ∷ lines (after_end (13 ∷ n ∷ bytes))) is refl
    go false e = rw e refl

-- the first line of a text in which one ends
pub lines_ended : (bytes : List ℕ) → list_any is_end bytes ≡ true
    → lines bytes ≡ record { text = before_first is_end bytes; is_ended = true } ∷ lines (after_end (drop (position_or_len is_end bytes) bytes))
lines_ended [] some = cc
lines_ended (byte ∷ bytes) some = go (byte == 10) refl (byte == 13) refl (lines_ended bytes)
  where
    go : (lf : Bool) → (byte == 10) ≡ lf → (cr : Bool) → (byte == 13) ≡ cr
        → (list_any is_end bytes ≡ true
        → lines bytes ≡ record { text = before_first is_end bytes; is_ended = true } ∷ lines (after_end (drop (position_or_len is_end bytes) bytes)))
        → lines (byte ∷ bytes) ≡ record { text = before_first is_end (byte ∷ bytes); is_ended = true }
        ∷ lines (after_end (drop (position_or_len is_end (byte ∷ bytes)) (byte ∷ bytes)))
    go true e cr f rest = let is : byte ≡ 10 = eqb-true byte 10 e in rw is refl
    go false e true f rest = let is : byte ≡ 13 = eqb-true byte 13 f in rw is (cr_ends bytes)
    go false e false f rest =
        let more : list_any is_end bytes ≡ true = rw (e, f) at some in
        let place : suc (position_or_len is_end bytes) ≡ 1 + position_or_len is_end bytes = omega arith in
        rw (e, f) (ap (onto_line byte) (rest more)
        ∙ ap (λ k. record { text = take k (byte ∷ bytes); is_ended = true } ∷ lines (after_end (drop k (byte ∷ bytes)))) place)

-- a text as one line that nothing ends, where it has a byte
abbrev whole : List ℕ → List Line
whole [] = []
whole (byte ∷ bytes) = record { text = byte ∷ bytes; is_ended = false } ∷ []

onto_whole : (byte : ℕ) (bytes : List ℕ) → onto_line byte (whole bytes) ≡ whole (byte ∷ bytes)
onto_whole byte [] = refl
onto_whole byte (next ∷ bytes) = refl

one_line : (bytes : List ℕ) → list_any is_end bytes ≡ false → lines bytes ≡ whole bytes
one_line [] none = refl
one_line (byte ∷ bytes) none = go (byte == 10) refl (byte == 13) refl none (one_line bytes)
  where
    go : (lf : Bool) → (byte == 10) ≡ lf → (cr : Bool) → (byte == 13) ≡ cr → ((lf || cr) || list_any is_end bytes) ≡ false
        → (list_any is_end bytes ≡ false → lines bytes ≡ whole bytes) → lines (byte ∷ bytes) ≡ whole (byte ∷ bytes)
    go true e cr f none rest = cc
    go false e true f none rest = cc
    go false e false f none rest = rw (e, f) (ap (onto_line byte) (rest none) ∙ onto_whole byte bytes)

-- a text in which no line ends is one line
pub lines_unended : (bytes : List ℕ) → 0 < length bytes → list_any is_end bytes ≡ false
    → lines bytes ≡ record { text = bytes; is_ended = false } ∷ []
lines_unended [] some none = absurd (omega arith)
lines_unended (byte ∷ bytes) some none = one_line (byte ∷ bytes) none

-- The main section

pub main_on : (all rest : List Line) (line : Line) → all ≡ line ∷ rest → 0 < length line.text
    → before_first is_blank all ≡ line ∷ before_first is_blank rest
main_on all rest line is some =
    let full : is_blank line ≡ false = grind (arith, nat_tests) in
    ap (before_first is_blank) is ∙ take_while-cons (λ other. not (is_blank other)) line rest
    ∙ ap (λ b. cond (not b) (line ∷ before_first is_blank rest) []) full

pub main_end : (all rest : List Line) (line : Line) → all ≡ line ∷ rest → length line.text ≡ 0 → before_first is_blank all ≡ []
main_end all rest line is none =
    let blank : is_blank line ≡ true = grind (arith, nat_tests) in
    ap (before_first is_blank) is ∙ take_while-cons (λ other. not (is_blank other)) line rest
    ∙ ap (λ b. cond (not b) (line ∷ before_first is_blank rest) []) blank

-- Lines that continue the one before them

pub continued_more : (all rest : List Line) (line : Line) → all ≡ line ∷ rest → continues line ≡ true → length line.text ≤ 1
    → is_continued all ≡ is_continued rest
continued_more all rest line is space short =
    let none : nat_lt 1 (length line.text) ≡ false = grind (arith, nat_tests) in
    ap is_continued is ∙ ap (list_any (λ other. nat_lt 1 (length other.text))) (take_while-cons continues line rest
    ∙ ap (λ b. cond b (line ∷ take_while continues rest) []) space) ∙ ap (λ b. b || is_continued rest) none

-- What the lines say

abbrev named : Line → Bool
named line = is_named line.text

-- a line that says it is named
true_named : (line : Line) → is_true line ≡ true → named line ≡ true
true_named line says_it =
    let is : lowered line.text ≡ codes "multi-release: true" =
    (bytes_eq-Decides (lowered line.text) (codes "multi-release: true")).0 (and_parts line.is_ended
    (bytes_eq (lowered line.text) (codes "multi-release: true")) says_it).1
    in
    rw is refl

-- what lines say, where those before them say so
abbrev pub says_behind : Bool → List Line → Bool
says_behind so later = cond (list_any named later) (says later) so

pub says_whole : (all : List Line) → says_behind false all ≡ says all
says_whole [] = refl
says_whole (line ∷ later) = go (named line) refl (list_any named later) refl
  where
    go : (here : Bool) → named line ≡ here → (behind : Bool) → list_any named later ≡ behind
        → cond (here || behind) (cond behind (says later) (is_true line && not (is_continued later))) false
        ≡ cond behind (says later) (is_true line && not (is_continued later))
    go true e behind f = refl
    go false e true f = refl
    go false e false f =
        let no : is_true line ≡ false = false_from_ne_true (is_true line) (λ yes. false≢true (sym e ∙ true_named line yes)) in
        rw no refl

-- A front in any case of letters

pub named_front : (text : List ℕ) (answer : Bool) → (IsTrue answer ↔ (map to_ascii_lowercase (take 14 text)
    ≡ codes "multi-release:")) → answer ≡ is_named text
named_front text answer test = go answer refl (is_named text) refl
  where
    front : take 14 (lowered text) ≡ map to_ascii_lowercase (take 14 text)
    front = take-map to_ascii_lowercase 14 text

    go : (a : Bool) → answer ≡ a → (b : Bool) → is_named text ≡ b → a ≡ b
    go true e true f = refl
    go false e false f = refl
    go true e false f = sym ((bytes_eq-Decides (codes "multi-release:") (take 14 (lowered text))).1 (sym (front ∙ test.0 e))) ∙ f
    go false e true f =
        let same = (bytes_eq-Decides (codes "multi-release:") (take 14 (lowered text))).0 f in
        sym e ∙ test.1 (sym front ∙ sym same)
