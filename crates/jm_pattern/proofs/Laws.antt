-- Laws for users: a text without signs matches itself alone, and `**` matches every name.
use Rattle.std.proofs.Common.{◌≡◌, ◌+◌, ◌++◌, ◌∷◌, [], ℕ, List, Result, Ok, map, refl, sym, ap, ◌∙◌, append-nil}
use Rattle.std.specs.List.{All}
use Rattle.std.proofs.lemmas.List.Elements.{All-head, All-tail}
use Rattle.std.proofs.lemmas.Bool.{ne_eqb}
use Rattle.jm_bytes.proofs.Choice.{same_ok}
use Rattle.jm_pattern.specs.Matching.{MatchesOnly, MatchesAll}
use Rattle.jm_pattern.specs.ComputedReading.{with_front, sign_of, signs_from}
use Rattle.jm_pattern.specs.Reading.{IsPlain}
use Rattle.jm_pattern.proofs.FirstSign.{reads-single}
use Rattle.jm_pattern.specs.declared.signs.PatternFault.{PatternFault}
use Rattle.jm_pattern.specs.declared.signs.Sign.{Sign}
use Rattle.jm_pattern.specs.declared.signs.Sign.TheVariants.{AnyRun, Byte}

-- a text without signs reads as its bytes
pub plain-signs : (at : ℕ) (text : List ℕ) → All IsPlain text → signs_from at text ≡ Ok (map (λ b. Byte b) text)
plain-signs at [] h = refl
plain-signs at (b ∷ text) h =
    let own = All-head IsPlain b text h in
    let sign : sign_of b ≡ Byte b = rw (ne_eqb b 42 own.0, ne_eqb b 63 own.1) refl in
    reads-single at b text own.2 (λ e. absurd (own.0 e)) ∙ ap (λ x. with_front (x ∷ []) (signs_from (at + 1) text)) sign
    ∙ ap (λ x. with_front (Byte b ∷ []) x) (plain-signs (at + 1) text (All-tail IsPlain b text h))

-- bytes match themselves alone
pub plain-matches : (text : List ℕ) → MatchesOnly (map (λ b. Byte b) text) text
plain-matches [] name = (λ m. m, λ e. e)
plain-matches (b ∷ text) name = (
  λ m. m.2 ∙ ap (λ x. x ++ m.1) m.3 ∙ ap (λ x. b ∷ x) ((plain-matches text m.1).0 m.4),
  λ e. (b ∷ [], text, e, refl, (plain-matches text text).1 refl),
)

-- `**` matches every name
pub any-matches : MatchesAll (AnyRun ∷ [])
any-matches name = (name, [], sym (append-nil name), tt, refl)

-- the same, of what a text reads as
pub plain-read : (text : List ℕ) (signs : List Sign) → All IsPlain text
    → ◌≡◌ {A = Result (List Sign) PatternFault} (Ok signs) (signs_from 0 text) → MatchesOnly signs text
plain-read text signs h read =
    let same : signs ≡ map (λ b. Byte b) text = same_ok signs (map (λ b. Byte b) text) (read ∙ plain-signs 0 text h) in
    rw same (plain-matches text)

pub any-read : (text : List ℕ) (signs : List Sign) → text ≡ 42 ∷ 42 ∷ []
    → ◌≡◌ {A = Result (List Sign) PatternFault} (Ok signs) (signs_from 0 text) → MatchesAll signs
any-read text signs h read =
    let same : signs ≡ AnyRun ∷ [] = same_ok signs (AnyRun ∷ []) (read ∙ ap (signs_from 0) h) in
    rw same any-matches
