-- Texts that are added to others: their section only grows.
use Rattle.std.proofs.Common.{◌≡◌, ℕ, ◌<◌, ◌≤◌, Bool, true, false, cond, List, [], ◌∷◌, ◌++◌, length, None, is_some, refl, ap, arith}
use Rattle.jm_form.specs.Strings.{place_of, section_of, with_text}
use Rattle.jm_strings.specs.Limit.{limit}
use Rattle.jm_form.proofs.StringsLaws.{length-section-push}
use Rattle.jm_form.specs.Layout.{with_texts}

grows_once : (text : List ℕ) (held : List (List ℕ)) → length (section_of held) ≤ length (section_of (with_text text held))
grows_once text held = go (is_some (place_of text held))
  where
    go : (b : Bool) → length (section_of held) ≤ length (section_of (cond b held (held ++ text ∷ [])))
    go true = omega arith
    go false = let more = length-section-push held text in omega (arith, more)

-- the section with more texts isn't shorter
pub grows : (held texts : List (List ℕ)) → length (section_of held) ≤ length (section_of (with_texts held texts))
grows held [] = omega arith
grows held (text ∷ texts) =
    let one = grows_once text held in
    let rest = grows (with_text text held) texts in
    omega (arith, one, rest)

pub with_texts-append : (held first second : List (List ℕ)) → with_texts held (first ++ second) ≡ with_texts (with_texts held first) second
with_texts-append held [] second = refl
with_texts-append held (text ∷ first) second = with_texts-append (with_text text held) first second

-- a new text that finds no room makes the section too long, and others behind it leave it so
pub full_with : (held : List (List ℕ)) (text : List ℕ) (texts : List (List ℕ)) → place_of text held ≡ None
    → limit < length (section_of (held ++ text ∷ [])) → limit < length (section_of (with_texts (with_text text held) texts))
full_with held text texts new long =
    let is : with_text text held ≡ held ++ text ∷ [] = ap (λ o. cond (is_some o) held (held ++ text ∷ [])) new in
    let same = ap (λ l. length (section_of l)) is in
    let rest = grows (with_text text held) texts in
    omega (arith, same, rest, long)

pub full_more : (held texts more : List (List ℕ)) → limit < length (section_of (with_texts held texts))
    → limit < length (section_of (with_texts held (texts ++ more)))
full_more held texts more long =
    let is = ap (λ l. length (section_of l)) (with_texts-append held texts more) in
    let rest = grows (with_texts held texts) more in
    omega (arith, is, rest, long)
