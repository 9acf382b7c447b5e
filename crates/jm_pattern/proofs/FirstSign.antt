-- The first sign of a text, by its first bytes.
use Rattle.std.proofs.Common.{◌≡◌, ◌≢◌, ◌+◌, ◌-◌, ◌<◌, ◌≤◌, ◌++◌, ◌∷◌, [], ℕ, List, Result, Ok, Err, length}
use Rattle.std.proofs.Common.{refl, sym, ap, subst, ◌∙◌, arith, append_assoc, eqb, ◌&&◌, true, false, Bool}
use Rattle.std.proofs.lemmas.Bool.Decides.{nat_tests}
use Rattle.std.proofs.lemmas.Bool.{ne_eqb}
use Rattle.jm_pattern.specs.ComputedReading.{with_front, sign_of, signs_from}
use Rattle.jm_pattern.specs.Reading.{BeginsWith}
use Rattle.jm_pattern.specs.ReadingSteps.{ReadsFirst}
use Rattle.jm_pattern.specs.declared.signs.Sign.{Sign}
use Rattle.jm_pattern.specs.declared.signs.Sign.TheVariants.{AnyRun, Run, One, Byte}
use Rattle.jm_pattern.specs.declared.signs.PatternFault.{PatternFault}
use Rattle.jm_pattern.specs.declared.signs.PatternFault.TheVariants.{BadEscape}

-- the place behind so many bytes
place-behind : (at k : ℕ) (text rest : List ℕ) → length text ≡ length rest + k → at + (length text - length rest) ≡ at + k
place-behind at k text rest e = omega arith

-- a byte that isn't a `\` and makes no pair with the next
single-pair : (at b c : ℕ) (text : List ℕ) (pair : Bool) → eqb b 92 ≡ false → (eqb b 42 && eqb c 42) ≡ pair → pair ≡ false
    → signs_from at (b ∷ c ∷ text) ≡ with_front (sign_of b ∷ []) (signs_from (at + 1) (c ∷ text))
single-pair at b c text pair e1 e2 e3 = rw (e1, e2, e3) refl

no-pair : (b c : ℕ) (text : List ℕ) → (b ≡ 42 → ¬ BeginsWith 42 (c ∷ text)) → (eqb b 42 && eqb c 42) ≡ false
no-pair b c text k = go (eqb b 42) refl (eqb c 42) refl
  where
    go : (x : Bool) → eqb b 42 ≡ x → (y : Bool) → eqb c 42 ≡ y → (x && y) ≡ false
    go false e1 y e2 = refl
    go true e1 false e2 = refl
    go true e1 true e2 =
        let is-star : b ≡ 42 = grind (arith, nat_tests) in
        let then-star : c ≡ 42 = grind (arith, nat_tests) in
        absurd (k is-star then-star)

pub reads-single : (at b : ℕ) (text : List ℕ) → b ≢ 92 → (b ≡ 42 → ¬ BeginsWith 42 text) → signs_from at (b ∷ text)
    ≡ with_front (sign_of b ∷ []) (signs_from (at + 1) text)
reads-single at b [] h k = rw (ne_eqb b 92 h) refl
reads-single at b (c ∷ text) h k = single-pair at b c text false (ne_eqb b 92 h) (no-pair b c text k) refl

pub first-single : (whole : List ℕ) (b : ℕ) (text : List ℕ) (sign : Sign) → whole ≡ b ∷ text → b ≢ 92
    → (b ≡ 42 → ¬ BeginsWith 42 text) → sign_of b ≡ sign → ReadsFirst whole sign text
first-single whole b text sign e h k same at =
    rw (e, place-behind at 1 (b ∷ text) text (omega arith)) (rw same at (reads-single at b text h k))

-- a `*` before no other
pub first-run : (text : List ℕ) → ¬ BeginsWith 42 text → ReadsFirst (42 ∷ text) Run text
first-run text k = first-single (42 ∷ text) 42 text Run refl (λ e. absurd (omega arith)) (λ e. k) refl

-- two `*`
pub first-any : (text rest : List ℕ) → text ≡ 42 ∷ rest → ReadsFirst (42 ∷ text) AnyRun rest
first-any text rest e at = rw (e, place-behind at 2 (42 ∷ 42 ∷ rest) rest (omega arith)) refl

-- the same, of a text that begins so
pub first-star : (whole text : List ℕ) (b : ℕ) → whole ≡ b ∷ text → b ≡ 42 → ¬ BeginsWith 42 text → ReadsFirst whole Run text
first-star whole text b e1 e2 k =
    let e : whole ≡ 42 ∷ text = cc in
    subst (λ w. ReadsFirst w Run text) (sym e) (first-run text k)

pub first-two : (whole text rest : List ℕ) (b : ℕ) → whole ≡ b ∷ text → b ≡ 42 → text ≡ 42 ∷ rest → ReadsFirst whole AnyRun rest
first-two whole text rest b e1 e2 e3 =
    let e : whole ≡ 42 ∷ text = cc in
    subst (λ w. ReadsFirst w AnyRun rest) (sym e) (first-any text rest e3)

-- a `\` and its byte
pub first-escaped : (whole text rest : List ℕ) (b c : ℕ) → whole ≡ b ∷ text → b ≡ 92 → text ≡ c ∷ rest → ReadsFirst whole (Byte c) rest
first-escaped whole text rest b c e1 e2 e3 at =
    let e : whole ≡ 92 ∷ c ∷ rest = cc in
    rw (e, place-behind at 2 (92 ∷ c ∷ rest) rest (omega arith)) refl

-- a `?`
pub first-one : (whole text : List ℕ) (b : ℕ) → whole ≡ b ∷ text → b ≡ 63 → ReadsFirst whole One text
first-one whole text b e1 e2 = first-single whole b text One e1 (omega arith) (λ e. absurd (omega arith)) (rw e2 refl)

-- any other byte
pub first-byte : (whole text : List ℕ) (b : ℕ) → whole ≡ b ∷ text → b ≢ 92 → b ≢ 42 → b ≢ 63 → ReadsFirst whole (Byte b) text
first-byte whole text b e h1 h2 h3 =
    first-single whole b text (Byte b) e h1 (λ e. absurd (h2 e)) (rw (ne_eqb b 42 h2, ne_eqb b 63 h3) refl)

-- a `\` at the end
pub escape-at_end : (whole text : List ℕ) (b : ℕ) → whole ≡ b ∷ text → b ≡ 92 → length text ≡ 0 → (at : ℕ) → signs_from at whole
    ≡ Err (BadEscape at)
escape-at_end whole [] b e1 e2 e3 at = let e : whole ≡ 92 ∷ [] = cc in rw e refl
escape-at_end whole (c ∷ text) b e1 e2 e3 at = absurd (omega arith)

-- what was read before what is left, one further
pub read-on : {A : Type 0} (first : List A) (sign : A) (given : Result (List A) PatternFault)
    → with_front first (with_front (sign ∷ []) given) ≡ with_front (first ++ sign ∷ []) given
read-on first sign (Ok signs) = ap (λ x. Ok x) (sym (append_assoc first (sign ∷ []) signs))
read-on first sign (Err fault) = refl

pub reads-further : (text : List ℕ) (signs : List Sign) (left : List ℕ) (sign : Sign) (rest : List ℕ) → length left ≤ length text
    → signs_from 0 text ≡ with_front signs (signs_from (length text - length left) left) → length rest < length left
    → ReadsFirst left sign rest → signs_from 0 text ≡ with_front (signs ++ sign ∷ []) (signs_from (length text - length rest) rest)
reads-further text signs left sign rest h e shorter first =
    let place : (length text - length left) + (length left - length rest) ≡ length text - length rest = omega arith in
    let here = rw place at (first (length text - length left)) in
    e ∙ ap (λ x. with_front signs x) here ∙ read-on signs sign (signs_from (length text - length rest) rest)
