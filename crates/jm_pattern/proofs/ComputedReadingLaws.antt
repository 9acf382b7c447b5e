-- The signs that are computed are those that the text reads as.
use Rattle.std.proofs.Common.{◌≡◌, ◌≢◌, ◌==◌, ◌+◌, ◌-◌, ◌++◌, ◌∷◌, ◌&&◌, inl, inr, [], ℕ, Bool, true, false}
use Rattle.std.proofs.Common.{cond, List, Result, Ok, Err, length, length-append, append_assoc, refl, sym, ap}
use Rattle.std.proofs.Common.{◌∙◌, subst, arith}
use Rattle.std.proofs.lemmas.Bool.{eqb-true, eqb-false, eq-eqb, and_parts, and_from, false≢true}
use Rattle.jm_bytes.proofs.Choice.{chosen, same_err, same_ok}
use Rattle.jm_pattern.specs.Reading.{BeginsWith, Spells, Reads, EndsEscaped}
use Rattle.jm_pattern.specs.ComputedReading.{with_front, sign_of, signs_from}
use Rattle.jm_pattern.specs.ReadingSteps.{ReadsFirst}
use Rattle.jm_pattern.proofs.FirstSign.{first-run, first-any, first-escaped, first-one, first-byte}
use Rattle.jm_pattern.specs.declared.signs.Sign.{Sign}
use Rattle.jm_pattern.specs.declared.signs.Sign.TheVariants.{AnyRun, Run, One, Byte}
use Rattle.jm_pattern.specs.declared.signs.PatternFault.{PatternFault}
use Rattle.jm_pattern.specs.declared.signs.PatternFault.TheVariants.{BadEscape}

-- From the rule to the value

spelled_first : (sign : Sign) (front rest : List ℕ) → Spells sign front rest → ReadsFirst (front ++ rest) sign rest
spelled_first AnyRun front rest spells = rw spells (first-any (42 ∷ rest) rest refl)
spelled_first Run front rest spells = rw spells.0 (first-run rest spells.1)
spelled_first One front rest spells = rw spells (first-one (63 ∷ rest) rest 63 refl refl)
spelled_first (Byte b) front rest (inl escaped) = rw escaped (first-escaped (92 ∷ b ∷ rest) (b ∷ rest) rest 92 b refl refl refl)
spelled_first (Byte b) front rest (inr plain) = rw plain.0 (first-byte (b ∷ rest) rest b refl plain.1.2 plain.1.0 plain.1.1)

pub signs_from-reads : (at : ℕ) (text : List ℕ) (signs : List Sign) → Reads text signs → signs_from at text ≡ Ok signs
signs_from-reads at text [] reads = rw reads refl
signs_from-reads at text (sign ∷ signs) reads =
    let front = reads.0 in
    let rest = reads.1 in
    let first = spelled_first sign front rest reads.3 at in
    let more = signs_from-reads (at + (length (front ++ rest) - length rest)) rest signs reads.4 in
    ap (signs_from at) reads.2 ∙ first ∙ ap (with_front (sign ∷ [])) more

-- From the value to the rule

single_spelled : (b : ℕ) (rest : List ℕ) → b ≢ 92 → (b ≡ 42 → ¬ BeginsWith 42 rest) → Spells (sign_of b) (b ∷ []) rest
single_spelled b rest other alone = go (b == 42) refl (b == 63) refl
  where
    go : (star : Bool) → b == 42 ≡ star → (question : Bool) → b == 63 ≡ question
        → Spells (cond star Run (cond question One (Byte b))) (b ∷ []) rest
    go true e question f = let same = eqb-true b 42 e in (ap (λ x. x ∷ []) same, alone same)
    go false e true f = ap (λ x. x ∷ []) (eqb-true b 63 f)
    go false e false f = inr (refl, (eqb-false b 42 e, eqb-false b 63 f, other))

-- no pair of stars
no_pair : (b c : ℕ) (text : List ℕ) → b == 42 && c == 42 ≡ false → b ≡ 42 → ¬ BeginsWith 42 (c ∷ text)
no_pair b c text e first second = false≢true (sym e ∙ and_from (b == 42) (c == 42) (eq-eqb b 42 first) (eq-eqb c 42 second))

two_stars : (b c : ℕ) → b == 42 && c == 42 ≡ true → b ∷ c ∷ [] ≡ 42 ∷ 42 ∷ []
two_stars b c e = let stars = and_parts (b == 42) (c == 42) e in rw (eqb-true b 42 stars.0, eqb-true c 42 stars.1) refl

given_rest : {A : Type 0} (front : List A) (given : Result (List A) PatternFault) (all : List A) → with_front front given ≡ Ok all
    → (rest : List A) × (given ≡ Ok rest) × (front ++ rest ≡ all)
given_rest front (Ok rest) all e = (rest, refl, same_ok (front ++ rest) all e)
given_rest front (Err fault) all e = cc

-- one sign in front of what reads
one_more : (sign : Sign) (front rest : List ℕ) (given : Result (List Sign) PatternFault) (signs : List Sign)
    → Spells sign front rest → with_front (sign ∷ []) given ≡ Ok signs → ((more : List Sign) → given ≡ Ok more → Reads rest more)
    → Reads (front ++ rest) signs
one_more sign front rest given signs spells e reads =
    let more = given_rest (sign ∷ []) given signs e in
    subst (Reads (front ++ rest)) more.2 (front, rest, refl, spells, reads more.0 more.1)

pub reads-signs_from : (at : ℕ) (text : List ℕ) (signs : List Sign) → signs_from at text ≡ Ok signs → Reads text signs
reads-signs_from at [] signs e = subst (Reads []) (same_ok [] signs e) refl
reads-signs_from at (b ∷ []) signs e =
    elim (chosen (b == 92) (Err (BadEscape at)) (Ok (sign_of b ∷ [])) (Ok signs) e) [
      | inl h ↦ let never = h.1 in cc
      | inr h ↦
          subst (Reads (b ∷ [])) (same_ok (sign_of b ∷ []) signs h.1)
          (b ∷ [], [], refl, single_spelled b [] (eqb-false b 92 h.0) (λ same. λ none. none), refl)
    ]
reads-signs_from at (b ∷ c ∷ text) signs e =
    let two : (more : List Sign) → signs_from (at + 2) text ≡ Ok more → Reads text more = λ more read. reads-signs_from (at + 2)
    text more read in
    let one : (more : List Sign) → signs_from (at + 1) (c ∷ text) ≡ Ok more → Reads (c ∷ text) more = λ more read. reads-signs_from
    (at + 1) (c ∷ text) more read in
    elim (chosen (b == 92) (with_front (Byte c ∷ []) (signs_from (at + 2) text)) _ (Ok signs) e) [
      | inl h ↦ one_more (Byte c) (b ∷ c ∷ []) text (signs_from (at + 2) text) signs
          (inl (ap (λ x. x ∷ c ∷ []) (eqb-true b 92 h.0))) h.1 two
      | inr h ↦
          elim (chosen (b == 42 && c == 42) (with_front (AnyRun ∷ []) (signs_from (at + 2) text)) (with_front (sign_of b ∷ [])
          (signs_from (at + 1) (c ∷ text))) (Ok signs) h.1) [
            | inl k ↦ one_more AnyRun (b ∷ c ∷ []) text (signs_from (at + 2) text) signs (two_stars b c k.0) k.1 two
            | inr k ↦
                one_more (sign_of b) (b ∷ []) (c ∷ text) (signs_from (at + 1) (c ∷ text)) signs (single_spelled b (c ∷ text)
                (eqb-false b 92 h.0) (no_pair b c text k.0)) k.1 one
          ]
    ]

-- A `\` at the end

-- what spells a sign in front of more bytes does so in front of fewer, and the other way round
spells_less : (sign : Sign) (front xs ys : List ℕ) → Spells sign front (xs ++ ys) → Spells sign front xs
spells_less AnyRun front xs ys spells = spells
spells_less Run front [] ys spells = (spells.0, λ none. none)
spells_less Run front (x ∷ xs) ys spells = spells
spells_less One front xs ys spells = spells
spells_less (Byte b) front xs ys spells = spells

spells_more : (sign : Sign) (front xs : List ℕ) → Spells sign front xs → Spells sign front (xs ++ 92 ∷ [])
spells_more AnyRun front xs spells = spells
spells_more Run front [] spells = (spells.0, λ star. omega arith)
spells_more Run front (x ∷ xs) spells = spells
spells_more One front xs spells = spells
spells_more (Byte b) front xs spells = spells

read_escaped : (at : ℕ) (front : List ℕ) (signs : List Sign) → Reads front signs → signs_from at (front ++ 92 ∷ [])
    ≡ Err (BadEscape (at + length front))
read_escaped at front [] reads = let place : at + 0 ≡ at = omega arith in rw (reads, place) refl
read_escaped at front (sign ∷ signs) reads =
    let own = reads.0 in
    let rest = reads.1 in
    let left = rest ++ 92 ∷ [] in
    let first = spelled_first sign own left (spells_more sign own rest reads.3) at in
    let more = read_escaped (at + (length (own ++ left) - length left)) rest signs reads.4 in
    let sum = length-append own left in
    let whole = ap length reads.2 ∙ length-append own rest in
    let place : at + (length (own ++ left) - length left) + length rest ≡ at + length front = omega arith in
    ap (λ xs. signs_from at (xs ++ 92 ∷ [])) reads.2 ∙ ap (signs_from at) (append_assoc own rest (92 ∷ [])) ∙ first
    ∙ ap (with_front (sign ∷ [])) more ∙ ap (λ k. Err (BadEscape k)) place

pub signs_from-escaped : (at : ℕ) (text : List ℕ) (k : ℕ) → EndsEscaped text k → signs_from at text ≡ Err (BadEscape (at + k))
signs_from-escaped at text k ends =
    ap (signs_from at) ends.whole ∙ read_escaped at ends.front ends.signs ends.reads ∙ ap (λ n. Err (BadEscape (at + n))) (sym ends.place)

given_fault : {A : Type 0} (front : List A) (given : Result (List A) PatternFault) (fault : PatternFault) → with_front front given
    ≡ Err fault → given ≡ Err fault
given_fault front (Ok rest) fault e = cc
given_fault front (Err own) fault e = e

-- a text from a place on has this fault, which is a `\` at its end
pub record Escaped (at : ℕ) (text : List ℕ) (fault : PatternFault) : Type 0 where
  pub place : ℕ
  pub ends : EndsEscaped text place
  pub is : fault ≡ BadEscape (at + place)

one_escaped : (at n : ℕ) (sign : Sign) (front rest : List ℕ) (given : Result (List Sign) PatternFault) (fault : PatternFault)
    → Spells sign front rest → n ≡ length front → with_front (sign ∷ []) given ≡ Err fault
    → (given ≡ Err fault → Escaped (at + n) rest fault) → Escaped at (front ++ rest) fault
one_escaped at n sign front rest given fault spells count e escaped =
    let more = escaped (given_fault (sign ∷ []) given fault e) in
    let ends = more.ends in
    let sum : length front + more.place ≡ length (front ++ ends.front) = omega (arith, length-append front ends.front, ends.place) in
    let place : at + n + more.place ≡ at + (length front + more.place) = omega arith in
    record {
      place = length front + more.place;
      ends = record {
        front = front ++ ends.front;
        signs = sign ∷ ends.signs;
        whole = ap (λ xs. front ++ xs) ends.whole ∙ sym (append_assoc front ends.front (92 ∷ []));
        reads = (
          front,
          ends.front,
          refl,
          spells_less sign front ends.front (92 ∷ []) (subst (Spells sign front) ends.whole spells),
          ends.reads,
        );
        place = sum;
      };
      is = more.is ∙ ap (λ k. BadEscape k) place;
    }

pub escaped-signs_from : (at : ℕ) (text : List ℕ) (fault : PatternFault) → signs_from at text ≡ Err fault → Escaped at text fault
escaped-signs_from at [] fault e = cc
escaped-signs_from at (b ∷ []) fault e =
    elim (chosen (b == 92) (Err (BadEscape at)) (Ok (sign_of b ∷ [])) (Err fault) e) [
      | inl h ↦
          let place : at ≡ at + 0 = omega arith in
          record {
            place = 0;
            ends = record { front = []; signs = []; whole = ap (λ x. x ∷ []) (eqb-true b 92 h.0); reads = refl; place = refl };
            is = sym (same_err (BadEscape at) fault h.1) ∙ ap (λ k. BadEscape k) place;
          }
      | inr h ↦ let never = h.1 in cc
    ]
escaped-signs_from at (b ∷ c ∷ text) fault e =
    let two : signs_from (at + 2) text ≡ Err fault → Escaped (at + 2) text fault = λ read. escaped-signs_from (at + 2) text fault read in
    let one : signs_from (at + 1) (c ∷ text) ≡ Err fault → Escaped (at + 1) (c ∷ text) fault = λ read. escaped-signs_from (at + 1)
    (c ∷ text) fault read in
    elim (chosen (b == 92) (with_front (Byte c ∷ []) (signs_from (at + 2) text)) _ (Err fault) e) [
      | inl h ↦ one_escaped at 2 (Byte c) (b ∷ c ∷ []) text (signs_from (at + 2) text) fault
          (inl (ap (λ x. x ∷ c ∷ []) (eqb-true b 92 h.0))) refl h.1 two
      | inr h ↦
          elim (chosen (b == 42 && c == 42) (with_front (AnyRun ∷ []) (signs_from (at + 2) text)) (with_front (sign_of b ∷ [])
          (signs_from (at + 1) (c ∷ text))) (Err fault) h.1) [
            | inl k ↦ one_escaped at 2 AnyRun (b ∷ c ∷ []) text (signs_from (at + 2) text) fault (two_stars b c k.0) refl k.1 two
            | inr k ↦
                one_escaped at 1 (sign_of b) (b ∷ []) (c ∷ text) (signs_from (at + 1) (c ∷ text)) fault (single_spelled b (c ∷ text)
                (eqb-false b 92 h.0) (no_pair b c text k.0)) refl k.1 one
          ]
    ]
