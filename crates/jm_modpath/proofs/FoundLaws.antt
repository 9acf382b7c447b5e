-- Modules that are found: one more, and their names as those of candidates.
use Rattle.std.proofs.Common.{◌≡◌, ◌≢◌, ℕ, zero, suc, ◌<◌, inl, inr, Bool, true, false, ◌||◌, cond, List, []}
use Rattle.std.proofs.Common.{◌∷◌, ◌++◌, length, get_or, Contains, Option, Some, None, option_map, slice_get}
use Rattle.std.proofs.Common.{refl, sym, ap, ◌∙◌, arith}
use Rattle.std.proofs.lemmas.Bool.{cases_order, false≢true}
use Rattle.std.proofs.lemmas.List.Elements.{All-nil, All-cons, All-append}
use Rattle.std.proofs.lemmas.List.Folds.{list_any-append}
use Rattle.std.proofs.lemmas.Slice.Eq.{bytes_eq-Decides}
use Rattle.std.proofs.lemmas.Option.{slice_get-map}
use Rattle.std.specs.Option.{is_some}
use Rattle.std.specs.Str.{bytes_eq}
use Rattle.jm_bytes.proofs.Choice.{same_some}
use Rattle.jm_bytes.proofs.Members.{any_contains, contains_cases, contains_none}
use Rattle.jm_bytes.proofs.Pairs.{pairs_append}
use Rattle.jm_closure.specs.Names.{NamesDiffer}
use Rattle.jm_closure.specs.Modules.{HasName}
use Rattle.jm_closure.specs.declared.candidate.Candidate.{Candidate}
use Rattle.jm_closure.specs.Places.{Puts, place_in}
use Rattle.jm_modpath.specs.declared.visible.VisibleModule.{VisibleModule}
use Rattle.jm_modpath.specs.Finding.{Differing, HasTexts}
use Rattle.jm_modpath.specs.FoundView.{Holds}
use Rattle.jm_modpath.specs.Modules.{candidates, is_named, name_of}

same_test : (a b : Bool) → cond a true b ≡ (b || a)
same_test true true = refl
same_test true false = refl
same_test false true = refl
same_test false false = refl

some_if : (b : Bool) (place : ℕ) (rest : Option ℕ) → is_some (cond b (Some place) rest) ≡ cond b true (is_some rest)
some_if true place rest = refl
some_if false place rest = refl

last_or : (b : Bool) → (b || false) ≡ b
last_or true = refl
last_or false = refl

-- one module more, whose name is new
pub holds_more : (ms : List VisibleModule) (m : VisibleModule) (names more : List (List ℕ × ℕ)) (place : ℕ) → Holds ms names
    → is_named ms (name_of m) ≡ false → HasTexts m → Puts names more (name_of m) place → Holds (ms ++ m ∷ []) more
holds_more ms m names more place holds new texts puts = record {
  knows = λ name.
      ap is_some (puts name) ∙ some_if (bytes_eq name (name_of m)) place (place_in names name)
      ∙ ap (cond (bytes_eq name (name_of m)) true) (holds.knows name)
      ∙ same_test (bytes_eq name (name_of m)) (is_named ms name)
      ∙ ap (λ b. is_named ms name || b) (sym (last_or (bytes_eq name (name_of m))))
      ∙ sym (list_any-append (λ k. bytes_eq name (name_of k)) ms (m ∷ []));
  differ = pairs_append (λ k l. name_of k ≢ name_of l) ms (m ∷ []) holds.differ alone others;
  texts = All-append HasTexts ms (m ∷ []) holds.texts (All-cons HasTexts m [] texts (All-nil HasTexts));
}
  where
    alone : Differing (m ∷ [])
    alone i j d before below = absurd (omega arith)

    others : (k l : VisibleModule) → Contains ms k → Contains (m ∷ []) l → name_of k ≢ name_of l
    others k l there last same =
        elim (contains_cases m [] l last) [
          | inl is ↦
              let one : name_of m ≡ name_of k = ap name_of is ∙ sym same in
              absurd (false≢true (sym new ∙ any_contains (λ n. bytes_eq (name_of m) (name_of n)) ms k there
              ((bytes_eq-Decides (name_of m) (name_of k)).1 one)))
          | inr none ↦ contains_none l none
        ]

-- Names of candidates

pub got : {X : Type 0} (xs : List X) (i : ℕ) (x d : X) → slice_get xs i ≡ Some x → (i < length xs) × (get_or xs i d ≡ x)
got [] i x d is = cc
got (y ∷ xs) zero x d is = (omega arith, same_some y x is)
got (y ∷ xs) (suc i) x d is = let rest = got xs i x d is in (omega (arith, rest.0), rest.1)

named_at : (ms : List VisibleModule) (i : ℕ) (name : List ℕ) → HasName (candidates ms) i name → (m : VisibleModule)
    × (slice_get ms i ≡ Some m) × (name_of m ≡ name)
named_at ms i name has = go (slice_get ms i) refl
  where
    go : (o : Option VisibleModule) → slice_get ms i ≡ o → (m : VisibleModule) × (slice_get ms i ≡ Some m) × (name_of m ≡ name)
    go None is =
        let none = sym (slice_get-map (λ (m : VisibleModule). m.candidate) ms i
        ∙ ap (option_map (λ (m : VisibleModule). m.candidate)) is) ∙ has.1 in
        cc
    go (Some m) is =
        let same = same_some m.candidate has.0 (sym (slice_get-map (λ (m : VisibleModule). m.candidate) ms i
        ∙ ap (option_map (λ (m : VisibleModule). m.candidate)) is) ∙ has.1) in
        (m, is, ap (λ (c : Candidate). c.descriptor.name) same ∙ has.2)

pub names_differ : (ms : List VisibleModule) → Differing ms → NamesDiffer (candidates ms)
names_differ ms differ i j name first second =
    let one = named_at ms i name first in
    let other = named_at ms j name second in
    let at_i = got ms i one.0 one.0 one.1 in
    let at_j = got ms j other.0 one.0 other.1 in
    let same = ap name_of at_i.1 ∙ one.2 ∙ sym other.2 ∙ sym (ap name_of at_j.1) in
    elim (cases_order i j) [
      | inl is ↦ is
      | inr rest ↦
          elim rest [
            | inl less ↦ absurd (differ i j one.0 less at_j.0 same)
            | inr more ↦ absurd (differ j i one.0 more at_i.0 (sym same))
          ]
    ]
