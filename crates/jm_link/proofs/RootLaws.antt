-- The roots of a link: which names they are, and that the word for all modules takes all of them.
use Rattle.std.proofs.Common.{◌≡◌, ◌↔◌, inl, inr, ℕ, Bool, true, false, not, ◌&&◌, cond, List, [], ◌∷◌, ◌++◌, length, codes}
use Rattle.std.proofs.Common.{Contains, refl, sym, ap, ◌∙◌, subst, arith}
use Rattle.std.proofs.lemmas.Bool.{false≢true}
use Rattle.std.proofs.lemmas.Bool.Decides.{nat_tests}
use Rattle.std.proofs.lemmas.List.Elements.{Contains-append_cases, Contains-append_left, Contains-append_right}
use Rattle.std.proofs.lemmas.Slice.Eq.{bytes_eq-Decides}
use Rattle.std.specs.List.{list_any}
use Rattle.std.specs.Prelude.{nat_lt}
use Rattle.jm_bytes.proofs.Members.{any_contains, contains_filter, contains_none, from_any, from_filter}
use Rattle.jm_closure.specs.declared.candidate.Candidate.{Candidate}
use Rattle.jm_closure.specs.Modules.{HasName}
use Rattle.jm_modset.specs.Found.{asks_all, is_all, plain_names, roots_among}
use Rattle.jm_link.specs.Chosen.{Chosen, IsRootName}
use Rattle.jm_link.proofs.ClosedAgain.{root_chosen}

both : (a b : Bool) → (a && b) ≡ true → (a ≡ true) × (b ≡ true)
both true true is = (refl, refl)
both true false is = absurd (false≢true is)
both false b is = absurd (false≢true is)

plain : (b : Bool) → not b ≡ true → b ≡ true → ⊥
plain true kept is = false≢true kept
plain false kept is = false≢true is

some : (n : List ℕ) (named : List (List ℕ)) → nat_lt 0 (length (n ∷ named)) ≡ true
some n named = grind (arith, nat_tests)

none : (named : List (List ℕ)) (b : Bool) → b ≡ true → (nat_lt 0 (length named) && b) ≡ false → named ≡ []
none [] b is off = refl
none (n ∷ named) b is off = absurd (false≢true (sym off ∙ rw (some n named, is) refl))

asked_for : (named asked : List (List ℕ)) (name : List ℕ) → Contains asked (codes "ALL-MODULE-PATH") → Contains named name
    → asks_all named asked ≡ true
asked_for [] asked name word there = absurd (contains_none name there)
asked_for (n ∷ named) asked name word there =
    rw (
      some n named,
      any_contains is_all asked (codes "ALL-MODULE-PATH") word ((bytes_eq-Decides (codes "ALL-MODULE-PATH")
          (codes "ALL-MODULE-PATH")).1 refl),
    ) refl

module _ (named asked : List (List ℕ)) (name : List ℕ) where
  root_is : (b : Bool) → asks_all named asked ≡ b → Contains (cond b (plain_names asked ++ named) asked) name
      → IsRootName named asked name
  root_is true is has =
      let word = from_any is_all asked (both (nat_lt 0 (length named)) (list_any is_all asked) is).1 in
      elim (Contains-append_cases (plain_names asked) named name has) [
        | inl one ↦
            let kept = from_filter (λ n. not (is_all n)) asked name one in
            inl (kept.0, λ all. absurd (plain (is_all name) kept.1 all))
        | inr there ↦
            inr (subst (Contains asked) ((bytes_eq-Decides word.0 (codes "ALL-MODULE-PATH")).0 word.2) word.1, there)
      ]
  root_is false is has = inl (has, λ all. none named (list_any is_all asked) (any_contains is_all asked name has all) is)

  plain_root : (b : Bool) → asks_all named asked ≡ b → (a : Bool) → is_all name ≡ a → Contains asked name
      → (a ≡ true → named ≡ []) → Contains (cond b (plain_names asked ++ named) asked) name
  plain_root false off a is has only = has
  plain_root true on false is has only =
      Contains-append_left (plain_names asked) named name (contains_filter (λ n. not (is_all n)) asked name has (ap not is))
  plain_root true on true is has only = absurd (false≢true (subst (λ ns. (nat_lt 0 (length ns) && list_any is_all asked) ≡ true)
      (only refl) on))

  -- the roots are the names by the rule
  pub roots_are : Contains (roots_among named asked) name ↔ IsRootName named asked name
  roots_are = (root_is (asks_all named asked) refl, from)
    where
      from : IsRootName named asked name → Contains (roots_among named asked) name
      from (inl (has, only)) = plain_root (asks_all named asked) refl (is_all name) refl has only
      from (inr (word, there)) =
          rw (asked_for named asked name word there) (Contains-append_right (plain_names asked) named name there)

-- with the word every module is chosen whose name it stands for
pub all-chosen : (bind : Bool) (found : List Candidate) (named asked : List (List ℕ)) → Contains asked (codes "ALL-MODULE-PATH") → (i : ℕ)
    (name : List ℕ) → HasName found i name → Contains named name → Chosen bind found (roots_among named asked) i
all-chosen bind found named asked word i name is there =
    root_chosen bind found (roots_among named asked) i (name, (roots_are named asked name).1 (inr (word, there)), is)
