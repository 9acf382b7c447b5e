-- The fault that is computed is the first that holds.
use Rattle.std.proofs.Common.{◌≡◌, ℕ, zero, suc, ◌<◌, Bool, true, not, inl, inr, List, length, Option, Some}
use Rattle.std.proofs.Common.{None, refl, sym, ap, ◌∙◌, subst, arith}
use Rattle.std.specs.Prelude.{nat_lt, slice_get}
use Rattle.std.specs.List.{list_any}
use Rattle.std.proofs.lemmas.Bool.{ltb-true, lt-ltb, cases_lt, not-true}
use Rattle.std.proofs.lemmas.List.{take_all}
use Rattle.jm_bytes.specs.Checks.{fault_if}
use Rattle.jm_bytes.proofs.CheckLaws.{fault_if_true, fault_if_some, first_fault_is, no_fault_at}
use Rattle.jm_bytes.proofs.Choice.{same_some}
use Rattle.jm_names.specs.Names.{is_empty}
use Rattle.jm_names.specs.Characters.{IsText}
use Rattle.jm_names.specs.ComputedText.{text_len}
use Rattle.jm_names.specs.NameFaults.{has_module, parts, is_dots, is_zero, Fails, rank, HasFault, IsSound}
use Rattle.jm_names.specs.ComputedFault.{name_checks, name_fault}
use Rattle.jm_names.specs.declared.check.NameFault.{NameFault}
use Rattle.jm_names.specs.declared.check.NameFault.TheVariants.{Empty, EmptyPart, Dots, Zero, TooLong, NotText}
use Rattle.jm_names.proofs.CharacterLaws.{IsLongestText-unique}
use Rattle.jm_names.proofs.ComputedTextLaws.{text_len-longest}

-- a name whose longest text is shorter is no text
no_text : (name : List ℕ) → text_len name < length name → ¬ IsText name
no_text name short text = (text_len-longest name).longest (length name) short (omega arith)
    (subst IsText (sym (take_all (length name) name (omega arith))) text)

-- a name that is no text has a shorter longest text
shorter_text : (name : List ℕ) → (¬ IsText name) → text_len name < length name
shorter_text name none =
    elim (cases_lt (text_len name) (length name)) [
      | inl short ↦ short
      | inr long ↦ absurd (none (subst IsText (take_all (text_len name) name long) (text_len-longest name).text))
    ]

-- One check

-- a fault that holds is found at its place
check_found : (name : List ℕ) (fault : NameFault) → Fails name fault → slice_get (name_checks name) (rank fault) ≡ Some (Some fault)
check_found name Empty fails = ap (λ c. Some c) (fault_if_true (not (has_module name)) Empty (ap not fails))
check_found name EmptyPart fails = ap (λ c. Some c) (fault_if_true (list_any is_empty (parts name)) EmptyPart fails)
check_found name Dots fails = ap (λ c. Some c) (fault_if_true (list_any is_dots (parts name)) Dots fails)
check_found name Zero fails = ap (λ c. Some c) (fault_if_true (list_any is_zero name) Zero fails)
check_found name TooLong fails = ap (λ c. Some c) (fault_if_true (nat_lt 4096 (length name)) TooLong (lt-ltb 4096 (length name) fails))
check_found name (NotText at) fails =
    let same : text_len name ≡ at = IsLongestText-unique name (text_len name) at (text_len-longest name) fails.1 in
    let short = lt-ltb (text_len name) (length name) (shorter_text name fails.0) in
    ap (λ c. Some c) (fault_if_true (nat_lt (text_len name) (length name)) (NotText (text_len name)) short
    ∙ ap (λ k. Some (NotText k)) same)

-- what is found at a place is a fault that holds, and the place is its own
one_check : (name : List ℕ) (k : ℕ) (found : Bool) (own fault : NameFault) → (found ≡ true → Fails name own) → rank own ≡ k
    → Some (fault_if found own) ≡ Some (Some fault) → (rank fault ≡ k) × Fails name fault
one_check name k found own fault holds place there =
    let both = fault_if_some found own fault (same_some (fault_if found own) (Some fault) there) in
    subst (λ f. (rank f ≡ k) × Fails name f) both.1 (place, holds both.0)

check_holds : (name : List ℕ) (k : ℕ) (fault : NameFault) → slice_get (name_checks name) k ≡ Some (Some fault) → (rank fault ≡ k)
    × Fails name fault
check_holds name zero fault there = one_check name 0 (not (has_module name)) Empty fault (λ found. not-true (has_module name) found)
    refl there
check_holds name (suc zero) fault there = one_check name 1 (list_any is_empty (parts name)) EmptyPart fault (λ found. found) refl there
check_holds name (suc (suc zero)) fault there = one_check name 2 (list_any is_dots (parts name)) Dots fault (λ found. found) refl there
check_holds name (suc (suc (suc zero))) fault there = one_check name 3 (list_any is_zero name) Zero fault (λ found. found) refl there
check_holds name (suc (suc (suc (suc zero)))) fault there = one_check name 4 (nat_lt 4096 (length name)) TooLong fault
    (λ found. ltb-true 4096 (length name) found) refl there
check_holds name (suc (suc (suc (suc (suc zero))))) fault there =
    one_check name 5 (nat_lt (text_len name) (length name)) (NotText (text_len name)) fault
    (λ found. (no_text name (ltb-true (text_len name) (length name) found), text_len-longest name)) refl there
check_holds name (suc (suc (suc (suc (suc (suc k)))))) fault there = cc

-- The rules and the value

-- a fault that is computed is the first one
pub HasFault-computed : (name : List ℕ) (fault : NameFault) → name_fault name ≡ Some fault → HasFault name fault
HasFault-computed name fault e =
    let first = first_fault_is (name_checks name) fault e in
    let own = check_holds name first.place fault first.found in
    record {
      fails = own.1;
      first = λ other fails.
          elim (cases_lt (rank other) (rank fault)) [
            | inl earlier ↦
                let none = first.before (rank other) (omega (arith, own.0)) in
                let some = check_found name other fails in
                absurd (cc)
            | inr later ↦ later
          ];
    }

-- a name for which none is computed has none
pub IsSound-computed : (name : List ℕ) → name_fault name ≡ None → IsSound name
IsSound-computed name e fault fails =
    let none = no_fault_at (name_checks name) (rank fault) (Some fault) e (check_found name fault fails) in
    cc

-- the first fault is the one that is computed
pub name_fault-first : (name : List ℕ) (fault : NameFault) → HasFault name fault → name_fault name ≡ Some fault
name_fault-first name fault first = go (name_fault name) refl
  where
    go : (found : Option NameFault) → name_fault name ≡ found → found ≡ Some fault
    go None e = absurd (IsSound-computed name e fault first.fails)
    go (Some other) e =
        let computed = HasFault-computed name other e in
        let earlier = first.first other computed.fails in
        let later = computed.first fault first.fails in
        let place : rank other ≡ rank fault = omega arith in
        let here = check_found name other computed.fails in
        let there = check_found name fault first.fails in
        same_some (Some other) (Some fault) (sym here ∙ ap (slice_get (name_checks name)) place ∙ there)

-- a name has at most one first fault
pub HasFault-unique : (name : List ℕ) (a b : NameFault) → HasFault name a → HasFault name b → a ≡ b
HasFault-unique name a b h k =
    let first = name_fault-first name a h in
    let second = name_fault-first name b k in
    cc
