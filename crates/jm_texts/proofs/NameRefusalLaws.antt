-- Items whose names may stand in an image, from that none is refused.
use Rattle.std.proofs.Common.{◌≡◌, ◌≤◌, ℕ, zero, suc, List, [], ◌∷◌, drop, length, map, Option, Some, None}
use Rattle.std.proofs.Common.{option_map, All, refl, sym, ap, ◌∙◌, arith}
use Rattle.std.proofs.lemmas.List.{drop_all}
use Rattle.jm_bytes.proofs.CheckLaws.{no_fault_head, no_fault_tail}
use Rattle.jm_names.specs.ComputedFault.{name_fault}
use Rattle.jm_names.specs.NameFaults.{IsSound}
use Rattle.jm_names.specs.declared.check.NameFault.{NameFault}
use Rattle.jm_names.proofs.ComputedFaultLaws.{IsSound-computed}
use Rattle.jm_names.specs.ByName.{Named}
use Rattle.jm_texts.specs.NameRefusals.{first_bad_name, name_refusal}
use Rattle.jm_texts.specs.declared.refusal.Refusal.TheVariants as refusal

unrefused : (name : List ℕ) (fault : Option NameFault) → option_map (λ fault. refusal.BadName name fault) fault ≡ None → fault ≡ None
unrefused name None h = refl
unrefused name (Some fault) h = cc

module _ {T : Type 0} (pair : T → Named) where
  -- names that were all checked
  pub none_checked : (ts : List T) (i : ℕ) → length ts ≤ i → first_bad_name (map pair (drop i ts)) ≡ first_bad_name (map pair ts)
      → first_bad_name (map pair ts) ≡ None
  none_checked ts i all checked = sym checked ∙ ap (λ us. first_bad_name (map pair us)) (drop_all i ts all)

  pub all_sound : (ts : List T) → first_bad_name (map pair ts) ≡ None → All (λ t. IsSound (pair t).0) ts
  all_sound [] none i d below = absurd (omega arith)
  all_sound (t ∷ ts) none zero d below =
      IsSound-computed (pair t).0 (unrefused (pair t).0 (name_fault (pair t).0) (no_fault_head (name_refusal (pair t))
      (map name_refusal (map pair ts)) none))
  all_sound (t ∷ ts) none (suc i) d below =
      all_sound ts (no_fault_tail (name_refusal (pair t)) (map name_refusal (map pair ts)) none) i d (omega arith)
