-- What bytes say as the class of a module by its rule is what is computed, and each fault that is
-- computed is one by the rule.
use Rattle.std.proofs.Common.{◌≡◌, ℕ, List, Option, Some, None, Result, Ok, Err, refl, ap, ◌∙◌, subst, inl, inr}
use Rattle.jm_bytes.specs.Checks.{unless_fault}
use Rattle.jm_bytes.specs.Results.{followed}
use Rattle.jm_class.specs.declared.class.ClassFault.{ClassFault}
use Rattle.jm_class.specs.Classes.{ClassData}
use Rattle.jm_class.specs.ClassLayout.{class_of}
use Rattle.jm_class.specs.Layouts.{fault_of}
use Rattle.jm_class.specs.Releases.{release_fault, HasFaultFor, ReadsFor, class_for, fault_for}
use Rattle.jm_class.proofs.ClassLaws.{class_fault-rule, rule-class_fault}
use Rattle.jm_class.proofs.ReadingLaws.{IsBytes}
use Rattle.jm_class.proofs.ReleaseLaws.{class_for-reads}
use Rattle.jm_modinfo.specs.declared.descriptor.Descriptor.{Descriptor}
use Rattle.jm_modinfo.specs.declared.faults.DescriptorFault.{DescriptorFault}
use Rattle.jm_modinfo.specs.declared.faults.DescriptorFault.TheVariants as kind
use Rattle.jm_modinfo.specs.declared.faults.InfoFault.{InfoFault}
use Rattle.jm_modinfo.specs.ComputedInfo.{info_of}
use Rattle.jm_modinfo.specs.Descriptions.{SaysFor, info_for, info_with}
use Rattle.jm_modinfo.proofs.DescriptionLaws.{a_class, an_info, no_class, no_info, of_class}
use Rattle.jm_modinfo.proofs.InfoFaultLaws.{info_fault-rule, rule-info_fault}
use Rattle.jm_modinfo.proofs.InfoLaws.{info_fault-of}

-- the fault of a class for a release, by the rule and as computed
rule-fault_for : (release : ℕ) (bytes : List ℕ) (fault : ClassFault) → HasFaultFor release bytes fault
    → fault_for release bytes ≡ Some fault
rule-fault_for release bytes fault (inl newer) = ap (λ f. fault_of (followed (unless_fault f bytes) class_of)) newer
rule-fault_for release bytes fault (inr has) =
    ap (λ f. fault_of (followed (unless_fault f bytes) class_of)) has.0 ∙ rule-class_fault bytes fault has.1

fault_for-rule : (release : ℕ) (bytes : List ℕ) (fault : ClassFault) → fault_for release bytes ≡ Some fault
    → HasFaultFor release bytes fault
fault_for-rule release bytes fault is = go (release_fault release bytes) refl is
  where
    go : (newer : Option ClassFault) → release_fault release bytes ≡ newer
        → fault_of (followed (unless_fault newer bytes) class_of) ≡ Some fault → HasFaultFor release bytes fault
    go None none is = inr (none, class_fault-rule bytes fault is)
    go (Some other) newer is = inl (newer ∙ is)

-- what the rule says is what is computed, so there is one such thing
pub says-for : (release : ℕ) (bytes : List ℕ) (said : Result Descriptor DescriptorFault) → SaysFor release bytes said
    → info_for release bytes ≡ said
says-for release bytes (Ok d) (c, reads, says) = a_class release bytes c reads ∙ an_info c d says
says-for release bytes (Err (kind.Class fault)) has = no_class release bytes fault (rule-fault_for release bytes fault has)
says-for release bytes (Err (kind.Info fault)) (c, reads, has) =
    a_class release bytes c reads ∙ no_info c fault (rule-info_fault c fault has)

-- a fault that is computed is one by the rule
pub fault-says : (release : ℕ) (bytes : List ℕ) (fault : DescriptorFault) → IsBytes bytes
    → info_for release bytes ≡ Err fault → SaysFor release bytes (Err fault)
fault-says release bytes fault all is = go (class_for release bytes) refl is
  where
    of_info : (c : ClassData) → ReadsFor release bytes c → (r : Result Descriptor InfoFault) → info_of c ≡ r
        → of_class r ≡ Err fault → SaysFor release bytes (Err fault)
    of_info c reads (Ok d) e is = cc
    of_info c reads (Err other) e is =
        subst (λ r. SaysFor release bytes r) is (c, reads, info_fault-rule c other (info_fault-of c ∙ ap fault_of e))

    go : (r : Result ClassData ClassFault) → class_for release bytes ≡ r → info_with r ≡ Err fault
        → SaysFor release bytes (Err fault)
    go (Err other) e is =
        subst (λ r. SaysFor release bytes r) is (fault_for-rule release bytes other (ap fault_of e))
    go (Ok c) e is = of_info c (class_for-reads release bytes c all e) (info_of c) refl is
