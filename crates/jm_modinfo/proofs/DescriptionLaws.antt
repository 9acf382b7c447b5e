-- What a file says as the class of a module, from what the calls answered that read it.
use Rattle.std.proofs.Common.{◌≡◌, ℕ, true, List, Some, None, Result, Ok, Err, refl, sym, ap, ◌∙◌}
use Rattle.jm_bytes.proofs.Choice.{same_ok}
use Rattle.jm_class.specs.declared.class.ClassFault.{ClassFault}
use Rattle.jm_class.specs.Classes.{ClassData}
use Rattle.jm_class.specs.Layouts.{fault_of}
use Rattle.jm_class.specs.Releases.{ReadsFor, class_for, fault_for}
use Rattle.jm_class.proofs.ReleaseLaws.{reads-class_for, class_for-class_of}
use Rattle.jm_modinfo.specs.declared.descriptor.Descriptor.{Descriptor}
use Rattle.jm_modinfo.specs.declared.faults.DescriptorFault.{DescriptorFault}
use Rattle.jm_modinfo.specs.declared.faults.DescriptorFault.TheVariants as kind
use Rattle.jm_modinfo.specs.declared.faults.InfoFault.{InfoFault}
use Rattle.jm_modinfo.specs.ComputedInfo.{info_of}
use Rattle.jm_modinfo.specs.Constants.{is_legal}
use Rattle.jm_modinfo.specs.Descriptions.{info_for, info_in, info_with}
use Rattle.jm_modinfo.specs.Descriptors.{InfoOf}
use Rattle.jm_modinfo.specs.Faults.{info_fault}
use Rattle.jm_modinfo.specs.declared.faults.InfoFault.TheVariants.{Short, Rest}
use Rattle.jm_modinfo.specs.ModuleLayout.{module_layout}
use Rattle.jm_class.proofs.LayoutLaws.{says-whole}
use Rattle.jm_modinfo.proofs.InfoLaws.{body_gives, info-computed, info_fault-of}

class_faulty : (r : Result ClassData ClassFault) (fault : ClassFault) → fault_of r ≡ Some fault → r ≡ Err fault
class_faulty (Ok c) fault is = cc
class_faulty (Err other) fault is = cc

pub no_class : (release : ℕ) (b : List ℕ) (fault : ClassFault) → fault_for release b ≡ Some fault
    → info_for release b ≡ Err (kind.Class fault)
no_class release b fault is = ap info_with (class_faulty (class_for release b) fault is)

pub a_class : (release : ℕ) (b : List ℕ) (c : ClassData) → ReadsFor release b c → info_for release b ≡ info_with (Ok c)
a_class release b c reads = ap info_with (reads-class_for release b c reads)

info_faulty : (r : Result Descriptor InfoFault) (fault : InfoFault) → fault_of r ≡ Some fault → r ≡ Err fault
info_faulty (Ok d) fault is = cc
info_faulty (Err other) fault is = cc

-- a descriptor or its fault, as that of a file
abbrev pub of_class : Result Descriptor InfoFault → Result Descriptor DescriptorFault
of_class (Ok d) = Ok d
of_class (Err fault) = Err (kind.Info fault)

pub no_info : (c : ClassData) (fault : InfoFault) → info_fault c ≡ Some fault → info_with (Ok c) ≡ Err (kind.Info fault)
no_info c fault is = ap of_class (info_faulty (info_of c) fault (sym (info_fault-of c) ∙ is))

pub an_info : (c : ClassData) (d : Descriptor) → InfoOf c d → info_with (Ok c) ≡ Ok d
an_info c d says = ap of_class (info-computed c d says)

-- the class that bytes are which say a descriptor
told : (r : Result Descriptor InfoFault) (d : Descriptor) → of_class r ≡ Ok d → r ≡ Ok d
told (Ok other) d is = ap (λ x. Ok x) (same_ok {E = DescriptorFault} other d is)
told (Err fault) d is = cc

pub class_from : (r : Result ClassData ClassFault) (d : Descriptor) → info_with r ≡ Ok d → (c : ClassData) × (r ≡ Ok c) × (info_of c ≡ Ok d)
class_from (Ok c) d is = (c, refl, told (info_of c) d is)
class_from (Err fault) d is = cc

-- what a descriptor says for a release it says anyway, and for each later release
pub info_for-info_in : (release : ℕ) (bytes : List ℕ) (d : Descriptor) → info_for release bytes ≡ Ok d → info_in bytes ≡ Ok d
info_for-info_in release bytes d is =
    let one = class_from (class_for release bytes) d is in
    ap info_with (class_for-class_of release bytes one.0 one.1) ∙ ap of_class one.2

-- the name of a module is legal
pub legal_name : (c : ClassData) (d : Descriptor) → InfoOf c d → is_legal d.name ≡ true
legal_name c d info = (body_gives c.pool info.body (record d { main = None })
    (says-whole Short Rest (module_layout c.pool) info.body (record d { main = None }) info.says)).1
