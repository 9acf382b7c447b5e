-- What bytes say as the class of a module (JVMS 4, 4.7.25). Which fault comes first is this
-- project's rule.
use Rattle.std.specs.Prelude.{ℕ, List, Result, Ok, Err}
use Rattle.jm_class.specs.declared.class.ClassFault.{ClassFault}
use Rattle.jm_class.specs.Classes.{ClassData}
use Rattle.jm_class.specs.ClassLayout.{class_of}
use Rattle.jm_class.specs.Releases.{ReadsFor, HasFaultFor, class_for}
use Rattle.jm_modinfo.specs.declared.descriptor.Descriptor.{Descriptor}
use Rattle.jm_modinfo.specs.declared.faults.DescriptorFault.{DescriptorFault}
use Rattle.jm_modinfo.specs.declared.faults.DescriptorFault.TheVariants as fault_of
use Rattle.jm_modinfo.specs.declared.faults.InfoFault.{InfoFault}
use Rattle.jm_modinfo.specs.ComputedInfo.{info_of}
use Rattle.jm_modinfo.specs.Descriptors.{InfoOf}
use Rattle.jm_modinfo.specs.InfoFaults.{HasInfoFault}

-- the descriptor by the class that bytes read as, or the fault of the class or of its descriptor
abbrev pub info_with : Result ClassData ClassFault → Result Descriptor DescriptorFault
info_with (Err fault) = Err (fault_of.Class fault)
info_with (Ok c) = described (info_of c)
  where
    described : Result Descriptor InfoFault → Result Descriptor DescriptorFault
    described (Ok d) = Ok d
    described (Err fault) = Err (fault_of.Info fault)

-- what bytes say as the class of a module, of whatever release, or their first fault
abbrev pub info_in : List ℕ → Result Descriptor DescriptorFault
info_in bytes = info_with (class_of bytes)

-- what bytes say as the class of a module for a release, or their first fault
abbrev pub info_for : ℕ → List ℕ → Result Descriptor DescriptorFault
info_for release bytes = info_with (class_for release bytes)

-- the rule of what bytes say as the class of a module for a release: they are a class of it, of which
-- this is the descriptor; or their first fault as such a class; or that of a class without one as a
-- module's
abbrev pub SaysFor : ℕ → List ℕ → Result Descriptor DescriptorFault → Type 0
SaysFor release bytes (Ok d) = (c : ClassData) × ReadsFor release bytes c × InfoOf c d
SaysFor release bytes (Err (fault_of.Class fault)) = HasFaultFor release bytes fault
SaysFor release bytes (Err (fault_of.Info fault)) =
    (c : ClassData) × ReadsFor release bytes c × HasInfoFault c fault
