-- The faults of a descriptor in print: the fault's name, and its number after a space; that of a
-- class or a descriptor after a word for it (this project's rule).
use Rattle.std.specs.Prelude.{ℕ, ◌++◌, List, codes}
use Rattle.std.specs.Fmt.{decimal}
use Rattle.jm_class.specs.FaultText.{class_fault_text}
use Rattle.jm_modinfo.specs.declared.faults.InfoFault.{InfoFault}
use Rattle.jm_modinfo.specs.declared.faults.InfoFault.TheVariants as fault
use Rattle.jm_modinfo.specs.declared.faults.DescriptorFault.{DescriptorFault}
use Rattle.jm_modinfo.specs.declared.faults.DescriptorFault.TheVariants as kind

-- a fault of a descriptor in print: its name, and its number after a space
abbrev pub info_fault_text : InfoFault → List ℕ
info_fault_text fault.NotModule = codes "NotModule"
info_fault_text (fault.OldVersion major) = codes "OldVersion " ++ decimal major
info_fault_text fault.NoModule = codes "NoModule"
info_fault_text fault.TwoModule = codes "TwoModule"
info_fault_text (fault.Index at) = codes "Index " ++ decimal at
info_fault_text (fault.Short at) = codes "Short " ++ decimal at
info_fault_text (fault.Rest at) = codes "Rest " ++ decimal at
info_fault_text (fault.Name at) = codes "Name " ++ decimal at
info_fault_text fault.Main = codes "Main"

-- a fault in print, after `Class` or `Info`
abbrev pub descriptor_fault_text : DescriptorFault → List ℕ
descriptor_fault_text (kind.Class fault) = codes "Class " ++ class_fault_text fault
descriptor_fault_text (kind.Info fault) = codes "Info " ++ info_fault_text fault
