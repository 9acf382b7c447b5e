-- A class fault in print: the fault's name, and its number after a space (this project's rule).
use Rattle.std.specs.Prelude.{ℕ, ◌++◌, List, codes}
use Rattle.std.specs.Fmt.{decimal}
use Rattle.jm_class.specs.declared.class.ClassFault.{ClassFault}
use Rattle.jm_class.specs.declared.class.ClassFault.TheVariants.{Magic, Version, Short, Tag, Index}
use Rattle.jm_class.specs.declared.class.ClassFault.TheVariants.{CodeLength, Rest}

-- a fault in print: its name, and its place or its version after a space
abbrev pub class_fault_text : ClassFault → List ℕ
class_fault_text Magic = codes "Magic"
class_fault_text (Version major) = codes "Version " ++ decimal major
class_fault_text (Short at) = codes "Short " ++ decimal at
class_fault_text (Tag at) = codes "Tag " ++ decimal at
class_fault_text (Index at) = codes "Index " ++ decimal at
class_fault_text (CodeLength at) = codes "CodeLength " ++ decimal at
class_fault_text (Rest at) = codes "Rest " ++ decimal at
