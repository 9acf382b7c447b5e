-- Why a compressed content can't be had, in print: the kind, and its number after a space (this
-- project's rule).
use Rattle.std.specs.Prelude.{ℕ, ◌++◌, List, codes}
use Rattle.std.specs.Fmt.{decimal}
use Rattle.jm_packed.specs.declared.packed.PackedFault.{PackedFault}
use Rattle.jm_packed.specs.declared.packed.PackedFault.TheVariants as fault

-- the fault of a compressed content in print: its kind, and its place after a space
abbrev pub packed_fault_text : PackedFault → List ℕ
packed_fault_text fault.Header = codes "Header"
packed_fault_text fault.Decompressor = codes "Decompressor"
packed_fault_text fault.Size = codes "Size"
packed_fault_text (fault.Stream at) = codes "Stream " ++ decimal at
packed_fault_text fault.Check = codes "Check"
