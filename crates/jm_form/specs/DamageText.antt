-- A header's fault and a damage in print: the kind, and each of its numbers behind a space (this
-- project's rule).
use Rattle.std.specs.Prelude.{ℕ, ◌++◌, List, codes}
use Rattle.std.specs.Fmt.{decimal}
use Rattle.jm_form.specs.declared.container.HeaderFault.{HeaderFault}
use Rattle.jm_form.specs.declared.container.HeaderFault.TheVariants.{Short, Magic, Version, Sizes}
use Rattle.jm_form.specs.declared.damage.Damage.{Damage}
use Rattle.jm_form.specs.declared.damage.Damage.TheVariants as damage

-- a fault of a header in print: its kind, and the version behind a space
abbrev pub header_fault_text : HeaderFault → List ℕ
header_fault_text Short = codes "Short"
header_fault_text Magic = codes "Magic"
header_fault_text (Version word) = codes "Version " ++ decimal word
header_fault_text Sizes = codes "Sizes"

-- a damage in print: its kind, and each of its numbers behind a space
abbrev pub damage_text : Damage → List ℕ
damage_text (damage.Header fault) = codes "Header " ++ header_fault_text fault
damage_text (damage.Offset slot) = codes "Offset " ++ decimal slot
damage_text (damage.Row slot) = codes "Row " ++ decimal slot
damage_text (damage.Compressed slot) = codes "Compressed " ++ decimal slot
damage_text (damage.Text slot kind) = codes "Text " ++ decimal slot ++ codes " " ++ decimal kind
damage_text (damage.Range slot) = codes "Range " ++ decimal slot
damage_text (damage.Count stated found) =
    codes "Count " ++ decimal stated ++ codes " " ++ decimal found
damage_text (damage.Overlap first second) =
    codes "Overlap " ++ decimal first ++ codes " " ++ decimal second
