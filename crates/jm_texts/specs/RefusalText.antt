-- What a command refuses in print: the kind, and the carried values, each after a space (this
-- project's rule). Names of modules, packages, entries and resources, and paths of files, are put
-- as they are shown.
use Rattle.std.specs.Prelude.{ℕ, List, ◌∷◌, ◌++◌, codes}
use Rattle.std.specs.Fmt.{decimal}
use Rattle.jm_class.specs.FaultText.{class_fault_text}
use Rattle.jm_modinfo.specs.FaultText.{descriptor_fault_text}
use Rattle.jm_names.specs.Shown.{shown, shown_text}
use Rattle.jm_names.specs.declared.check.NameFault.{NameFault}
use Rattle.jm_names.specs.declared.check.NameFault.TheVariants as fault_of
use Rattle.jm_packed.specs.PackedText.{packed_fault_text}
use Rattle.jm_texts.specs.declared.refusal.Refusal.{Refusal}
use Rattle.jm_texts.specs.declared.refusal.Refusal.TheVariants as refusal

-- the fault of a name in print: its kind, and the place after a space
abbrev pub name_fault_text : NameFault → List ℕ
name_fault_text fault_of.Empty = codes "Empty"
name_fault_text fault_of.EmptyPart = codes "EmptyPart"
name_fault_text fault_of.Dots = codes "Dots"
name_fault_text fault_of.Zero = codes "Zero"
name_fault_text fault_of.TooLong = codes "TooLong"
name_fault_text (fault_of.NotText at) = codes "NotText " ++ decimal at

-- a name as it is shown after a space
abbrev pub spaced : List ℕ → List ℕ
spaced name = 32 ∷ shown name

-- a refusal in print: its kind, and each of its names and numbers after a space
abbrev pub refusal_text : Refusal → List ℕ
refusal_text (refusal.BadInfo path fault) =
    codes "BadInfo " ++ shown_text path ++ 32 ∷ descriptor_fault_text fault
refusal_text (refusal.BadEntry name fault) =
    codes "BadInfo" ++ spaced name ++ 32 ∷ descriptor_fault_text fault
refusal_text (refusal.Foreign name) = codes "Foreign" ++ spaced name
refusal_text (refusal.TwoModules dir name) = codes "TwoModules " ++ shown_text dir ++ spaced name
refusal_text (refusal.ReservedModule name) = codes "ReservedModule" ++ spaced name
refusal_text (refusal.NoRoot name) = codes "NoRoot" ++ spaced name
refusal_text (refusal.Missing name by) = codes "Missing" ++ spaced name ++ spaced by
refusal_text (refusal.Cycle name) = codes "Cycle" ++ spaced name
refusal_text (refusal.SplitPackage shared first second) =
    codes "SplitPackage" ++ spaced shared ++ spaced first ++ spaced second
refusal_text (refusal.BadName name fault) =
    codes "BadName" ++ spaced name ++ 32 ∷ name_fault_text fault
refusal_text (refusal.BadClass name fault) =
    codes "BadClass" ++ spaced name ++ 32 ∷ class_fault_text fault
refusal_text (refusal.Clash name) = codes "Clash" ++ spaced name
refusal_text (refusal.TooMany count) = codes "TooMany " ++ decimal count
refusal_text (refusal.NoTable lengths) = codes "NoTable " ++ decimal lengths
refusal_text (refusal.TooLarge length) = codes "TooLarge " ++ decimal length
refusal_text (refusal.Packed name fault) =
    codes "Packed" ++ spaced name ++ 32 ∷ packed_fault_text fault
