-- Names that are refused because they may not stand in an image (this project's rule).
use Rattle.std.specs.Prelude.{List, map, Option, option_map}
use Rattle.jm_bytes.specs.Checks.{first_fault}
use Rattle.jm_names.specs.ComputedFault.{name_fault}
use Rattle.jm_names.specs.ByName.{Named}
use Rattle.jm_texts.specs.declared.refusal.Refusal.{Refusal}
use Rattle.jm_texts.specs.declared.refusal.Refusal.TheVariants as refusal

-- the refusal of a name that may not stand in an image, with its fault
abbrev pub name_refusal : Named → Option Refusal
name_refusal f = option_map (λ fault. refusal.BadName f.0 fault) (name_fault f.0)

-- the refusal of the first name that may not stand in an image, or none
abbrev pub first_bad_name : List Named → Option Refusal
first_bad_name names = first_fault (map name_refusal names)
