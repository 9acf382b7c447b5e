-- What makes a name unfit for an image (this project's rule).
use Rattle.std.specs.Prelude.{◌≡◌, ℕ, ◌<◌, ◌≤◌, Bool, true, false, ◌==◌, ◌&&◌, ◌||◌, List, [], ◌∷◌}
use Rattle.std.specs.Prelude.{length, drop, codes}
use Rattle.std.specs.List.{list_any, slice_split}
use Rattle.std.specs.Str.{bytes_eq}
use Rattle.jm_names.specs.Names.{is_slash, is_empty}
use Rattle.jm_names.specs.Characters.{IsText, IsLongestText}
use Rattle.jm_names.specs.declared.check.NameFault.{NameFault}
use Rattle.jm_names.specs.declared.check.NameFault.TheVariants.{Empty, EmptyPart, Dots, Zero}
use Rattle.jm_names.specs.declared.check.NameFault.TheVariants.{TooLong, NotText}

-- the name begins with a slash and has a second one
abbrev pub has_module : List ℕ → Bool
has_module [] = false
has_module (b ∷ name) = is_slash b && list_any is_slash name

-- the pieces between the slashes after the leading one
abbrev pub parts : List ℕ → List (List ℕ)
parts name = slice_split is_slash (drop 1 name)

-- a part is `.` or `..`
abbrev pub is_dots : List ℕ → Bool
is_dots part = bytes_eq part (codes ".") || bytes_eq part (codes "..")

-- a byte is zero
abbrev pub is_zero : ℕ → Bool
is_zero b = b == 0

-- the name has the cause of a fault, whatever else is wrong with it
abbrev pub Fails : List ℕ → NameFault → Type 0
Fails name Empty = has_module name ≡ false
Fails name EmptyPart = list_any is_empty (parts name) ≡ true
Fails name Dots = list_any is_dots (parts name) ≡ true
Fails name Zero = list_any is_zero name ≡ true
Fails name TooLong = 4096 < length name
Fails name (NotText at) = (¬ IsText name) × IsLongestText at name

-- the place of a fault in the order of the faults
abbrev pub rank : NameFault → ℕ
rank Empty = 0
rank EmptyPart = 1
rank Dots = 2
rank Zero = 3
rank TooLong = 4
rank (NotText at) = 5

-- the fault is the first that holds: each other one that holds has no lesser rank
pub record HasFault (name : List ℕ) (fault : NameFault) : Type 0 where
  pub fails : Fails name fault
  pub first : (other : NameFault) → Fails name other → rank fault ≤ rank other

-- no fault holds
abbrev pub IsSound : List ℕ → Type 0
IsSound name = (fault : NameFault) → ¬ Fails name fault
