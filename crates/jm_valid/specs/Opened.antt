-- Why bytes were not opened as an image, and what is known of those that were (this project's
-- rule).
use Rattle.std.specs.Prelude.{◌≡◌, ℕ, List, Option, Some, None, Ok}
use Rattle.jm_form.specs.declared.container.Header.{Header}
use Rattle.jm_form.specs.declared.damage.Damage.{Damage}
use Rattle.jm_form.specs.declared.rows.Compression.{Compression}
use Rattle.jm_form.specs.Damages.{first_damage, front_damage, stored_damage}
use Rattle.jm_form.specs.Head.{HoldsIndex, header_with}
use Rattle.jm_valid.specs.declared.open_error.OpenError.{OpenError}
use Rattle.jm_valid.specs.declared.open_error.OpenError.TheVariants.{Damaged, Memory}

-- a damage that is named is this one; want of memory says nothing
abbrev pub Reports : Option Damage → OpenError → Type 0
Reports first (Damaged damage) = first ≡ Some damage
Reports first Memory = Unit {0}

-- a damage that is named is the first one; want of memory says nothing of the bytes
abbrev pub IsDamageOf : List ℕ → OpenError → Type 0
IsDamageOf b error = Reports (first_damage b) error

-- a damage that is named is the first one of the bytes read as stored; want of memory says nothing
abbrev pub IsStoredDamageOf : List ℕ → OpenError → Type 0
IsStoredDamageOf b error = Reports (stored_damage b) error

-- the first bytes of a file, and how many bytes the file has
pub record Front : Type 0 where
  pub bytes : List ℕ
  pub length : ℕ

-- the bytes hold the index of a file of so many that begins with them, its header is h, and they
-- tell no damage; so each such file is valid, its contents compressed or not
pub record IsIndexOf (c : Compression) (front : List ℕ) (length : ℕ) (h : Header) : Type 0 where
  pub holds : HoldsIndex front length
  pub header : header_with front length ≡ Ok h
  pub sound : front_damage c front length ≡ None
