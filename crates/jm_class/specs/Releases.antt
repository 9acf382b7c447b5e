-- Which classes a release of Java SE takes: release N those of the major versions up to 44 + N
-- (JVMS 4.1). A class of a later release has its fault in the place of its version: after those of
-- the first eight bytes and of the magic, and before all others (this project's rule).
use Rattle.std.specs.Prelude.{◌≡◌, ◌⊎◌, ℕ, ◌+◌, ◌≤◌, nat_le, nat_lt, ◌==◌, ◌&&◌, List, length}
use Rattle.std.specs.Prelude.{take, drop, Option, Some, None, option_and_then, if◌then◌else◌}
use Rattle.std.specs.Prelude.{Result, Err, IfOk, OnOk}
use Rattle.std.specs.Int.{w16, w32, from_be_bytes}
use Rattle.jm_bytes.specs.Checks.{fault_if, unless_fault}
use Rattle.jm_bytes.specs.Results.{followed}
use Rattle.jm_bytes.specs.declared.faults.Or.{Or}
use Rattle.jm_bytes.specs.declared.faults.Or.TheVariants.{Fault}
use Rattle.jm_class.specs.declared.class.Class.{Class}
use Rattle.jm_class.specs.declared.class.ClassFault.{ClassFault}
use Rattle.jm_class.specs.declared.class.ClassFault.TheVariants.{Version}
use Rattle.jm_class.specs.ClassLayout.{class_of, HasClassFault, HasNoClassFault}
use Rattle.jm_class.specs.Classes.{ClassData, ReadsAs, magic}
use Rattle.jm_class.specs.Layouts.{fault_of}
use Rattle.jm_class.specs.Views.{plain}

-- the greatest major version of a release
abbrev pub newest_major : ℕ → ℕ
newest_major release = 44 + release

-- the major version in the first eight bytes, if these are there and begin with the magic
abbrev pub major_in : List ℕ → Option ℕ
major_in bytes =
    if nat_le 8 (length bytes) && from_be_bytes w32 (take 4 bytes) == magic
    then Some (from_be_bytes w16 (take 2 (drop 6 bytes))) else None

-- the fault of a class newer than a release, or none
abbrev pub release_fault : ℕ → List ℕ → Option ClassFault
release_fault release bytes =
    option_and_then (λ major. fault_if (nat_lt (newest_major release) major) (Version major))
    (major_in bytes)

-- the rule: the bytes are those of a well-formed class of a release
pub record ReadsFor (release : ℕ) (bytes : List ℕ) (c : ClassData) : Type 0 where
  pub reads : ReadsAs bytes c
  pub major : c.major ≤ newest_major release

-- the rule: the first fault of these bytes for a release
abbrev pub HasFaultFor : ℕ → List ℕ → ClassFault → Type 0
HasFaultFor release bytes fault =
    (release_fault release bytes ≡ Some fault)
    ⊎ ((release_fault release bytes ≡ None) × HasClassFault bytes fault)

-- the class of a release that some bytes read as, or their first fault
abbrev pub class_for : ℕ → List ℕ → Result ClassData ClassFault
class_for release bytes = followed (unless_fault (release_fault release bytes) bytes) class_of

-- the first fault of some bytes for a release, or none
abbrev pub fault_for : ℕ → List ℕ → Option ClassFault
fault_for release bytes = fault_of (class_for release bytes)

-- what reading the class of a release gives: the one class that the bytes are, or their first fault
pub record IsReadFor (release : ℕ) (bytes : List ℕ) (result : Result Class (Or ClassFault))
    : Type 0 where
  pub class : IfOk result (λ class. ReadsFor release bytes (plain class))
  pub only : IfOk result (λ class.
      (other : ClassData) → ReadsAs bytes other → other ≡ plain class)
  pub allowed : OnOk result ((release_fault release bytes ≡ None) × HasNoClassFault bytes)
  pub no_fault : OnOk result (fault_for release bytes ≡ None)
  pub first : (fault : ClassFault) → result ≡ Err (Fault fault) → HasFaultFor release bytes fault
  pub fault : (fault : ClassFault) → result ≡ Err (Fault fault)
      → fault_for release bytes ≡ Some fault
  pub no_class : (fault : ClassFault) → result ≡ Err (Fault fault)
      → (c : ClassData) → ¬ ReadsFor release bytes c
