-- The class of a release that `class_for` computes is the one that `ReadsFor` rules, and a later release
-- takes what an earlier one takes.
use Rattle.std.proofs.Common.{◌≡◌, ℕ, ◌≤◌, Bool, true, false, List, length, drop, ◌++◌, Option, Some, None, Result, Ok, Err, refl, sym, ap, ◌∙◌, inr, arith}
use Rattle.std.proofs.lemmas.Bool.{ltb-false, le-ltb, le-leb}
use Rattle.std.proofs.lemmas.Nat.{from_be_bytes-to_be_bytes_2}
use Rattle.std.proofs.lemmas.List.{length-append}
use Rattle.std.specs.Int.{w16, w32, from_be_bytes}
use Rattle.std.specs.Prelude.{nat_lt, nat_le, ◌&&◌, ◌==◌, if◌then◌else◌, option_and_then, IfOk, OnOk}
use Rattle.jm_bytes.specs.Checks.{fault_if, unless_fault}
use Rattle.jm_bytes.specs.Results.{followed}
use Rattle.jm_bytes.specs.declared.faults.Or.{Or}
use Rattle.jm_class.specs.declared.class.Class.{Class}
use Rattle.jm_class.specs.declared.class.ClassFault.{ClassFault}
use Rattle.jm_class.specs.declared.class.ClassFault.TheVariants.{Version}
use Rattle.jm_class.specs.Classes.{ClassData, IsClass, ReadsAs, class_text, magic, u2, u4}
use Rattle.jm_class.specs.ClassLayout.{class_fault, class_of, HasNoClassFault}
use Rattle.jm_class.specs.Layouts.{fault_of}
use Rattle.jm_class.specs.Releases.{newest_major, major_in, release_fault, ReadsFor, class_for, fault_for, IsReadFor}
use Rattle.jm_class.specs.Views.{ReadsClass, plain}
use Rattle.jm_class.proofs.ClassLaws.{class_has_fault, class_has_none}
use Rattle.jm_class.proofs.ClassLaws.{class_of-reads, reads-class_of, class_only, class_no_fault, class_refused, class_none}
use Rattle.jm_class.proofs.ReadingLaws.{IsBytes}

-- the major version of a class stands in its text
long_enough : (front rest : List ℕ) → length front ≡ 8 → nat_le 8 (length (front ++ rest)) ≡ true
long_enough front rest size =
    le-leb 8 (length (front ++ rest)) (rw (length-append front rest) (omega (arith, size)))

text_major : (c : ClassData) → IsClass c → major_in (class_text c) ≡ Some c.major
text_major c fits =
    let long : nat_le 8 (length (class_text c)) ≡ true
    = long_enough (u4 magic ++ u2 c.minor ++ u2 c.major) (drop 8 (class_text c)) refl in
    ap (λ is. if is && from_be_bytes w32 (u4 magic) == magic then Some (from_be_bytes w16 (u2 c.major)) else None) long
    ∙ ap (λ n. Some n) (from_be_bytes-to_be_bytes_2 c.major (omega (arith, fits.major.1)))

-- so the fault by a release is that of this version
fault_by_major : (release : ℕ) (bytes : List ℕ) (c : ClassData) → ReadsAs bytes c
    → release_fault release bytes ≡ fault_if (nat_lt (newest_major release) c.major) (Version c.major)
fault_by_major release bytes c reads =
    rw (sym reads.text) (ap (option_and_then (λ major. fault_if (nat_lt (newest_major release) major) (Version major)))
    (text_major c reads.well_formed))

no_fault_major : (release major : ℕ) → fault_if (nat_lt (newest_major release) major) (Version major) ≡ None
    → major ≤ newest_major release
no_fault_major release major is = go (nat_lt (newest_major release) major) refl is
  where
    go : (newer : Bool) → nat_lt (newest_major release) major ≡ newer → fault_if newer (Version major) ≡ None
        → major ≤ newest_major release
    go true e none = cc
    go false e none = ltb-false (newest_major release) major e

-- a class of at most that major version is of the release
pub major-release : (release : ℕ) (bytes : List ℕ) (c : ClassData) → ReadsAs bytes c → c.major ≤ newest_major release
    → release_fault release bytes ≡ None
major-release release bytes c reads most =
    fault_by_major release bytes c reads ∙ ap (λ newer. fault_if newer (Version c.major)) (le-ltb (newest_major release) c.major most)

-- and the other way round
release-major : (release : ℕ) (bytes : List ℕ) (c : ClassData) → ReadsAs bytes c → release_fault release bytes ≡ None
    → c.major ≤ newest_major release
release-major release bytes c reads none =
    no_fault_major release c.major (sym (fault_by_major release bytes c reads) ∙ none)

-- a class of a release has no fault by it, and is the class that the bytes are
pub class_for-parts : (release : ℕ) (bytes : List ℕ) (c : ClassData) → class_for release bytes ≡ Ok c
    → (release_fault release bytes ≡ None) × (class_of bytes ≡ Ok c)
class_for-parts release bytes c is = go (release_fault release bytes) refl is
  where
    go : (newer : Option ClassFault) → release_fault release bytes ≡ newer → followed (unless_fault newer bytes) class_of ≡ Ok c
        → (release_fault release bytes ≡ None) × (class_of bytes ≡ Ok c)
    go None e is = (e, is)
    go (Some fault) e is = cc

pub class_for-class_of : (release : ℕ) (bytes : List ℕ) (c : ClassData) → class_for release bytes ≡ Ok c → class_of bytes ≡ Ok c
class_for-class_of release bytes c is = (class_for-parts release bytes c is).1

-- a class that bytes read as, and that is of at most the major version of the release, is what they are for it
pub major-class_for : (release : ℕ) (bytes : List ℕ) (c : ClassData) → ReadsAs bytes c → c.major ≤ newest_major release
    → class_for release bytes ≡ Ok c
major-class_for release bytes c reads most =
    ap (λ newer. followed (unless_fault newer bytes) class_of) (major-release release bytes c reads most)
    ∙ reads-class_of bytes c reads

-- the rule and its value
pub reads-class_for : (release : ℕ) (bytes : List ℕ) (c : ClassData) → ReadsFor release bytes c → class_for release bytes ≡ Ok c
reads-class_for release bytes c is = major-class_for release bytes c is.reads is.major

pub class_for-reads : (release : ℕ) (bytes : List ℕ) (c : ClassData) → IsBytes bytes → class_for release bytes ≡ Ok c
    → ReadsFor release bytes c
class_for-reads release bytes c all is =
    let parts = class_for-parts release bytes c is in
    let reads = class_of-reads bytes c all parts.1 in
    record { reads = reads; major = release-major release bytes c reads parts.0 }

-- a later release takes each class of an earlier one
none-later : (release later : ℕ) → release ≤ later → (bytes : List ℕ) → release_fault release bytes ≡ None
    → release_fault later bytes ≡ None
none-later release later rises bytes none = go (major_in bytes) none
  where
    go : (found : Option ℕ)
        → option_and_then (λ major. fault_if (nat_lt (newest_major release) major) (Version major)) found ≡ None
        → option_and_then (λ major. fault_if (nat_lt (newest_major later) major) (Version major)) found ≡ None
    go None is = refl
    go (Some major) is =
        ap (λ newer. fault_if newer (Version major))
        (le-ltb (newest_major later) major (omega (arith, no_fault_major release major is, rises)))

pub class_for-later : (release later : ℕ) → release ≤ later → (bytes : List ℕ) (c : ClassData) → class_for release bytes ≡ Ok c
    → class_for later bytes ≡ Ok c
class_for-later release later rises bytes c is =
    let parts = class_for-parts release bytes c is in
    ap (λ newer. followed (unless_fault newer bytes) class_of) (none-later release later rises bytes parts.0) ∙ parts.1

pub reads_for-later : (release later : ℕ) → release ≤ later → (bytes : List ℕ) (c : ClassData) → ReadsFor release bytes c
    → ReadsFor later bytes c
reads_for-later release later rises bytes c is = record { reads = is.reads; major = omega (arith, is.major, rises) }

-- What the code reads of bytes that are no newer class

module _ (release : ℕ) (bytes : List ℕ) (none : release_fault release bytes ≡ None) where
  fault_none : fault_for release bytes ≡ fault_of (class_of bytes)
  fault_none = ap (λ f. fault_of (followed (unless_fault f bytes) class_of)) none

  pub read_other : (result : Result Class (Or ClassFault)) → IsBytes bytes → ReadsClass bytes result → IsReadFor release bytes result
  read_other result all reads = record {
    class = class_of_release result all reads;
    only = class_only bytes result reads;
    allowed = allowed_for result (class_has_none bytes result reads);
    no_fault = no_fault_of result (class_no_fault bytes result reads);
    first = λ fault is. inr (none, class_has_fault bytes result fault reads is);
    fault = λ fault is. fault_none ∙ class_refused bytes result fault reads is;
    no_class = λ fault is c other. class_none bytes result fault c reads is other.reads;
  }
    where
      class_of_release : (result : Result Class (Or ClassFault)) → IsBytes bytes → ReadsClass bytes result
          → IfOk result (λ class. ReadsFor release bytes (plain class))
      class_of_release (Ok class) all reads =
          let is = class_of-reads bytes (plain class) all reads in
          record { reads = is; major = release-major release bytes (plain class) is none }
      class_of_release (Err error) all reads = tt

      allowed_for : (result : Result Class (Or ClassFault)) → OnOk result (HasNoClassFault bytes)
          → OnOk result ((release_fault release bytes ≡ None) × HasNoClassFault bytes)
      allowed_for (Ok class) good = (none, good)
      allowed_for (Err error) good = tt

      no_fault_of : (result : Result Class (Or ClassFault)) → OnOk result (class_fault bytes ≡ None)
          → OnOk result (fault_for release bytes ≡ None)
      no_fault_of (Ok class) free = fault_none ∙ free
      no_fault_of (Err error) free = tt
