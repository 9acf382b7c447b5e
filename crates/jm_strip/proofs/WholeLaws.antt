-- What a call's answer says of the class that its bytes read as.
use Rattle.std.proofs.Common.{◌≡◌, ◌≤◌, ℕ, List, length, Some, None, Result, Ok, Err, sym, ap, subst, ◌∙◌}
use Rattle.jm_bytes.specs.Checks.{unless_fault}
use Rattle.jm_bytes.specs.Results.{followed}
use Rattle.jm_bytes.specs.declared.faults.Or.{Or}
use Rattle.jm_bytes.specs.declared.faults.Or.TheVariants.{Fault, Memory}
use Rattle.jm_class.specs.declared.class.ClassFault.{ClassFault}
use Rattle.jm_class.specs.declared.class.ClassFault.TheVariants.{Rest, Short}
use Rattle.jm_class.specs.Classes.{ClassData, class_text, ReadsAs}
use Rattle.jm_class.specs.ClassLayout.{class_fields, class_of}
use Rattle.jm_class.specs.Layouts.{reading, fault_of, value_of}
use Rattle.jm_class.specs.Readings.{Left}
use Rattle.jm_class.specs.Releases.{newest_major, release_fault, class_for, fault_for}
use Rattle.jm_class.proofs.ClassLaws.{reads_once}
use Rattle.jm_class.proofs.ReleaseLaws.{class_for-reads}
use Rattle.jm_class.proofs.ReadingLaws.{IsBytes}
use Rattle.jm_class.proofs.WholeReadings.{ended-all}
use Rattle.jm_strip.specs.Strip.{strip, StripsFor}
use Rattle.jm_strip.specs.Walks.{shown, Strips}
use Rattle.jm_strip.proofs.Shown.{saw}
use Rattle.jm_strip.proofs.StripLaws.{strip-class}

-- no byte is left after the class
pub all_read : (bytes text : List ℕ) (next : Left) (n : ℕ) → shown (λ c. class_text (strip c))
    (reading Short class_fields (record { place = 0; bytes = bytes })) ≡ Ok (text, next) → n ≡ length next.bytes → n ≡ 0 → (c : ClassData)
    × (class_of bytes ≡ Ok c) × (text ≡ class_text (strip c))
all_read bytes text next n e size none =
    let got = saw (λ c. class_text (strip c)) (reading Short class_fields (record { place = 0; bytes = bytes })) text next e in (
      got.first,
      ap value_of (ended-all Rest (reading Short class_fields) (record { place = 0; bytes = bytes }) next got.first n got.is size none),
      sym got.same,
    )

-- What is due for a release

-- of bytes that give no text
strips_none : (release : ℕ) (bytes : List ℕ) (error : Or ClassFault) → ((fault : ClassFault)
    → ◌≡◌ {A = Result (List ℕ) (Or ClassFault)} (Err error) (Err (Fault fault)) → fault_for release bytes ≡ Some fault)
    → StripsFor release bytes (Err error)
strips_none release bytes error fault = record { text = tt; only = tt; reads = tt; no_fault = tt; fault = fault }

-- a class newer than the release is refused
pub refused_newer : (release : ℕ) (bytes : List ℕ) (fault : ClassFault) → release_fault release bytes ≡ Some fault
    → StripsFor release bytes (Err (Fault fault))
refused_newer release bytes fault newer = strips_none release bytes (Fault fault) (λ other is.
    let same : fault ≡ other = cc in
    ap (λ f. fault_of (followed (unless_fault f bytes) class_of)) newer ∙ ap (λ f. Some f) same)

-- of another it is what is due of a class of whatever release
module _ (release : ℕ) (bytes : List ℕ) (none : release_fault release bytes ≡ None) where
  same_class : class_for release bytes ≡ class_of bytes
  same_class = ap (λ f. followed (unless_fault f bytes) class_of) none

  pub strips_other : (result : Result (List ℕ) (Or ClassFault)) → IsBytes bytes → Strips bytes result → StripsFor release bytes result
  strips_other (Ok text) all (c, is, same) =
      let reads = class_for-reads release bytes c all (same_class ∙ is) in
      let only : (d : ClassData) → ReadsAs bytes d → text ≡ class_text (strip d) = λ d other.
      same ∙ ap (λ e. class_text (strip e)) (reads_once bytes c d reads.reads other) in
      record {
        text = record { class = c; reads = reads; is = same };
        only = only;
        reads = λ d other. record {
          reads = record { well_formed = strip-class d other.well_formed; text = sym (only d other) };
          major = subst (λ e. e.major ≤ newest_major release) (reads_once bytes c d reads.reads other) reads.major;
        };
        no_fault = ap fault_of (same_class ∙ is);
        fault = λ fault e. cc;
      }
  strips_other (Err (Fault found)) all is = strips_none release bytes (Fault found) (λ fault e.
      let same : found ≡ fault = cc in
      ap fault_of (same_class ∙ is) ∙ ap (λ f. Some f) same)
  strips_other (Err Memory) all is = strips_none release bytes Memory (λ fault e. cc)
