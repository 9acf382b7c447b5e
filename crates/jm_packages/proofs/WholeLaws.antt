-- What the call's answer says of the class that its bytes read as.
use Rattle.std.proofs.Common.{◌≡◌, ◌↔◌, ◌≤◌, ℕ, List, true, Result, Ok, Err, IsErrAnd, sym, ap, subst, ◌∙◌, arith}
use Rattle.jm_bytes.specs.declared.faults.Or.{Or}
use Rattle.jm_bytes.specs.declared.faults.Or.TheVariants.{Fault}
use Rattle.jm_class.specs.declared.class.ClassFault.{ClassFault}
use Rattle.jm_class.specs.Classes.{ClassData, class_text, ReadsAs}
use Rattle.jm_class.specs.Layouts.{fault_of}
use Rattle.jm_class.specs.Releases.{IsReadFor, ReadsFor, newest_major}
use Rattle.jm_class.proofs.ClassLaws.{reads_once}
use Rattle.jm_class.proofs.ReleaseLaws.{reads-class_for}
use Rattle.jm_modinfo.specs.declared.descriptor.Descriptor.{Descriptor}
use Rattle.jm_modinfo.specs.ComputedInfo.{info_of}
use Rattle.jm_packages.specs.Packages.{packaged, packages_text, takes_none, IsListed, ListsFor, Stays}
use Rattle.jm_packages.proofs.PackagedLaws.{none_stays, packaged-class, packaged-info, packaged-major, packaged_again}
use Rattle.jm_packages.proofs.SaidLaws.{packaged-said}

module _ (release : ℕ) (packages_of : ClassData → List (List ℕ)) (bytes text : List ℕ) (class : ClassData)
    (of_release : ReadsFor release bytes class) (is : text ≡ packages_text (packages_of class) class) where
  abbrev reads : ReadsAs bytes class
  reads = of_release.reads

  abbrev made_of : ClassData → ClassData
  made_of c = packaged (packages_of c) c

  packages_only : (c : ClassData) → ReadsAs bytes c → text ≡ packages_text (packages_of c) c
  packages_only c other = is ∙ ap (λ k. class_text (made_of k)) (reads_once bytes class c reads other)

  packages_read : (c : ClassData) → ReadsAs bytes c → ReadsAs text (made_of c)
  packages_read c other = record {
    well_formed = packaged-class (packages_of c) c other.well_formed;
    text = sym (packages_only c other);
  }

  made_is : (c made : ClassData) → ReadsAs bytes c → ReadsAs text made → made_of c ≡ made
  made_is c made other back = reads_once text (made_of c) made (packages_read c other) back

  packages_major : (c : ClassData) → ReadsAs bytes c → (made_of c).major ≤ newest_major release
  packages_major c other =
      let major = packaged-major (packages_of c) c ∙ ap (λ (d : ClassData). d.major) (reads_once bytes c class other reads) in
      omega (arith, major, of_release.major)

  packages_say : (c made : ClassData) (d : Descriptor) → ReadsAs bytes c → ReadsAs text made → info_of c ≡ Ok d → info_of made ≡ Ok d
  packages_say c made d other back says =
      subst (λ k. info_of k ≡ Ok d) (made_is c made other back) (packaged-info (packages_of c) c d other.well_formed says)

  packages_said : (c made : ClassData) → ReadsAs bytes c → ReadsAs text made → IsListed (packages_of c) c made
  packages_said c made other back =
      subst (IsListed (packages_of c) c) (made_is c made other back) (packaged-said (packages_of c) c other.well_formed)

  listed_again : (made : ClassData) → ReadsAs text made → packages_text (packages_of made) made ≡ text
  listed_again made back =
      ap (λ k. class_text (made_of k)) (sym (made_is class made reads back))
      ∙ ap class_text (packaged_again packages_of class) ∙ sym is

  pub lists_for : ListsFor release packages_of bytes (Ok text)
  lists_for = record {
    text = record { class = class; reads = of_release; is = is };
    only = packages_only;
    reads = λ c other. record { reads = packages_read c other; major = packages_major c other };
    info = packages_say;
    said = packages_said;
    again = listed_again;
    no_fault = ap fault_of (reads-class_for release bytes class of_release);
    fault = λ fault e. cc;
  }

-- Bytes that are no class, or where memory is wanted

pub lists_not : (release : ℕ) (packages_of : ClassData → List (List ℕ)) (bytes : List ℕ) (error : Or ClassFault)
    (result : Result (List ℕ) (Or ClassFault)) → IsReadFor release bytes (Err error) → IsErrAnd result (λ is. is ≡ error)
    → ListsFor release packages_of bytes result
lists_not release packages_of bytes error (Ok text) read is = absurd is
lists_not release packages_of bytes error (Err found) read is = record {
  text = tt;
  only = tt;
  reads = tt;
  info = tt;
  said = tt;
  again = tt;
  no_fault = tt;
  fault = λ fault e. let same : error ≡ Fault fault = cc in read.fault fault (ap (λ x. Err x) same);
}

-- Bytes that stay

pub class_stays : (release : ℕ) (bytes : List ℕ) (class : ClassData) → ReadsFor release bytes class
    → (takes_none class ≡ true) ↔ Stays release bytes
class_stays release bytes class reads = (
  λ none. record { class = class; reads = reads; none = none },
  λ stays. ap takes_none (reads_once bytes class stays.class reads.reads stays.reads.reads) ∙ stays.none,
)

-- what they stay with these packages
pub stays_text : (release : ℕ) (packages : List (List ℕ)) (bytes : List ℕ) (stays : Stays release bytes)
    → packages_text packages stays.class ≡ bytes
stays_text release packages bytes stays = ap class_text (none_stays packages stays.class stays.none) ∙ stays.reads.reads.text
