-- The compact text of the bytes of a class: what follows from what is computed.
use Rattle.std.proofs.Common.{◌≡◌, ℕ, ◌≤◌, List, Option, Some, None, Result, Ok, Err, IsErrAnd, refl, sym, ap, ◌∙◌, subst, arith}
use Rattle.std.proofs.Common.{length, Bool}
use Rattle.jm_bytes.specs.declared.faults.Or.{Or}
use Rattle.jm_bytes.specs.declared.faults.Or.TheVariants.{Fault, Memory}
use Rattle.jm_bytes.specs.Results.{IfAnswered}
use Rattle.jm_bytes.proofs.Choice.{same_some}
use Rattle.jm_class.specs.declared.class.ClassFault.{ClassFault}
use Rattle.jm_class.specs.Classes.{ClassData, ReadsAs, IsClass}
use Rattle.jm_class.specs.Layouts.{fault_of}
use Rattle.jm_class.specs.Releases.{IsReadFor, ReadsFor, class_for, fault_for, newest_major}
use Rattle.jm_class.proofs.ClassLaws.{reads_once}
use Rattle.jm_class.proofs.ReleaseLaws.{reads-class_for}
use Rattle.jm_class.proofs.ReadingLaws.{IsBytes}
use Rattle.jm_poolmap.specs.declared.site.Site.{Site}
use Rattle.jm_poolmap.specs.Live.{TellsLive}
use Rattle.jm_poolmap.specs.Sites.{sites_of}
use Rattle.jm_poolmap.proofs.ComputedLiveLaws.{flags_tell}
use Rattle.jm_compact.specs.Compact.{IsCompact, Whole, Smaller, live_flags, compact_with, text_by}
use Rattle.jm_compact.specs.Compact.{compact_text, with_text, compact_for}
use Rattle.jm_compact.specs.Compacts.{CompactsFor}
use Rattle.jm_compact.specs.Meaning.{SaysTheSame}
use Rattle.jm_compact.proofs.CompactClass.{compacted_class}
use Rattle.jm_compact.proofs.Names.{judged_parts, told_once}

-- the computed flags tell which constants are live
live_flags-tell : (c : ClassData) (sites : List Site) → IsClass c → sites_of c ≡ Some sites → TellsLive c (live_flags c)
live_flags-tell c sites fits is =
    let judged = judged_parts c sites is in
    rw judged.is (flags_tell c fits judged.found judged.is judged.lower)

module _ (c : ClassData) (fits : IsClass c) where
  -- the computed text is one by the rule
  pub rule : IsCompact c (compact_text c)
  rule = go (sites_of c) refl
    where
      go : (found : Option (List Site)) → sites_of c ≡ found → IsCompact c (compact_text c)
      go None is = Whole is (ap (text_by c) is)
      go (Some sites) is = Smaller sites (live_flags c) is (live_flags-tell c sites fits is) (ap (text_by c) is)

  -- there is no other
  pub rule_only : (text : List ℕ) → IsCompact c text → text ≡ compact_text c
  rule_only text (Whole is whole) = whole ∙ sym (ap (text_by c) is)
  rule_only text (Smaller sites flags is tells smaller) =
      let same = told_once c flags (live_flags c) tells (live_flags-tell c sites fits is) in
      smaller ∙ ap (λ (own : List Bool). compact_with own sites c) same ∙ sym (ap (text_by c) is)

-- Of the bytes of a class of a release

module _ (release : ℕ) (bytes : List ℕ) (c : ClassData) (is : ReadsFor release bytes c) (all : IsBytes bytes) where
  -- the bytes read as no other class
  of_each : (P : ClassData → Type 0) → P c → (d : ClassData) → ReadsAs bytes d → P d
  of_each P of_c d reads = subst P (reads_once bytes c d is.reads reads) of_c

  read_again : (text : List ℕ) (d : ClassData) → ReadsAs text d → d.major ≤ newest_major release → compact_for release text
      ≡ Ok (compact_text d)
  read_again text d reads least = ap with_text (reads-class_for release text d (record { reads = reads; major = least }))

  -- what is still due, whether the class has sites or not
  record Due (text : List ℕ) : Type 0 where
    says : (sites : List Site) → sites_of c ≡ Some sites → SaysTheSame c sites text
    stays : sites_of c ≡ None → text ≡ bytes
    again : compact_for release text ≡ Ok text
    shorter : length text ≤ length bytes

  due : (text : List ℕ) → IsCompact c text → Due text
  due text (Whole none whole) =
      let same = whole ∙ is.reads.text in
      let size = ap length same in
      record {
        says = λ sites some. let both = sym none ∙ some in cc;
        stays = λ _. same;
        again = read_again text c (record { well_formed = is.reads.well_formed; text = sym whole }) is.major
            ∙ ap Ok (ap (text_by c) none ∙ sym whole);
        shorter = omega (arith, size);
      }
  due text (Smaller sites flags some tells smaller) =
      let small = compacted_class c is.reads.well_formed (subst IsBytes (sym is.reads.text) all) sites some flags tells in
      let d = small.says.class in
      let major = small.major in
      let most = is.major in
      let size = ap length is.reads.text in
      let less = small.shorter in
      rw smaller (record {
        says = λ others others_are. subst (λ s. SaysTheSame c s (compact_with flags sites c))
            (same_some sites others (sym some ∙ others_are)) small.says;
        stays = λ none. let both = sym none ∙ some in cc;
        again = read_again (compact_with flags sites c) d small.says.reads (omega (arith, major, most))
            ∙ ap Ok (ap (text_by d) small.says.found
            ∙ small.stays (live_flags d) (live_flags-tell d small.says.sites small.says.reads.well_formed small.says.found));
        shorter = omega (arith, size, less);
      })

  pub compacts : (text : List ℕ) → text ≡ compact_text c → CompactsFor release bytes (Ok text)
  compacts text same =
      let by_rule : IsCompact c text = rw same (rule c is.reads.well_formed) in
      let due = due text by_rule in
      record {
        computed = ap with_text (reads-class_for release bytes c is) ∙ ap Ok (sym same);
        rule = of_each (λ d. IsCompact d text) by_rule;
        says = λ d sites reads. of_each (λ d. (sites : List Site) → sites_of d ≡ Some sites → SaysTheSame d sites text)
            due.says d reads sites;
        stays = of_each (λ d. sites_of d ≡ None → text ≡ bytes) due.stays;
        again = due.again;
        shorter = due.shorter;
        no_fault = ap fault_of (reads-class_for release bytes c is);
        fault = λ fault e. cc;
      }

-- Of bytes that are none, or where memory is wanted

refused_text : (release : ℕ) (bytes : List ℕ) (fault : ClassFault) → fault_for release bytes ≡ Some fault → compact_for release bytes
    ≡ Err fault
refused_text release bytes fault is = go (class_for release bytes) refl is
  where
    go : (r : Result ClassData ClassFault) → class_for release bytes ≡ r → fault_of r ≡ Some fault → with_text r ≡ Err fault
    go (Ok c) e found = cc
    go (Err other) e found = cc

-- what is due of bytes that give no text
compacts_none : (release : ℕ) (bytes : List ℕ) (error : Or ClassFault)
    → IfAnswered (λ (r : Result (List ℕ) ClassFault). compact_for release bytes ≡ r) (Err error)
    → ((fault : ClassFault) → ◌≡◌ {A = Result (List ℕ) (Or ClassFault)} (Err error) (Err (Fault fault))
    → fault_for release bytes ≡ Some fault)
    → CompactsFor release bytes (Err error)
compacts_none release bytes error computed fault = record {
  computed = computed;
  rule = tt;
  says = tt;
  stays = tt;
  again = tt;
  shorter = tt;
  no_fault = tt;
  fault = fault;
}

pub compacts_not : (release : ℕ) (bytes : List ℕ) (error : Or ClassFault) (result : Result (List ℕ) (Or ClassFault))
    → IsReadFor release bytes (Err error) → IsErrAnd result (λ is. is ≡ error) → CompactsFor release bytes result
compacts_not release bytes error (Ok text) read is = absurd is
compacts_not release bytes Memory (Err (Fault found)) read is = cc
compacts_not release bytes (Fault fault) (Err (Fault found)) read is =
    let same : fault ≡ found = cc in
    let bad : fault_for release bytes ≡ Some found = read.fault fault refl ∙ ap (λ f. Some f) same in
    compacts_none release bytes (Fault found) (refused_text release bytes found bad)
    (λ other e. bad ∙ let these : found ≡ other = cc in ap (λ f. Some f) these)
compacts_not release bytes error (Err Memory) read is = compacts_none release bytes Memory tt (λ fault e. cc)
