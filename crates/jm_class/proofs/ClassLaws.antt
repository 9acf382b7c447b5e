-- The class that `class_of` computes is the one that `ReadsAs` rules, and there is one; the fault that it
-- computes is the one that `HasClassFault` rules. Both go both ways.
use Rattle.std.proofs.Common.{◌≡◌, ℕ, ◌^◌, ◌<◌, ◌≤◌, true, false, List, Some, None, Option, Result, Ok, Err, refl, sym, ap, ◌∙◌, arith}
use Rattle.std.proofs.lemmas.Bool.{and_parts, and_from, leb-true, le-leb, eqb-true, eq-eqb}
use Rattle.std.specs.Prelude.{nat_le, nat_eq, IfOk, OnOk}
use Rattle.jm_bytes.proofs.Choice.{same_ok, same_some}
use Rattle.jm_class.specs.declared.class.ClassFault.{ClassFault}
use Rattle.jm_class.specs.declared.class.ClassFault.TheVariants.{Magic, Version, Short, Rest}
use Rattle.jm_class.specs.declared.class.Class.{Class}
use Rattle.jm_bytes.specs.declared.faults.Or.{Or}
use Rattle.jm_bytes.specs.declared.faults.Or.TheVariants.{Fault, Memory}
use Rattle.jm_class.specs.Classes.{SlotData, ClassData, u2, u4, magic, class_text, is_major, IsMember}
use Rattle.jm_class.specs.Classes.{IsAttribute, FitsCounted, IsClass, ReadsAs}
use Rattle.jm_class.specs.ClassLayout.{magic_field, major_field, class_fields, class_of, class_fault, HasClassFault, HasNoClassFault}
use Rattle.jm_class.specs.Layouts.{U2, U4, fault_of, text_fields}
use Rattle.jm_class.specs.Views.{ReadsClass, plain}
use Rattle.jm_class.proofs.FaultLaws.{no_fault}
use Rattle.jm_class.proofs.FieldLaws.{attribute-lawful, member-lawful}
use Rattle.jm_class.proofs.LayoutLaws.{whole-says, says-whole, whole-fault, fault-whole, whole-good}
use Rattle.jm_class.proofs.PoolLaws.{pool-lawful}
use Rattle.jm_class.proofs.ReadingLaws.{IsBytes}
use Rattle.jm_class.proofs.TextLaws.{Always, listed-lawful, Lawful, said-lawful, made-lawful, tested-lawful, then-lawful, number-lawful}

pub magic-lawful : Lawful magic_field u4 (λ n. (n < 2 ^ 32) × (nat_eq n magic ≡ true))
magic-lawful = tested-lawful U4 (λ found. nat_eq found magic) (λ at found. Magic)

pub major-lawful : Lawful major_field u2 (λ n. (n < 2 ^ 16) × (is_major n ≡ true))
major-lawful = tested-lawful U2 is_major (λ at major. Version major)

major_parts : (n : ℕ) → is_major n ≡ true → (45 ≤ n) × (n ≤ 69)
major_parts n is =
    let both = and_parts (nat_le 45 n) (nat_le n 69) is in
    (leb-true 45 n both.0, leb-true n 69 both.1)

major_from : (n : ℕ) → (45 ≤ n) × (n ≤ 69) → is_major n ≡ true
major_from n is = and_from (nat_le 45 n) (nat_le n 69) (le-leb 45 n is.0) (le-leb n 69 is.1)

pub class-lawful : Lawful class_fields class_text IsClass
class-lawful =
    said-lawful _ class_text _ IsClass
    (then-lawful _ _ _ _ (λ c. magic) _ Always _ magic-lawful (λ found f0.
    then-lawful _ _ _ _ (λ c. c.minor) _ _ _ (number-lawful U2) (λ minor f1.
    then-lawful _ _ _ _ (λ c. c.major) _ _ _ major-lawful (λ major f2.
    then-lawful _ _ _ _ (λ c. c.pool) _ _ (λ pool c. pool_rest pool c) pool-lawful (λ pool f3.
    then-lawful _ _ _ _ (λ c. c.access) _ _ _ (number-lawful U2) (λ access f4.
    then-lawful _ _ _ _ (λ c. c.this_class) _ _ _ (number-lawful U2) (λ this_class f5.
    then-lawful _ _ _ _ (λ c. c.super_class) _ _ _ (number-lawful U2) (λ super_class f6.
    then-lawful _ _ _ _ (λ c. c.interfaces) _ _ _ (listed-lawful _ _ _ (number-lawful U2)) (λ interfaces f7.
    then-lawful _ _ _ _ (λ c. c.fields) _ _ _ (listed-lawful _ _ _ (member-lawful pool false)) (λ fields f8.
    then-lawful _ _ _ _ (λ c. c.methods) _ _ _ (listed-lawful _ _ _ (member-lawful pool true)) (λ methods f9.
    then-lawful _ _ _ _ (λ c. c.attributes) _ _ _ (listed-lawful _ _ _ (attribute-lawful pool false)) (λ attributes f10.
    made-lawful _ (record {
      minor = minor;
      major = major;
      pool = pool;
      access = access;
      this_class = this_class;
      super_class = super_class;
      interfaces = interfaces;
      fields = fields;
      methods = methods;
      attributes = attributes;
    }) (((((((((((tt, sym (eqb-true found magic f0.1)), refl), refl), refl), refl), refl), refl), refl), refl), refl), refl)
    (λ c e. rw (
      sym e.0.0.0.0.0.0.0.0.0.1,
      sym e.0.0.0.0.0.0.0.0.1,
      sym e.0.0.0.0.0.0.0.1,
      sym e.0.0.0.0.0.0.1,
      sym e.0.0.0.0.0.1,
      sym e.0.0.0.0.1,
      sym e.0.0.0.1,
      sym e.0.0.1,
      sym e.0.1,
      sym e.1,
    ) refl)))))))))))))
    (λ c fits.
    let (a, (b, (d, (p, rest)))) = fits.1 in
    record {
      minor = b;
      major = major_parts c.major d.1;
      slots = p.0;
      pool = p.1;
      access = rest.0;
      this_class = rest.1.0;
      super_class = rest.1.1.0;
      interfaces = rest.1.1.1.0;
      fields = rest.1.1.1.1.0;
      methods = rest.1.1.1.1.1.0;
      attributes = rest.1.1.1.1.1.1.0;
    })
    (λ c fits. (
      tt,
      (
        (omega arith, eq-eqb magic magic refl),
        (
          fits.minor,
          (
            (omega (arith, fits.major.1), major_from c.major fits.major),
            (
              (fits.slots, fits.pool),
              (fits.access, (fits.this_class, (fits.super_class, (fits.interfaces, (fits.fields, (fits.methods, (fits.attributes, tt))))))),
            ),
          ),
        ),
      ),
    ))
    (λ c fits. refl)
  where
    pool_rest : List SlotData → ClassData → Type 0
    pool_rest pool c =
        (c.access < 2 ^ 16) × ((c.this_class < 2 ^ 16) × ((c.super_class < 2 ^ 16) × (FitsCounted (λ i. i < 2 ^ 16) c.interfaces
        × (FitsCounted (IsMember pool false) c.fields
        × (FitsCounted (IsMember pool true) c.methods × (FitsCounted (IsAttribute pool false) c.attributes × Unit {0}))))))

-- The class by its rule and its value

-- what is read is a class of that text
pub class_of-reads : (bytes : List ℕ) (c : ClassData) → IsBytes bytes → class_of bytes ≡ Ok c → ReadsAs bytes c
class_of-reads bytes c all e =
    let is = class-lawful.back c bytes (whole-says Short Rest class_fields bytes c all e) in
    record { well_formed = is.0; text = sym is.1 }

-- the text of a class is read as that class
pub reads-class_of : (bytes : List ℕ) (c : ClassData) → ReadsAs bytes c → class_of bytes ≡ Ok c
reads-class_of bytes c reads =
    rw (sym reads.text) (says-whole Short Rest class_fields (class_text c) c (class-lawful.forth c reads.well_formed))

-- bytes read as one class at most
pub reads_once : (bytes : List ℕ) (c d : ClassData) → ReadsAs bytes c → ReadsAs bytes d → c ≡ d
reads_once bytes c d one other = same_ok {E = ClassFault} c d (sym (reads-class_of bytes c one) ∙ reads-class_of bytes d other)

-- there is no fault exactly where the bytes read as some class
pub reads-no_fault : (bytes : List ℕ) (c : ClassData) → ReadsAs bytes c → class_fault bytes ≡ None
reads-no_fault bytes c reads = ap fault_of (reads-class_of bytes c reads)

pub no_fault-reads : (bytes : List ℕ) → IsBytes bytes → class_fault bytes ≡ None → (c : ClassData) × ReadsAs bytes c
no_fault-reads bytes all none = go (class_of bytes) refl none
  where
    go : (result : Result ClassData ClassFault) → class_of bytes ≡ result → fault_of result ≡ None → (c : ClassData) × ReadsAs bytes c
    go (Ok c) is none = (c, class_of-reads bytes c all is)
    go (Err fault) is none = cc

-- The fault by its rule and its value

-- the computed fault is that of the rule
pub class_fault-rule : (bytes : List ℕ) (f : ClassFault) → class_fault bytes ≡ Some f → HasClassFault bytes f
class_fault-rule bytes f is = go (class_of bytes) refl is
  where
    go : (result : Result ClassData ClassFault) → class_of bytes ≡ result → fault_of result ≡ Some f → HasClassFault bytes f
    go (Ok c) e is = cc
    go (Err found) e is = whole-fault Short Rest class_fields bytes f (e ∙ ap (λ f. Err f) (same_some found f is))

-- the fault of the rule is computed
pub rule-class_fault : (bytes : List ℕ) (f : ClassFault) → HasClassFault bytes f → class_fault bytes ≡ Some f
rule-class_fault bytes f has = ap fault_of (fault-whole Short Rest class_fields bytes f has)

-- there is no fault exactly where each field is good
pub no_class_fault-rule : (bytes : List ℕ) → class_fault bytes ≡ None → HasNoClassFault bytes
no_class_fault-rule bytes is = go (class_of bytes) refl is
  where
    go : (result : Result ClassData ClassFault) → class_of bytes ≡ result → fault_of result ≡ None → HasNoClassFault bytes
    go (Ok c) e is = whole-good Short Rest class_fields bytes c e
    go (Err found) e is = cc

pub rule-no_class_fault : (bytes : List ℕ) → HasNoClassFault bytes → class_fault bytes ≡ None
rule-no_class_fault bytes good = go (class_fault bytes) refl
  where
    go : (found : Option ClassFault) → class_fault bytes ≡ found → class_fault bytes ≡ None
    go None is = is
    go (Some f) is = absurd (no_fault (text_fields Short Rest class_fields bytes) f good (class_fault-rule bytes f is))

-- What the code read

pub class_only : (bytes : List ℕ) (result : Result Class (Or ClassFault)) → ReadsClass bytes result
    → IfOk result (λ class. (other : ClassData) → ReadsAs bytes other → other ≡ plain class)
class_only bytes (Ok class) reads = λ other also. same_ok {E = ClassFault} other (plain class)
    (sym (reads-class_of bytes other also) ∙ reads)
class_only bytes (Err error) reads = tt

pub class_no_fault : (bytes : List ℕ) (result : Result Class (Or ClassFault)) → ReadsClass bytes result
    → OnOk result (class_fault bytes ≡ None)
class_no_fault bytes (Ok class) reads = ap fault_of reads
class_no_fault bytes (Err error) reads = tt

pub class_refused : (bytes : List ℕ) (result : Result Class (Or ClassFault)) (fault : ClassFault) → ReadsClass bytes result → result
    ≡ Err (Fault fault) → class_fault bytes ≡ Some fault
class_refused bytes (Ok class) fault reads is = cc
class_refused bytes (Err Memory) fault reads is = cc
class_refused bytes (Err (Fault found)) fault reads is = let same : found ≡ fault = cc in ap fault_of reads ∙ ap (λ f. Some f) same

pub class_none : (bytes : List ℕ) (result : Result Class (Or ClassFault)) (fault : ClassFault) (c : ClassData) → ReadsClass bytes result
    → result ≡ Err (Fault fault) → ReadsAs bytes c → ⊥
class_none bytes result fault c reads is other =
    let refused = class_refused bytes result fault reads is in
    let none = reads-no_fault bytes c other in
    let both = sym none ∙ refused in
    cc

-- what the code refused
pub class_has_fault : (bytes : List ℕ) (result : Result Class (Or ClassFault)) (f : ClassFault) → ReadsClass bytes result
    → result ≡ Err (Fault f) → HasClassFault bytes f
class_has_fault bytes result f reads is = class_fault-rule bytes f (class_refused bytes result f reads is)

-- what the code read has no fault
pub class_has_none : (bytes : List ℕ) (result : Result Class (Or ClassFault)) → ReadsClass bytes result
    → OnOk result (HasNoClassFault bytes)
class_has_none bytes (Ok class) reads = whole-good Short Rest class_fields bytes (plain class) reads
class_has_none bytes (Err error) reads = tt
