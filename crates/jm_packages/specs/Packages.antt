-- The class of a module with the list of its packages: the attribute ModulePackages (JVMS 4.7.26: a
-- count, and a Package constant for each package; JVMS 4.4.12: such a constant holds the number of
-- the Utf8 of its name; JVMS 4.2.3 for the slashes in it). Where the constants stand that it needs,
-- and which classes stay as they are, is this project's rule.
use Rattle.std.specs.Prelude.{◌≡◌, ℕ, ◌+◌, ◌*◌, nat_le, nat_lt, Bool, true, false, not, ◌&&◌, ◌||◌}
use Rattle.std.specs.Prelude.{List, [], ◌∷◌, ◌++◌, length, codes, if◌then◌else◌, Some, None}
use Rattle.std.specs.Prelude.{filter, map, Result, Ok, Err, IfOk, OnOk}
use Rattle.std.specs.List.{before_last, cons_option, flat_map, list_all, list_any}
use Rattle.jm_bytes.specs.declared.faults.Or.{Or}
use Rattle.jm_bytes.specs.declared.faults.Or.TheVariants.{Fault}
use Rattle.jm_class.specs.declared.class.ClassFault.{ClassFault}
use Rattle.jm_class.specs.Classes.{SlotData, Constant, Opaque, AttributeData, ClassData, u2}
use Rattle.jm_class.specs.Classes.{utf8_at, class_text, ReadsAs}
use Rattle.jm_class.specs.Layouts.{Says}
use Rattle.jm_class.specs.Releases.{ReadsFor, fault_for}
use Rattle.jm_form.specs.Rising.{rising}
use Rattle.jm_modinfo.specs.declared.descriptor.Descriptor.{Descriptor}
use Rattle.jm_modinfo.specs.declared.faults.InfoFault.{InfoFault}
use Rattle.jm_modinfo.specs.ComputedInfo.{info_of}
use Rattle.jm_modinfo.specs.declared.constants.Kind.TheVariants.{Package}
use Rattle.jm_modinfo.specs.Descriptors.{bodies, is_named}
use Rattle.jm_modinfo.specs.Flags.{is_module}
use Rattle.jm_modinfo.specs.ModuleLayout.{names}
use Rattle.jm_modinfo.specs.Written.{utf8, numbers_text}
use Rattle.jm_names.specs.Names.{dotted, is_dot, is_empty, is_slash}

-- the name of the attribute
abbrev pub attribute_name : List ℕ
attribute_name = codes "ModulePackages"

-- What is added

-- for each package its Utf8, from this number on, and the Package constant that holds that number
abbrev pub package_slots : ℕ → List (List ℕ) → List SlotData
package_slots number [] = []
package_slots number (p ∷ packages) =
    utf8 p ∷ Constant 20 (u2 number) ∷ package_slots (number + 2) packages

-- the constants from this number on: the attribute's name, and those of the packages
abbrev pub added_slots : ℕ → List (List ℕ) → List SlotData
added_slots number packages = utf8 attribute_name ∷ package_slots (number + 1) packages

-- how many packages there are, and the numbers of their Package constants, which stand after each
-- package's Utf8
abbrev pub packages_body : ℕ → ℕ → List ℕ
packages_body number count = u2 count ++ numbers_text (number + 2) count

-- the attribute whose name has this number, with the constants of the packages after it
abbrev pub packages_attribute : ℕ → List (List ℕ) → AttributeData
packages_attribute number packages =
    record { name = number; body = Opaque (packages_body number (length packages)) }

-- a class with the constants after its own, and the attribute after its own
abbrev pub with_packages : List (List ℕ) → ClassData → ClassData
with_packages packages c = record c {
  pool = c.pool ++ added_slots (length c.pool + 1) packages;
  attributes = c.attributes ++ packages_attribute (length c.pool + 1) packages ∷ [];
}

-- Which classes take it

-- the class has an attribute of that name
abbrev pub has_packages : ClassData → Bool
has_packages c = list_any (λ a. is_named attribute_name (utf8_at c.pool a.name)) c.attributes

-- the class takes no list, whatever the packages are: it is no module's, is of a major version
-- below 53, which knows no modules, or has a list
abbrev pub takes_none : ClassData → Bool
takes_none c = not (is_module c.access) || nat_lt c.major 53 || has_packages c

-- there is room: for the constants among 65,534, for one attribute more among 65,535, and for each
-- package in a Utf8, which has at most 65,535 bytes
abbrev pub has_room : List (List ℕ) → ClassData → Bool
has_room packages c =
    nat_le (length c.pool + 1 + 2 * length packages) 65534
    && nat_lt (length c.attributes) 65535
    && list_all (λ p. nat_le (length p) 65535) packages

-- the class takes a list, and has room for that of these packages
abbrev pub takes_packages : List (List ℕ) → ClassData → Bool
takes_packages packages c = not (takes_none c) && has_room packages c

-- the class of a module that names these packages; a class that takes no such attribute stays
abbrev pub packaged : List (List ℕ) → ClassData → ClassData
packaged packages c = if takes_packages packages c then with_packages packages c else c

-- the text of that class
abbrev pub packages_text : List (List ℕ) → ClassData → List ℕ
packages_text packages c = class_text (packaged packages c)

-- What a class says of its packages

-- the rule: the class has one attribute of that name, whose bytes say these packages in this order:
-- a count, and that many numbers of Package constants, which hold the numbers of the names
pub record SaysPackages (c : ClassData) (packages : List (List ℕ)) : Type 0 where
  pub body : List ℕ
  pub only : bodies c.pool attribute_name c.attributes ≡ body ∷ []
  pub says : Says (names c.pool Package) packages body

-- what is made of a class says exactly these packages where the class takes their list, and else
-- it is the class
pub record IsListed (packages : List (List ℕ)) (class made : ClassData) : Type 0 where
  pub taken : takes_packages packages class ≡ true → SaysPackages made packages
  pub other : takes_packages packages class ≡ false → made ≡ class

-- Which packages a class is to list

-- the packages that are named by some texts: those that aren't empty, with dots
abbrev pub dotted_packages : List (List ℕ) → List (List ℕ)
dotted_packages texts = map dotted (filter (λ text. not (is_empty text)) texts)

-- the classes that a descriptor names as the module's own: those that it provides with, and its
-- main class
abbrev pub own_classes : Descriptor → List (List ℕ)
own_classes d = flat_map (λ p. p.classes) d.provides ++ cons_option d.main []

-- the packages that a descriptor names as the module's own: those that it exports or opens, and
-- those of its own classes, whose names have them before their last slash
abbrev pub named_in : Descriptor → List (List ℕ)
named_in d = dotted_packages
    (map (λ p. p.package) (d.exports ++ d.opens) ++ map (before_last is_slash) (own_classes d))

-- the same of what describing gave; none where there is no descriptor
abbrev pub named_in_result : Result Descriptor InfoFault → List (List ℕ)
named_in_result (Ok d) = named_in d
named_in_result (Err fault) = []

-- the packages that a class names as the descriptor of a module
abbrev pub named_by : ClassData → List (List ℕ)
named_by c = named_in_result (info_of c)

-- a package with a slash for each dot, as a class file names it
abbrev pub slashed : List ℕ → List ℕ
slashed package_name = map (λ b. if is_dot b then 47 else b) package_name

-- the list of a class whose module has files in these packages: these and those that it names,
-- each once, rising, with slashes
abbrev pub listed : List (List ℕ) → ClassData → List (List ℕ)
listed folders c = map slashed (rising (folders ++ named_by c))

-- Classes of a release

-- the text is that of the class of a release that the bytes read as, with its packages
pub record ListsTo (release : ℕ) (packages_of : ClassData → List (List ℕ)) (bytes text : List ℕ)
    : Type 0 where
  pub class : ClassData
  pub reads : ReadsFor release bytes class
  pub is : text ≡ packages_text (packages_of class) class

-- what listing its packages in the class of a release gives: the text of the one class with them,
-- which reads as a class of that release, says what it said and exactly these packages, and stays
-- when its packages are listed again; or the first fault
pub record ListsFor (release : ℕ) (packages_of : ClassData → List (List ℕ)) (bytes : List ℕ)
    (result : Result (List ℕ) (Or ClassFault)) : Type 0 where
  pub text : IfOk result (λ text. ListsTo release packages_of bytes text)
  pub only : IfOk result (λ text. (c : ClassData) → ReadsAs bytes c
      → text ≡ packages_text (packages_of c) c)
  pub reads : IfOk result (λ text. (c : ClassData) → ReadsAs bytes c
      → ReadsFor release text (packaged (packages_of c) c))
  pub info : IfOk result (λ text. (c made : ClassData) (d : Descriptor) → ReadsAs bytes c
      → ReadsAs text made → info_of c ≡ Ok d → info_of made ≡ Ok d)
  pub said : IfOk result (λ text. (c made : ClassData) → ReadsAs bytes c → ReadsAs text made
      → IsListed (packages_of c) c made)
  pub again : IfOk result (λ text. (made : ClassData) → ReadsAs text made
      → packages_text (packages_of made) made ≡ text)
  pub no_fault : OnOk result (fault_for release bytes ≡ None)
  pub fault : (fault : ClassFault) → result ≡ Err (Fault fault)
      → fault_for release bytes ≡ Some fault

-- the same where the packages are given, whatever the class is
abbrev pub PackagesFor : ℕ → List (List ℕ) → List ℕ → Result (List ℕ) (Or ClassFault) → Type 0
PackagesFor release packages = ListsFor release (λ c. packages)

-- the bytes read as a class of a release that takes no list, whatever the packages are, so that it
-- stays
pub record Stays (release : ℕ) (bytes : List ℕ) : Type 0 where
  pub class : ClassData
  pub reads : ReadsFor release bytes class
  pub none : takes_none class ≡ true
