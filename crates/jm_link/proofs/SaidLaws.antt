-- What the class of a module says stays as it is when its debug information is left out or a list
-- of its packages is added, and such a class isn't compacted. So what plug-ins make of a class of a
-- release is one of that release, and of each later one.
use Rattle.std.proofs.Common.{◌≡◌, ◌≤◌, ℕ, inl, inr, Bool, true, false, cond, List, [], ◌∷◌, Contains, Option, rules}
use Rattle.std.proofs.Common.{Some, None, Result, Ok, Err, refl, sym, ap, subst, ◌∙◌, filter, codes, not}
use Rattle.std.proofs.lemmas.List.Elements.{All-contains}
use Rattle.std.proofs.lemmas.Bool.{false≢true}
use Rattle.std.proofs.lemmas.Slice.Eq.{bytes_eq-Decides}
use Rattle.std.specs.List.{cons_option, filter_map}
use Rattle.std.specs.Prelude.{if◌then◌else◌, is_some, nat_lt, option_and_then}
use Rattle.std.specs.Str.{bytes_eq}
use Rattle.jm_bytes.proofs.Choice.{chosen, same_ok}
use Rattle.jm_bytes.proofs.Members.{contains_here, from_filter_map}
use Rattle.jm_class.specs.Classes.{SlotData, AttributeData, ClassData, utf8_at, class_text, IsClass}
use Rattle.jm_class.specs.Releases.{ReadsFor, class_for}
use Rattle.jm_class.proofs.ReadingLaws.{IsBytes}
use Rattle.jm_class.proofs.ReleaseLaws.{class_for-reads, reads-class_for, reads_for-later}
use Rattle.jm_compact.specs.Compact.{compact_text, text_by}
use Rattle.jm_modinfo.specs.declared.descriptor.Descriptor.{Descriptor}
use Rattle.jm_modinfo.specs.declared.faults.DescriptorFault.{DescriptorFault}
use Rattle.jm_modinfo.specs.declared.faults.DescriptorFault.TheVariants as kind
use Rattle.jm_modinfo.specs.declared.faults.InfoFault.{InfoFault}
use Rattle.jm_modinfo.specs.declared.faults.InfoFault.TheVariants.{NotModule, OldVersion}
use Rattle.jm_modinfo.specs.ComputedInfo.{body_info, info_of, main_of, only_body, with_body, with_info}
use Rattle.jm_modinfo.specs.Constants.{is_legal}
use Rattle.jm_modinfo.specs.Descriptors.{bodies, bytes_named, is_named, main_bodies, module_bodies, plain_bytes}
use Rattle.jm_modinfo.specs.Flags.{is_module}
use Rattle.jm_modinfo.specs.Descriptions.{info_for, info_with}
use Rattle.jm_modinfo.proofs.DescriptionLaws.{class_from}
use Rattle.jm_modinfo.proofs.InfoLaws.{body_gives}
use Rattle.jm_packages.specs.Packages.{packaged, packages_text}
use Rattle.jm_packages.proofs.PackagedLaws.{packaged-class, packaged-info, packaged-major}
use Rattle.jm_plugins.specs.ComputedPlugins.{stripped_text}
use Rattle.jm_poolmap.specs.declared.forms.Place.TheVariants.{Class}
use Rattle.jm_poolmap.specs.declared.site.FoundSite.{FoundSite}
use Rattle.jm_poolmap.specs.Attributes.{class_rows, content_at, named}
use Rattle.jm_poolmap.specs.Sites.{found_in, judged}
use Rattle.jm_poolmap.proofs.ClassSays.{attributes_known}
use Rattle.jm_strip.specs.Strip.{debug_names, is_among, stays, strip}
use Rattle.jm_strip.proofs.StripLaws.{strip-class}

-- these bytes are a class of a release that says this
pub record Says (release : ℕ) (bytes : List ℕ) (d : Descriptor) : Type 0 where
  pub class : ClassData
  pub reads : ReadsFor release bytes class
  pub info : info_of class ≡ Ok d

-- so are they for a later release
pub says_later : (release later : ℕ) → release ≤ later → (bytes : List ℕ) (d : Descriptor) → Says release bytes d → Says later bytes d
says_later release later rises bytes d says = search (rules, reads_for-later)

-- Without debug information

-- an attribute that doesn't stay hasn't this name
left_out : (name : List ℕ) → is_among (debug_names false) (Some name) ≡ false → (o : Option (List ℕ))
    → not (is_among (debug_names false) o) ≡ false → is_named name o ≡ false
left_out name other None gone = absurd (false≢true (sym gone))
left_out name other (Some text) gone = go (bytes_eq text name) refl
  where
    go : (b : Bool) → bytes_eq text name ≡ b → b ≡ false
    go true same =
        let kept : is_among (debug_names false) (Some text) ≡ false = ap (λ t. is_among (debug_names false) (Some t))
        ((bytes_eq-Decides text name).0 same) ∙ other in
        absurd (false≢true (sym gone ∙ ap not kept))
    go false same = refl

-- attributes of a name that isn't that of one with debug information stay
kept_bodies : (pool : List SlotData) (name : List ℕ) → is_among (debug_names false) (Some name) ≡ false
    → (attributes : List AttributeData) → bodies pool name (filter (λ a. stays false pool a.name) attributes) ≡ bodies pool name attributes
kept_bodies pool name other [] = refl
kept_bodies pool name other (a ∷ rest) = go (stays false pool a.name) refl (kept_bodies pool name other rest)
  where
    none : stays false pool a.name ≡ false → bytes_named pool name a ≡ None
    none gone = ap (λ b. cond b (plain_bytes a.body) None) (left_out name other (utf8_at pool a.name) gone)

    go : (b : Bool) → stays false pool a.name ≡ b → bodies pool name (filter (λ a. stays false pool a.name) rest)
        ≡ bodies pool name rest → filter_map (bytes_named pool name) (cond b (a ∷ filter (λ a. stays false pool a.name) rest)
        (filter (λ a. stays false pool a.name) rest)) ≡ bodies pool name (a ∷ rest)
    go true is later = ap (cons_option (bytes_named pool name a)) later
    go false is later = later ∙ sym (ap (λ o. cons_option o (bodies pool name rest)) (none is))

-- what a class says, by the bodies of its two attributes
abbrev info_by : ClassData → List (List ℕ) → List (List ℕ) → Result Descriptor InfoFault
info_by c modules mains =
    if not (is_module c.access) then Err NotModule
    else if nat_lt c.major 53 then Err (OldVersion c.major)
    else with_body c.pool (only_body modules) (main_of c.pool mains)

pub stripped_info : (c : ClassData) → info_of (strip c) ≡ info_of c
stripped_info c = search (rules, kept_bodies)

pub stripped_says : (release : ℕ) (bytes : List ℕ) (c : ClassData) (d : Descriptor) → ReadsFor release bytes c → info_of c ≡ Ok d
    → Says release (stripped_text c) d
stripped_says release bytes c d of_release is = record {
  class = strip c;
  reads = record {
    reads = record { well_formed = strip-class c of_release.reads.well_formed; text = refl };
    major = of_release.major;
  };
  info = stripped_info c ∙ is;
}

-- With a list of packages

pub packaged_says : (release : ℕ) (packages_of : ClassData → List (List ℕ)) (bytes : List ℕ) (c : ClassData) (d : Descriptor)
    → ReadsFor release bytes c → info_of c ≡ Ok d → Says release (packages_text (packages_of c) c) d
packaged_says release packages_of bytes c d of_release is =
    let packages = packages_of c in
    let fits = of_release.reads.well_formed in
    record {
      class = packaged packages c;
      reads = record {
        reads = record { well_formed = packaged-class packages c fits; text = refl };
        major = rw (packaged-major packages c) of_release.major;
      };
      info = packaged-info packages c d fits is;
    }

-- An attribute that isn't known

-- the attribute of a module's class
record HasModule (c : ClassData) : Type 0 where
  attribute : AttributeData
  there : Contains c.attributes attribute
  name : utf8_at c.pool attribute.name ≡ Some (codes "Module")

named_so : (o : Option (List ℕ)) (name : List ℕ) → is_named name o ≡ true → o ≡ Some name
named_so (Some text) name is = ap Some ((bytes_eq-Decides text name).0 is)
named_so None name is = absurd (false≢true is)

body_of : (pool : List SlotData) (modules : List (List ℕ)) (main : Result (Option (List ℕ)) InfoFault) (d : Descriptor)
    → with_body pool (only_body modules) main ≡ Ok d → (body : List ℕ) × (modules ≡ body ∷ [])
body_of pool [] main d is = cc
body_of pool (body ∷ []) main d is = (body, refl)
body_of pool (body ∷ other ∷ more) main d is = cc

-- the parts of a class that says something
info_parts : (flagged old : Bool) (major : ℕ) (said : Result Descriptor InfoFault) (d : Descriptor)
    → (if not flagged then Err NotModule else if old then Err (OldVersion major) else said) ≡ Ok d → said ≡ Ok d
info_parts false old major said d is = cc
info_parts true true major said d is = cc
info_parts true false major said d is = is

pub said_body : (c : ClassData) (d : Descriptor) → info_of c ≡ Ok d → with_body c.pool (only_body (module_bodies c))
    (main_of c.pool (main_bodies c)) ≡ Ok d
said_body c d is = search (rules, info_parts)

has_module : (c : ClassData) (d : Descriptor) → info_of c ≡ Ok d → HasModule c
has_module c d is =
    let only = body_of c.pool (module_bodies c) (main_of c.pool (main_bodies c)) d (said_body c d is) in
    let from = from_filter_map (bytes_named c.pool (codes "Module")) c.attributes only.0 (subst (λ bs. Contains bs only.0)
    (sym only.1) (contains_here only.0 [])) in
    let a = from.0 in
    elim (chosen (is_named (codes "Module") (utf8_at c.pool a.name)) (plain_bytes a.body) None (Some only.0) from.2) [
      | inl named ↦ record {
        attribute = a;
        there = from.1;
        name = named_so (utf8_at c.pool a.name) (codes "Module") named.0;
      }
      | inr none ↦ cc
    ]

-- the class of a module has no sites, so it is passed on as it is
pub module_stays : (c : ClassData) (d : Descriptor) → IsClass c → info_of c ≡ Ok d → compact_text c ≡ class_text c
module_stays c d fits is = ap (text_by c) (ap (option_and_then (judged c.pool)) (none (found_in c) refl))
  where
    none : (found : Option (List FoundSite)) → found_in c ≡ found → found_in c ≡ None
    none None e = e
    none (Some found) e =
        let has = has_module c d is in
        let known = All-contains (λ (a : AttributeData). is_some (content_at Class c.pool a.name) ≡ true) c.attributes has.attribute
        (attributes_known c found fits e) has.there in
        absurd (false≢true (ap (λ name. is_some (option_and_then (named class_rows) name)) (sym has.name) ∙ known))

pub compacted_says : (release : ℕ) (bytes : List ℕ) (c : ClassData) (d : Descriptor) → ReadsFor release bytes c → info_of c ≡ Ok d
    → Says release (compact_text c) d
compacted_says release bytes c d of_release is =
    let fits = of_release.reads.well_formed in
    record {
      class = c;
      reads = record {
        reads = record { well_formed = fits; text = sym (module_stays c d fits is) };
        major = of_release.major;
      };
      info = is;
    }

-- What bytes say

abbrev of_class : Result Descriptor InfoFault → Result Descriptor DescriptorFault
of_class (Ok d) = Ok d
of_class (Err fault) = Err (kind.Info fault)

pub says_from : (release : ℕ) (content : List ℕ) (d : Descriptor) → IsBytes content → info_for release content ≡ Ok d
    → Says release content d
says_from release content d bytes is =
    let one = class_from (class_for release content) d is in
    record { class = one.0; reads = class_for-reads release content one.0 bytes one.1; info = one.2 }

pub says_info : (release : ℕ) (content : List ℕ) (d : Descriptor) → Says release content d → info_for release content ≡ Ok d
says_info release content d says = ap info_with (reads-class_for release content says.class says.reads) ∙ ap of_class says.info

-- The name that is said is legal

abbrev IsLegal : Descriptor → Type 0
IsLegal d = is_legal d.name ≡ true

name_from : (info : Result Descriptor InfoFault) (main : Result (Option (List ℕ)) InfoFault) (d : Descriptor) → with_info info main
    ≡ Ok d → ((e : Descriptor) → info ≡ Ok e → IsLegal e) → IsLegal d
name_from (Ok e) (Ok main) d is legal = subst IsLegal (same_ok {E = InfoFault} (record e { main = main }) d is) (legal e refl)
name_from (Ok e) (Err fault) d is legal = cc
name_from (Err fault) main d is legal = cc

pub said_legal : (release : ℕ) (bytes : List ℕ) (d : Descriptor) → Says release bytes d → is_legal d.name ≡ true
said_legal release bytes d says =
    let c = says.class in
    let main = main_of c.pool (main_bodies c) in
    let only = body_of c.pool (module_bodies c) main d (said_body c d says.info) in
    let whole : with_info (body_info c.pool only.0) main ≡ Ok d = ap (λ bs. with_body c.pool (only_body bs) main) (sym only.1)
    ∙ said_body c d says.info in
    name_from (body_info c.pool only.0) main d whole (λ e is. (body_gives c.pool only.0 e is).1)
