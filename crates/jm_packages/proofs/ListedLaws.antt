-- The packages that a class is to list, one after another.
use Rattle.std.proofs.Common.{◌≡◌, ℕ, ◌+◌, ◌<◌, not, List, [], ◌∷◌, ◌++◌, length, get_or, take}
use Rattle.std.proofs.Common.{map, filter, Contains, Result, Ok, Err, Some, refl, sym, ap, subst, ◌∙◌}
use Rattle.std.proofs.Common.{append-nil, append_assoc}
use Rattle.std.proofs.lemmas.Grind.{flat_map-append}
use Rattle.std.proofs.lemmas.List.{map-append, take_more}
use Rattle.std.proofs.lemmas.List.Elements.{Contains-append_right, filter-append}
use Rattle.std.specs.List.{before_last, cons_option, flat_map}
use Rattle.jm_bytes.proofs.Members.{contains_map}
use Rattle.jm_class.specs.Classes.{ClassData}
use Rattle.jm_form.specs.Rising.{rising}
use Rattle.jm_form.proofs.RisingLaws.{contains_rising}
use Rattle.jm_modinfo.specs.declared.descriptor.Descriptor.{Descriptor}
use Rattle.jm_modinfo.specs.declared.descriptor.Opened.{Opened}
use Rattle.jm_modinfo.specs.declared.descriptor.Provides.{Provides}
use Rattle.jm_modinfo.specs.declared.faults.InfoFault.{InfoFault}
use Rattle.jm_modinfo.specs.ComputedInfo.{info_of}
use Rattle.jm_class.specs.Layouts.{fault_of}
use Rattle.jm_modinfo.specs.Faults.{info_fault}
use Rattle.jm_modinfo.proofs.InfoLaws.{info_fault-of}
use Rattle.jm_names.specs.Names.{dotted, is_empty, is_slash}
use Rattle.jm_packages.specs.Packages.{dotted_packages, listed, named_by, named_in, named_in_result, own_classes, slashed}

-- A list that grows by what is made of each item

pub grown_by : {A B : Type 0} (f : List A → List B) → ((xs ys : List A) → f (xs ++ ys) ≡ f xs ++ f ys) → (xs : List A) (i : ℕ) (x : A)
    (start now more : List B) → i < length xs → x ≡ get_or xs i x → now ≡ start ++ f (take i xs) → more ≡ now ++ f (x ∷ [])
    → more ≡ start ++ f (take (i + 1) xs)
grown_by f joins xs i x start now more below is so_far put =
    let next : take i xs ++ x ∷ [] ≡ take (i + 1) xs = ap (λ y. take i xs ++ y ∷ []) is ∙ sym (take_more xs i x below) in
    put ∙ ap (λ l. l ++ f (x ∷ [])) so_far ∙ append_assoc start (f (take i xs)) (f (x ∷ []))
    ∙ ap (λ l. start ++ l) (sym (joins (take i xs) (x ∷ [])) ∙ ap f next)

-- The packages that texts name

pub dotted_joins : (xs ys : List (List ℕ)) → dotted_packages (xs ++ ys) ≡ dotted_packages xs ++ dotted_packages ys
dotted_joins xs ys =
    let test = λ (text : List ℕ). not (is_empty text) in
    ap (map dotted) (filter-append test xs ys) ∙ map-append dotted (filter test xs) (filter test ys)

abbrev pub opened_packages : List Opened → List (List ℕ)
opened_packages opened = dotted_packages (map (λ p. p.package) opened)

abbrev pub class_packages : List (List ℕ) → List (List ℕ)
class_packages classes = dotted_packages (map (before_last is_slash) classes)

abbrev pub provider_packages : List Provides → List (List ℕ)
provider_packages provides = class_packages (flat_map (λ p. p.classes) provides)

pub opened_join : (xs ys : List Opened) → opened_packages (xs ++ ys) ≡ opened_packages xs ++ opened_packages ys
opened_join xs ys =
    let name = λ (p : Opened). p.package in
    ap dotted_packages (map-append name xs ys) ∙ dotted_joins (map name xs) (map name ys)

pub classes_join : (xs ys : List (List ℕ)) → class_packages (xs ++ ys) ≡ class_packages xs ++ class_packages ys
classes_join xs ys =
    let name = before_last is_slash in
    ap dotted_packages (map-append name xs ys) ∙ dotted_joins (map name xs) (map name ys)

pub providers_join : (xs ys : List Provides) → provider_packages (xs ++ ys) ≡ provider_packages xs ++ provider_packages ys
providers_join xs ys =
    let classes = flat_map (λ (p : Provides). p.classes) in
    ap class_packages (flat_map-append (λ (p : Provides). p.classes) xs ys) ∙ classes_join (classes xs) (classes ys)

pub provider_one : (one : Provides) → provider_packages (one ∷ []) ≡ class_packages one.classes
provider_one one = ap class_packages (append-nil one.classes)

-- Those of a descriptor

pub all_named : (d : Descriptor) (start exported opened provided all : List (List ℕ)) → exported ≡ start ++ opened_packages d.exports
    → opened ≡ exported ++ opened_packages d.opens → provided ≡ opened ++ provider_packages d.provides
    → all ≡ provided ++ class_packages (cons_option d.main []) → all ≡ start ++ named_in d
all_named d start exported opened provided all first second third last =
    let a = opened_packages d.exports in
    let b = opened_packages d.opens in
    let p = provider_packages d.provides in
    let m = class_packages (cons_option d.main []) in
    let classes = flat_map (λ (p : Provides). p.classes) d.provides in
    let parts : named_in d ≡ (a ++ b) ++ (p ++ m) =
    dotted_joins (map (λ p. p.package) (d.exports ++ d.opens)) (map (before_last is_slash) (own_classes d))
    ∙ ap (λ l. l ++ class_packages (own_classes d)) (opened_join d.exports d.opens)
    ∙ ap (λ l. (a ++ b) ++ l) (classes_join classes (cons_option d.main [])) in
    last ∙ ap (λ l. l ++ m) (third ∙ ap (λ l. l ++ p) (second ∙ ap (λ l. l ++ b) first ∙ append_assoc start a b))
    ∙ append_assoc (start ++ (a ++ b)) p m ∙ append_assoc start (a ++ b) (p ++ m) ∙ ap (λ l. start ++ l) (sym parts)

-- those of a class that has no descriptor
pub none_named : (c : ClassData) (fault : InfoFault) → info_fault c ≡ Some fault → named_by c ≡ []
none_named c fault is = go (info_of c) (sym (info_fault-of c) ∙ is)
  where
    go : (r : Result Descriptor InfoFault) → fault_of r ≡ Some fault → named_in_result r ≡ []
    go (Ok d) none = cc
    go (Err found) some = refl

-- What is named is listed

pub named_listed : (folders : List (List ℕ)) (c : ClassData) (d : Descriptor) → info_of c ≡ Ok d → (one : List ℕ)
    → Contains (named_in d) one → Contains (listed folders c) (slashed one)
named_listed folders c d says one there =
    let named : Contains (named_by c) one = subst (λ (r : Result Descriptor InfoFault). Contains (named_in_result r) one) (sym says) there in
    contains_map slashed (rising (folders ++ named_by c)) one
    (contains_rising (folders ++ named_by c) one (Contains-append_right folders (named_by c) one named))
