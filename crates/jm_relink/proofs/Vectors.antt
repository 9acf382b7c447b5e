-- The modules of small images, and which refusal is the first, computed from the definitions.
use Rattle.std.proofs.Common.{◌≡◌, ◌∷◌, ◌++◌, ℕ, List, [], drop, map, take, Some, Ok, Err, refl}
use Rattle.std.specs.List.{filter_map}
use Rattle.std.specs.Prelude.{codes}
use Rattle.jm_class.specs.declared.class.ClassFault.TheVariants as class
use Rattle.jm_form.proofs.Vectors.{empty, side_by_side}
use Rattle.jm_modinfo.specs.declared.faults.DescriptorFault.TheVariants as fault
use Rattle.jm_modinfo.specs.Written.{info_text}
use Rattle.jm_names.specs.declared.check.NameFault.TheVariants.{Dots}
use Rattle.jm_names.specs.ByName.{Named}
use Rattle.jm_relink.specs.declared.fault.RelinkFault.TheVariants as fault_of
use Rattle.jm_relink.specs.Files.{Filed, located, resources_of}
use Rattle.jm_relink.specs.Gathering.{bad_name, first_bad_name, resources_with}
use Rattle.jm_relink.specs.Groups.{groups}
use Rattle.jm_relink.specs.Judging.{groups_due, mapped}
use Rattle.jm_relink.specs.Modules.{SeenModule, name_of}

-- Resources

abbrev named : List ℕ → List ℕ → Named
named name content = (name, content)

-- `/m/b` stands in slot 0
two_resources : resources_of side_by_side ≡ named (codes "/m/b") [] ∷ named (codes "/m/a") [] ∷ []
two_resources = refl

no_resource : resources_of empty ≡ []
no_resource = refl

-- the module stands between a first slash and the next one
located_ones :
    filter_map located
    (named (codes "/m/p/q") (codes "1") ∷ named (codes "m/p") [] ∷ named (codes "/m") []
    ∷ named (codes "//p") (codes "2") ∷ [])
    ≡ (codes "m", named (codes "p/q") (codes "1")) ∷ ([], named (codes "p") (codes "2")) ∷ []
located_ones = refl

-- Modules

abbrev filed : List ℕ → List ℕ → List ℕ → Filed
filed m path content = (m, named path content)

abbrev info : List ℕ → List ℕ → Filed
info m said = filed m (codes "module-info.class") (info_text said [])

-- c has no entry that makes it a module
abbrev files : List Filed
files =
    info (codes "a") (codes "a") ∷ filed (codes "a") (codes "p/q/A.class") (codes "A")
    ∷ filed (codes "b") (codes "META-INF/p/B.class") (codes "B") ∷ info (codes "b") (codes "b")
    ∷ filed (codes "c") (codes "p/C.class") (codes "C") ∷ []

-- a module's name, its files and its class packages
abbrev shown : SeenModule → List (List ℕ)
shown s = name_of s ∷ map (λ f. f.0) s.files ++ s.candidate.packages

two_modules :
    mapped (map shown) (groups_due 21 [] (groups files))
    ≡ Ok
    ((codes "a" ∷ codes "module-info.class" ∷ codes "p/q/A.class" ∷ codes "p.q" ∷ [])
    ∷ (codes "b" ∷ codes "META-INF/p/B.class" ∷ codes "module-info.class" ∷ []) ∷ [])
two_modules = refl

-- the least module with a refusal decides, whatever is wrong with a later one
foreign_first :
    groups_due 21 []
    (groups
    (info (codes "a") (codes "b") ∷ filed (codes "b") (codes "module-info.class") [] ∷ []))
    ≡ Err (fault_of.Foreign (codes "/a/module-info.class"))
foreign_first = refl

no_class :
    groups_due 21 []
    (groups
    (filed (codes "a") (codes "module-info.class") [] ∷ info (codes "b") (codes "a") ∷ []))
    ≡ Err (fault_of.BadInfo (codes "/a/module-info.class") (fault.Class (class.Short 0)))
no_class = refl

-- a module whose class is one of release 22
abbrev newer : List Filed
newer =
    filed (codes "a") (codes "module-info.class")
    (take 7 (info_text (codes "a") []) ++ 66 ∷ drop 8 (info_text (codes "a") []))
    ∷ []

newer_refused :
    groups_due 21 [] (groups newer)
    ≡ Err (fault_of.BadInfo (codes "/a/module-info.class") (fault.Class (class.Version 66)))
newer_refused = refl

newer_seen : mapped (map name_of) (groups_due 22 [] (groups newer)) ≡ Ok (codes "a" ∷ [])
newer_seen = refl

-- What is gathered

abbrev paths : List Named
paths = named (codes "module-info.class") (codes "I") ∷ named (codes "p/../q") (codes "Q") ∷ []

as_resources :
    resources_with (codes "m") paths
    ≡ named (codes "/m/module-info.class") (codes "I") ∷ named (codes "/m/p/../q") (codes "Q") ∷ []
as_resources = refl

unfit : first_bad_name (resources_with (codes "m") paths) ≡ Some (bad_name (codes "/m/p/../q") Dots)
unfit = refl
