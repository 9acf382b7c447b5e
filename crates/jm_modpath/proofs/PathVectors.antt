-- The modules and the first refusal of module paths, evaluated on small told files.
use Rattle.std.proofs.Common.{◌≡◌, ℕ, List, [], ◌∷◌, ◌++◌, drop, map, take, Some, None, refl}
use Rattle.std.specs.Prelude.{codes}
use Rattle.jm_class.specs.declared.class.ClassFault.TheVariants as class
use Rattle.jm_modinfo.specs.declared.faults.DescriptorFault.TheVariants as fault
use Rattle.jm_modinfo.specs.Written.{info_text}
use Rattle.jm_outside.specs.Files.{Files}
use Rattle.jm_modpath.specs.declared.refusal.PathRefusal.TheVariants as refusal
use Rattle.jm_modpath.specs.declared.visible.VisibleModule.{VisibleModule}
use Rattle.jm_modpath.specs.Modules.{folders_in, name_of, path_refusal, visible}

-- the class of a module that requires nothing
abbrev alone : List ℕ → List ℕ
alone name = info_text name []

-- x has the module a in a folder a, and a folder without a module; y has an a too, and b
abbrev two_directories : Files
two_directories =
    (codes "x/a/module-info.class", alone (codes "a")) ∷ (codes "x/a/p/A.class", codes "A")
    ∷ (codes "x/b/q/B.class", codes "B") ∷ (codes "x/module-info.class", codes "no")
    ∷ (codes "y/c/module-info.class", alone (codes "a"))
    ∷ (codes "y/d/e/module-info.class", codes "no")
    ∷ (codes "y/d/module-info.class", alone (codes "b"))
    ∷ (codes "y/d/q/r/B.class", codes "B") ∷ []

-- a module's name, its folder, its files and its class packages
abbrev shown : VisibleModule → List (List ℕ)
shown m = name_of m ∷ m.folder ∷ m.files ++ m.candidate.packages

abbrev a_of_x : List (List ℕ)
a_of_x = codes "a" ∷ codes "x/a" ∷ codes "module-info.class" ∷ codes "p/A.class" ∷ codes "p" ∷ []

abbrev a_of_y : List (List ℕ)
a_of_y = codes "a" ∷ codes "y/c" ∷ codes "module-info.class" ∷ []

abbrev b_of_y : List (List ℕ)
b_of_y =
    codes "b" ∷ codes "y/d" ∷ codes "e/module-info.class" ∷ codes "module-info.class"
    ∷ codes "q/r/B.class" ∷ codes "e" ∷ codes "q.r" ∷ []

-- a folder stands directly in its directory, and has a name
folders : folders_in two_directories (codes "y") ≡ codes "c" ∷ codes "d" ∷ []
folders = refl

-- a module of an earlier directory hides one of its name in a later directory
earlier_hides :
    map shown (visible 21 two_directories (codes "x" ∷ codes "y" ∷ [])) ≡ a_of_x ∷ b_of_y ∷ []
earlier_hides = refl

other_order :
    map shown (visible 21 two_directories (codes "y" ∷ codes "x" ∷ [])) ≡ a_of_y ∷ b_of_y ∷ []
other_order = refl

-- one directory twice shows its modules once
same_directory : map shown (visible 21 two_directories (codes "x" ∷ codes "x" ∷ [])) ≡ a_of_x ∷ []
same_directory = refl

-- each has the bytes that say its descriptor
their_infos :
    map (λ m. m.info) (visible 21 two_directories (codes "x" ∷ codes "y" ∷ []))
    ≡ alone (codes "a") ∷ alone (codes "b") ∷ []
their_infos = refl

no_refusal : path_refusal 21 two_directories (codes "x" ∷ codes "y" ∷ codes "x" ∷ []) ≡ None
no_refusal = refl

-- x has one module twice and then a file that is no class; y has them the other way round
abbrev refused : Files
refused =
    (codes "x/a/module-info.class", alone (codes "a"))
    ∷ (codes "x/b/module-info.class", alone (codes "a"))
    ∷ (codes "x/c/module-info.class", codes "no")
    ∷ (codes "y/a/module-info.class", codes "no")
    ∷ (codes "y/b/module-info.class", alone (codes "b"))
    ∷ (codes "y/c/module-info.class", alone (codes "b")) ∷ []

-- the first folder that is refused decides
two_first :
    path_refusal 21 refused (codes "x" ∷ []) ≡ Some (refusal.TwoModules (codes "x") (codes "a"))
two_first = refl

fault_first :
    path_refusal 21 refused (codes "y" ∷ [])
    ≡ Some (refusal.BadInfo (codes "y/a/module-info.class") (fault.Class (class.Short 0)))
fault_first = refl

-- the first directory that is refused decides
directory_first :
    path_refusal 21 refused (codes "y" ∷ codes "x" ∷ [])
    ≡ path_refusal 21 refused (codes "y" ∷ [])
directory_first = refl

-- a module whose class is one of release 22
abbrev newer : Files
newer =
    (codes "x/a/module-info.class", take 7 (alone (codes "a")) ++ 66 ∷ drop 8 (alone (codes "a")))
    ∷ []

newer_refused :
    path_refusal 21 newer (codes "x" ∷ [])
    ≡ Some (refusal.BadInfo (codes "x/a/module-info.class") (fault.Class (class.Version 66)))
newer_refused = refl

newer_shown : map name_of (visible 22 newer (codes "x" ∷ [])) ≡ codes "a" ∷ []
newer_shown = refl

newer_free : path_refusal 22 newer (codes "x" ∷ []) ≡ None
newer_free = refl
