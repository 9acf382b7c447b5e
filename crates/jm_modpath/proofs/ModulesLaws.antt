-- Modules in two lists side by side.
use Rattle.std.proofs.Common.{◌≡◌, ◌<◌, ℕ, zero, suc, List, [], ◌∷◌, length, map, get_or, Some, slice_get, refl, ap, arith}
use Rattle.jm_closure.specs.declared.candidate.Candidate.{Candidate}
use Rattle.jm_modpath.specs.declared.visible.ModuleFolder.{ModuleFolder}
use Rattle.jm_modpath.specs.declared.visible.VisibleModule.{VisibleModule}
use Rattle.jm_modpath.specs.Modules.{candidates}
use Rattle.jm_modpath.specs.ModulesView.{folder_of, module_with_folder, modules_with}

-- the modules that were taken apart
pub modules_again : (ms : List VisibleModule) → modules_with (candidates ms) (map folder_of ms) ≡ ms
modules_again [] = refl
modules_again (m ∷ ms) = ap (λ ns. m ∷ ns) (modules_again ms)

pub candidates_again : (cs : List Candidate) (fs : List ModuleFolder) → length cs ≡ length fs → cs ≡ candidates (modules_with cs fs)
candidates_again [] [] long = refl
candidates_again [] (f ∷ fs) long = cc
candidates_again (c ∷ cs) [] long = cc
candidates_again (c ∷ cs) (f ∷ fs) long = ap (λ ds. c ∷ ds) (candidates_again cs fs (omega (arith, long)))

pub as_long : (cs : List Candidate) (fs : List ModuleFolder) → length cs ≡ length fs → length (modules_with cs fs) ≡ length cs
as_long [] [] long = refl
as_long [] (f ∷ fs) long = cc
as_long (c ∷ cs) [] long = cc
as_long (c ∷ cs) (f ∷ fs) long = ap suc (as_long cs fs (omega (arith, long)))

-- the module at a place is that of both lists
pub at_both : (cs : List Candidate) (fs : List ModuleFolder) (i : ℕ) (c : Candidate) (f : ModuleFolder) → length cs ≡ length fs
    → i < length cs → c ≡ get_or cs i c → f ≡ get_or fs i f → slice_get (modules_with cs fs) i ≡ Some (module_with_folder (c, f))
at_both [] fs i c f long inside one other = absurd (omega (arith, inside))
at_both (d ∷ cs) [] i c f long inside one other = cc
at_both (d ∷ cs) (g ∷ fs) zero c f long inside one other = rw (one, other) refl
at_both (d ∷ cs) (g ∷ fs) (suc i) c f long inside one other =
    at_both cs fs i c f (omega (arith, long)) (omega (arith, inside)) one other
