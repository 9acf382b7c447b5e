use Rattle.std.proofs.Common.{rules, ◌≡◌, ◌++◌, List, All, map, sym, ap, subst, ◌∙◌}
use Rattle.std.specs.List.{zip}
use Rattle.jm_bytes.proofs.SameOrder.{mapped_twice}
use Rattle.jm_closure.specs.declared.candidate.Candidate.{Candidate}
use Rattle.jm_closure.specs.Names.{NamesDiffer}
use Rattle.jm_modpath.specs.declared.visible.ModuleFolder.{ModuleFolder}
use Rattle.jm_modpath.specs.ModulesView.{module_with_folder}
use Rattle.jm_modset.specs.declared.set.ModuleSet.{ModuleSet}
use Rattle.jm_modset.specs.Found.{unhidden_by}
use Rattle.jm_modset.specs.Set.{AreSet, IsFrom, image_in, image_set, items, set_in, with_unhidden}
use Rattle.jm_modset.specs.Shown.{of_folder}
use Rattle.jm_modset.proofs.SetLaws.{all_from, are_set, set_is}
use Rattle.jm_modset.proofs.set.joined.Goals as goal

pub names_of-requires : goal.names_of-requires
names_of-requires c = subst NamesDiffer (sym c.as_slice.ensures) c.requires.image.differ

pub returns-clause-set : goal.returns-clause-set
returns-clause-set c = λ files b.
    let image = c.args.image in
    let pairs = zip c.into_parts-candidates.result.0 c.into_parts-candidates.result.1 in
    let is = rw (c.in_ok-zipped.ensures, c.in_ok-set.ensures) at
    c.in_ok-with_unhidden.ensures image.candidates (rw c.as_slice.ensures at c.in_ok-names.ensures) in
    ap (set_in files b) is ∙ set_is image c.requires.image pairs files b
    ∙ ap (λ ms. image_in b image ++ unhidden_by (image_in b image) ms)
    (sym (mapped_twice (of_folder files) module_with_folder pairs) ∙ ap (map (of_folder files)) c.into_parts-candidates.ensures.modules)

pub returns-clause-are : goal.returns-clause-are
returns-clause-are c =
    let image = c.args.image in
    let pairs = zip c.into_parts-candidates.result.0 c.into_parts-candidates.result.1 in
    let is = rw (c.in_ok-zipped.ensures, c.in_ok-set.ensures) at
    c.in_ok-with_unhidden.ensures image.candidates (rw c.as_slice.ensures at c.in_ok-names.ensures) in
    subst AreSet (sym is) (are_set image c.requires.image pairs c.args.path c.into_parts-candidates.ensures.modules c.requires.path)

pub returns-clause-from : goal.returns-clause-from
returns-clause-from c =
    let image = c.args.image in
    let pairs = zip c.into_parts-candidates.result.0 c.into_parts-candidates.result.1 in
    let is = rw (c.in_ok-zipped.ensures, c.in_ok-set.ensures) at
    c.in_ok-with_unhidden.ensures image.candidates (rw c.as_slice.ensures at c.in_ok-names.ensures) in
    subst (λ (s : ModuleSet). All (λ m. IsFrom image c.args.path m.0 m.1) (items s)) (sym is)
    (all_from image c.requires.image pairs c.args.path c.into_parts-candidates.ensures.modules)
