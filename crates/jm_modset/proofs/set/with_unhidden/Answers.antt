use Rattle.std.proofs.Common.{rules, ◌≡◌, ◌∷◌, ◌++◌, [], List, sym, ap, refl, ◌∙◌, append-nil}
use Rattle.jm_closure.specs.declared.candidate.Candidate.{Candidate}
use Rattle.jm_modpath.specs.declared.visible.ModuleFolder.{ModuleFolder}
use Rattle.jm_modset.specs.declared.set.ModuleSet.{ModuleSet}
use Rattle.jm_modset.specs.Set.{with_unhidden}
use Rattle.jm_modset.proofs.SetLaws.{joined_more, joined_none}
use Rattle.jm_modset.proofs.set.with_unhidden.Goals as goal

pub loop-candidate-init : goal.loop-candidate-init
loop-candidate-init c = λ image indexed. joined_none image c.args.set

pub loop-candidate-preserved : goal.loop-candidate-preserved
loop-candidate-preserved c = λ image indexed.
    let m : Candidate × ModuleFolder = (c.in-Some.candidate, c.in-Some.folder) in
    c.in_ok-put_unhidden.ensures image indexed ∙ ap (λ (s : ModuleSet). with_unhidden image s (m ∷ [])) (c.loop-candidate.invariant image indexed)
    ∙ joined_more image c.args.set c.loop-candidate.yielded m
