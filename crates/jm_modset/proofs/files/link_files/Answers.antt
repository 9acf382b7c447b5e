use Rattle.std.proofs.Common.{◌∙◌, Ok, ap, map, sym}
use Rattle.jm_texts.specs.NameRefusals.{first_bad_name}
use Rattle.jm_modset.specs.Files.{pair_of}
use Rattle.jm_modset.proofs.FitLaws.{bad_gathered, files_fit}
use Rattle.jm_modset.proofs.files.link_files.Goals as goal

pub returns-in-Some-clause-files : goal.returns-in-Some-clause-files
returns-in-Some-clause-files c files b =
    bad_gathered c.args.set.now c.args.places.now c.in_ok-files.files c.in_ok-files.ensures files b
    ∙ ap (λ fs. first_bad_name (map pair_of fs)) (sym c.as_slice.ensures) ∙ sym c.in_ok-refusal.ensures.refusal ∙ c.in-Some.is

pub returns-in-None-clause-files : goal.returns-in-None-clause-files
returns-in-None-clause-files c files b = (
  bad_gathered c.args.set.now c.args.places.now c.in_ok-files.files c.in_ok-files.ensures files b
      ∙ ap (λ fs. first_bad_name (map pair_of fs)) (sym c.as_slice.ensures) ∙ sym c.in_ok-refusal.ensures.refusal ∙ c.in-None.is,
  c.in_ok-files.ensures.shown files b,
)

pub returns-in-None-clause-fit : goal.returns-in-None-clause-fit
returns-in-None-clause-fit c =
    files_fit c.args.set.now c.args.places.now c.in_ok-files.files c.requires.set c.requires.free c.requires.once c.in_ok-files.ensures
    (rw c.as_slice.ensures at (c.first_bad_name.ensures.sound (c.in_ok-refusal.was ∙ ap (λ r. Ok r) c.in-None.is)))
