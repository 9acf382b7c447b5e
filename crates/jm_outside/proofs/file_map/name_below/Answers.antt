use Rattle.std.proofs.Common.{◌≡◌, ◌∷◌, [], Some, None, ap, sym, ◌∙◌, option_map}
use Rattle.jm_outside.specs.Files.{after_front}
use Rattle.jm_outside.proofs.Names.{after_front-join, stripped}
use Rattle.jm_outside.proofs.file_map.name_below.Goals as goal

pub returns-in_err-strip_prefix : goal.returns-in_err-strip_prefix
returns-in_err-strip_prefix c =
    let none : after_front c.args.folder.now c.args.path.now ≡ None =
    sym (stripped c.args.folder.now c.args.path.now c.strip_prefix.result c.strip_prefix.ensures.cases)
    ∙ ap (option_map (λ x. x.now)) c.in_err-strip_prefix.was in
    rw (after_front-join c.args.folder.now (47 ∷ []) c.args.path.now, none, c.from_residual.ensures)

pub returns : goal.returns
returns c =
    let some : after_front c.args.folder.now c.args.path.now ≡ Some c.in_ok-strip_prefix.field-0.now =
    sym (stripped c.args.folder.now c.args.path.now c.strip_prefix.result c.strip_prefix.ensures.cases)
    ∙ ap (option_map (λ x. x.now)) c.in_ok-strip_prefix.was in
    rw (after_front-join c.args.folder.now (47 ∷ []) c.args.path.now, some) (stripped (47 ∷ []) c.in_ok-strip_prefix.field-0.now
    c.strip_prefix-2.result c.strip_prefix-2.ensures.cases)
