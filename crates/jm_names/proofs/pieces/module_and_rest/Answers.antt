use Rattle.std.proofs.Common.{◌≡◌, false, ap, sym, ◌∙◌}
use Rattle.std.specs.List.{before_first, after_first}
use Rattle.jm_names.specs.Names.{is_slash, is_empty, split, cut_rest}
use Rattle.jm_names.proofs.JoinLaws.{is_empty-tested, split-module}
use Rattle.jm_names.proofs.pieces.module_and_rest.Goals as goal

pub returns-else-is_empty-clause-some : goal.returns-else-is_empty-clause-some
returns-else-is_empty-clause-some c =
    let found = c.in_ok-module.ensures in
    let some : is_empty (before_first is_slash c.in_ok-first.after.now) ≡ false =
    ap is_empty (sym found.before) ∙ is_empty-tested c.in_ok-module.module.now false (sym c.is_empty.ensures ∙ c.if-is_empty.false) in
    ap split c.in_ok-first.ensures.cases.0
    ∙ split-module c.in_ok-first.first.now c.in_ok-first.after.now c.if-first-ne47.false found.found some
    ∙ ap (λ xs. cut_rest xs (after_first is_slash c.in_ok-first.after.now)) (sym found.before)
    ∙ ap (cut_rest c.in_ok-module.module.now) (sym found.after)
