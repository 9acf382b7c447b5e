use Rattle.std.proofs.Common.{ap, ◌∙◌, rules, tests}
use Rattle.std.specs.List.{list_any, slice_split}
use Rattle.std.proofs.lemmas.Iterator.Search.{any_from_yields_List}
use Rattle.std.proofs.lemmas.Iterator.Splits.{YieldsList-from_slice_split}
use Rattle.jm_names.specs.Names.{is_slash}
use Rattle.jm_names.specs.NameFaults.{is_dots}
use Rattle.jm_names.proofs.check.has_dots.Goals as goal

pub returns : goal.returns
returns c =
    any_from_yields_List is_dots _ _ _ c.any.ensures.ran (YieldsList-from_slice_split _ is_slash c.without_first.result.now
    c.split.ensures.rest c.split.ensures.done c.split.ensures.closure (λ x b q k. search (rules, tests)))
    (λ x b q k. search (rules, tests))
    ∙ ap (λ xs. list_any is_dots (slice_split is_slash xs)) c.without_first.ensures
