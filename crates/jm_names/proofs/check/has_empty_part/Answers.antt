use Rattle.std.proofs.Common.{ap, ◌∙◌, rules, tests}
use Rattle.std.specs.List.{list_any, slice_split}
use Rattle.std.proofs.lemmas.Iterator.Search.{any_from_yields_List}
use Rattle.std.proofs.lemmas.Iterator.Splits.{YieldsList-from_slice_split}
use Rattle.jm_names.specs.Names.{is_slash, is_empty}
use Rattle.jm_names.proofs.JoinLaws.{is_empty-length}
use Rattle.jm_names.proofs.check.has_empty_part.Goals as goal

pub returns : goal.returns
returns c =
    any_from_yields_List is_empty _ _ _ c.any.ensures.ran (YieldsList-from_slice_split _ is_slash c.without_first.result.now
    c.split.ensures.rest c.split.ensures.done c.split.ensures.closure (λ x b q k. search (rules, tests)))
    (λ x b q k. search (rules, tests, is_empty-length))
    ∙ ap (λ xs. list_any is_empty (slice_split is_slash xs)) c.without_first.ensures
