use Rattle.std.proofs.Common.{rules, Some, None, IsUtf8, arith, ap, sym, ◌∙◌}
use Rattle.std.proofs.lemmas.List.Elements.{All-push}
use Rattle.std.proofs.lemmas.Option.{IfSome_then}
use Rattle.std.proofs.lemmas.Str.Pattern.{split_once_first}
use Rattle.jm_words.specs.Values.{unless_empty, without_slashes}
use Rattle.jm_words.proofs.ValueLaws.{last_made, part_made}
use Rattle.jm_words.proofs.values.folders_of.Goals as goal

pub loop-part-preserved : goal.loop-part-preserved
loop-part-preserved c =
    let cut = split_once_first 58 c.loop-part.rest.now (Some (c.in-Some.part, c.in-Some.behind)) c.in-Some.ensures.cases (omega arith) in
    let text : IsUtf8 c.in_ok-copy_of.field-0 = search rules in (
      part_made 58 c.loop-part.rest.now without_slashes _ c.loop-part.folders _ c.in_ok-copy_of.field-0 c.loop-part.invariant.0
          c.in_ok-push.ensures.ok c.in-Some.part.now c.in-Some.behind.now (cut.0, cut.1, cut.2) (search rules),
      rw c.in_ok-push.ensures.ok (All-push IsUtf8 c.loop-part.folders c.in_ok-copy_of.field-0 c.loop-part.invariant.1 text),
      search rules,
    )

pub returns-clause-folders : goal.returns-clause-folders
returns-clause-folders c =
    let end = split_once_first 58 c.loop-part.rest.now None c.in_default.ensures.cases (omega arith) in
    c.unless_empty.ensures.texts ∙ sym (ap unless_empty (last_made 58 c.loop-part.rest.now without_slashes _ c.loop-part.folders _
    c.in_ok-copy_of-2.field-0 c.loop-part.invariant.0 c.in_ok-push-2.ensures.ok end (search rules)))

pub returns-clause-text : goal.returns-clause-text
returns-clause-text c =
    let text : IsUtf8 c.in_ok-copy_of-2.field-0 = search rules in
    IfSome_then c.unless_empty.result c.unless_empty.ensures.same (λ some same. rw (same, c.in_ok-push-2.ensures.ok)
    (All-push IsUtf8 c.loop-part.folders c.in_ok-copy_of-2.field-0 c.loop-part.invariant.1 text))
