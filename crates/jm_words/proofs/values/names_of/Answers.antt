use Rattle.std.proofs.Common.{rules, Some, None, arith, ap, sym, ◌∙◌}
use Rattle.std.proofs.lemmas.Str.Pattern.{split_once_first}
use Rattle.jm_names.specs.UtfForms.{modified}
use Rattle.jm_words.specs.Values.{unless_empty}
use Rattle.jm_words.proofs.ValueLaws.{last_made, part_made}
use Rattle.jm_words.proofs.values.names_of.Goals as goal

pub loop-part-preserved : goal.loop-part-preserved
loop-part-preserved c =
    let cut = split_once_first 44 c.loop-part.rest.now (Some (c.in-Some.part, c.in-Some.behind)) c.in-Some.ensures.cases (omega arith) in (
      part_made 44 c.loop-part.rest.now modified _ c.loop-part.names _ c.in_ok-to_modified.field-0 c.loop-part.invariant.0
          c.in_ok-push.ensures.ok c.in-Some.part.now c.in-Some.behind.now (cut.0, cut.1, cut.2) (search rules),
      search rules,
    )

pub returns : goal.returns
returns c =
    let end = split_once_first 44 c.loop-part.rest.now None c.in_default.ensures.cases (omega arith) in
    c.unless_empty.ensures.texts ∙ sym (ap unless_empty (last_made 44 c.loop-part.rest.now modified _ c.loop-part.names _
    c.in_ok-to_modified-2.field-0 c.loop-part.invariant.0 c.in_ok-push-2.ensures.ok end (search rules)))
