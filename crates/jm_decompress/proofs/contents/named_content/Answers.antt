use Rattle.std.proofs.Common.{◌∙◌}
use Rattle.jm_decompress.proofs.ContentLaws.{not_had}
use Rattle.jm_decompress.proofs.contents.named_content.Goals as goal

pub returns-in-Ok : goal.returns-in-Ok
returns-in-Ok c b texts held = (
  c.in_ok-name.ensures ∙ c.as_slice.ensures,
  rw (texts.order, texts.strings, c.as_slice-stored.ensures ∙ held) at c.in-Ok.ensures,
)

pub returns-in-Err : goal.returns-in-Err
returns-in-Err c b texts held =
    rw c.unpacked.ensures
    (not_had b c.args.held.now.resource c.in_ok-name.name c.in-Err.error c.args.order c.args.strings.now
    c.as_slice-stored.result.now (c.in_ok-name.ensures ∙ c.as_slice.ensures) texts.order texts.strings
    (c.as_slice-stored.ensures ∙ held) c.in-Err.ensures)
