use Rattle.std.proofs.Common.{◌∙◌}
use Rattle.jm_strip.proofs.WholeLaws.{all_read}
use Rattle.jm_strip.proofs.stripping.whole.Goals as goal

pub returns : goal.returns
returns c =
    let (class, is, same) = all_read c.args.bytes.now c.in_ok-text.text.items c.strip_class.new.cursor c.len.result
    (rw c.new-cursor.ensures at c.in_ok-text.ensures) c.len.ensures c.if-len-ne0.false in
    (class, is, c.from_vec.ensures ∙ same)
