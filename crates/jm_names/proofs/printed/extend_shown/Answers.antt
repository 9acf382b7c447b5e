use Rattle.std.proofs.Common.{◌==◌, sym, ◌∙◌}
use Rattle.jm_names.proofs.ByteSearches.{found_any}
use Rattle.jm_names.proofs.UtfPlain.{utf_plain}
use Rattle.jm_names.proofs.printed.extend_shown.Goals as goal

pub returns-then-is_none : goal.returns-then-is_none
returns-then-is_none c =
    let found = found_any (λ x. x == 0xED) c.args.name.now c.memchr.result c.memchr.ensures in
    rw (utf_plain c.args.name.now (sym found ∙ c.if-is_none.ensures)) c.extend_shown_text.ensures
