use Rattle.std.proofs.Common.{◌==◌, ◌∙◌}
use Rattle.jm_names.proofs.ByteSearches.{found_any}
use Rattle.jm_names.proofs.check.has_byte.Goals as goal

pub returns : goal.returns
returns c = c.is_some.ensures ∙ found_any (λ x. x == c.args.byte) c.args.text.now c.memchr.result c.memchr.ensures
