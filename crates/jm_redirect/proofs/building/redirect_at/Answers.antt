use Rattle.std.proofs.Common.{sym, arith}
use Rattle.std.proofs.lemmas.List.{get_or_past}
use Rattle.jm_form.specs.declared.table.Redirect.TheVariants.{Nowhere}
use Rattle.jm_redirect.proofs.building.redirect_at.Goals as goal

pub returns-in-None : goal.returns-in-None
returns-in-None c = sym (get_or_past c.args.redirects.now _ Nowhere (omega arith))
