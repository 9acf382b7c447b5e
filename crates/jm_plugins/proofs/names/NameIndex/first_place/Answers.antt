use Rattle.std.proofs.Common.{◌∙◌, length, ap}
use Rattle.std.specs.Prelude.{unwrap_or}
use Rattle.jm_plugins.proofs.RankLaws.{numbered_first}
use Rattle.jm_plugins.proofs.names.NameIndex.first_place.Goals as goal

pub returns : goal.returns
returns c =
    let names = c.self.inside.names.now in
    rw (← c.self.view_is) (c.unwrap_or.ensures ∙ ap (λ o. unwrap_or o (length names)) c.get-number.ensures
    ∙ numbered_first names c.self.inside.numbers c.args.name.now c.self.invariant)
