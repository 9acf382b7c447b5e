use Rattle.std.proofs.Common.{ap, map, ◌∙◌}
use Rattle.jm_reader.specs.Listing.{entry_listed}
use Rattle.jm_reader.proofs.IndexLaws.{own_file, relisted}
use Rattle.jm_reader.proofs.entries.walk.Goals as goal

pub returns-clause-rest : goal.returns-clause-rest
returns-clause-rest c =
    let b = c.args.image.now in
    let file = own_file c.index.result b c.index.ensures.bytes c.index.ensures.length in
    ap (λ l. map (entry_listed l) c.list.result.rest) c.again.ensures ∙ ap (map (entry_listed b)) (c.list.ensures.rest b file) ∙ relisted b
