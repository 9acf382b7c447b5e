use Rattle.std.proofs.Common.{sym, ◌∙◌}
use Rattle.jm_extract.proofs.FiledLaws.{not_below}
use Rattle.jm_extract.proofs.file_paths.is_made_at.Goals as goal

pub returns-then-not-starts_with : goal.returns-then-not-starts_with
returns-then-not-starts_with c =
    not_below c.args.path.now c.args.dir.now c.args.entries.now (sym c.starts_with.ensures.value ∙ c.if-not-starts_with.true)
