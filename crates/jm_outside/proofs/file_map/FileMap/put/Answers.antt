use Rattle.jm_outside.proofs.Map.{files_in-insert}
use Rattle.jm_outside.proofs.file_map.FileMap.put.Goals as goal

pub returns-clause-ok : goal.returns-clause-ok
returns-clause-ok c = rw (
  ← c.self.view_is,
  ← files_in-insert (λ k. k.items) (λ v. v.items) c.args.path c.args.bytes
      c.self.inside.files.entries,
  c.in_ok-insert.ensures.entries,
)
