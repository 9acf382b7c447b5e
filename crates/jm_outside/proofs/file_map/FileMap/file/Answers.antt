use Rattle.jm_outside.proofs.Map.{files_in-lookup}
use Rattle.jm_outside.proofs.file_map.FileMap.file.Goals as goal

pub returns-in-Some : goal.returns-in-Some
returns-in-Some c = rw (
  ← c.self.view_is,
  ← files_in-lookup (λ k. k.items) (λ v. v.items) c.args.path.now
      c.self.inside.files.entries,
  ← c.get.ensures.value,
  c.in-Some.is,
  c.as_slice.ensures.value,
)

pub returns-in-None : goal.returns-in-None
returns-in-None c = rw (
  ← c.self.view_is,
  ← files_in-lookup (λ k. k.items) (λ v. v.items) c.args.path.now
      c.self.inside.files.entries,
  ← c.get.ensures.value,
  c.in-None.is,
)
