use Rattle.std.proofs.Common.{ℕ, List, All, take}
use Rattle.jm_filed.specs.Filed.{IsWithin}
use Rattle.jm_relink.specs.Choosing.{ArePut, WasRead}
use Rattle.jm_relink.specs.Files.{AllWithin}
use Rattle.jm_relink.proofs.GatherLaws.{all_with}
use Rattle.jm_relink.proofs.choosing.put_files.Given as goal

abbrev pub invariant-loop-file : goal.invariant-loop-file
invariant-loop-file l = record {
  put : (b : List ℕ) → All (WasRead b l.info) l.files
      → ArePut b (all_with b l.module (take l.file-index l.files)) l.fn.list l.list;
  within : (size : ℕ) → All (λ x. IsWithin size x.content) l.fn.list → AllWithin size l.files
      → All (λ x. IsWithin size x.content) l.list;
}
