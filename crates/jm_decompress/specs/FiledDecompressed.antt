-- What a `decompress` of an image in a file did, whatever a shelf tells of the file (this project's
-- rule).
use Rattle.std.specs.Prelude.{ℕ, ◌≤◌, ◌+◌, List, Result}
use Rattle.jm_filed.specs.Filed.{IsFiled}
use Rattle.jm_link.specs.declared.linking.LinkStop.{LinkStop}
use Rattle.jm_link.specs.declared.linking.Summary.{Summary}
use Rattle.jm_link.specs.Links.{LinksBy}
use Rattle.jm_outside.specs.Shelves.{ShelfSeen}
use Rattle.jm_valid.specs.Opened.{Front}
use Rattle.jm_decompress.specs.Decompressed.{DecompressComes, stored_sizes}

-- what a `decompress` of an image in a file did: there is a file of the index, the one at the path
-- where files are told, of which it did what is due, and took no more than the stored bytes of the
-- resources
pub record FiledDecompresses (index : Front) (path output : List ℕ)
    (answer : Result Summary LinkStop) (old new : ShelfSeen) (handed new_handed : ℕ)
    : Type 0 where
  pub bytes : List ℕ
  pub filed : IsFiled index old.told path bytes
  pub does : LinksBy (DecompressComes bytes) ⊥ output answer old new
  pub takes : new_handed ≤ handed + stored_sizes bytes
