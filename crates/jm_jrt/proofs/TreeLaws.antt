-- The law of the trees: an image that stands for resources and whose nodes tell their trees shows at
-- every path what these trees have there.
use Rattle.std.proofs.Common.{◌≡◌, ℕ, ◌^◌, ◌<◌, ◌≤◌, List, length, Option, Result, Ok}
use Rattle.std.proofs.Common.{sym, ap, ◌∙◌, subst, slice_index, arith}
use Rattle.jm_bytes.proofs.WordLaws.{word-lt}
use Rattle.jm_bytes.specs.Checks.{first_fault}
use Rattle.jm_form.specs.declared.container.Header.{Header}
use Rattle.jm_form.specs.Head.{header_checks, header_of, read_order}
use Rattle.jm_form.specs.Nodes.{NodesAs, NodesOf}
use Rattle.jm_form.specs.TreeView.{TreeItem, names_of}
use Rattle.jm_form.specs.Validity.{Stands}
use Rattle.jm_form.proofs.HeadLaws.{header_fits, header_found}
use Rattle.jm_reader.specs.Look.{head}
use Rattle.jm_reader.proofs.HeadLaws.{head_is, head_valid}
use Rattle.jm_jrt.specs.declared.jrt_error.JrtError.{JrtError}
use Rattle.jm_jrt.specs.Stat.{owner, owner_read, stat, stat_read}
use Rattle.jm_jrt.specs.TreesShown.{IsItemOfTrees, IsOwnerOfTrees, ShowsTrees}
use Rattle.jm_jrt.proofs.TreeCases.{stat_of_tree}
use Rattle.jm_jrt.proofs.TreeContents.{HasSections}
use Rattle.jm_jrt.proofs.TreeOwners.{owner_of_tree}

-- Headers whose sections have words

-- those of bytes
pub bytes_have : (b : List ℕ) (h : Header) → ((k : ℕ) → slice_index b k < 256) → header_of b ≡ Ok h → HasSections h
bytes_have b h bytes header =
    let first = word-lt (read_order b) b 20 bytes in
    let second = word-lt (read_order b) b 24 bytes in
    subst HasSections (header_found b h (first_fault (header_checks b)) header).1 (record {
      locations = omega arith;
      strings =
          omega arith;
    })

-- those of a short file
pub short_has : (b : List ℕ) (h : Header) → length b ≤ 2 ^ 32 → header_of b ≡ Ok h → HasSections h
short_has b h short header = let fits = header_fits b h header in record { locations = omega arith; strings = omega arith }

-- those of a header whose lengths are words
pub words_have : (h : Header) → h.locations ≤ 4294967295 → h.strings ≤ 4294967295 → HasSections h
words_have h locations strings = record { locations = omega arith; strings = omega arith }

-- The law

-- an image whose header has sections that words reach
pub trees_with : (b : List ℕ) (resources : List (List ℕ × List ℕ)) (read : Header) → header_of b ≡ Ok read → HasSections read
    → NodesOf b (names_of resources) → Stands b resources → ShowsTrees b resources
trees_with b resources read header sections (h, nodes) (g, valid, same) = record {
  stats = λ path. ap (stat_read b path) nodes.header ∙ stat_of_tree b resources nodes_here (head_valid b g valid) (g, valid, same) has path;
  owners = λ path. ap (owner_read b path) nodes.header ∙ owner_of_tree b resources nodes_here (head_valid b g valid)
      (g, valid, same) has path;
}
  where
    has : HasSections (head b)
    has = subst HasSections (sym (head_is b read header)) sections

    nodes_here : NodesAs b (head b) (names_of resources)
    nodes_here = subst (λ h. NodesAs b h (names_of resources)) (sym (head_is b h nodes.header)) nodes

-- what stands at a path is what the trees have there, and so is the first full owner
pub item_shown : (b path : List ℕ) (h : Header) (item : Result TreeItem JrtError) → header_of b ≡ Ok h → h.locations ≤ 4294967295
    → h.strings ≤ 4294967295 → item ≡ stat b path → IsItemOfTrees b path item
item_shown b path h item header locations strings is = λ m stands nodes.
    is ∙ (trees_with b m h header (words_have h locations strings) nodes stands).stats path

pub owner_shown : (b path : List ℕ) (h : Header) (full : Result (Option (List ℕ)) JrtError) → header_of b ≡ Ok h
    → h.locations ≤ 4294967295 → h.strings ≤ 4294967295 → full ≡ owner b path → IsOwnerOfTrees b path full
owner_shown b path h full header locations strings is = λ m stands nodes.
    is ∙ (trees_with b m h header (words_have h locations strings) nodes stands).owners path

-- of bytes
pub trees_shown : (b : List ℕ) (resources : List (List ℕ × List ℕ)) → ((k : ℕ) → slice_index b k < 256)
    → NodesOf b (names_of resources) → Stands b resources → ShowsTrees b resources
trees_shown b resources bytes (h, nodes) stands = trees_with b resources h nodes.header (bytes_have b h bytes nodes.header) (h, nodes) stands

-- of a file that isn't too long
pub trees_shown_short : (b : List ℕ) (resources : List (List ℕ × List ℕ)) → length b ≤ 2 ^ 32 → NodesOf b (names_of resources)
    → Stands b resources → ShowsTrees b resources
trees_shown_short b resources short (h, nodes) stands = trees_with b resources h nodes.header (short_has b h short nodes.header) (h, nodes) stands
