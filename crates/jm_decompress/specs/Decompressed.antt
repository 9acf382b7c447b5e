-- What a `decompress` comes to: the image of an image's resources, each with the content that its
-- stored bytes stand for, in the order of the file; or the first refusal that holds (images of
-- `jlink --compress`, JEP 282; the order of the refusals is this project's rule).
use Rattle.std.specs.Prelude.{ℕ, ◌≡◌, ◌++◌, ◌^◌, ◌-◌, min, nat_lt, not, List, [], ◌∷◌, map, filter}
use Rattle.std.specs.Prelude.{All, IsPermutation, Option, Some, None, Result, Ok, Err}
use Rattle.std.specs.List.{AllZip, sum_by}
use Rattle.jm_bytes.specs.Checks.{fault_if, first_fault}
use Rattle.jm_bytes.specs.declared.words.Order.{Order}
use Rattle.jm_filed.specs.FileOrder.{file_order}
use Rattle.jm_form.specs.declared.rows.Row.{Row}
use Rattle.jm_form.specs.Entries.{Entry, content_of}
use Rattle.jm_form.specs.Layout.{Written}
use Rattle.jm_form.specs.Places.{contents, strings}
use Rattle.jm_form.specs.Rows.{as_stored}
use Rattle.jm_link.specs.Linked.{LinkedImage, laid_out, layout_refusal}
use Rattle.jm_link.specs.Links.{IsLaid}
use Rattle.jm_names.specs.ByName.{Named, NeverFalls}
use Rattle.jm_names.specs.Names.{is_node}
use Rattle.jm_packed.specs.declared.packed.PackedFault.{PackedFault}
use Rattle.jm_packed.specs.Packed.{ContentComes}
use Rattle.jm_plugins.specs.Matching.{kept}
use Rattle.jm_reader.specs.Look.{head}
use Rattle.jm_reader.specs.Walk.{entries_of}
use Rattle.jm_texts.specs.declared.refusal.Refusal.{Refusal}
use Rattle.jm_texts.specs.declared.refusal.Refusal.TheVariants as refusal
use Rattle.jm_texts.specs.NameRefusals.{first_bad_name}
use Rattle.jm_decompress.specs.declared.resources.StoredResource.{StoredResource}

-- The resources

-- what the index tells of an entry: its name, and its row as it is spelled
abbrev pub stored_resource : Entry → StoredResource
stored_resource e = record { name = e.name; row = e.row }

-- the resources of an image, by rising slot: its entries that are no nodes
abbrev pub stored_resources : List ℕ → List StoredResource
stored_resources b = map stored_resource (filter (λ e. not (is_node e.name)) (entries_of b))

-- the name alone, as a pair with nothing
abbrev pub named : StoredResource → Named
named r = (r.name, [])

-- these are the resources of an image, by rising name
pub record AreByName (b : List ℕ) (rs : List StoredResource) : Type 0 where
  pub moved : IsPermutation (stored_resources b) rs
  pub sorted : NeverFalls (map named rs)

-- What the index refuses

-- how many bytes contents may have together, 1 GiB
abbrev pub content_limit : ℕ
content_limit = 1073741824

-- how many bytes the contents of resources have together, as their rows say
abbrev pub total_size : List StoredResource → ℕ
total_size rs = sum_by (λ r. r.row.size) rs

-- what the index alone refuses: the first name that may not stand in an image; too many bytes, of
-- which at most 2^64 - 1 are named
abbrev pub index_refusal : List StoredResource → Option Refusal
index_refusal rs =
    first_fault
    (first_bad_name (map named rs)
    ∷ fault_if (nat_lt content_limit (total_size rs))
    (refusal.TooLarge (min (total_size rs) (2 ^ 64 - 1)))
    ∷ [])

-- The contents

-- how many bytes resources have together as they are stored
abbrev pub stored_size : List StoredResource → ℕ
stored_size rs = sum_by (λ r. (as_stored r.row).size) rs

-- the same of all resources of an image
abbrev pub stored_sizes : List ℕ → ℕ
stored_sizes b = stored_size (stored_resources b)

-- the stored bytes of a row: as many as its compressed size says, where that isn't 0
abbrev pub stored_bytes : List ℕ → Row → List ℕ
stored_bytes b row = content_of (contents b (head b)) (as_stored row)

-- what the stored bytes of a resource come to: its content, or their first fault
abbrev pub ContentIs : List ℕ → StoredResource → Result (List ℕ) PackedFault → Type 0
ContentIs b r result =
    ContentComes (head b).order (strings b (head b)) r.row (stored_bytes b r.row) result

-- a pair is the name of a resource with its content
abbrev pub IsContentOf : List ℕ → StoredResource → Written → Type 0
IsContentOf b r p = (p.0 ≡ r.name) × ContentIs b r (Ok p.1)

-- the content of a resource can't be had, and this is the refusal
abbrev pub IsPacked : List ℕ → StoredResource → Refusal → Type 0
IsPacked b r given =
    (fault : PackedFault) × ContentIs b r (Err fault) × (given ≡ refusal.Packed r.name fault)

-- this refuses the first of some resources whose content can't be had
pub record IsFirstPacked (b : List ℕ) (rs : List StoredResource) (given : Refusal) : Type 0 where
  pub before : List StoredResource
  pub resource : StoredResource
  pub behind : List StoredResource
  pub is : rs ≡ before ++ resource ∷ behind
  pub had : All (λ r. (content : List ℕ) × ContentIs b r (Ok content)) before
  pub refused : IsPacked b resource given

-- the contents of resources, in their order, or the refusal of the first that can't be had
abbrev pub AreContents : List ℕ → List StoredResource → Result (List Written) Refusal → Type 0
AreContents b rs (Ok contents) = AllZip (IsContentOf b) rs contents
AreContents b rs (Err given) = IsFirstPacked b rs given

-- The image

-- the image of resources of no known modules, or what keeps them from being laid out
abbrev pub laid : Order → List Written → Result LinkedImage Refusal
laid order resources = laid_out order 0 resources (layout_refusal order resources)

-- Contents are laid out in the byte order of the image, and in the order in which they stand in its
-- file. At one place those come first that are empty, and so whose row says the size 0: it is the
-- content that is to be empty, as without compression, whatever is stored of it. A refusal is the
-- result.
abbrev pub IsLaidTo : List ℕ → Result (List Written) Refusal → Result LinkedImage Refusal → Type 0
IsLaidTo b (Ok contents) result = result ≡ laid (head b).order (kept (file_order b) contents)
IsLaidTo b (Err given) result = result ≡ Err given

-- what the index refuses of resources is the result, else what their contents come to
abbrev pub IsJudgedTo : List ℕ → List StoredResource → Option Refusal → Result LinkedImage Refusal
    → Type 0
IsJudgedTo b rs (Some given) result = result ≡ Err given
IsJudgedTo b rs None result =
    (had : Result (List Written) Refusal) × AreContents b rs had × IsLaidTo b had result

-- the rule: what a `decompress` of these bytes of an image comes to, refusal by refusal in their
-- order
abbrev pub DecompressesTo : List ℕ → Result LinkedImage Refusal → Type 0
DecompressesTo b result =
    (rs : List StoredResource) × AreByName b rs × IsJudgedTo b rs (index_refusal rs) result

-- the same, and an image is valid, hands out exactly its resources, and tells exactly their trees
abbrev pub DecompressComes : List ℕ → Result LinkedImage Refusal → Type 0
DecompressComes b result = DecompressesTo b result × IsLaid (head b).order result
