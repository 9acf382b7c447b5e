-- What stands at a path is what the content of the path's node says, and without such a node it is a
-- root, a file, or nothing.
use Rattle.std.proofs.Common.{arith, ◌+◌, ◌-◌, ◌*◌, ◌≤◌, length, rules}
use Rattle.std.proofs.Common.{◌≡◌, ℕ, ◌==◌, Bool, true, false, List, drop, Option, Some, None, is_some, option_map}
use Rattle.std.proofs.Common.{Result, Ok, Err, refl, sym, ap, ◌∙◌}
use Rattle.std.specs.Prelude.{codes, if◌then◌else◌, is_none, nat_eq, option_and_then, IfNone, IfOk}
use Rattle.std.specs.List.{after_last, before_last, list_any, starts_with}
use Rattle.std.specs.Str.{bytes_eq}
use Rattle.std.proofs.lemmas.Bool.{or_cases}
use Rattle.std.proofs.lemmas.Slice.Eq.{bytes_eq-Decides}
use Rattle.jm_bytes.specs.Metered.{CostsAtMost, Metered, RisesAtMost}
use Rattle.jm_bytes.proofs.Choice.{same_some}
use Rattle.jm_bytes.proofs.Cuts.{before_last_none}
use Rattle.jm_names.specs.Names.{is_node, is_slash}
use Rattle.jm_form.specs.declared.container.Header.{Header}
use Rattle.jm_form.specs.declared.container.HeaderFault.{HeaderFault}
use Rattle.jm_form.specs.declared.rows.Row.{Row}
use Rattle.jm_form.specs.declared.trees.Holds.{Holds}
use Rattle.jm_form.specs.declared.trees.Holds.TheVariants.{Children, Owners}
use Rattle.jm_form.specs.declared.trees.Owner.{Owner}
use Rattle.jm_form.specs.Head.{header_of, IsFileOf}
use Rattle.jm_form.specs.TreeView.{Folder, TreeItem, item_of}
use Rattle.jm_form.specs.Validity.{look, look_with}
use Rattle.jm_form.proofs.LocalityLaws.{whole_file}
use Rattle.jm_reader.specs.Walk.{IsLater}
use Rattle.jm_valid.specs.Opened.{Front}
use Rattle.jm_jrt.specs.declared.jrt_error.JrtError.{JrtError}
use Rattle.jm_jrt.specs.declared.jrt_error.JrtError.TheVariants.{NotThere}
use Rattle.jm_jrt.specs.declared.trees.Standing.{Standing}
use Rattle.jm_jrt.specs.declared.trees.Standing.TheVariants as standing
use Rattle.jm_jrt.specs.Listed.{roots_if}
use Rattle.jm_jrt.specs.Standings.{IsIn, StandingCosts, whole}
use Rattle.jm_jrt.specs.Stat.{children_of, file, folder, has_children, in_modules, is_package, is_root, link, link_among, node_content}
use Rattle.jm_jrt.specs.Stat.{node_hashes, node_path, owners_of, resource, roots, stat, stat_read, stat_with}
use Rattle.jm_jrt.specs.Told.{children_told, owners_told}
use Rattle.jm_jrt.proofs.WithinLaws.{later_then}

abbrev Found : Type 0
Found = Option (Row × List ℕ)

abbrev content_in : Found → Option (List ℕ)
content_in found = option_map (λ (r : Row × List ℕ). r.1) found

-- what the content of a path's node says of the path
abbrev pub said : List ℕ → List ℕ → List ℕ → Result TreeItem JrtError
said b path content =
    if has_children path then folder (children_told b content)
    else if is_package path then folder (owners_told b content)
    else link (after_last is_slash path) (owners_told b content)

-- what stands at a path where no node says it
abbrev pub unsaid : List ℕ → List ℕ → Result TreeItem JrtError
unsaid b path =
    if bytes_eq path (codes "/") then Ok (Folder (roots b))
    else if starts_with nat_eq path (codes "/modules/") then resource b path
    else Err NotThere

-- Headers

-- bytes in which something is found have a header
header_sought : (b name : List ℕ) (found : Row × List ℕ) → look b name ≡ Some found → (h : Header) × (header_of b ≡ Ok h)
header_sought b name found e = go (header_of b) refl e
  where
    go : (r : Result Header HeaderFault) → header_of b ≡ r → look_with b name r ≡ Some found → (h : Header) × (header_of b ≡ Ok h)
    go (Ok h) is e = (h, is)
    go (Err fault) is e = cc

pub stat_is : (b path : List ℕ) (h : Header) → header_of b ≡ Ok h → stat b path ≡ stat_with b path
stat_is b path h read = ap (stat_read b path) read

-- Contents

children_found : (b : List ℕ) (o : Found) (content : List ℕ) → content_in o ≡ Some content → children_of b o ≡ children_told b content
children_found b None content e = cc
children_found b (Some found) content e = ap (children_told b) (same_some found.1 content e)

owners_found : (b : List ℕ) (o : Found) (content : List ℕ) → content_in o ≡ Some content → owners_of b o ≡ owners_told b content
owners_found b None content e = cc
owners_found b (Some found) content e = ap (owners_told b) (same_some found.1 content e)

inner_found : (b path : List ℕ) (o : Found) (content : List ℕ) → content_in o ≡ Some content → in_modules b path o
    ≡ folder (children_told b content)
inner_found b path None content e = cc
inner_found b path (Some found) content e = ap (λ c. folder (children_told b c)) (same_some found.1 content e)

nothing_found : (o : Found) → content_in o ≡ None → o ≡ None
nothing_found None e = refl
nothing_found (Some found) e = cc

-- Paths

slash_no_node : (path : List ℕ) → bytes_eq path (codes "/") ≡ true → node_path path ≡ None
slash_no_node path is = ap node_path ((bytes_eq-Decides path (codes "/")).0 is)

root_not_inner : (path : List ℕ) → is_root path ≡ true → starts_with nat_eq path (codes "/modules/") ≡ false
root_not_inner path is = search (rules, or_cases, bytes_eq-Decides)

-- the tests of a path, in order
module _ (b path : List ℕ) where
  sought_at : (node : Option (List ℕ)) → node_path path ≡ node → node_content b path ≡ content_in (option_and_then (look b) node)
  sought_at asked is = ap (λ n. content_in (option_and_then (look b) n)) is

  -- With the content of a node

  with_content : (content : List ℕ) → node_content b path ≡ Some content → stat_with b path ≡ said b path content
  with_content content node = at_slash (bytes_eq path (codes "/")) refl
    where
      at_link : (t : Bool) → is_package (before_last is_slash path) ≡ t → bytes_eq path (codes "/") ≡ false → is_root path ≡ false
          → starts_with nat_eq path (codes "/modules/") ≡ false → is_package path ≡ false → stat_with b path ≡ said b path content
      at_link true is slash root inner pack =
          let found = sym (sought_at (Some (before_last is_slash path)) (rw (root, inner, pack, is) refl)) ∙ node in
          rw (slash, root, inner, pack, is)
          (ap (link (after_last is_slash path)) (owners_found b (look b (before_last is_slash path)) content found))
      at_link false is slash root inner pack =
          let found = sym (sought_at None (rw (root, inner, pack, is) refl)) ∙ node in cc

      at_package : (t : Bool) → is_package path ≡ t → bytes_eq path (codes "/") ≡ false → is_root path ≡ false
          → starts_with nat_eq path (codes "/modules/") ≡ false → stat_with b path ≡ said b path content
      at_package true is slash root inner =
          let found = sym (sought_at (Some path) (rw (root, inner, is) refl)) ∙ node in
          rw (slash, root, inner, is) (ap folder (owners_found b (look b path) content found))
      at_package false is slash root inner = at_link (is_package (before_last is_slash path)) refl slash root inner is

      at_inner : (t : Bool) → starts_with nat_eq path (codes "/modules/") ≡ t → bytes_eq path (codes "/") ≡ false
          → is_root path ≡ false → stat_with b path ≡ said b path content
      at_inner true is slash root =
          let found = sym (sought_at (Some path) (rw (root, is) refl)) ∙ node in
          rw (slash, root, is) (inner_found b path (look b path) content found)
      at_inner false is slash root = at_package (is_package path) refl slash root is

      at_root : (t : Bool) → is_root path ≡ t → bytes_eq path (codes "/") ≡ false → stat_with b path ≡ said b path content
      at_root true is slash =
          let found = sym (sought_at (Some path) (rw is refl)) ∙ node in
          rw (slash, is) (ap folder (children_found b (look b path) content found))
      at_root false is slash = at_inner (starts_with nat_eq path (codes "/modules/")) refl slash is

      at_slash : (t : Bool) → bytes_eq path (codes "/") ≡ t → stat_with b path ≡ said b path content
      at_slash true is = let found = sym (sought_at None (slash_no_node path is)) ∙ node in cc
      at_slash false is = at_root (is_root path) refl is

  -- Without one

  without_content : node_content b path ≡ None → stat_with b path ≡ unsaid b path
  without_content node = at_slash (bytes_eq path (codes "/")) refl
    where
      at_link : (t : Bool) → is_package (before_last is_slash path) ≡ t → bytes_eq path (codes "/") ≡ false → is_root path ≡ false
          → starts_with nat_eq path (codes "/modules/") ≡ false → is_package path ≡ false → stat_with b path ≡ unsaid b path
      at_link true is slash root inner pack =
          let found = nothing_found (look b (before_last is_slash path))
          (sym (sought_at (Some (before_last is_slash path)) (rw (root, inner, pack, is) refl)) ∙ node) in
          rw (slash, root, inner, pack, is) (ap (λ o. link (after_last is_slash path) (owners_of b o)) found)
      at_link false is slash root inner pack = rw (slash, root, inner, pack, is) refl

      at_package : (t : Bool) → is_package path ≡ t → bytes_eq path (codes "/") ≡ false → is_root path ≡ false
          → starts_with nat_eq path (codes "/modules/") ≡ false → stat_with b path ≡ unsaid b path
      at_package true is slash root inner =
          let found = nothing_found (look b path) (sym (sought_at (Some path) (rw (root, inner, is) refl)) ∙ node) in
          rw (slash, root, inner, is) (ap (λ o. folder (owners_of b o)) found)
      at_package false is slash root inner = at_link (is_package (before_last is_slash path)) refl slash root inner is

      at_inner : (t : Bool) → starts_with nat_eq path (codes "/modules/") ≡ t → bytes_eq path (codes "/") ≡ false
          → is_root path ≡ false → stat_with b path ≡ unsaid b path
      at_inner true is slash root =
          let found = nothing_found (look b path) (sym (sought_at (Some path) (rw (root, is) refl)) ∙ node) in
          rw (slash, root, is) (ap (in_modules b path) found)
      at_inner false is slash root = at_package (is_package path) refl slash root is

      at_root : (t : Bool) → is_root path ≡ t → bytes_eq path (codes "/") ≡ false → stat_with b path ≡ unsaid b path
      at_root true is slash =
          let found = nothing_found (look b path) (sym (sought_at (Some path) (rw is refl)) ∙ node) in
          rw (slash, is, root_not_inner path is) (ap (λ o. folder (children_of b o)) found)
      at_root false is slash = at_inner (starts_with nat_eq path (codes "/modules/")) refl slash is

      at_slash : (t : Bool) → bytes_eq path (codes "/") ≡ t → stat_with b path ≡ unsaid b path
      at_slash true is = rw is refl
      at_slash false is = at_root (is_root path) refl is

-- a content is that of a node of bytes that have a header
pub node_header : (b : List ℕ) (node : Option (List ℕ)) (content : List ℕ) → content_in (option_and_then (look b) node) ≡ Some content
    → (h : Header) × (header_of b ≡ Ok h)
node_header b None content e = cc
node_header b (Some name) content e = go (look b name) refl e
  where
    go : (o : Found) → look b name ≡ o → content_in o ≡ Some content → (h : Header) × (header_of b ≡ Ok h)
    go None is e = cc
    go (Some found) is e = header_sought b name found is

pub stat_said : (b path content : List ℕ) → node_content b path ≡ Some content → stat b path ≡ said b path content
stat_said b path content node =
    let (h, read) = node_header b (node_path path) content node in
    stat_is b path h read ∙ with_content b path content node

pub stat_unsaid : (b path : List ℕ) (h : Header) → header_of b ≡ Ok h → node_content b path ≡ None → stat b path ≡ unsaid b path
stat_unsaid b path h read node = stat_is b path h read ∙ without_content b path node

-- The answers of the code

pub said_children : (b path content : List ℕ) → has_children path ≡ true → said b path content ≡ folder (children_told b content)
said_children b path content is = rw is refl

pub said_owners : (b path content : List ℕ) → has_children path ≡ false → is_package path ≡ true → said b path content
    ≡ folder (owners_told b content)
said_owners b path content other is = rw (other, is) refl

pub said_link : (b path content : List ℕ) → has_children path ≡ false → is_package path ≡ false → said b path content
    ≡ link (after_last is_slash path) (owners_told b content)
said_link b path content other pack = rw (other, pack) refl

-- what a list holds is what was told
pub folder_of : (holds rest : Holds) (told : Result Holds JrtError) → rest ≡ holds → Ok holds ≡ told → Ok (item_of rest) ≡ folder told
folder_of holds rest told same is = ap (λ h. folder (Ok h)) same ∙ ap folder is

-- a bad word in the form of pairs
pub owners_refused : (b path content : List ℕ) (error : JrtError) → has_children path ≡ false → Err error ≡ owners_told b content
    → Err error ≡ said b path content
owners_refused b path content error other told = go (is_package path) refl
  where
    go : (t : Bool) → is_package path ≡ t → Err error ≡ said b path content
    go true is = ap folder told ∙ sym (said_owners b path content other is)
    go false is = ap (link (after_last is_slash path)) told ∙ sym (said_link b path content other is)

-- only a path with a slash has a node
pub no_slash_no_node : (b path content : List ℕ) → has_children path ≡ false → is_package path ≡ false
    → list_any is_slash path ≡ false → node_content b path ≡ Some content → ⊥
no_slash_no_node b path content other pack none node = absurd_none (sym (sought_at b path None without) ∙ node)
  where
    start : is_package (before_last is_slash path) ≡ false
    start = ap is_package (before_last_none (λ x. x == 47) path 0 none)

    without : node_path path ≡ None
    without = rw (other, pack, start) refl

    absurd_none : ◌≡◌ {A = Option (List ℕ)} None (Some content) → ⊥
    absurd_none e = cc

-- a link is that to one of the owners that were told
pub linked : (b path content name : List ℕ) (owners : List Owner) → has_children path ≡ false → is_package path ≡ false
    → name ≡ after_last is_slash path → Ok (Owners owners) ≡ owners_told b content → node_content b path ≡ Some content
    → link_among name owners ≡ stat b path
linked b path content name owners other pack after told node =
    ap (link name) told ∙ ap (λ m. link m (owners_told b content)) after
    ∙ sym (stat_said b path content node ∙ said_link b path content other pack)

-- a row is found exactly where look-up finds something
pub is_row_found : (b name : List ℕ) (row : Option Row) (there : Bool) → there ≡ is_some row
    → row ≡ option_map (λ found. found.0) (look b name) → there ≡ is_some (look b name)
is_row_found b name row there is found = is ∙ ap is_some found ∙ go (look b name)
  where
    go : (o : Found) → is_some (option_map (λ (r : Row × List ℕ). r.0) o) ≡ is_some o
    go None = refl
    go (Some r) = refl

pub no_row_found : (o : Found) → None ≡ option_map (λ (r : Row × List ℕ). r.0) o → o ≡ None
no_row_found None e = refl
no_row_found (Some r) e = cc

-- the roots that are looked up
pub roots_found : (b : List ℕ) (modules packages : Bool) → modules ≡ is_some (look b (codes "/modules")) → packages
    ≡ is_some (look b (codes "/packages")) → roots_if modules packages ≡ roots b
roots_found b modules packages one two = go modules packages (sym one) (sym two)
  where
    go : (m p : Bool) → is_some (look b (codes "/modules")) ≡ m → is_some (look b (codes "/packages")) ≡ p → roots_if m p ≡ roots b
    go true true one two = rw (one, two) refl
    go true false one two = rw (one, two) refl
    go false true one two = rw (one, two) refl
    go false false one two = rw (one, two) refl

pub unsaid_roots : (b path : List ℕ) (modules packages : Bool) (rest : Holds) → bytes_eq path (codes "/") ≡ true
    → rest ≡ Children (roots_if modules packages) → modules ≡ is_some (look b (codes "/modules")) → packages
    ≡ is_some (look b (codes "/packages")) → Ok (item_of rest) ≡ unsaid b path
unsaid_roots b path modules packages rest slash holds one two =
    ap (λ h. folder (Ok h)) holds ∙ ap (λ l. folder (Ok (Children l))) (roots_found b modules packages one two) ∙ sym (rw slash refl)

pub unsaid_other : (b path : List ℕ) → bytes_eq path (codes "/") ≡ false → starts_with nat_eq path (codes "/modules/") ≡ false
    → Err NotThere ≡ unsaid b path
unsaid_other b path slash inner = rw (slash, inner) refl

pub unsaid_inner : (b path : List ℕ) → bytes_eq path (codes "/") ≡ false → starts_with nat_eq path (codes "/modules/") ≡ true
    → unsaid b path ≡ resource b path
unsaid_inner b path slash inner = rw (slash, inner) refl

pub no_resource : (b path : List ℕ) → is_node (drop 8 path) ≡ true → Err NotThere ≡ resource b path
no_resource b path is = rw is refl

-- a file is that of the path without `/modules`
pub unsaid_file : (b path name : List ℕ) (h : Header) → header_of b ≡ Ok h → node_content b path ≡ None
    → bytes_eq path (codes "/") ≡ false → starts_with nat_eq path (codes "/modules/") ≡ true → name ≡ drop 8 path → is_node name ≡ false
    → file (look b name) ≡ stat b path
unsaid_file b path name h read node slash inner is other =
    ap (λ n. file (look b n)) is ∙ sym (stat_unsaid b path h read node ∙ unsaid_inner b path slash inner ∙ go (sym (ap is_node is) ∙ other))
  where
    go : is_node (drop 8 path) ≡ false → resource b path ≡ file (look b (drop 8 path))
    go other = rw other refl

-- a whole image is a file of its index
pub index_file : (f b : List ℕ) (size : ℕ) → f ≡ b → size ≡ length b → IsFileOf f size b
index_file f b size same long = search (rules, whole_file)

-- What it costs

-- the look-up of the node takes two hashes, if it takes any
pub hashes_few : (path : List ℕ) → node_hashes path ≤ 2
hashes_few path = go (is_none (node_path path))
  where
    go : (none : Bool) → (if none then 0 else 2) ≤ 2
    go true = omega arith
    go false = omega arith

pub hashes_all : (path : List ℕ) (old mid new : ℕ) → RisesAtMost old mid (node_hashes path)
    → RisesAtMost mid new (4 - node_hashes path) → RisesAtMost old new 4
hashes_all path old mid new first next = search (rules, hashes_few)

-- a file is found where no node is
pub standing_costs : {A : Type 0} (path : List ℕ) (content : Option A) (result : Result Standing JrtError) (old found new : Metered)
    → IfNone content (CostsAtMost old found (length path + 76)) → IsLater old found
    → StandingCosts result (is_some content) (length path + 76) found new → StandingCosts result false (2 * length path + 152) old new
standing_costs path content (Err error) old found new first later next = search (rules, later_then)
standing_costs path content (Ok (standing.Folder list)) old found new first later next = search (rules, later_then)
standing_costs path content (Ok (standing.Link name)) old found new first later next = search (rules, later_then)
standing_costs path None (Ok (standing.File row)) old found new first later (none, next) = search (rules)
standing_costs path (Some content) (Ok (standing.File row)) old found new first later (some, next) = search (rules)

-- the first bytes that are all
pub within_whole : (front : Front) (b : List ℕ) (result : Result Standing JrtError) → front.bytes ≡ b → front.length ≡ length b
    → IfOk result (IsIn front) → IfOk result (IsIn (whole b))
within_whole front b result bytes size within = search (rules)
