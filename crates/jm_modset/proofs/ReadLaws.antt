-- Contents of files that are read one after another.
use Rattle.std.proofs.Common.{◌≡◌, ◌≢◌, ◌<◌, ◌≤◌, ◌+◌, ℕ, List, [], ◌∷◌, ◌++◌, take, get_or, length, length-append, map, rules}
use Rattle.std.proofs.Common.{All, AllPairs, Contains, Option, None, Err, refl, sym, ap, subst, ◌∙◌, arith}
use Rattle.std.proofs.lemmas.List.{map-append, take_at, take_more}
use Rattle.std.proofs.lemmas.List.Elements.{All-contains, Contains-append_right}
use Rattle.std.proofs.lemmas.List.Sums.{sum_by-append, sum_by-cons, sum_by_push}
use Rattle.std.proofs.lemmas.Slice.Zip.{all_zipped_more}
use Rattle.std.specs.List.{AllZip}
use Rattle.jm_bytes.proofs.Members.{contains_here, contains_map}
use Rattle.jm_bytes.proofs.Pairs.{pairs_before}
use Rattle.jm_filed.specs.Filed.{IsReadAt}
use Rattle.jm_form.specs.Layout.{Written}
use Rattle.jm_names.specs.ByName.{Named}
use Rattle.jm_outside.specs.Files.{Files}
use Rattle.jm_pool.specs.Pairs.{bytes_of, names_of}
use Rattle.jm_relink.specs.declared.entries.ModuleEntries.{ModuleEntries}
use Rattle.jm_relink.proofs.GatherLaws.{bytes_of_none}
use Rattle.jm_modset.specs.declared.contents.ReadStop.{ReadStop}
use Rattle.jm_modset.specs.declared.contents.ReadStop.TheVariants as stop
use Rattle.jm_modset.specs.declared.files.LinkFile.{LinkFile}
use Rattle.jm_modset.specs.Files.{file_names}
use Rattle.jm_modset.specs.Infos.{AreInfosRead, info_sizes}
use Rattle.jm_modset.specs.Parts.{AreReadAs, IsContentOf, IsReadAs, IsSizedBy, LacksSuch, OnlyLacks, TellsNothing, read_size, read_sizes}

-- Two lists side by side

-- what is the same of elements that stand side by side
pub zipped_same : {A B K : Type 0} (R : A → B → Type 0) (one : A → K) (other : B → K) (xs : List A) (ys : List B) → AllZip R xs ys
    → ((x : A) (y : B) → R x y → other y ≡ one x) → map other ys ≡ map one xs
zipped_same R one other [] [] both same = search (rules)
zipped_same R one other [] (y ∷ ys) both same = search (rules)
zipped_same R one other (x ∷ xs) [] both same = search (rules)
zipped_same R one other (x ∷ xs) (y ∷ ys) both same = search (rules, (zipped_same R one other xs ys both.1 same))

-- Descriptors

-- one descriptor more
pub info_more : (told now : Option Files) (path : List ℕ) (ms : List ModuleEntries) (i : ℕ) (m : ModuleEntries)
    (infos new : List (List ℕ)) (text : List ℕ) → i < length ms → m ≡ get_or ms i m → now ≡ told
    → AreInfosRead told path (take i ms) infos → IsReadAt now path m.info text → new ≡ infos ++ text ∷ []
    → AreInfosRead told path (take (i + 1) ms) new
info_more told now path ms i m infos new text below is same before read put =
    let one = subst (λ t. IsReadAt t path m.info text) same read in
    rw (put, take_more ms i m below, sym is)
    (all_zipped_more (λ (m : ModuleEntries) (info : List ℕ). IsReadAt told path m.info info) (take i ms) infos m text before one)

-- and its size
pub info_size_more : (ms : List ModuleEntries) (i : ℕ) (m : ModuleEntries) → i < length ms → m ≡ get_or ms i m
    → info_sizes (take (i + 1) ms) ≡ info_sizes (take i ms) + m.info.size
info_size_more ms i m below is =
    ap info_sizes (take_more ms i m below ∙ ap (λ n. take i ms ++ n ∷ []) (sym is))
    ∙ sum_by_push (λ (m : ModuleEntries). m.info.size) (take i ms) m

-- The names of a pool

-- a name is new where those before it were put into a pool and names differ
pub name_is_new : {X : Type 0} (name : X → List ℕ) (fs done : List X) (f : X) (rest : List X) (pool : List Named)
    → AllPairs (λ a b. a ≢ b) (map name fs) → done ++ f ∷ rest ≡ fs → names_of pool ≡ map name done → bytes_of (name f) pool ≡ None
name_is_new name fs done f rest pool differ all names =
    let apart = subst (λ gs. AllPairs (λ (a b : List ℕ). a ≢ b) (map name gs)) (sym all) differ in
    let parts : map name (done ++ f ∷ rest) ≡ map name done ++ name f ∷ map name rest = map-append name done (f ∷ rest) in
    let pairs = subst (AllPairs (λ (a b : List ℕ). a ≢ b)) (parts ∙ ap (λ ns. ns ++ name f ∷ map name rest) (sym names)) apart in
    let long = length-append (names_of pool) (name f ∷ map name rest) in
    let before = pairs_before (λ (a b : List ℕ). a ≢ b) (names_of pool ++ name f ∷ map name rest) (length (names_of pool)) (name f)
    pairs (omega (arith, long)) in
    bytes_of_none (name f) pool (rw (
      at_front (names_of pool) (name f ∷ map name rest) (name f),
      take_at (names_of pool)
          (name f ∷ map name rest) (length (names_of pool)) refl,
    ) at before)
  where
    at_front : (front back : List (List ℕ)) (d : List ℕ) → get_or (front ++ back) (length front) d ≡ get_or back 0 d
    at_front [] back d = refl
    at_front (n ∷ front) back d = at_front front back d

-- the names of resources are those of the files that were read
pub names_read : (told : Option Files) (image : List ℕ) (fs : List LinkFile) (rs : List Written) → AreReadAs told image fs rs
    → map (λ r. r.0) rs ≡ file_names fs
names_read told image fs rs read =
    zipped_same (IsReadAs told image) (λ (f : LinkFile). f.name) (λ (r : Written). r.0) fs rs read (λ f r is. is.0)

-- Files that are read one after another

-- what holds of all files holds of one among them
pub held_among : (P : LinkFile → Type 0) (fs done : List LinkFile) (f : LinkFile) (rest : List LinkFile) → All P fs
    → done ++ f ∷ rest ≡ fs → P f
held_among P fs done f rest each all =
    All-contains P (done ++ f ∷ rest) f (subst (All P) (sym all) each) (Contains-append_right done (f ∷ rest) f (contains_here f rest))

-- one file more
pub read_more : (told now : Option Files) (image : List ℕ) (done : List LinkFile) (f : LinkFile) (pool new : List Written)
    (bytes : List ℕ) → now ≡ told → AreReadAs told image done pool → IsContentOf now image f.content f.described bytes
    → new ≡ pool ++ (f.name, bytes) ∷ [] → AreReadAs told image (done ++ f ∷ []) new
read_more told now image done f pool new bytes same before read put =
    let one = subst (λ t. IsContentOf t image f.content f.described bytes) same read in
    subst (AreReadAs told image (done ++ f ∷ [])) (sym put)
    (all_zipped_more (IsReadAs told image) done pool f (f.name, bytes) before (refl, one))

-- and its bytes
module _ (told now : Option Files) (files : Files) (fs done : List LinkFile) (f : LinkFile) (rest : List LinkFile)
    (all : done ++ f ∷ rest ≡ fs) (same : now ≡ told) (old mid new : ℕ)
    (sized : All (λ g. IsSizedBy told files g.content) fs) (before : mid ≤ old + read_sizes files done)
    (one : IsSizedBy now files f.content → new ≤ mid + read_size files f.content f.described) where
  abbrev size_of : LinkFile → ℕ
  size_of g = read_size files g.content g.described

  own : new ≤ mid + size_of f
  own =
      one (subst (λ t. IsSizedBy t files f.content) (sym same)
      (held_among (λ g. IsSizedBy told files g.content) fs done f rest sized all))

  pub sizes_more : new ≤ old + read_sizes files (done ++ f ∷ [])
  sizes_more = omega (arith, before, own, sum_by_push size_of done f)

  -- which are among those of all
  pub sizes_within : new ≤ old + read_sizes files fs
  sizes_within =
      let parts : read_sizes files fs ≡ read_sizes files done + read_sizes files (f ∷ rest) =
      ap (read_sizes files) (sym all) ∙ sum_by-append size_of done (f ∷ rest)
      in
      let last = sum_by-cons size_of f rest in
      omega (arith, before, own, parts, last)

-- the file that isn't there is among all
pub lacks_among : (A B : Type 0) (told now : Option Files) (fs done : List LinkFile) (f : LinkFile) (rest : List LinkFile)
    (e : ReadStop) → done ++ f ∷ rest ≡ fs → now ≡ told → LacksSuch {A = A} now (λ c. c ≡ f.content) (Err e) → OnlyLacks {A = B} told fs (Err e)
lacks_among A B told now fs done f rest (stop.NotThere path) all same lacks = (
  subst TellsNothing same lacks.0,
  subst (Contains (map (λ (g : LinkFile). g.content) fs)) (sym lacks.1)
      (contains_map (λ (g : LinkFile). g.content) fs f
      (subst (λ gs. Contains gs f) all (Contains-append_right done (f ∷ rest) f (contains_here f rest)))),
)
lacks_among A B told now fs done f rest stop.Outside all same lacks = tt
lacks_among A B told now fs done f rest stop.Memory all same lacks = tt
