-- Where the content of a module's `module-info.class` stands.
use Rattle.std.proofs.Common.{◌≡◌, ℕ, Bool, true, false, cond, List, [], ◌∷◌, ◌++◌, find, Option, Some, None}
use Rattle.std.proofs.Common.{is_some, option_map, refl, sym, ap, ◌∙◌, subst}
use Rattle.std.proofs.lemmas.Bool.{false≢true}
use Rattle.std.proofs.lemmas.List.Elements.{All-head, All-tail}
use Rattle.std.specs.Str.{bytes_eq}
use Rattle.jm_bytes.proofs.Choice.{same_some}
use Rattle.jm_filed.specs.declared.extent.Extent.{Extent}
use Rattle.jm_filed.specs.Filed.{IsWithin, content_at}
use Rattle.jm_form.specs.ModuleFiles.{info_name}
use Rattle.jm_relink.specs.declared.entries.ModuleEntries.{ModuleEntries}
use Rattle.jm_relink.specs.declared.modules.ImageFile.{ImageFile}
use Rattle.jm_relink.specs.Entries.{EntriesWithin, FilesWithin, HasExtent, HasInfoAt}
use Rattle.jm_relink.specs.Files.{AllWithin, files_in}
use Rattle.jm_relink.specs.Groups.{info_content, info_extent}

abbrev is_info : ImageFile → Bool
is_info f = bytes_eq f.path info_name

abbrev chosen : Bool → ImageFile → List ImageFile → Option Extent
chosen b f fs = option_map (λ (g : ImageFile). g.content) (cond b (Some f) (find is_info fs))

pub extent_content : (b : List ℕ) (fs : List ImageFile) → info_content (files_in b fs) ≡ option_map (content_at b) (info_extent fs)
extent_content b [] = refl
extent_content b (f ∷ fs) = go (is_info f) (extent_content b fs)
  where
    go : (c : Bool) → info_content (files_in b fs) ≡ option_map (content_at b) (info_extent fs)
        → option_map (λ g. g.1) (cond c (Some (f.path, content_at b f.content)) (find (λ g. bytes_eq g.0 info_name) (files_in b fs)))
        ≡ option_map (content_at b) (chosen c f fs)
    go true rest = refl
    go false rest = rest

extent_within : (size : ℕ) (fs : List ImageFile) (x : Extent) → AllWithin size fs → Some x ≡ info_extent fs → IsWithin size x
extent_within size [] x all is = cc
extent_within size (f ∷ fs) x all is =
    let lies : ImageFile → Type 0 = λ g. IsWithin size g.content in
    go (is_info f) is (All-head lies f fs all) (extent_within size fs x (All-tail lies f fs all))
  where
    go : (c : Bool) → Some x ≡ chosen c f fs → IsWithin size f.content → (Some x ≡ info_extent fs → IsWithin size x) → IsWithin size x
    go true same this rest = subst (IsWithin size) (sym (same_some x f.content same)) this
    go false later this rest = rest later

-- One file more

kept_place : (fs : List ImageFile) (f : ImageFile) (x : Extent) → Some x ≡ info_extent fs → Some x ≡ info_extent (fs ++ f ∷ [])
kept_place [] f x is = cc
kept_place (g ∷ fs) f x is = go (is_info g) is (kept_place fs f x)
  where
    go : (c : Bool) → Some x ≡ chosen c g fs → (Some x ≡ info_extent fs → Some x ≡ info_extent (fs ++ f ∷ []))
        → Some x ≡ chosen c g (fs ++ f ∷ [])
    go true same rest = same
    go false later rest = rest later

last_place : (fs : List ImageFile) (f : ImageFile) → None ≡ info_extent fs → info_extent (f ∷ []) ≡ info_extent (fs ++ f ∷ [])
last_place [] f none = refl
last_place (g ∷ fs) f none = go (is_info g) none (last_place fs f)
  where
    go : (c : Bool) → None ≡ chosen c g fs → (None ≡ info_extent fs → info_extent (f ∷ []) ≡ info_extent (fs ++ f ∷ []))
        → info_extent (f ∷ []) ≡ chosen c g (fs ++ f ∷ [])
    go true same rest = cc
    go false later rest = rest later

-- the place is known already
pub place_kept : (fs : List ImageFile) (f : ImageFile) (known : Option Extent) → is_some known ≡ true → known ≡ info_extent fs
    → known ≡ info_extent (fs ++ f ∷ [])
place_kept fs f None some is = absurd (false≢true some)
place_kept fs f (Some x) some is = kept_place fs f x is

-- it isn't, and the file is the descriptor or another one
pub place_last : (fs : List ImageFile) (f : ImageFile) (known new : Option Extent) (b : Bool) → is_some known ≡ false
    → known ≡ info_extent fs → bytes_eq f.path info_name ≡ b → new ≡ cond b (Some f.content) known
    → new ≡ info_extent (fs ++ f ∷ [])
place_last fs f (Some x) new b none is test chosen_so = absurd (false≢true (sym none))
place_last fs f None new b none is test chosen_so =
    chosen_so ∙ alone b ∙ sym (ap (λ c. option_map (λ (g : ImageFile). g.content) (cond c (Some f) None)) test) ∙ last_place fs f is
  where
    alone : (c : Bool) → cond c (Some f.content) None ≡ option_map (λ (g : ImageFile). g.content) (cond c (Some f) None)
    alone true = refl
    alone false = refl

-- Modules

pub info_stands : (b : List ℕ) (m : ModuleEntries) → HasExtent m → HasInfoAt b m
info_stands b m has = extent_content b m.files ∙ ap (option_map (content_at b)) (sym has)

pub entries_within : (size : ℕ) (m : ModuleEntries) → HasExtent m → FilesWithin size m → EntriesWithin size m
entries_within size m has all = record { info = extent_within size m.files m.info all has; files = all }
