-- What is asked of a link of an image's modules, with the order of the image.
use Rattle.std.proofs.Common.{◌≡◌, inl, inr, ℕ, false, ◌||◌, List, [], ◌∷◌, map, Option, Some, None, refl, ap, sym, ◌∙◌}
use Rattle.std.proofs.lemmas.Bool.{true≢false}
use Rattle.std.specs.List.{list_any}
use Rattle.jm_filed.specs.FileOrder.{file_order}
use Rattle.jm_link.specs.Links.{path_files, request_of}
use Rattle.jm_link.specs.Taken.{LinkTakes, TakesOf}
use Rattle.jm_modset.specs.Found.{Sources}
use Rattle.jm_outside.specs.Files.{Files}
use Rattle.jm_outside.specs.Outcome.{Shows}
use Rattle.jm_words.specs.declared.tasks.LinkTask.{LinkTask}
use Rattle.jm_words.specs.declared.tasks.Plugin.{Plugin}
use Rattle.jm_words.specs.declared.tasks.Plugin.TheVariants as plugin
use Rattle.jm_commands.specs.KeptOrder.{keeps_order, ordered_by, with_order}

-- plug-ins of which none keeps an order stay as they are
pub none_keeps : (names : List (List ℕ)) (plugins : List Plugin) → list_any keeps_order plugins ≡ false
    → map (with_order names) plugins ≡ plugins
none_keeps names [] none = refl
none_keeps names (one ∷ later) none = go one none (none_keeps names later)
  where
    more : (p : Plugin) → map (with_order names) later ≡ later → p ∷ map (with_order names) later ≡ p ∷ later
    more p = ap (λ ps. p ∷ ps)

    go : (p : Plugin) → (keeps_order p || list_any keeps_order later) ≡ false
        → (list_any keeps_order later ≡ false → map (with_order names) later ≡ later)
        → with_order names p ∷ map (with_order names) later ≡ p ∷ later
    go (plugin.KeepOrder given) some rest = absurd (true≢false some)
    go (plugin.Exclude patterns) none rest = more (plugin.Exclude patterns) (rest none)
    go (plugin.Order patterns) none rest = more (plugin.Order patterns) (rest none)
    go plugin.Strip none rest = more plugin.Strip (rest none)
    go plugin.Compact none rest = more plugin.Compact (rest none)
    go plugin.Packages none rest = more plugin.Packages (rest none)
    go plugin.DropSystemModules none rest = more plugin.DropSystemModules (rest none)

-- a link with these plug-ins
abbrev with_plugins : LinkTask → List Plugin → LinkTask
with_plugins link plugins = record {
  directories = link.directories;
  image = link.image;
  roots = link.roots;
  output = link.output;
  plugins = plugins;
  order = link.order;
  bind = link.bind;
  release = link.release;
}

-- a link of which no plug-in keeps an order is asked for as it is
pub unordered : (b : List ℕ) (link : LinkTask) → list_any keeps_order link.plugins ≡ false → link ≡ ordered_by b link
unordered b link none = ap (with_plugins link) (sym (none_keeps (file_order b) link.plugins none))

-- without plug-ins it is the same request
pub plain_request : (b : List ℕ) (link : LinkTask) → link.plugins ≡ [] → request_of (ordered_by b link) ≡ request_of link
plain_request b link none =
    ap (λ (plugins : List Plugin). request_of (with_plugins link plugins)) (ap (map (with_order (file_order b))) none ∙ sym none)

-- what a link takes doesn't depend on its plug-ins
takes_of : (b : List ℕ) (link : LinkTask) (source : Sources) (old new : ℕ) → TakesOf source (request_of (ordered_by b link)) old new
    → TakesOf source (request_of link) old new
takes_of b link source old new (inl infos) = inl infos
takes_of b link source old new (inr (contents, are, all)) = inr (
  contents,
  record { found = are.found; finds = are.finds; places = are.places; closes = are.closes; fit = are.fit; are = are.are },
  all,
)

pub takes_as_asked : (told : Option Files) (b : List ℕ) (link : LinkTask) (old new : ℕ)
    → LinkTakes told (Some b) link.directories (request_of (ordered_by b link)) old new
    → LinkTakes told (Some b) link.directories (request_of link) old new
takes_as_asked told b link old new = go (path_files link.directories told)
  where
    source : Files → Sources
    source files = record { image = Some b; files = files; directories = link.directories }

    go : (shown : Option Files) → Shows shown (λ files. TakesOf (source files) (request_of (ordered_by b link)) old new)
        → Shows shown (λ files. TakesOf (source files) (request_of link) old new)
    go None takes = tt
    go (Some files) takes = takes_of b link (source files) old new takes
