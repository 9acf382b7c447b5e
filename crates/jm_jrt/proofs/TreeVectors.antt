-- What the trees of one resource have at some paths, and that its written image has the same there.
use Rattle.std.proofs.Common.{◌≡◌, ℕ, false, List, [], ◌∷◌, map, Some, None, refl}
use Rattle.std.specs.Option.{ok_or}
use Rattle.std.specs.Prelude.{codes}
use Rattle.jm_form.specs.TreeView.{File, Folder, Link, Package, tree}
use Rattle.jm_jrt.specs.declared.jrt_error.JrtError.TheVariants.{NotThere}
use Rattle.jm_jrt.specs.Stat.{owner, stat}
use Rattle.jm_jrt.specs.TreesShown.{full_owner}
use Rattle.jm_jrt.proofs.Vectors.{one}

-- `/a/p/A` that holds `hi`
abbrev given : List (List ℕ × List ℕ)
given = (codes "/a/p/A", codes "hi") ∷ []

abbrev paths : List (List ℕ)
paths =
    codes "/" ∷ codes "/modules" ∷ codes "/packages" ∷ codes "/modules/a" ∷ codes "/modules/a/p" ∷ codes "/modules/a/p/A"
    ∷ codes "/packages/p" ∷ codes "/packages/p/a" ∷ codes "/packages/p/a/x" ∷ codes "/packages/q" ∷ codes "/modules/modules/a"
    ∷ codes "/a/p/A" ∷ []

one_trees : map (tree given) paths
    ≡ Some (Folder (codes "/modules" ∷ codes "/packages" ∷ []))
    ∷ Some (Folder (codes "/modules/a" ∷ []))
    ∷ Some (Folder (codes "/packages/p" ∷ []))
    ∷ Some (Folder (codes "/modules/a/p" ∷ []))
    ∷ Some (Folder (codes "/a/p/A" ∷ []))
    ∷ Some (File (codes "hi"))
    ∷ Some (Package (record { empty = false; «module» = codes "a" } ∷ []))
    ∷ Some (Link (codes "a"))
    ∷ None ∷ None ∷ None ∷ None ∷ []
one_trees = refl

one_shown : map (stat one) paths ≡ map (λ path. ok_or (tree given path) NotThere) paths
one_shown = refl

one_owners : map (owner one) paths ≡ map (λ path. full_owner (tree given path)) paths
one_owners = refl
