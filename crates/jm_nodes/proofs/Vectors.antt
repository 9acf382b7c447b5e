-- The definitions, evaluated on a few names.
use Rattle.std.proofs.Common.{◌≡◌, ◌∷◌, [], List, map, true, false, Some, None, refl}
use Rattle.std.specs.Prelude.{codes}
use Rattle.jm_nodes.specs.Filings.{Filing}
use Rattle.jm_nodes.specs.Fronts.{fronts_between}
use Rattle.jm_nodes.specs.FrontTrees.{child_filings, children_of, is_bare, owners_of, package_filing, package_folder}

-- the fronts of `/m/p/A`

all_fronts : fronts_between 0 6 (codes "/m/p/A") ≡ codes "/m" ∷ codes "/m/p" ∷ []
all_fronts = refl

later_fronts : fronts_between 3 3 (codes "/m/p/A") ≡ codes "/m/p" ∷ []
later_fronts = refl

-- what makes a package

one_package : package_folder (codes "/m/p/q") ≡ Some (record { front = codes "/m/p/q"; «module» = codes "m"; path = codes "p/q" })
one_package = refl

no_package : package_folder (codes "/m") ≡ None
no_package = refl

no_meta : package_folder (codes "/m/META-INF") ≡ None
no_meta = refl

-- `/a/p.q/A` and `/a/p/q/r/Z`: of the two folders called `p.q` only one has a resource

abbrev table : List Filing
table =
    child_filings (codes "/a/p.q/A" ∷ codes "/a/p/q/r/Z" ∷ [])
    (codes "/a" ∷ codes "/a/p" ∷ codes "/a/p.q" ∷ codes "/a/p/q" ∷ codes "/a/p/q/r" ∷ [])

children_of_a : children_of table (codes "/a") ≡ codes "/modules/a/p" ∷ codes "/modules/a/p.q" ∷ []
children_of_a = refl

children_of_folder : children_of table (codes "/a/p.q") ≡ codes "/a/p.q/A" ∷ []
children_of_folder = refl

full_folder : is_bare table (codes "/a/p.q") ≡ false
full_folder = refl

bare_folder : is_bare table (codes "/a/p/q") ≡ true
bare_folder = refl

abbrev owned : List Filing
owned =
    map (package_filing table)
    (record { front = codes "/a/p.q"; «module» = codes "a"; path = codes "p.q" } ∷ record {
      front = codes "/a/p/q";
      «module» =
          codes "a";
      path = codes "p/q";
    } ∷ [])

one_owner : owners_of owned (codes "p.q") ≡ record { empty = false; «module» = codes "a" } ∷ []
one_owner = refl
