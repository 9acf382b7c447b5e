-- A module among the owners of a package, and what a folder holds.
use Rattle.std.proofs.Common.{◌≡◌, ℕ, true, false, List, Ok, Err, refl}
use Rattle.std.specs.List.{list_any}
use Rattle.std.specs.Str.{bytes_eq}
use Rattle.jm_form.specs.declared.trees.Owner.{Owner}
use Rattle.jm_form.specs.TreeView.{Link}
use Rattle.jm_jrt.specs.declared.jrt_error.JrtError.TheVariants.{NotThere}
use Rattle.jm_jrt.specs.Stat.{link_among}

pub link_none : (name : List ℕ) (owners : List Owner) → list_any (λ o. bytes_eq name o.module) owners ≡ false
    → link_among name owners ≡ Err NotThere
link_none name owners none = rw none refl

pub link_some : (name : List ℕ) (owners : List Owner) → list_any (λ o. bytes_eq name o.module) owners ≡ true
    → link_among name owners ≡ Ok (Link name)
link_some name owners some = rw some refl
