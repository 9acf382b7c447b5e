use Rattle.std.proofs.Common.{◌≡◌, ◌&&◌, Bool, true, false, not, refl, sym, rules}
use Rattle.jm_names.proofs.ByteSearches.{found_any}
use Rattle.jm_jrt.proofs.paths.is_package.Goals as goal

plain : (a b some none : Bool) → a ≡ true → some ≡ b → some ≡ not none → none ≡ (a && not b)
plain a b some true is same turned = rw (is, sym same, turned) refl
plain a b some false is same turned = rw (is, sym same, turned) refl

pub returns : goal.returns
returns c = search (rules, found_any, plain)
