-- Modules that are found, with the names by which they are looked up (this project's rule).
use Rattle.std.specs.Prelude.{ℕ, ◌≡◌, All, List}
use Rattle.std.specs.Option.{is_some}
use Rattle.jm_closure.specs.Places.{place_in}
use Rattle.jm_modpath.specs.declared.visible.VisibleModule.{VisibleModule}
use Rattle.jm_modpath.specs.Finding.{Differing, HasTexts}
use Rattle.jm_modpath.specs.Modules.{is_named}

-- the names are those of the modules, no two of them are one, and the paths are text
pub record Holds (modules : List VisibleModule) (names : List (List ℕ × ℕ)) : Type 0 where
  pub knows : (name : List ℕ) → is_some (place_in names name) ≡ is_named modules name
  pub differ : Differing modules
  pub texts : All HasTexts modules
