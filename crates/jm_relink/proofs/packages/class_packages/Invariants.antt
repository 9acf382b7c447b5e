use Rattle.std.proofs.Common.{◌≡◌, ℕ, List, take}
use Rattle.jm_form.specs.Rising.{items_of, rising}
use Rattle.jm_relink.specs.Files.{files_in}
use Rattle.jm_relink.specs.Packages.{packages_of}
use Rattle.jm_relink.proofs.packages.class_packages.Given as goal

abbrev pub invariant-loop-file : goal.invariant-loop-file
invariant-loop-file l =
    (b : List ℕ) → rising (items_of l.packages.items) ≡ packages_of (files_in b (take l.file-index l.files))
