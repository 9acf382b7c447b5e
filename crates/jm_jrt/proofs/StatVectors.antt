-- The answers for small images.
use Rattle.std.proofs.Common.{◌≡◌, ℕ, true, false, List, [], ◌∷◌, map, Some, Result, Ok, Err, refl}
use Rattle.std.specs.Prelude.{codes}
use Rattle.jm_form.specs.TreeView.{TreeItem, Folder, Package, File, Link}
use Rattle.jm_form.proofs.Vectors.{empty, tiny}
use Rattle.jm_jrt.specs.declared.jrt_error.JrtError.{JrtError}
use Rattle.jm_jrt.specs.declared.jrt_error.JrtError.TheVariants.{BadNode, NotThere}
use Rattle.jm_jrt.specs.Stat.{owner, stat}
use Rattle.jm_jrt.proofs.Vectors.{bad_node, nameless, one, two_children, two_owners, with_byte}

-- images, paths, and what stands there; a package's name may be empty, a bad word may stand behind
-- the owner that is asked for, and a row may be of no entry but the end of another's
abbrev answers : List ((List ℕ × List ℕ) × Result TreeItem JrtError)
answers =
    ((tiny, codes "/modules/m/a"), Ok (File (codes "hi")))
    ∷ ((tiny, codes "/m/a"), Err NotThere)
    ∷ ((tiny, codes "/"), Ok (Folder []))
    ∷ ((bad_node, codes "/"), Ok (Folder (codes "/packages" ∷ [])))
    ∷ ((bad_node, codes "/packages"), Err (BadNode 0))
    ∷ ((empty, codes "/"), Ok (Folder (codes "/modules" ∷ codes "/packages" ∷ [])))
    ∷ ((empty, codes "/modules"), Ok (Folder []))
    ∷ ((one, codes "/packages/p/n"), Err NotThere)
    ∷ ((one, codes "/packages//a"), Err NotThere)
    ∷ ((nameless, codes "/packages/"), Ok (Package (record { empty = false; «module» = codes "m" } ∷ [])))
    ∷ ((nameless, codes "/packages//m"), Ok (Link (codes "m")))
    ∷ (
      (two_owners, codes "/packages/p"),
      Ok (Package (record { empty = false; «module» = codes "a" } ∷ record { empty = true; «module» = codes "class" } ∷ [])),
    )
    ∷ ((with_byte 190 2 two_owners, codes "/packages/p/a"), Err (BadNode 8))
    ∷ ((two_children, codes "/modules/a"), Ok (Folder (codes "/modules/a/p" ∷ codes "/modules/a" ∷ [])))
    ∷ ((with_byte 202 3 two_children, codes "/modules/a"), Ok (Folder (codes "/modules/a/p" ∷ codes "p/A" ∷ [])))
    ∷ ((with_byte 202 1 (with_byte 82 53 two_children), codes "/modules/a"), Err (BadNode 4))
    ∷ []

answered : map (λ (a : (List ℕ × List ℕ) × Result TreeItem JrtError). stat a.0.0 a.0.1) answers
    ≡ map (λ (a : (List ℕ × List ℕ) × Result TreeItem JrtError). a.1) answers
answered = refl

-- the answer at a path of an image with another byte at a place
abbrev changed : List ℕ → List ℕ → ℕ × ℕ → Result TreeItem JrtError
changed image path (place, byte) = stat (with_byte place byte image) path

-- the first bad word of the pairs that 16 bytes tell, that 12 tell, and that 9 tell
bad_pairs : map (changed two_owners (codes "/packages/p"))
    ((182, 2) ∷ (186, 53) ∷ (190, 2) ∷ (194, 53) ∷ (118, 12) ∷ (118, 9) ∷ [])
    ≡ map (λ (at : ℕ). Err (BadNode at)) (0 ∷ 4 ∷ 8 ∷ 12 ∷ 12 ∷ 8 ∷ [])
bad_pairs = refl

-- a second word that leads to a blank row or to none, and one that doesn't fit
bad_children : map (changed two_children (codes "/modules/a")) ((202, 0) ∷ (202, 51) ∷ (109, 6) ∷ [])
    ≡ map (λ (at : ℕ). Err (BadNode at)) (4 ∷ 4 ∷ 4 ∷ [])
bad_children = refl

full_owners : map (λ (b : List ℕ). owner b (codes "/packages/p"))
    (two_owners ∷ with_byte 182 1 (with_byte 190 0 two_owners) ∷ with_byte 190 2 two_owners ∷ [])
    ≡ Ok (Some (codes "a")) ∷ Ok (Some (codes "class")) ∷ Err (BadNode 8) ∷ []
full_owners = refl
