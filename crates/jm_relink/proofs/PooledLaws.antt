-- The files of an image in a pool, one after another.
use Rattle.std.proofs.Common.{◌≡◌, ◌≢◌, List, ℕ, [], ◌∷◌, ◌++◌, AllPairs, None, map, ap, sym, subst, ◌∙◌}
use Rattle.std.proofs.lemmas.List.{map-append, map_push}
use Rattle.jm_names.specs.ByName.{Named}
use Rattle.jm_pool.specs.Pairs.{bytes_of, names_of}
use Rattle.jm_relink.specs.declared.choosing.ChosenFile.{ChosenFile}
use Rattle.jm_relink.specs.Choosing.{chosen_in}
use Rattle.jm_relink.proofs.GatherLaws.{bytes_of_none}
use Rattle.jm_relink.proofs.ListLaws.{pairs_front}

-- the name of the next file is new
pub name_is_new : (b : List ℕ) (files done : List ChosenFile) (f : ChosenFile) (rest : List ChosenFile) (pool : List Named)
    → AllPairs (λ n m. n ≢ m) (names_of (map (chosen_in b) files)) → done ++ f ∷ rest ≡ files → pool ≡ map (chosen_in b) done
    → bytes_of f.name pool ≡ None
name_is_new b files done f rest pool differ whole put =
    let parts : map (chosen_in b) files ≡ pool ++ chosen_in b f ∷ map (chosen_in b) rest =
    ap (map (chosen_in b)) (sym whole) ∙ map-append (chosen_in b) done (f ∷ rest)
    ∙ ap (λ ps. ps ++ chosen_in b f ∷ map (chosen_in b) rest) (sym put)
    in
    let names : names_of (map (chosen_in b) files) ≡ names_of pool ++ f.name ∷ names_of (map (chosen_in b) rest) =
    ap names_of parts ∙ map-append (λ (r : Named). r.0) pool (chosen_in b f ∷ map (chosen_in b) rest)
    in
    bytes_of_none f.name pool
    (pairs_front (λ (n m : List ℕ). n ≢ m) (names_of pool) f.name (names_of (map (chosen_in b) rest))
    (subst (AllPairs (λ (n m : List ℕ). n ≢ m)) names differ))

pub pooled_more : (b : List ℕ) (done : List ChosenFile) (f : ChosenFile) (pool new : List Named) → pool ≡ map (chosen_in b) done
    → new ≡ pool ++ chosen_in b f ∷ [] → new ≡ map (chosen_in b) (done ++ f ∷ [])
pooled_more b done f pool new before put =
    put ∙ ap (λ ps. ps ++ chosen_in b f ∷ []) before ∙ sym (map_push (chosen_in b) done f)
