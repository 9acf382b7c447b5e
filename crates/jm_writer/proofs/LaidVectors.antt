-- Six resources that can be laid out, by computing.
use Rattle.std.proofs.Common.{◌≡◌, ◌≢◌, ℕ, ◌&&◌, Bool, true, false, not, List, [], ◌∷◌, All, AllPairs, Option}
use Rattle.std.proofs.Common.{Some, None, is_none, unwrap_or, length, option_map, arith, refl, sym, ap, ◌∙◌}
use Rattle.std.proofs.lemmas.Bool.{and_parts, false≢true}
use Rattle.std.proofs.lemmas.List.Elements.{All-cons, All-nil}
use Rattle.std.proofs.lemmas.List.Kept.{AllPairs-cons}
use Rattle.std.proofs.lemmas.Slice.Eq.{bytes_eq-Decides}
use Rattle.std.specs.List.{list_all, list_any}
use Rattle.std.specs.Prelude.{codes}
use Rattle.std.specs.Str.{bytes_eq}
use Rattle.jm_bytes.proofs.Members.{all_from_contains, any_contains}
use Rattle.jm_bytes.proofs.Pairs.{pairs_none}
use Rattle.jm_names.proofs.ComputedFaultLaws.{IsSound-computed}
use Rattle.jm_names.specs.ComputedFault.{name_fault}
use Rattle.jm_names.specs.NameFaults.{IsSound}
use Rattle.jm_names.specs.declared.check.NameFault.{NameFault}
use Rattle.jm_names.specs.Names.{is_node}
use Rattle.jm_form.proofs.LayoutVectors.{six}
use Rattle.jm_form.specs.Layout.{layout, names_of}
use Rattle.jm_bytes.specs.declared.words.Order.TheVariants.{Little}
use Rattle.jm_form.specs.Greedy.{seeds, table_lengths}
use Rattle.jm_form.specs.Validity.{look}
use Rattle.jm_writer.proofs.LaidNames.{node_name}
use Rattle.jm_writer.specs.Laid.{CanLay, IsLaidOut}
use Rattle.jm_writer.proofs.LaidOut.{laid_out}

-- The premises as tests

abbrev are_apart : List (List ℕ) → Bool
are_apart [] = true
are_apart (name ∷ names) = not (list_any (bytes_eq name) names) && are_apart names

apart_from : (names : List (List ℕ)) → are_apart names ≡ true → AllPairs (λ m n. m ≢ n) names
apart_from [] test = pairs_none (λ m n. m ≢ n)
apart_from (name ∷ names) test =
    let tests = and_parts (not (list_any (bytes_eq name) names)) (are_apart names) test in
    AllPairs-cons (λ m n. m ≢ n) name names
    (all_from_contains (λ n. name ≢ n) names (λ n there same. false≢true
    (sym (ap not (any_contains (bytes_eq name) names n there ((bytes_eq-Decides name n).1 same))) ∙ tests.0)))
    (apart_from names tests.1)

none_from : (o : Option NameFault) → is_none o ≡ true → o ≡ None
none_from None test = refl
none_from (Some fault) test = cc

sound_from : (names : List (List ℕ)) → list_all (λ name. is_none (name_fault name)) names ≡ true → All IsSound names
sound_from [] test = All-nil IsSound
sound_from (name ∷ names) test =
    let tests = and_parts (is_none (name_fault name)) (list_all (λ n. is_none (name_fault n)) names) test in
    All-cons IsSound name names (IsSound-computed name (none_from (name_fault name) tests.0)) (sound_from names tests.1)

not_from : (b : Bool) → not b ≡ true → b ≡ false
not_from true test = sym test
not_from false test = refl

resources_from : (names : List (List ℕ)) → list_all (λ name. not (is_node name)) names ≡ true → All (λ name. is_node name ≡ false) names
resources_from [] test = All-nil (λ name. is_node name ≡ false)
resources_from (name ∷ names) test =
    let tests = and_parts (not (is_node name)) (list_all (λ n. not (is_node n)) names) test in
    All-cons (λ n. is_node n ≡ false) name names (not_from (is_node name) tests.0) (resources_from names tests.1)

-- Resources of three modules

six_can : CanLay six
six_can = record {
  differ = apart_from (names_of six) refl;
  plain = record { sound = sound_from (names_of six) refl; resources = resources_from (names_of six) refl; apart = refl };
}

-- none at all

none_can : CanLay []
none_can = record {
  differ = apart_from [] refl;
  plain = record { sound = sound_from [] refl; resources = resources_from [] refl; apart = refl };
}

-- An image of six resources

abbrev six_bytes : List ℕ
unfolding seeds table_lengths
six_bytes = unwrap_or (layout Little six) []

six_laid : IsLaidOut Little six six_bytes
unfolding seeds table_lengths six_bytes
six_laid = laid_out Little six six_bytes six_can refl (omega arith)

six_length : length six_bytes ≡ 1006
unfolding seeds table_lengths six_bytes
six_length = refl

-- a resource is looked up
six_found : option_map (λ found. found.1) (look six_bytes (codes "/a/p/A.class")) ≡ Some (codes "A!")
six_found = six_laid.answers (codes "/a/p/A.class") (λ there. false≢true (node_name six six_can (codes "/a/p/A.class") there))
