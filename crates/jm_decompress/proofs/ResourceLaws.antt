-- The resources of an image, one entry after another, in the order of a sort, and their sizes.
use Rattle.std.proofs.Common.{◌≡◌, ◌≢◌, ℕ, Bool, true, false, cond, not, List, [], ◌∷◌, ◌++◌}
use Rattle.std.proofs.Common.{map, filter, All, AllPairs, Result, Ok, Err, refl, sym, ap, ◌∙◌}
use Rattle.std.proofs.Common.{append_assoc, append-nil}
use Rattle.std.proofs.lemmas.List.Elements.{All-cons, All-map, All-nil}
use Rattle.std.proofs.lemmas.List.Kept.{AllPairs-filter}
use Rattle.std.proofs.lemmas.List.Sorted.{All-permutation}
use Rattle.std.specs.List.{flat_map}
use Rattle.jm_bytes.proofs.Members.{all_from_contains, from_filter}
use Rattle.jm_bytes.proofs.Pairs.{pairs_map, pairs_none}
use Rattle.jm_bytes.proofs.SameOrder.{mapped_twice}
use Rattle.jm_filed.specs.FileOrder.{placed_among}
use Rattle.jm_form.specs.declared.container.Header.{Header}
use Rattle.jm_form.specs.declared.container.HeaderFault.{HeaderFault}
use Rattle.jm_form.specs.declared.rows.Row.{Row}
use Rattle.jm_form.specs.Entries.{Entry, entries}
use Rattle.jm_form.specs.Head.{header_of}
use Rattle.jm_form.specs.Rows.{as_stored}
use Rattle.jm_modset.specs.Shown.{AreFit}
use Rattle.jm_names.proofs.KeyLaws.{differ_moved}
use Rattle.jm_names.specs.NameFaults.{IsSound}
use Rattle.jm_names.specs.Names.{is_node}
use Rattle.jm_reader.specs.Listing.{listed}
use Rattle.jm_reader.specs.Look.{SoundIn}
use Rattle.jm_reader.specs.Walk.{entries_of, entries_with}
use Rattle.jm_reader.proofs.WalkLaws.{entries_differ}
use Rattle.jm_valid.specs.Opened.{Front}
use Rattle.jm_decompress.specs.declared.resources.StoredResource.{StoredResource}
use Rattle.jm_decompress.specs.Decompressed.{AreByName, stored_resource, stored_resources}
use Rattle.jm_decompress.specs.Steps.{LiesIn, placed_of, resource_alone}

-- One entry after another

-- what the index says of an entry
abbrev ToTell : Type 0
ToTell = ℕ × List ℕ × Row

-- the resources among what is listed
abbrev pub told_of : List ToTell → List StoredResource
told_of xs = flat_map resource_alone xs

told_all : (es : List Entry) → told_of (map listed es) ≡ map stored_resource (filter (λ e. not (is_node e.name)) es)
told_all [] = refl
told_all (e ∷ es) = go (is_node e.name) (told_all es)
  where
    others : List Entry
    others = filter (λ f. not (is_node f.name)) es

    go : (b : Bool) → told_of (map listed es) ≡ map stored_resource others
        → cond b [] (stored_resource e ∷ []) ++ told_of (map listed es) ≡ map stored_resource (cond (not b) (e ∷ others) others)
    go true rest = rest
    go false rest = ap (λ rs. stored_resource e ∷ rs) rest

-- the entry that a step handed out is put behind those before, if it is a resource
pub told_step : (whole old new : List StoredResource) (left rest : List ToTell) (x : ToTell) → whole ≡ old ++ told_of left
    → left ≡ x ∷ rest → new ≡ old ++ resource_alone x → whole ≡ new ++ told_of rest
told_step whole old new left rest x before first put =
    before ∙ ap (λ xs. old ++ told_of xs) first ∙ sym (append_assoc old (resource_alone x) (told_of rest))
    ∙ ap (λ rs. rs ++ told_of rest) (sym put)

-- none is left
pub told_whole : (b : List ℕ) (found : List StoredResource) (left : List ToTell)
    → told_of (map listed (entries_of b)) ≡ found ++ told_of left → left ≡ [] → found ≡ stored_resources b
told_whole b found left so_far none =
    sym (so_far ∙ ap (λ xs. found ++ told_of xs) none ∙ append-nil found) ∙ told_all (entries_of b)

pub alone_lies : (front : Front) (x : ToTell) → SoundIn front (as_stored x.2) → All (LiesIn front) (resource_alone x)
alone_lies front x sound = go (is_node x.1)
  where
    one : StoredResource
    one = record { name = x.1; row = x.2 }

    go : (b : Bool) → All (LiesIn front) (cond b [] (one ∷ []))
    go true = All-nil (LiesIn front)
    go false = All-cons (LiesIn front) one [] sound (All-nil (LiesIn front))

-- The resources of an image

pub placed_are : (b : List ℕ) → map placed_of (stored_resources b) ≡ placed_among (entries_of b)
placed_are b = mapped_twice placed_of stored_resource (filter (λ e. not (is_node e.name)) (entries_of b))

abbrev pub Apart : StoredResource → StoredResource → Type 0
Apart r s = r.name ≢ s.name

differ_with : (b : List ℕ) (header : Result Header HeaderFault)
    → AllPairs Apart (map stored_resource (filter (λ e. not (is_node e.name)) (entries_with b header)))
differ_with b (Err fault) = pairs_none Apart
differ_with b (Ok h) =
    pairs_map Apart stored_resource (filter (λ e. not (is_node e.name)) (entries b h))
    (AllPairs-filter (λ (e f : Entry). e.name ≢ f.name) (λ e. not (is_node e.name)) (entries b h) (entries_differ b h))

pub resources_differ : (b : List ℕ) (rs : List StoredResource) → AreByName b rs → AllPairs Apart rs
resources_differ b rs are =
    differ_moved (λ (r : StoredResource). r.name) (stored_resources b) rs are.moved (differ_with b (header_of b))

not_true : (b : Bool) → not b ≡ true → b ≡ false
not_true true is = sym is
not_true false is = refl

abbrev IsPlain : StoredResource → Type 0
IsPlain r = is_node r.name ≡ false

resources_plain : (b : List ℕ) (rs : List StoredResource) → AreByName b rs → All IsPlain rs
resources_plain b rs are =
    let es = filter (λ (e : Entry). not (is_node e.name)) (entries_of b) in
    All-permutation IsPlain (stored_resources b) rs are.moved
    (All-map IsPlain stored_resource es (all_from_contains (λ (e : Entry). is_node e.name ≡ false) es
    (λ e there. not_true (is_node e.name) (from_filter (λ (f : Entry). not (is_node f.name)) (entries_of b) e there).1)))

-- their names may stand in an image, where each is judged so
pub names_fit : (b : List ℕ) (rs : List StoredResource) → AreByName b rs → All (λ r. IsSound r.name) rs → AreFit (map (λ r. r.name) rs)
names_fit b rs are sound = record {
  differ = pairs_map (λ (m n : List ℕ). m ≢ n) (λ (r : StoredResource). r.name) rs (resources_differ b rs are);
  sound = All-map IsSound (λ (r : StoredResource). r.name) rs sound;
  plain = All-map (λ (name : List ℕ). is_node name ≡ false) (λ (r : StoredResource). r.name) rs (resources_plain b rs are);
}
