-- The taken entries, one entry after another and in the order of a sort.
use Rattle.std.proofs.Common.{◌≡◌, ℕ, Bool, true, false, cond, List, [], ◌∷◌, ◌++◌, map, AllPairs}
use Rattle.std.proofs.Common.{Result, Ok, Err, IsPermutation, refl, sym, ap, subst, ◌∙◌, append_assoc, append-nil}
use Rattle.std.proofs.lemmas.List.{map-append}
use Rattle.std.proofs.lemmas.List.Kept.{AllPairs-filter}
use Rattle.jm_bytes.proofs.Pairs.{pairs_map, pairs_none}
use Rattle.jm_form.specs.declared.container.Header.{Header}
use Rattle.jm_form.specs.declared.container.HeaderFault.{HeaderFault}
use Rattle.jm_form.specs.declared.rows.Row.{Row}
use Rattle.jm_form.specs.Entries.{Entry, entries}
use Rattle.jm_form.specs.Head.{header_of}
use Rattle.jm_reader.specs.Walk.{entries_of, entries_with}
use Rattle.jm_filed.specs.declared.taking.TakenEntry.{TakenEntry}
use Rattle.jm_names.proofs.NameOrder.{Differ, by_name_rises, items_sorted}
use Rattle.jm_reader.specs.Listing.{entry_listed}
use Rattle.jm_names.specs.ByName.{Named, NeverFalls, RisesByName}
use Rattle.jm_filed.specs.Parts.{named}
use Rattle.jm_filed.specs.Taken.{named_alone, named_among, named_of, taken_as}
use Rattle.jm_reader.proofs.WalkLaws.{entries_differ}

-- One entry after another

-- what an index says of an entry
abbrev ToTake : Type 0
ToTake = ℕ × List ℕ × Row

taken_more : (passes : List ℕ → Bool) (e : Entry) (rest : List Entry) → named_among passes (e ∷ rest)
    ≡ named_alone passes (named e) ++ named_among passes rest
taken_more passes e rest = go (passes e.name)
  where
    go : (b : Bool) → cond b (named e ∷ named_among passes rest) (named_among passes rest) ≡ cond b (named e ∷ []) []
        ++ named_among passes rest
    go true = refl
    go false = refl

-- the entry that a step handed out is put behind those taken before, if it is taken
pub taken_step : (passes : List ℕ → Bool) (b : List ℕ) (whole old new : List Named) (left rest : List ToTake) (x : ToTake)
    → whole ≡ old ++ named_among passes (map (entry_listed b) left) → left ≡ x ∷ rest → new
    ≡ old ++ named_alone passes (named (entry_listed b x)) → whole ≡ new ++ named_among passes (map (entry_listed b) rest)
taken_step passes b whole old new left rest x before first put =
    let later = named_among passes (map (entry_listed b) rest) in
    before ∙ ap (λ xs. old ++ named_among passes (map (entry_listed b) xs)) first
    ∙ ap (λ es. old ++ es) (taken_more passes (entry_listed b x) (map (entry_listed b) rest))
    ∙ sym (append_assoc old (named_alone passes (named (entry_listed b x))) later)
    ∙ ap (λ es. es ++ later) (sym put)

-- none is left
pub taken_all : (passes : List ℕ → Bool) (b : List ℕ) (whole found : List Named) (left : List ToTake)
    → whole ≡ found ++ named_among passes (map (entry_listed b) left) → left ≡ [] → found ≡ whole
taken_all passes b whole found left so_far none =
    sym (so_far ∙ ap (λ xs. found ++ named_among passes (map (entry_listed b) xs)) none ∙ append-nil found)

-- an entry that is taken is put at the end
pub taken_pushed : (passes : List ℕ → Bool) (b : List ℕ) (ts us : List TakenEntry) (t : TakenEntry) (e : Named)
    → taken_as b t ≡ e → passes e.0 ≡ true → us ≡ ts ++ t ∷ []
    → map (taken_as b) us ≡ map (taken_as b) ts ++ named_alone passes e
taken_pushed passes b ts us t e is takes put =
    ap (map (taken_as b)) put ∙ map-append (taken_as b) ts (t ∷ []) ∙ ap (λ d. map (taken_as b) ts ++ d ∷ []) is
    ∙ ap (λ k. map (taken_as b) ts ++ cond k (e ∷ []) []) (sym takes)

-- and another one isn't
pub taken_left : (passes : List ℕ → Bool) (b : List ℕ) (ts us : List TakenEntry) (e : Named)
    → passes e.0 ≡ false → us ≡ ts → map (taken_as b) us ≡ map (taken_as b) ts ++ named_alone passes e
taken_left passes b ts us e leaves same =
    ap (map (taken_as b)) same ∙ sym (append-nil (map (taken_as b) ts))
    ∙ ap (λ k. map (taken_as b) ts ++ cond k (e ∷ []) []) (sym leaves)

-- The names of the entries of an image differ

apart_with : (text_of : Entry → List ℕ) (b : List ℕ) (header : Result Header HeaderFault)
    → AllPairs Differ (map (λ e. (e.name, text_of e)) (entries_with b header))
apart_with text_of b (Err fault) = pairs_none Differ
apart_with text_of b (Ok h) = pairs_map Differ (λ (e : Entry). (e.name, text_of e)) (entries b h) (entries_differ b h)

-- whatever stands with them
pub names_apart : (text_of : Entry → List ℕ) (b : List ℕ) → AllPairs Differ (map (λ e. (e.name, text_of e)) (entries_of b))
names_apart text_of b = apart_with text_of b (header_of b)

pub entries_apart : (b : List ℕ) → AllPairs Differ (map named (entries_of b))
entries_apart b = names_apart (λ e. e.content) b

pub taken_differ : (passes : List ℕ → Bool) (b : List ℕ) → AllPairs Differ (named_among passes (entries_of b))
taken_differ passes b = AllPairs-filter Differ (λ e. passes e.0) (map named (entries_of b)) (entries_apart b)

-- the taken entries, sorted
pub taken_sorted : (passes : List ℕ → Bool) (b : List ℕ) (ts us : List TakenEntry) → map (taken_as b) ts
    ≡ named_among passes (entries_of b) → IsPermutation ts us → NeverFalls (map (taken_as b) us) → map (taken_as b) us ≡ named_of passes b
taken_sorted passes b ts us is moved sorted =
    items_sorted (taken_as b) (named_among passes (entries_of b)) ts us is moved sorted (taken_differ passes b)

pub taken_rises : (passes : List ℕ → Bool) (b : List ℕ) (ts us : List TakenEntry) → map (taken_as b) ts
    ≡ named_among passes (entries_of b) → IsPermutation ts us → NeverFalls (map (taken_as b) us) → RisesByName (map (taken_as b) us)
taken_rises passes b ts us is moved sorted =
    subst RisesByName (sym (taken_sorted passes b ts us is moved sorted)) (by_name_rises (named_among passes (entries_of b))
    (taken_differ passes b))
