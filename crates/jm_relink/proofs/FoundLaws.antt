-- What the code finds of the modules that an index tells, from what their descriptors say.
use Rattle.std.proofs.Common.{◌≡◌, ℕ, ◌+◌, ◌<◌, cond, take, List, [], ◌∷◌, ◌++◌, length, map, get_or, All, Option, rules}
use Rattle.std.proofs.Common.{Some, None, is_some}
use Rattle.std.proofs.Common.{option_to_list, Result, Ok, Err, refl, sym, ap, subst, ◌∙◌}
use Rattle.std.proofs.Math.Seq.{get_or-append_seam}
use Rattle.std.proofs.lemmas.List.{length-map, map-append, map_push, take_more}
use Rattle.std.proofs.lemmas.List.Elements.{All-head, All-map, All-tail}
use Rattle.std.specs.List.{filter}
use Rattle.jm_bytes.specs.Results.{followed}
use Rattle.jm_bytes.proofs.SameOrder.{mapped_twice}
use Rattle.jm_filed.specs.Filed.{content_at}
use Rattle.jm_modinfo.specs.Descriptions.{info_for}
use Rattle.jm_relink.specs.declared.entries.ModuleEntries.{ModuleEntries}
use Rattle.jm_relink.specs.declared.fault.RelinkFault.{RelinkFault}
use Rattle.jm_relink.specs.declared.judging.SeenModule as handed
use Rattle.jm_relink.specs.declared.modules.ImageFile.{ImageFile}
use Rattle.jm_relink.specs.declared.modules.ImageModules.{ImageModules}
use Rattle.jm_relink.specs.Entries.{AreEntriesOf, AreInfosIn, EntriesWithin, HasInfoAt}
use Rattle.jm_relink.specs.Files.{AllWithin, files_in, resources_of}
use Rattle.jm_relink.specs.Gathering.{LieWithin}
use Rattle.jm_relink.specs.Groups.{Group, group_in, groups, has_info, info_content}
use Rattle.jm_relink.specs.Judging.{entry_due, group_due, groups_due, seen_due, seen_in}
use Rattle.jm_relink.specs.Modules.{FindsModules, HoldsModules, ModulesOf, SeenModule}
use Rattle.jm_relink.proofs.ListLaws.{append_none, of_next}
use Rattle.jm_relink.proofs.ModuleLaws.{are_sorted, refused_from, visible_from}

-- One content after another

pub info_more : (b : List ℕ) (ms : List ModuleEntries) (i : ℕ) (m : ModuleEntries) (infos new : List (List ℕ)) (text : List ℕ)
    → i < length ms → m ≡ get_or ms i m → AreInfosIn b (take i ms) infos → text ≡ content_at b m.info → new ≡ infos ++ text ∷ []
    → AreInfosIn b (take (i + 1) ms) new
info_more b ms i m infos new text below is before read put =
    let f : ModuleEntries → List ℕ = λ k. content_at b k.info in
    put ∙ ap (λ xs. xs ++ text ∷ []) before ∙ ap (λ t. map f (take i ms) ++ t ∷ []) read ∙ sym (map_push f (take i ms) m)
    ∙ ap (map f) (sym (take_more ms i m below ∙ ap (λ k. take i ms ++ k ∷ []) (sym is)))

-- One module after another

pub as_many : {X Y Z : Type 0} (f : X → Z) (g : Y → Z) (xs : List X) (ys : List Y) → map f xs ≡ map g ys → length xs ≡ length ys
as_many f g xs ys same = sym (length-map xs f) ∙ ap length same ∙ length-map ys g

-- the content that was read of the module at a place
pub info_at : (b : List ℕ) (ms done : List ModuleEntries) (m : ModuleEntries) (rest : List ModuleEntries) (infos : List (List ℕ))
    (info : List ℕ) (n : ℕ) → AreInfosIn b ms infos → done ++ m ∷ rest ≡ ms → n ≡ length done → info ≡ get_or infos n info
    → info ≡ content_at b m.info
info_at b ms done m rest infos info n read whole place is = search (rules, get_or-append_seam, length-map, map-append)

-- a module is judged by it
group_judged : (release : ℕ) (b : List ℕ) (m : ModuleEntries) (info : List ℕ) (r : Result SeenModule RelinkFault) → HasInfoAt b m
    → info ≡ content_at b m.info → seen_due (group_in b m) (info_for release info) ≡ r
    → group_due release (group_in b m) ≡ followed r (λ s. Ok (Some s))
group_judged release b m info r has is due =
    ap (entry_due release (group_in b m)) (has ∙ ap (λ text. Some text) (sym is)) ∙ ap (λ x. followed x (λ s. Ok (Some s))) due

module _ (release : ℕ) (b : List ℕ) (ms done : List ModuleEntries) (m : ModuleEntries) (rest : List ModuleEntries) (info : List ℕ)
    (whole : done ++ m ∷ rest ≡ ms) (has : All (HasInfoAt b) ms) (is : info ≡ content_at b m.info)
    (seen : List handed.SeenModule) where
  judged : (r : Result SeenModule RelinkFault) → seen_due (group_in b m) (info_for release info) ≡ r
      → groups_due release (map (seen_in b) seen) (map (group_in b) (m ∷ rest))
      ≡ followed (followed r (λ s. Ok (Some s))) (λ o. groups_due release (map (seen_in b) seen ++ option_to_list o)
      (map (group_in b) rest))
  judged r due =
      ap (λ x. followed x (λ o. groups_due release (map (seen_in b) seen ++ option_to_list o) (map (group_in b) rest)))
      (group_judged release b m info r (of_next (HasInfoAt b) done rest ms m has whole) is due)

  pub module_seen : (new : List handed.SeenModule) (s : handed.SeenModule) → seen_due (group_in b m) (info_for release info)
      ≡ Ok (seen_in b s) → new ≡ seen ++ s ∷ []
      → groups_due release (map (seen_in b) new) (map (group_in b) rest) ≡ groups_due release (map (seen_in b) seen)
      (map (group_in b) (m ∷ rest))
  module_seen new s due put =
      ap (λ xs. groups_due release (map (seen_in b) xs) (map (group_in b) rest)) put
      ∙ ap (λ xs. groups_due release xs (map (group_in b) rest)) (map_push (seen_in b) seen s)
      ∙ sym (judged (Ok (seen_in b s)) due)

  pub module_refused : (fault : RelinkFault) → seen_due (group_in b m) (info_for release info) ≡ Err fault
      → groups_due release (map (seen_in b) seen) (map (group_in b) (m ∷ rest)) ≡ Err fault
  module_refused fault due = judged (Err fault) due

-- Modules without a descriptor are none

groups_kept : (release : ℕ) (seen : List SeenModule) (gs : List Group) → groups_due release seen (filter has_info gs)
    ≡ groups_due release seen gs
groups_kept release seen [] = refl
groups_kept release seen (g ∷ gs) = go (info_content g.1) refl (λ more. groups_kept release more gs)
  where
    same_next : (r : Result (Option SeenModule) RelinkFault)
        → ((more : List SeenModule) → groups_due release more (filter has_info gs) ≡ groups_due release more gs)
        → followed r (λ o. groups_due release (seen ++ option_to_list o) (filter has_info gs))
        ≡ followed r (λ o. groups_due release (seen ++ option_to_list o) gs)
    same_next (Ok o) rest = rest (seen ++ option_to_list o)
    same_next (Err e) rest = refl

    go : (o : Option (List ℕ)) → info_content g.1 ≡ o
        → ((more : List SeenModule) → groups_due release more (filter has_info gs) ≡ groups_due release more gs)
        → groups_due release seen (cond (is_some (info_content g.1)) (g ∷ filter has_info gs) (filter has_info gs))
        ≡ followed (group_due release g) (λ o. groups_due release (seen ++ option_to_list o) gs)
    go None is rest =
        ap (λ p. groups_due release seen (cond (is_some p) (g ∷ filter has_info gs) (filter has_info gs))) is
        ∙ rest seen ∙ ap (λ xs. groups_due release xs gs) (sym (append_none seen))
        ∙ sym (ap (λ p. followed (entry_due release g p) (λ o. groups_due release (seen ++ option_to_list o) gs)) is)
    go (Some content) is rest =
        ap (λ p. groups_due release seen (cond (is_some p) (g ∷ filter has_info gs) (filter has_info gs))) is
        ∙ same_next (group_due release g) rest

entries_due : (release : ℕ) (b : List ℕ) (ms : List ModuleEntries) (r : Result (List SeenModule) RelinkFault)
    (are : AreEntriesOf b ms)
    → groups_due release [] (map (group_in b) ms) ≡ r → groups_due release [] (groups are.files) ≡ r
entries_due release b ms r are due =
    sym (groups_kept release [] (groups are.files)) ∙ sym (ap (groups_due release []) are.groups) ∙ due

-- What is found

infos_each : (b : List ℕ) (ms : List ModuleEntries) → All (HasInfoAt b) ms
    → map (λ m. info_content (files_in b m.files)) ms ≡ map (λ (text : List ℕ). Some text) (map (λ m. content_at b m.info) ms)
infos_each b [] has = search (rules)
infos_each b (m ∷ ms) has = search (rules, All-head, All-tail, (infos_each b ms (All-tail (HasInfoAt b) m ms has)))

holds : (b : List ℕ) (ms : List ModuleEntries) (infos : List (List ℕ)) (seen : List handed.SeenModule) (found : ImageModules)
    → All (HasInfoAt b) ms → AreInfosIn b ms infos → map (λ (s : handed.SeenModule). s.files) seen
    ≡ map (λ (m : ModuleEntries). m.files) ms
    → found.candidates ≡ map (λ (s : handed.SeenModule). s.candidate) seen → found.infos ≡ infos
    → found.files ≡ map (λ (s : handed.SeenModule). s.files) seen → HoldsModules b found (map (seen_in b) seen)
holds b ms infos seen found has read same candidates texts files = record {
  candidates = candidates ∙ sym (mapped_twice (λ (s : SeenModule). s.candidate) (seen_in b) seen);
  infos = ap (map (λ (text : List ℕ). Some text)) (texts ∙ read) ∙ sym (infos_each b ms has)
      ∙ sym (mapped_twice (λ (fs : List ImageFile). info_content (files_in b fs)) (λ (m : ModuleEntries). m.files) ms)
      ∙ ap (map (λ (fs : List ImageFile). info_content (files_in b fs))) (sym same)
      ∙ mapped_twice (λ (fs : List ImageFile). info_content (files_in b fs)) (λ (s : handed.SeenModule). s.files) seen
      ∙ sym (mapped_twice (λ (s : SeenModule). info_content s.files) (seen_in b) seen);
  files = ap (map (files_in b)) files ∙ mapped_twice (files_in b) (λ (s : handed.SeenModule). s.files) seen
      ∙ sym (mapped_twice (λ (s : SeenModule). s.files) (seen_in b) seen);
}

pub modules_found : (release : ℕ) (b : List ℕ) (ms : List ModuleEntries) (infos : List (List ℕ)) (seen : List handed.SeenModule)
    (found : ImageModules) → AreEntriesOf b ms → AreInfosIn b ms infos
    → groups_due release [] (map (group_in b) ms) ≡ Ok (map (seen_in b) seen)
    → map (λ (s : handed.SeenModule). s.files) seen ≡ map (λ (m : ModuleEntries). m.files) ms
    → found.candidates ≡ map (λ (s : handed.SeenModule). s.candidate) seen → found.infos ≡ infos
    → found.files ≡ map (λ (s : handed.SeenModule). s.files) seen → FindsModules release b (Ok found)
unfolding ModulesOf
modules_found release b ms infos seen found are read due same candidates texts files = (
  map (seen_in b) seen,
  visible_from release (resources_of b) are.files (map (seen_in b) seen) (are_sorted b are.files are.moved are.sorted)
      (entries_due release b ms (Ok (map (seen_in b) seen)) are due),
  holds b ms infos seen found are.infos read same candidates texts files,
)

pub modules_refused : (release : ℕ) (b : List ℕ) (ms : List ModuleEntries) (fault : RelinkFault) → AreEntriesOf b ms
    → groups_due release [] (map (group_in b) ms) ≡ Err fault → FindsModules release b (Err fault)
unfolding ModulesOf
modules_refused release b ms fault are due =
    refused_from release (resources_of b) are.files fault (are_sorted b are.files are.moved are.sorted)
    (entries_due release b ms (Err fault) are due)

pub modules_within : (size : ℕ) (ms : List ModuleEntries) (found : ImageModules)
    → found.files ≡ map (λ (m : ModuleEntries). m.files) ms → All (EntriesWithin size) ms → LieWithin size found
modules_within size ms found files all =
    subst (All (AllWithin size)) (sym files)
    (All-map (AllWithin size) (λ (m : ModuleEntries). m.files) ms (λ k d below. (all k d below).files))
