-- What the code's groups of files are, one entry after another.
use Rattle.std.proofs.Common.{◌≡◌, ℕ, cond, List, [], ◌∷◌, ◌++◌, All, IfOk, IfSome, map, Option, Some, None, rules}
use Rattle.std.proofs.Common.{is_some, option_map, option_to_list, Result, refl, sym, ap, subst, ◌∙◌}
use Rattle.std.proofs.lemmas.List.{map-append, map_push}
use Rattle.std.proofs.lemmas.List.Elements.{All-append, All-head, All-nil, All-push, All-tail}
use Rattle.std.proofs.lemmas.Result.{IfOk-weaker}
use Rattle.std.specs.List.{filter}
use Rattle.jm_bytes.specs.declared.texts.NoMemory.{NoMemory}
use Rattle.jm_filed.specs.declared.extent.Extent.{Extent}
use Rattle.jm_filed.specs.declared.taking.TakenEntry.{TakenEntry}
use Rattle.jm_filed.specs.Filed.{IsWithin, content_at}
use Rattle.jm_filed.specs.Taken.{LieWithin, taken_as}
use Rattle.jm_names.specs.ByName.{Named}
use Rattle.jm_relink.specs.declared.entries.ModuleEntries.{ModuleEntries}
use Rattle.jm_relink.specs.declared.groups.ModuleFiles.{ModuleFiles}
use Rattle.jm_relink.specs.declared.modules.ImageFile.{ImageFile}
use Rattle.jm_relink.specs.Entries.{FilesWithin, HasExtent}
use Rattle.jm_relink.specs.Files.{AllWithin, Filed, located, located_among, module_and_path}
use Rattle.jm_relink.specs.Groups.{Group, GroupWithin, KnowsInfo, begun_group, described_from, files_of, group_in, groups, has_info}
use Rattle.jm_relink.proofs.InfoLaws.{extent_content}
use Rattle.jm_relink.proofs.JoinedLaws.{file_joins}
use Rattle.jm_relink.proofs.ListLaws.{all_alone, map_alone, put_alone}

-- One group

-- a group has a descriptor where the code knows its place
pub described_if : (b : List ℕ) (current : Option ModuleFiles) (g : ModuleFiles) (o : Option Extent) → IfSome current KnowsInfo
    → current ≡ Some g → g.info ≡ o
    → cond (is_some o) (files_of b g ∷ []) [] ≡ described_from (option_map (files_of b) current) []
described_if b current g o known same is =
    ap (λ t. cond t (files_of b g ∷ []) []) (as_content o
    ∙ ap is_some (ap (option_map (content_at b)) (sym is ∙ subst (λ x. IfSome x KnowsInfo) same known) ∙ sym (extent_content b g.files)))
    ∙ sym (ap (λ x. described_from (option_map (files_of b) x) []) same)
  where
    as_content : (p : Option Extent) → is_some p ≡ is_some (option_map (content_at b) p)
    as_content None = refl
    as_content (Some x) = refl

-- A module of which no file is known yet

pub within_begun : (size : ℕ) (m : List ℕ) (old new : List ModuleEntries) (o : Option ModuleEntries)
    (r : Result ModuleFiles NoMemory) → new ≡ old ++ option_to_list o → All (FilesWithin size) old → IfSome o (FilesWithin size)
    → IfOk r (λ g. g ≡ begun_group m) → IfOk r (λ g. All (FilesWithin size) new × GroupWithin size g)
within_begun size m old new o r put all this begun =
    IfOk-weaker r (λ g. g ≡ begun_group m) (λ g. All (FilesWithin size) new × GroupWithin size g)
    (λ g same. (
      subst (All (FilesWithin size)) (sym put) (All-append (FilesWithin size) old (option_to_list o) all
          (all_alone (FilesWithin size) o this)),
      subst (GroupWithin size) (sym same) (All-nil (λ (f : ImageFile). IsWithin size f.content)),
    )) begun

-- One entry more

pub entry_joins : (b : List ℕ) (old new : List ModuleEntries) (o : Option Group) (g next : ModuleFiles) (t : TakenEntry)
    (m p : List ℕ) (file : ImageFile) → module_and_path t.name ≡ Some (m, p) → file.path ≡ p → file.content ≡ t.content
    → g.module ≡ m → next.module ≡ g.module → next.files ≡ g.files ++ file ∷ []
    → ((f : Named) (rest : List Filed) → map (group_in b) new ++ described_from (Some (files_of b g)) ((m, f) ∷ rest)
    ≡ map (group_in b) old ++ described_from o ((m, f) ∷ rest)) → (rest : List Filed) → map (group_in b) new ++ described_from (Some (files_of b next)) rest
    ≡ map (group_in b) old ++ described_from o (option_to_list (located (taken_as b t)) ++ rest)
entry_joins b old new o g next t m p file cut path content of_module same_module put goes rest = search (rules, option_to_list, map_push, file_joins)

pub file_within : (size : ℕ) (old new : List ImageFile) (f : ImageFile) → new ≡ old ++ f ∷ [] → AllWithin size old
    → IsWithin size f.content → AllWithin size new
file_within size old new f put all this =
    subst (AllWithin size) (sym put) (All-push (λ (x : ImageFile). IsWithin size x.content) old f all this)

-- All of them

module _ (entries : List TakenEntry) where
  record GroupsWithin (size : ℕ) (done : List ModuleEntries) (current : Option ModuleFiles) (rest : List TakenEntry) : Type 0 where
    earlier : All (FilesWithin size) done
    here : IfSome current (GroupWithin size)
    coming : LieWithin size rest

  -- the modules that are done, the group that is current, and the entries that are still to come
  pub record AreGrouped (done : List ModuleEntries) (current : Option ModuleFiles) (rest : List TakenEntry) : Type 0 where
    so_far : (b : List ℕ) → map (group_in b) done ++ described_from (option_map (files_of b) current) (located_among b rest)
        ≡ filter has_info (groups (located_among b entries))
    pub known : IfSome current KnowsInfo
    pub infos : All HasExtent done
    within : (size : ℕ) → LieWithin size entries → GroupsWithin size done current rest

  pub grouped_first : (done : List ModuleEntries) (rest : List TakenEntry) → done ≡ [] → rest ≡ entries → AreGrouped done None rest
  grouped_first done rest none all = search (rules, All-nil)

  pub grouped_next : (done new : List ModuleEntries) (current next : Option ModuleFiles) (t : TakenEntry) (left rest : List TakenEntry)
      → AreGrouped done current left → left ≡ t ∷ rest
      → ((b : List ℕ) (fs : List Filed) → map (group_in b) new ++ described_from (option_map (files_of b) next) fs
      ≡ map (group_in b) done ++ described_from (option_map (files_of b) current) (option_to_list (located (taken_as b t)) ++ fs))
      → IfSome next KnowsInfo → (All HasExtent done → All HasExtent new)
      → ((size : ℕ) → All (FilesWithin size) done → IfSome current (GroupWithin size) → IsWithin size t.content
      → All (FilesWithin size) new × IfSome next (GroupWithin size)) → AreGrouped new next rest
  grouped_next done new current next t left rest before first joins known infos inside = record {
    so_far = λ b.
        joins b (located_among b rest)
        ∙ ap (λ fs. map (group_in b) done ++ described_from (option_map (files_of b) current) fs)
        (sym (put_alone (located (taken_as b t)) (located_among b rest)) ∙ ap (located_among b) (sym first))
        ∙ before.so_far b;
    known = known;
    infos = infos before.infos;
    within = λ size all.
        let so = before.within size all in
        let lies : TakenEntry → Type 0 = λ x. IsWithin size x.content in
        let coming = subst (LieWithin size) first so.coming in
        let both = inside size so.earlier so.here (All-head lies t rest coming) in
        record { earlier = both.0; here = both.1; coming = All-tail lies t rest coming };
  }

  module _ (done new : List ModuleEntries) (current : Option ModuleFiles) (rest : List TakenEntry) (o : Option ModuleEntries)
      (before : AreGrouped done current rest) (put : new ≡ done ++ option_to_list o) where
    pub grouped_all : rest ≡ [] → ((b : List ℕ) → option_to_list (option_map (group_in b) o)
        ≡ described_from (option_map (files_of b) current) []) → (b : List ℕ) → map (group_in b) new
        ≡ filter has_info (groups (located_among b entries))
    grouped_all none is b =
        ap (map (group_in b)) put ∙ map-append (group_in b) done (option_to_list o)
        ∙ ap (λ gs. map (group_in b) done ++ gs) (map_alone (group_in b) o ∙ is b)
        ∙ ap (λ ts. map (group_in b) done ++ described_from (option_map (files_of b) current) (located_among b ts)) (sym none)
        ∙ before.so_far b

    pub infos_all : IfSome o HasExtent → All HasExtent new
    infos_all info = subst (All HasExtent) (sym put) (All-append HasExtent done (option_to_list o) before.infos
        (all_alone HasExtent o info))

    pub within_all : ((size : ℕ) → IfSome current (GroupWithin size) → IfSome o (FilesWithin size)) → (size : ℕ) → LieWithin size entries
        → All (FilesWithin size) new
    within_all inside size all =
        let so = before.within size all in
        subst (All (FilesWithin size)) (sym put) (All-append (FilesWithin size) done (option_to_list o) so.earlier
        (all_alone (FilesWithin size) o (inside size so.here)))
