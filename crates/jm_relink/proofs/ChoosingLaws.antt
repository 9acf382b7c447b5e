-- The files of chosen modules, one file after another and one module after another.
use Rattle.std.proofs.Common.{◌≡◌, ◌≢◌, ℕ, ◌+◌, ◌<◌, Bool, true, false, cond, List, [], ◌∷◌, ◌++◌, take, rules}
use Rattle.std.proofs.Common.{length, get_or, map}
use Rattle.std.proofs.Common.{All, AllPairs, Contains, Option, Some, None, option_map, slice_get, Ok, refl, sym, ap, subst, ◌∙◌}
use Rattle.std.proofs.Common.{append_assoc, arith}
use Rattle.std.proofs.lemmas.Bool.{false≢true}
use Rattle.std.proofs.lemmas.List.{map_push}
use Rattle.std.proofs.lemmas.List.Elements.{All-push}
use Rattle.std.proofs.lemmas.Option.{slice_get-get_or, slice_get-map}
use Rattle.std.proofs.lemmas.Slice.Eq.{bytes_eq-Decides}
use Rattle.std.specs.List.{list_any}
use Rattle.std.specs.Str.{bytes_eq}
use Rattle.jm_bytes.proofs.Choice.{same_pair, same_some}
use Rattle.jm_bytes.proofs.Finds.{find_only}
use Rattle.jm_bytes.proofs.Members.{all_from_contains, contains_map}
use Rattle.jm_bytes.proofs.Pairs.{pairs_map}
use Rattle.jm_filed.specs.Filed.{IsWithin, content_at}
use Rattle.jm_form.specs.ModuleFiles.{info_name}
use Rattle.jm_names.specs.ByName.{Named}
use Rattle.jm_names.specs.ComputedFault.{name_fault}
use Rattle.jm_names.specs.Names.{is_slash}
use Rattle.jm_relink.specs.declared.choosing.ChosenFile.{ChosenFile}
use Rattle.jm_relink.specs.declared.fault.GatherFault.{GatherFault}
use Rattle.jm_relink.specs.declared.modules.ImageFile.{ImageFile}
use Rattle.jm_relink.specs.declared.modules.ImageModules.{ImageModules}
use Rattle.jm_relink.specs.Choosing.{ArePut, IsChosen, IsDescribedIn, IsDescription, WasRead, chosen_in}
use Rattle.jm_relink.specs.Files.{file_in, file_name, files_in}
use Rattle.jm_relink.specs.Gathering.{AreModules, HasInfos, first_bad_name, gathered, resource_of}
use Rattle.jm_relink.specs.Groups.{info_content}
use Rattle.jm_relink.proofs.GatherLaws.{IsNext, all_got, all_with, bad_append_none, bad_one, refused_further, resources_more}
use Rattle.jm_relink.proofs.ListLaws.{one_of}
use Rattle.jm_relink.proofs.NameLaws.{path_of_file}

-- One file

-- the content that is kept of a file
pub kept : (b m info : List ℕ) (f : ImageFile) (text : Option (List ℕ)) → list_any is_slash m ≡ false → WasRead b info f
    → text ≡ cond (bytes_eq f.path info_name) (Some info) None → IsDescription (resource_of m (file_in b f)) text
kept b m info f text whole read is =
    subst (IsDescription (resource_of m (file_in b f))) (sym is) (go (bytes_eq f.path info_name) refl)
  where
    go : (t : Bool) → bytes_eq f.path info_name ≡ t → IsDescription (resource_of m (file_in b f)) (cond t (Some info) None)
    go true same =
        let named = (bytes_eq-Decides f.path info_name).0 same in
        (read named, path_of_file m f.path whole ∙ named)
    go false other =
        λ named. false≢true (sym other ∙ (bytes_eq-Decides f.path info_name).1 (sym (path_of_file m f.path whole) ∙ named))

pub file_chosen : (b m info : List ℕ) (f : ImageFile) (chosen : ChosenFile) → list_any is_slash m ≡ false → WasRead b info f
    → chosen.name ≡ file_name m f.path → chosen.content ≡ f.content
    → chosen.described ≡ cond (bytes_eq f.path info_name) (Some info) None → name_fault (file_name m f.path) ≡ None
    → IsChosen b (resource_of m (file_in b f)) (Ok chosen)
file_chosen b m info f chosen whole read named stands described sound = search (rules, same_pair, kept)

-- One after another

pub put_more : (b : List ℕ) (rs qs : List Named) (old next new : List ChosenFile) → ArePut b rs old next → ArePut b qs next new
    → ArePut b (rs ++ qs) old new
put_more b rs qs old next new one other = search (rules, append_assoc, bad_append_none)

pub put_one : (b : List ℕ) (r : Named) (old new : List ChosenFile) (f : ChosenFile) → IsChosen b r (Ok f) → new ≡ old ++ f ∷ []
    → ArePut b (r ∷ []) old new
put_one b r old new f is put = record {
  sound = bad_one r None is.0;
  put = ap (map (chosen_in b)) put ∙ map_push (chosen_in b) old f ∙ ap (λ q. map (chosen_in b) old ++ q ∷ []) is.1;
  described = λ all. subst (All (IsDescribedIn b)) (sym put) (All-push (IsDescribedIn b) old f all is.2);
}

pub element : {X : Type 0} (P : X → Type 0) (xs : List X) (i : ℕ) (x : X) → All P xs → i < length xs → x ≡ get_or xs i x → P x
element P xs i x all below is = subst P (sym is) (all i x below)

pub put_next : (b m info : List ℕ) (fs : List ImageFile) (i : ℕ) (f : ImageFile) (old next new : List ChosenFile)
    (chosen : ChosenFile)
    → i < length fs → f ≡ get_or fs i f → ArePut b (all_with b m (take i fs)) old next
    → IsChosen b (resource_of m (file_in b f)) (Ok chosen) → new ≡ next ++ chosen ∷ []
    → ArePut b (all_with b m (take (i + 1) fs)) old new
put_next b m info fs i f old next new chosen below is before one put =
    subst (λ rs. ArePut b rs old new) (sym (resources_more b m fs i f below is))
    (put_more b (all_with b m (take i fs)) (resource_of m (file_in b f) ∷ []) old next new before
    (put_one b (resource_of m (file_in b f)) next new chosen one put))

pub more_within : (size : ℕ) (old new : List ChosenFile) (f : ChosenFile) → new ≡ old ++ f ∷ []
    → All (λ x. IsWithin size x.content) old → IsWithin size f.content → All (λ x. IsWithin size x.content) new
more_within size old new f put all this =
    subst (All (λ (x : ChosenFile). IsWithin size x.content)) (sym put)
    (All-push (λ (x : ChosenFile). IsWithin size x.content) old f all this)

-- What was read of descriptors

-- the content that was read is that of the module's file
pub descriptor_read : (b info : List ℕ) (fs : List ImageFile) → AllPairs (λ (e f : ImageFile). e.path ≢ f.path) fs
    → info_content (files_in b fs) ≡ Some info → All (WasRead b info) fs
descriptor_read b info fs apart is = all_from_contains (WasRead b info) fs go
  where
    go : (f : ImageFile) → Contains fs f → f.path ≡ info_name → info ≡ content_at b f.content
    go f there named =
        let among = contains_map (file_in b) fs f there in
        let differ = pairs_map (λ (e g : Named). e.0 ≢ g.0) (file_in b) fs apart in
        let found = find_only (λ (g : Named). bytes_eq g.0 info_name) (files_in b fs) (file_in b f) among
        ((bytes_eq-Decides f.path info_name).1 named)
        (λ g too test. one_of (λ (h : Named). h.0) (files_in b fs) g (file_in b f) differ too among
        ((bytes_eq-Decides g.0 info_name).0 test ∙ sym named)) in
        same_some info (content_at b f.content) (sym is ∙ ap (option_map (λ (g : Named). g.1)) found)

pub infos_read : (b : List ℕ) (modules : ImageModules) (p : ℕ) (info : List ℕ) (fs : List ImageFile) → AreModules modules
    → HasInfos b modules → p < length modules.candidates → info ≡ get_or modules.infos p info → fs ≡ get_or modules.files p fs
    → All (WasRead b info) fs
infos_read b modules p info fs are has within one other =
    descriptor_read b info fs
    (all_got (λ (gs : List ImageFile). AllPairs (λ (e f : ImageFile). e.path ≢ f.path) gs) modules.files p fs are.apart files)
    (same_some (info_content (files_in b fs)) (Some info)
    (sym (ap (option_map (λ gs. info_content (files_in b gs))) files)
    ∙ sym (slice_get-map (λ gs. info_content (files_in b gs)) modules.files p)
    ∙ ap (λ xs. slice_get xs p) has ∙ slice_get-map (λ (text : List ℕ). Some text) modules.infos p
    ∙ ap (option_map (λ (text : List ℕ). Some text)) infos))
  where
    files : slice_get modules.files p ≡ Some fs
    files = slice_get-get_or modules.files p fs (omega (arith, within, are.long)) ∙ ap (λ gs. Some gs) (sym other)

    infos : slice_get modules.infos p ≡ Some info
    infos = slice_get-get_or modules.infos p info (omega (arith, within, are.infos)) ∙ ap (λ text. Some text) (sym one)

-- One module after another

pub module_put : (b : List ℕ) (modules : ImageModules) (places : List ℕ) (i : ℕ) (rs : List Named)
    (old next new : List ChosenFile)
    → IsNext b modules places i rs → ArePut b (gathered b modules (take i places)) old next → ArePut b rs next new
    → ArePut b (gathered b modules (take (i + 1) places)) old new
module_put b modules places i rs old next new is before one =
    subst (λ qs. ArePut b qs old new) (sym is.more) (put_more b (gathered b modules (take i places)) rs old next new before one)

pub module_refused : (b : List ℕ) (modules : ImageModules) (places : List ℕ) (i : ℕ) (rs : List Named) (e : GatherFault)
    → IsNext b modules places i rs → first_bad_name (gathered b modules (take i places)) ≡ None → first_bad_name rs ≡ Some e
    → first_bad_name (gathered b modules places) ≡ Some e
module_refused b modules places i rs e next none given = search (rules, refused_further)
