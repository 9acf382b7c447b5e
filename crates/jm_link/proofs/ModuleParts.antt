-- The modules of an image in a file, from what was read of their descriptors.
use Rattle.std.proofs.Common.{◌≡◌, ◌≢◌, ◌≤◌, ◌+◌, ℕ, true, List, [], length, map, All, AllPairs, Contains, Option, rules}
use Rattle.std.proofs.Common.{Result, Ok, Err, refl, sym, ap, subst, ◌∙◌, arith}
use Rattle.std.proofs.lemmas.List.Elements.{All-contains, All-nil}
use Rattle.std.proofs.lemmas.List.{length-map}
use Rattle.std.proofs.lemmas.Slice.Zip.{AllZip-long, firsts-zip, seconds-zip}
use Rattle.std.specs.List.{AllZip, zip}
use Rattle.jm_bytes.proofs.Members.{all_from_contains, contains_none, from_filter}
use Rattle.jm_bytes.proofs.Pairs.{pairs_map}
use Rattle.jm_bytes.specs.declared.faults.Or.{Or}
use Rattle.jm_bytes.specs.declared.faults.Or.TheVariants as or
use Rattle.jm_filed.specs.Filed.{IsFiled, IsReadAt, content_at}
use Rattle.jm_filed.specs.Parts.{AreRead, HasContents, HasSizes, named}
use Rattle.jm_filed.proofs.ExtentLaws.{content_length}
use Rattle.jm_form.specs.declared.container.Header.{Header}
use Rattle.jm_form.specs.Head.{IsFileOf}
use Rattle.jm_names.specs.ByName.{Named}
use Rattle.jm_outside.specs.Files.{Files}
use Rattle.jm_outside.specs.Outcome.{Shows}
use Rattle.jm_outside.specs.declared.shelf.ShelfError.{ShelfError}
use Rattle.jm_outside.specs.declared.shelf.ShelfError.TheVariants as outside
use Rattle.jm_reader.specs.Listing.{IsIndex}
use Rattle.jm_reader.specs.Walk.{entries_of}
use Rattle.jm_reader.proofs.IndexLaws.{file_begins, file_with}
use Rattle.jm_relink.specs.declared.entries.ModuleEntries.{ModuleEntries}
use Rattle.jm_relink.specs.declared.fault.RelinkFault.{RelinkFault}
use Rattle.jm_relink.specs.declared.modules.ImageModules.{ImageModules}
use Rattle.jm_relink.specs.Entries.{AreEntriesOf, AreInfosIn, EntriesWithin}
use Rattle.jm_relink.specs.Files.{info_entry, resources_of}
use Rattle.jm_relink.specs.Gathering.{LieWithin}
use Rattle.jm_relink.specs.Modules.{FindsIn}
use Rattle.jm_relink.proofs.AskedLaws.{found_stand}
use Rattle.jm_relink.proofs.ListLaws.{pairs_unmap}
use Rattle.jm_relink.proofs.ModuleLaws.{one_content}
use Rattle.jm_valid.specs.Opened.{Front}
use Rattle.jm_link.specs.declared.linking.LinkStop.{LinkStop}
use Rattle.jm_link.specs.declared.linking.LinkStop.TheVariants as stop
use Rattle.jm_modset.specs.Found.{image_refusal}
use Rattle.jm_modset.specs.Infos.{AreInfosRead, info_sizes}
use Rattle.jm_filed.specs.Parts.{IsSizedIn}
use Rattle.jm_link.specs.ImageSteps.{ShowsIn, ReadsModules}
use Rattle.jm_modset.specs.Infos.{infos_of, is_info, sizes}
use Rattle.jm_link.specs.Steps.{stop_of, stop_of_fault}
use Rattle.jm_link.proofs.InfoLaws.{info_in, info_there, infos_apart, infos_within}
use Rattle.jm_link.proofs.PartLaws.{beside, content_read, resource_entry, same_content, shown_all, zipped_as, zipped_keys}
use Rattle.jm_link.proofs.PartLaws.{zipped_same}

module _ (index : Front) (h : Header) (images : IsIndex index.bytes index.length h) (told : Option Files) (path : List ℕ)
    (release : ℕ) where
  abbrev IsOfIndex : List ℕ → Type 0
  IsOfIndex b = IsFileOf index.bytes index.length b

  -- nothing was read
  nothing_read : AreRead index told path []
  nothing_read = search (rules, contains_none, shown_all)

  -- a step gave up before the modules were known
  gave_up : (given : LinkStop) (handed new : ℕ) → ((b : List ℕ) → ShowsIn release b (Err given))
      → ((b : List ℕ) → IsOfIndex b → new ≤ handed + sizes (infos_of b))
      → ReadsModules index told path release (Err given) handed new
  gave_up given handed new stops takes = search (rules, All-nil, nothing_read)

  -- for want of memory, with nothing read
  pub no_memory : (handed : ℕ) → ReadsModules index told path release (Err stop.Memory) handed handed
  no_memory handed = gave_up stop.Memory handed handed (λ b. tt) (λ b file. omega arith)

  module _ (ms : List ModuleEntries) (entries : (b : List ℕ) → IsOfIndex b → AreEntriesOf b ms)
      (within : All (EntriesWithin index.length) ms) where
    within_in : (b : List ℕ) → IsOfIndex b → All (EntriesWithin (length b)) ms
    within_in b file = subst (λ n. All (EntriesWithin n) ms) (sym file.length_is) within

    takes_infos : (handed new : ℕ) → new ≤ handed + info_sizes ms → (b : List ℕ) → IsOfIndex b → new ≤ handed + sizes (infos_of b)
    takes_infos handed new most b file =
        let all = infos_within b ms (entries b file) (within_in b file) in
        omega (arith, most, all)

    -- since a call of the shelf gave up
    pub unread_infos : (error : ShelfError) (handed new : ℕ) → new ≤ handed + info_sizes ms
        → ReadsModules index told path release (Err (stop_of error)) handed new
    unread_infos error handed new most = gave_up (stop_of error) handed new (λ b. stops error b) (takes_infos handed new most)
      where
        stops : (error : ShelfError) (b : List ℕ) → ShowsIn release b (Err (stop_of error))
        stops outside.Failed b = tt
        stops outside.Memory b = tt

    module _ (texts : List (List ℕ)) (read : AreInfosRead told path ms texts) where
      abbrev entry : ModuleEntries → List ℕ
      entry m = info_entry m.module

      -- what was read, under the names of the entries
      abbrev infos : List Named
      infos = zip (map entry ms) texts

      abbrev Reads : ModuleEntries → Named → Type 0
      Reads m p = (p.0 ≡ entry m) × IsReadAt told path m.info p.1

      reads : AllZip Reads ms infos
      reads = zipped_keys (λ (m : ModuleEntries) (text : List ℕ). IsReadAt told path m.info text) entry ms texts read

      long : length texts ≡ length ms
      long = AllZip-long (λ (m : ModuleEntries) (text : List ℕ). IsReadAt told path m.info text) ms texts read

      abbrev some_file : List ℕ
      some_file = file_with index.bytes index.length

      is_some_file : IsOfIndex some_file
      is_some_file = file_begins index.bytes index.length images.within

      infos_differ : AllPairs (λ (p q : Named). p.0 ≢ q.0) infos
      infos_differ =
          let names : map (λ (p : Named). p.0) infos ≡ map entry ms =
          firsts-zip (map entry ms) texts (long ∙ sym (length-map ms entry)) in
          pairs_unmap (λ (m n : List ℕ). m ≢ n) (λ (p : Named). p.0) infos
          (subst (AllPairs (λ (m n : List ℕ). m ≢ n)) (sym names)
          (pairs_map (λ (m n : List ℕ). m ≢ n) entry ms (infos_apart some_file ms (entries some_file is_some_file))))

      all_infos : All (λ (r : Named). is_info r ≡ true) infos
      all_infos = all_from_contains (λ (r : Named). is_info r ≡ true) infos (λ r there.
          let from = beside Reads ms infos reads r there in
          let info = info_there some_file ms (entries some_file is_some_file) from.0 from.1 in
          ap (λ n. is_info (n, r.1)) from.2.0 ∙ (from_filter is_info (resources_of some_file) (info_in some_file from.0) info).1)

      -- a descriptor is an entry of each file, under the name of what was read
      is_entry : (b : List ℕ) → IsOfIndex b → (m : ModuleEntries) (p : Named) → Contains ms m → p.0 ≡ entry m
          → Contains (map named (entries_of b)) (p.0, content_at b m.info)
      is_entry b file m p among name =
          let info = from_filter is_info (resources_of b) (info_in b m) (info_there b ms (entries b file) m among) in
          subst (λ n. Contains (map named (entries_of b)) (n, content_at b m.info)) (sym name)
          (resource_entry b (info_in b m) info.0)

      sized : (b : List ℕ) → IsFiled index told path b → HasSizes b infos
      sized b filed = all_from_contains (IsSizedIn (map named (entries_of b))) infos (λ p there.
          let from = beside Reads ms infos reads p there in
          let lies = All-contains (EntriesWithin (length b)) ms from.0 (within_in b filed.0) from.1 in (
            content_at b from.0.info,
            is_entry b filed.0 from.0 p from.1 from.2.0,
            content_length (length b) b from.0.info refl lies.info ∙ sym from.2.1.size,
          ))

      contained : (b : List ℕ) → IsFiled index told path b → Shows told (λ files. HasContents b infos)
      contained b filed = shown_all told (Contains (map named (entries_of b))) infos (λ p there.
          let from = beside Reads ms infos reads p there in
          content_read told path b from.0.info p.1 filed.1 from.2.1
          (λ content. Contains (map named (entries_of b)) (p.0, content)) (is_entry b filed.0 from.0 p from.1 from.2.0))

      infos_read : AreRead index told path infos
      infos_read = record {
        agree = λ p q there too same. one_content infos p.0 q.0 p.1 q.1 infos_differ there too same;
        sizes = sized;
        contents = contained;
      }

      -- in a file with these contents they are the descriptors
      infos_in : (b : List ℕ) → IsOfIndex b → HasContents b infos → AreInfosIn b ms texts
      infos_in b file has =
          let same : (m : ModuleEntries) (p : Named) → Contains ms m → Contains infos p → Reads m p → p.1 ≡ content_at b m.info =
          λ m p among there is. same_content b p.0 p.1 (content_at b m.info)
          (All-contains (Contains (map named (entries_of b))) infos p has there) (is_entry b file m p among is.0) in
          sym (seconds-zip (map entry ms) texts (long ∙ sym (length-map ms entry)))
          ∙ zipped_same (λ m p. p.1 ≡ content_at b m.info) (λ (m : ModuleEntries). content_at b m.info) (λ (p : Named). p.1) ms
          infos (zipped_as Reads (λ m p. p.1 ≡ content_at b m.info) ms infos reads same) (λ m p is. is)

      module _ (handed new : ℕ) (most : new ≤ handed + info_sizes ms) where
        as_shown : (answer : Result ImageModules LinkStop)
            → ((b : List ℕ) → IsOfIndex b → AreInfosIn b ms texts → ShowsIn release b answer)
            → ReadsModules index told path release answer handed new
        as_shown answer shows = record {
          images = (h, images);
          read = infos;
          are = infos_read;
          infos = all_infos;
          shows = λ b file has. shows b file (infos_in b file has);
          takes = takes_infos handed new most;
        }

        -- the modules are refused
        pub modules_refused : (error : Or RelinkFault)
            → ((b : List ℕ) → AreEntriesOf b ms → AreInfosIn b ms texts → FindsIn release b (Err error))
            → ReadsModules index told path release (Err (stop_of_fault image_refusal error)) handed new
        modules_refused error finds =
            as_shown (Err (stop_of_fault image_refusal error)) (λ b file are. go error b (finds b (entries b file) are))
          where
            go : (error : Or RelinkFault) (b : List ℕ) → FindsIn release b (Err error)
                → ShowsIn release b (Err (stop_of_fault image_refusal error))
            go (or.Fault fault) b finds = (fault, finds.modules, refl)
            go or.Memory b finds = tt

        -- these are the modules
        pub modules_shown : (modules : ImageModules)
            → ((b : List ℕ) → AreEntriesOf b ms → AreInfosIn b ms texts → FindsIn release b (Ok modules))
            → ((size : ℕ) → All (EntriesWithin size) ms → LieWithin size modules)
            → ReadsModules index told path release (Ok modules) handed new
        modules_shown modules finds lie = as_shown (Ok modules) (λ b file are.
            let found = finds b (entries b file) are in
            record {
              finds = found.modules;
              are = found.are;
              stand = found_stand release b (Ok modules) found.modules (lie (length b) (within_in b file));
            })
