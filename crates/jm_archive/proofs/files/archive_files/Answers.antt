use Rattle.std.proofs.Common.{◌<◌, All, length, IsUtf8, ◌≡◌, ◌∙◌, ap, sym, map, subst, IsFalse}
use Rattle.std.proofs.lemmas.List.Sorted.{IsPermutation-map}
use Rattle.std.proofs.lemmas.Result.{IfOk-weaker}
use Rattle.jm_bytes.specs.ByteOrder.{is_before}
use Rattle.jm_bytes.proofs.SameOrder.{mapped_twice}
use Rattle.jm_names.specs.ByName.{Named}
use Rattle.jm_archive.specs.Cuts.{candidate_of, file_of, named_of}
use Rattle.jm_archive.specs.Files.{AreFiles}
use Rattle.jm_archive.specs.ComputedFiles.{files_of}
use Rattle.jm_archive.specs.declared.files.ArchiveFile.{ArchiveFile}
use Rattle.jm_archive.proofs.ComputedFilesLaws.{are_computed}
use Rattle.jm_archive.proofs.ChoiceLaws.{unmapped}
use Rattle.jm_archive.proofs.EntryLaws.{files_texts, files_within}
use Rattle.jm_archive.proofs.FileLaws.{best_files, plain_file}
use Rattle.jm_archive.proofs.files.archive_files.Goals as goal

pub best_of_each-requires : goal.best_of_each-requires
best_of_each-requires c =
    rw c.as_slice.ensures (unmapped (λ (e f : Named). IsFalse (is_before f.0 e.0)) named_of c.sorted_by_name-cuts.result
    c.sorted_by_name-cuts.ensures.sorted)

pub returns-clause-files : goal.returns-clause-files
returns-clause-files c =
    let kind = c.args.kind in
    let names = c.args.names.now in
    let sorted = c.sorted_by_name-cuts.result in
    let best = c.in_ok-best.best in
    let moved = rw c.in_ok-cuts_of.ensures at
    (IsPermutation-map candidate_of c.in_ok-cuts_of.field-0 sorted c.sorted_by_name-cuts.ensures.moved)
    in
    let are = rw c.as_slice.ensures at c.in_ok-best.ensures in
    let files = best_files kind names c.release-release.ensures.small c.requires (map candidate_of sorted) (map candidate_of best) moved are in
    let same = mapped_twice plain_file candidate_of best in
    IfOk-weaker c.files_of.result (λ list. list ≡ map file_of c.as_slice-2.result.now) (AreFiles kind names)
    (λ list is. subst (AreFiles kind names) (same ∙ ap (map file_of) (sym c.as_slice-2.ensures) ∙ sym is) files) c.files_of.ensures

pub returns-clause-computed : goal.returns-clause-computed
returns-clause-computed c =
    IfOk-weaker c.files_of.result (AreFiles c.args.kind c.args.names.now) (λ files. files ≡ files_of c.args.kind c.args.names.now)
    (λ files are. are_computed c.args.kind c.args.names.now files c.release-release.ensures.small c.requires are) (returns-clause-files c)

pub returns-clause-within : goal.returns-clause-within
returns-clause-within c =
    let names = c.args.names.now in
    IfOk-weaker c.files_of.result (AreFiles c.args.kind names) (All (λ (file : ArchiveFile). file.place < length names))
    (λ files are. files_within c.args.kind names files are) (returns-clause-files c)

pub returns-clause-texts : goal.returns-clause-texts
returns-clause-texts c texts =
    let names = c.args.names.now in
    IfOk-weaker c.files_of.result (AreFiles c.args.kind names) (All (λ (file : ArchiveFile). IsUtf8 file.path))
    (λ files are. files_texts c.args.kind names files c.release-release.ensures.small texts are) (returns-clause-files c)
