use Rattle.std.proofs.Common.{◌<◌, ℕ, List, Err, length, subst}
use Rattle.jm_bytes.proofs.Members.{all_from_contains}
use Rattle.jm_bytes.proofs.ResultLaws.{passed_on}
use Rattle.jm_bytes.specs.Results.{IfAnswered}
use Rattle.jm_modset.specs.Files.{AreFilesOf}
use Rattle.jm_modset.specs.Set.{set_in}
use Rattle.jm_modset.specs.Shown.{gathered}
use Rattle.jm_link.proofs.ChosenLaws.{chosen_differ, chosen_within}
use Rattle.jm_link.proofs.ModuleLaws.{names_refused}
use Rattle.jm_link.proofs.modules.linked_files.Goals as goal

pub closed-requires : goal.closed-requires
closed-requires c = rw c.as_slice.ensures c.requires.differ

pub link_files-requires-clause-places : goal.link_files-requires-clause-places
link_files-requires-clause-places c =
    let set = c.args.found.now.set in
    let roots = c.args.found.now.roots in
    let closes = rw (c.as_slice.ensures, c.as_slice-2.ensures) at c.in_ok-places.ensures in
    rw c.as_slice-3.ensures
    (all_from_contains (λ i. i < length set.candidates) c.in_ok-places.places
    (chosen_within set.candidates roots c.args.binds c.in_ok-places.places closes.1))

pub link_files-requires-clause-once : goal.link_files-requires-clause-once
link_files-requires-clause-once c =
    let set = c.args.found.now.set in
    let closes = rw (c.as_slice.ensures, c.as_slice-2.ensures) at c.in_ok-places.ensures in
    rw c.as_slice-3.ensures (chosen_differ set.candidates c.args.found.now.roots c.args.binds c.in_ok-places.places closes.1)

pub returns-in_err-files-clause-links : goal.returns-in_err-files-clause-links
returns-in_err-files-clause-links c files b =
    let set = c.args.found.now.set in
    let closes = rw (c.as_slice.ensures, c.as_slice-2.ensures) at c.in_ok-places.ensures in
    rw (passed_on c.from_residual-in_err-files.result _ c.from_residual-in_err-files.ensures.1)
    (names_refused c.args.found.now.set c.args.found.now.roots c.args.binds files b c.in_ok-places.places closes
    c.in_err-files.field-0.0
    (subst (λ (places : List ℕ). IfAnswered (AreFilesOf (gathered (set_in files b set) places) files b) (Err c.in_err-files.field-0.0))
    c.as_slice-3.ensures (c.in_err-files.ensures.files files b)))

pub returns-clause-links : goal.returns-clause-links
returns-clause-links c files b =
    let closes = rw (c.as_slice.ensures, c.as_slice-2.ensures) at c.in_ok-places.ensures in
    record {
      places = c.in_ok-places.places;
      closes = closes;
      modules = c.len.ensures;
      are = rw c.as_slice-3.ensures at (c.in_ok-files.ensures.files files b);
    }
