use Rattle.std.proofs.Common.{◌∙◌, ℕ, List, Option, ap, arith, map, option_map, sym}
use Rattle.std.specs.List.{filter_map}
use Rattle.std.proofs.lemmas.List.{take_all}
use Rattle.jm_form.specs.ModuleFiles.{named_package}
use Rattle.jm_form.proofs.ClassPackageLaws.{class_packages_are}
use Rattle.jm_form.proofs.ListLaws.{filtered_map, grown_none, grown_some}
use Rattle.jm_form.proofs.RisingLaws.{items_push}
use Rattle.jm_names.specs.Names.{dotted}
use Rattle.jm_modpath.specs.Modules.{resource_name}
use Rattle.jm_form.specs.Rising.{items_of}
use Rattle.jm_modpath.proofs.packages.class_packages.Goals as goal
use Rattle.jm_modpath.proofs.packages.class_packages.Goals.{in-Some+in_ok-dotted+in_ok-push, in_default}

pub loop-path-preserved : goal.loop-path-preserved
loop-path-preserved c =
    let package_in : List ℕ → Option (List ℕ) = λ path. named_package (resource_name c.args.module.now path) in
    let paths = c.args.paths.now in
    let at = c.loop-path.path-index in
    let path = c.path-item.result in
    let old = items_of c.loop-path.packages.items in
    elim c.match-class_folder.branch [
      | in-Some+in_ok-dotted+in_ok-push w ↦ rw w.packages-is
          (let gives = ap (option_map dotted)
          (rw (c.path_of.ensures, c.as_slice-in-loop-path.ensures.value, c.in_ok-name.ensures, c.as_slice.ensures)
          at (sym w.in-Some.ensures)) in
          grown_some package_in paths at path (dotted w.in-Some.folder.now) old (items_of w.push.new.self.items)
          c.loop-path-test.true c.path-item.is gives
          (items_push c.loop-path.packages.items w.push.new.self.items w.into_vec.result (dotted w.in-Some.folder.now)
          w.in_ok-push.ensures.items (w.into_vec.ensures ∙ w.in_ok-dotted.ensures)) c.loop-path.invariant)
      | in_default w ↦ rw w.packages-is
          (let gives = ap (option_map dotted)
          (rw (c.path_of.ensures, c.as_slice-in-loop-path.ensures.value, c.in_ok-name.ensures, c.as_slice.ensures)
          at (sym w.in_default.ensures)) in
          grown_none package_in paths at path old c.loop-path-test.true c.path-item.is gives c.loop-path.invariant)
    ]

pub returns : goal.returns
returns c =
    let all = take_all c.loop-path.path-index c.args.paths.now (omega arith) in
    let are = c.loop-path.invariant ∙ ap (filter_map (λ path. named_package (resource_name c.args.module.now path))) all
    ∙ filtered_map named_package (resource_name c.args.module.now) c.args.paths.now in
    rw (are, class_packages_are (map (resource_name c.args.module.now) c.args.paths.now)) at c.rising.ensures
