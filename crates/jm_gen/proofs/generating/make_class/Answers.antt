use Rattle.std.proofs.Common.{◌∙◌, ◌++◌, List, ℕ, IsUtf8, ap, sym, subst, codes}
use Rattle.jm_gen.specs.Generated.{class_path, path_in}
use Rattle.jm_gen.proofs.NameLaws.{class_rest, path_is_text}
use Rattle.jm_gen.proofs.generating.make_class.Goals as goal

pub make_file-requires : goal.make_file-requires
make_file-requires g c =
    let place = c.args.place in
    let rest = c.as_slice.ensures.value ∙ c.in_ok-extend.ensures.ok ∙ ap (λ (p : List ℕ). p ++ codes ".class") c.in_ok-rest.ensures in
    let path = c.as_slice-2.ensures.value ∙ c.in_ok-path.ensures ∙ ap (path_in place.dir.now place.number) rest in
    record {
      text = subst (λ (p : List ℕ). IsUtf8 p) (sym path)
          (path_is_text place.dir.now place.number (class_path place.number c.args.class ++ codes ".class") c.requires.text
          (class_rest place.number c.args.class));
    }

pub returns : goal.returns
returns g c =
    let rest = c.as_slice.ensures.value ∙ c.in_ok-extend.ensures.ok ∙ ap (λ (p : List ℕ). p ++ codes ".class") c.in_ok-rest.ensures in
    let path = c.as_slice-2.ensures.value ∙ c.in_ok-path.ensures ∙ ap (path_in c.args.place.dir.now c.args.place.number) rest in
    let bytes = c.as_slice-3.ensures ∙ c.in_ok-bytes.ensures in
    record {
      ok = rw (path, bytes) at c.make_file.ensures.ok;
      err = rw (path, bytes) at c.make_file.ensures.err;
      handed = c.make_file.ensures.handed;
      faults = c.make_file.ensures.faults;
    }
