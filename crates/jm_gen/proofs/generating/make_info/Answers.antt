use Rattle.std.proofs.Common.{◌∙◌, List, ℕ, IsUtf8, sym, subst, codes}
use Rattle.jm_gen.proofs.NameLaws.{info_rest, path_is_text}
use Rattle.jm_gen.proofs.generating.make_info.Goals as goal

pub make_file-requires : goal.make_file-requires
make_file-requires g c =
    let place = c.args.place in
    let path = c.as_slice.ensures.value ∙ c.in_ok-path.ensures in
    record {
      text = subst (λ (p : List ℕ). IsUtf8 p) (sym path)
          (path_is_text place.dir.now place.number (codes "module-info.class") c.requires.text info_rest);
    }

pub returns : goal.returns
returns g c =
    let path = c.as_slice.ensures.value ∙ c.in_ok-path.ensures in
    let bytes = c.as_slice-2.ensures ∙ c.in_ok-bytes.ensures in
    record {
      ok = rw (path, bytes) at c.make_file.ensures.ok;
      err = rw (path, bytes) at c.make_file.ensures.err;
      handed = c.make_file.ensures.handed;
      faults = c.make_file.ensures.faults;
    }
