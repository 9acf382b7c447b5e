use Rattle.std.proofs.Common.{◌≡◌, ◌∙◌, ℕ, List, IfOk, ap, subst}
use Rattle.jm_class.specs.Classes.{ClassData, class_text}
use Rattle.jm_gen.specs.Generated.{class_path, class_with, source_name}
use Rattle.jm_gen.proofs.classes.class_bytes.Goals as goal

pub returns : goal.returns
returns c =
    let path = c.as_slice.result.now in
    let source = c.as_slice-2.result.now in
    let value = c.to_be_bytes-value.result in
    let source_is = c.as_slice-2.ensures.value ∙ c.in_ok-source.ensures in
    subst (λ (d : ClassData). IfOk c.write.result (λ text. text ≡ class_text d))
    (c.in_ok-made.ensures ∙ ap (λ (p : List ℕ). class_with p source value) (c.as_slice.ensures.value ∙ c.in_ok-path.ensures)
    ∙ ap (λ (s : List ℕ). class_with (class_path c.args.number c.args.class) s value) source_is
    ∙ ap (λ (v : List ℕ). class_with (class_path c.args.number c.args.class) (source_name c.args.class) v) c.to_be_bytes-value.ensures)
    c.write.ensures.text
