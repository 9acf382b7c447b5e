use Rattle.std.proofs.Common.{◌∙◌, Ok, ap, sym}
use Rattle.jm_decompress.specs.Decompressed.{index_refusal}
use Rattle.jm_decompress.proofs.ResourceLaws.{names_fit}
use Rattle.jm_decompress.proofs.told.judged_resources.Goals as goal

pub returns-in-Some-clause-judges : goal.returns-in-Some-clause-judges
returns-in-Some-clause-judges g c b file =
    let told = c.in_ok-told.told in (
      told.resources,
      c.in_ok-told.ensures.named b file,
      ap index_refusal (sym c.as_slice.ensures) ∙ sym c.in_ok-refusal.ensures.refusal ∙ c.in-Some.is,
    )

pub returns-in-None-clause-judges : goal.returns-in-None-clause-judges
returns-in-None-clause-judges g c b file =
    let told = c.in_ok-told.told in
    let named = c.in_ok-told.ensures.named b file in
    let sound = c.index_refusal.ensures.sound (c.in_ok-refusal.was ∙ ap (λ r. Ok r) c.in-None.is) in
    record {
      named = named;
      order = c.in_ok-told.ensures.order b file;
      free = ap index_refusal (sym c.as_slice.ensures) ∙ sym c.in_ok-refusal.ensures.refusal ∙ c.in-None.is;
      fit = names_fit b told.resources named (rw c.as_slice.ensures at sound);
    }
