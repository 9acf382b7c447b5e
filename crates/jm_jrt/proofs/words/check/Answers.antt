use Rattle.std.proofs.Common.{◌≡◌, Some, ap, option_map, sym, ◌∙◌}
use Rattle.jm_jrt.specs.declared.jrt_error.JrtError.TheVariants.{BadNode}
use Rattle.jm_jrt.specs.Told.{fault_of}
use Rattle.jm_jrt.proofs.FileLaws.{all_is_told, fault_is_told, file_told}
use Rattle.jm_jrt.proofs.words.check.Goals as goal

pub returns-in-Some-clause-told : goal.returns-in-Some-clause-told
returns-in-Some-clause-told g c b file =
    let f = c.args.index.now.bytes in
    let content = c.args.content.now in
    let form = c.args.form in
    let fault : fault_of f content form ≡ Some (BadNode c.in-Some.at)
    = ap (option_map (λ at. BadNode at)) (sym c.first_bad_word.ensures.place ∙ c.in-Some.is) in
    fault_is_told f content form (BadNode c.in-Some.at) fault
    ∙ file_told f c.args.index.now.length c.header-header.result c.header-header.ensures.front c.header-header.ensures.valid b file
    content form

pub returns-in-None-clause-sound : goal.returns-in-None-clause-sound
returns-in-None-clause-sound g c = ap (option_map (λ at. BadNode at)) (sym c.first_bad_word.ensures.place ∙ c.in-None.is)

pub returns-in-None-clause-told : goal.returns-in-None-clause-told
returns-in-None-clause-told g c b file =
    let f = c.args.index.now.bytes in
    let content = c.args.content.now in
    let form = c.args.form in
    all_is_told f content form (returns-in-None-clause-sound g c)
    ∙ file_told f c.args.index.now.length c.header-header.result c.header-header.ensures.front c.header-header.ensures.valid b file
    content form
