-- Contents that were read on a shelf that tells its files: they are those of the files.
use Rattle.std.proofs.Common.{◌≡◌, ℕ, List, [], ◌∷◌, map, All, Option, Some, None, IfSome, option_map, refl, sym, ap, ◌∙◌}
use Rattle.std.proofs.lemmas.List.Elements.{All-head, All-tail}
use Rattle.jm_bytes.proofs.Choice.{same_some}
use Rattle.jm_filed.specs.declared.extent.Extent.{Extent}
use Rattle.jm_filed.specs.Filed.{IsReadAt, content_at}
use Rattle.jm_form.specs.Layout.{Written}
use Rattle.jm_outside.specs.Files.{Files, file, part}
use Rattle.jm_modset.specs.declared.files.Content.{Content}
use Rattle.jm_modset.specs.declared.files.Content.TheVariants as content
use Rattle.jm_modset.specs.declared.files.LinkFile.{LinkFile}
use Rattle.jm_modset.specs.Files.{content_in, written_in}
use Rattle.jm_modset.specs.Parts.{AreReadAs, IsContentOf}

-- the file at the image's path has these bytes, if the content is a part of an image
abbrev pub IsImageOf : Files → List ℕ → List ℕ → Content → Type 0
IsImageOf files image b (content.File path) = Unit {0}
IsImageOf files image b (content.Part extent) = file files image ≡ Some b

-- what was described of a file is what stands there
abbrev pub IsAsDescribed : Files → List ℕ → LinkFile → Type 0
IsAsDescribed files b f = IfSome f.described (λ d. d ≡ content_in files b f.content)

part_told : (files : Files) (image b : List ℕ) (x : Extent) (text : List ℕ) → file files image ≡ Some b
    → IsReadAt (Some files) image x text → text ≡ content_at b x
part_told files image b x text at read =
    sym (same_some (content_at b x) text (sym (ap (λ o. option_map (λ bytes. part bytes x.at x.size) o) at) ∙ read.shown))

-- one content
content_told : (files : Files) (image b : List ℕ) (c : Content) (described : Option (List ℕ)) (text : List ℕ)
    → IsImageOf files image b c → IfSome described (λ d. d ≡ content_in files b c) → IsContentOf (Some files) image c described text
    → text ≡ content_in files b c
content_told files image b (content.File path) described text at told had = had.1
content_told files image b (content.Part extent) (Some d) text at told had = had ∙ told
content_told files image b (content.Part extent) None text at told had = part_told files image b extent text at had

-- the resources that were read are those of the files, on told files and in the image at its path
pub read_told : (files : Files) (image b : List ℕ) (fs : List LinkFile) (rs : List Written)
    → All (λ f. IsImageOf files image b f.content) fs → All (IsAsDescribed files b) fs → AreReadAs (Some files) image fs rs
    → rs ≡ map (written_in files b) fs
read_told files image b [] [] at told read = refl
read_told files image b [] (r ∷ rs) at told read = absurd read
read_told files image b (f ∷ fs) [] at told read = absurd read
read_told files image b (f ∷ fs) (r ∷ rs) at told read =
    let bytes = content_told files image b f.content f.described r.1 (All-head (λ g. IsImageOf files image b g.content) f fs at)
    (All-head (IsAsDescribed files b) f fs told) read.0.1 in
    let one : r ≡ written_in files b f = ap (λ (n : List ℕ). (n, r.1)) read.0.0 ∙ ap (λ (t : List ℕ). (f.name, t)) bytes in
    let rest = read_told files image b fs rs (All-tail (λ g. IsImageOf files image b g.content) f fs at)
    (All-tail (IsAsDescribed files b) f fs told) read.1 in
    ap (λ (s : Written). s ∷ rs) one ∙ ap (λ ss. written_in files b f ∷ ss) rest

-- and where the file at the image's path has these bytes, whatever the files are
pub image_told : (files : Files) (image b : List ℕ) (c : Content) → file files image ≡ Some b → IsImageOf files image b c
image_told files image b (content.File path) at = tt
image_told files image b (content.Part extent) at = at
