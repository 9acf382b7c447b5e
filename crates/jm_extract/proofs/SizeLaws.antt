-- How many bytes the contents of the taken entries have.
use Rattle.std.proofs.Common.{◌≡◌, ◌+◌, ℕ, List, [], ◌∷◌, length, map, Option, None, refl, sym, ap, ◌∙◌}
use Rattle.std.specs.List.{sum_by}
use Rattle.std.proofs.lemmas.List.Elements.{All-head, All-tail}
use Rattle.std.proofs.lemmas.List.Sums.{sum_by-cons}
use Rattle.jm_names.specs.ByName.{Named}
use Rattle.jm_filed.specs.Filed.{IsWithin}
use Rattle.jm_filed.proofs.ExtentLaws.{content_length}
use Rattle.jm_filed.specs.declared.taking.TakenEntry.{TakenEntry}
use Rattle.jm_texts.specs.declared.refusal.Refusal.{Refusal}
use Rattle.jm_extract.specs.Extracted.{due_size, refusal_of, unless_refused}
use Rattle.jm_extract.specs.Filed.{sizes}
use Rattle.jm_extract.proofs.ExtractLaws.{free_due}
use Rattle.jm_filed.specs.Taken.{LieWithin, taken_as}

-- the contents have as many bytes together as the index says
pub sizes_taken : (size : ℕ) (b : List ℕ) (ts : List TakenEntry) → length b ≡ size → LieWithin size ts
    → sum_by (λ (e : Named). length e.1) (map (taken_as b) ts) ≡ sizes ts
sizes_taken size b [] long within = refl
sizes_taken size b (t ∷ ts) long within =
    let lies : TakenEntry → Type 0 = λ t. IsWithin size t.content in
    let own = content_length size b t.content long (All-head lies t ts within) in
    let rest = sizes_taken size b ts long (All-tail lies t ts within) in
    sum_by-cons (λ (e : Named). length e.1) (taken_as b t) (map (taken_as b) ts)
    ∙ ap (λ n. n + sum_by (λ (e : Named). length e.1) (map (taken_as b) ts)) own ∙ ap (λ n. t.content.size + n) rest
    ∙ sym (sum_by-cons (λ (t : TakenEntry). t.content.size) t ts)

-- and so have those that are due
pub size_due : (size : ℕ) (b : List ℕ) (ts : List TakenEntry) (all : List Named) → length b ≡ size → LieWithin size ts
    → map (taken_as b) ts ≡ all → ◌≡◌ {A = Option Refusal} None (refusal_of (map (taken_as b) ts)) → due_size (unless_refused all) ≡ sizes ts
size_due size b ts all long within same free =
    ap due_size (free_due (map (taken_as b) ts) all same free) ∙ sizes_taken size b ts long within
