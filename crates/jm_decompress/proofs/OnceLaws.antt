-- A `decompress` of the bytes of an image comes to one result.
use Rattle.std.proofs.Common.{◌≡◌, ℕ, List, [], ◌∷◌, ◌++◌, map, get_or, length, All, AllPairs, IsTrue}
use Rattle.std.proofs.Common.{Option, Some, None, Result, Ok, Err, refl, sym, ap, ◌∙◌, subst, arith}
use Rattle.std.proofs.lemmas.List.{length-map}
use Rattle.std.proofs.lemmas.List.Elements.{All-head, All-tail}
use Rattle.std.proofs.lemmas.List.Sorted.{Contains-permutation, IsPermutation-sym}
use Rattle.std.proofs.Math.ListN.{get_or-map}
use Rattle.std.specs.List.{AllZip}
use Rattle.jm_bytes.proofs.ByteOrderLaws.{before_or, one_way}
use Rattle.jm_bytes.proofs.SameOrder.{same_order}
use Rattle.jm_bytes.specs.ByteOrder.{is_before}
use Rattle.jm_form.specs.Layout.{Written}
use Rattle.jm_form.specs.Places.{strings}
use Rattle.jm_link.specs.Linked.{LinkedImage}
use Rattle.jm_packed.proofs.PackedLaws.{one_content}
use Rattle.jm_packed.specs.declared.packed.PackedFault.{PackedFault}
use Rattle.jm_reader.specs.Look.{head}
use Rattle.jm_texts.specs.declared.refusal.Refusal.{Refusal}
use Rattle.jm_texts.specs.declared.refusal.Refusal.TheVariants as refusal
use Rattle.jm_decompress.specs.declared.resources.StoredResource.{StoredResource}
use Rattle.jm_decompress.specs.Decompressed.{AreByName, AreContents, ContentIs, DecompressesTo, IsContentOf, IsJudgedTo}
use Rattle.jm_decompress.specs.Decompressed.{IsLaidTo, IsPacked, index_refusal, named, stored_bytes, stored_resources}
use Rattle.jm_decompress.proofs.ContentLaws.{HasContent}
use Rattle.jm_decompress.proofs.ResourceLaws.{resources_differ}

-- There is one list of the resources by name

abbrev Before : StoredResource → StoredResource → Type 0
Before r s = IsTrue (is_before r.name s.name)

resources_rise : (b : List ℕ) (rs : List StoredResource) → AreByName b rs → AllPairs Before rs
resources_rise b rs are i j d before inside =
    let same : length (map named rs) ≡ length rs = length-map rs named in
    let sorted = are.sorted i j (named d) before (omega (arith, same, inside)) in
    before_or (get_or rs i d).name (get_or rs j d).name (resources_differ b rs are i j d before inside)
    (rw (get_or-map named rs i d, get_or-map named rs j d) at sorted)

resources_once : (b : List ℕ) (rs ss : List StoredResource) → AreByName b rs → AreByName b ss → rs ≡ ss
resources_once b rs ss one other =
    let all = stored_resources b in
    same_order Before (λ r s before behind. one_way r.name s.name before behind) rs ss (resources_rise b rs one)
    (resources_rise b ss other)
    (λ r there. Contains-permutation all ss r other.moved (Contains-permutation rs all r (IsPermutation-sym all rs one.moved) there))
    (λ r there. Contains-permutation all rs r one.moved (Contains-permutation ss all r (IsPermutation-sym all ss other.moved) there))

-- A content has one answer

content_once : (b : List ℕ) (r : StoredResource) (x y : Result (List ℕ) PackedFault) → ContentIs b r x → ContentIs b r y → x ≡ y
content_once b r x y one other = one_content (head b).order (strings b (head b)) r.row (stored_bytes b r.row) x y one other

not_both : (content : List ℕ) (fault : PackedFault) → ◌≡◌ {A = Result (List ℕ) PackedFault} (Ok content) (Err fault) → ⊥
not_both content fault same = cc

never_both : (b : List ℕ) (r : StoredResource) (given : Refusal) → HasContent b r → IsPacked b r given → ⊥
never_both b r given (content, is) (fault, lacks, refused) =
    not_both content fault (content_once b r (Ok content) (Err fault) is lacks)

same_content : (x y : List ℕ) → ◌≡◌ {A = Result (List ℕ) PackedFault} (Ok x) (Ok y) → x ≡ y
same_content x y same = cc

same_fault : (x y : PackedFault) → ◌≡◌ {A = Result (List ℕ) PackedFault} (Err x) (Err y) → x ≡ y
same_fault x y same = cc

packed_once : (b : List ℕ) (r : StoredResource) (given other : Refusal) → IsPacked b r given → IsPacked b r other → given ≡ other
packed_once b r given other (fault, is, refused) (fault', is', refused') =
    let same = same_fault fault fault' (content_once b r (Err fault) (Err fault') is is') in
    refused ∙ ap (λ f. refusal.Packed r.name f) same ∙ sym refused'

contents_once : (b : List ℕ) (rs : List StoredResource) (ps qs : List Written) → AllZip (IsContentOf b) rs ps
    → AllZip (IsContentOf b) rs qs → ps ≡ qs
contents_once b [] [] [] one other = refl
contents_once b [] [] (q ∷ qs) one other = absurd other
contents_once b [] (p ∷ ps) qs one other = absurd one
contents_once b (r ∷ rs) [] qs one other = absurd one
contents_once b (r ∷ rs) (p ∷ ps) [] one other = absurd other
contents_once b (r ∷ rs) ((name, content) ∷ ps) ((name', content') ∷ qs) one other =
    let named : name ≡ name' = one.0.0 ∙ sym other.0.0 in
    let had = same_content content content' (content_once b r (Ok content) (Ok content') one.0.1 other.0.1) in
    rw (named, had, contents_once b rs ps qs one.1 other.1) refl

-- all contents are had, or one can't be
contents_or : (b : List ℕ) (front : List StoredResource) (r : StoredResource) (back : List StoredResource) (given : Refusal)
    (ps : List Written) → AllZip (IsContentOf b) (front ++ r ∷ back) ps → IsPacked b r given → ⊥
contents_or b [] r back given [] zipped packed = absurd zipped
contents_or b [] r back given (p ∷ ps) zipped packed = never_both b r given (p.1, zipped.0.1) packed
contents_or b (s ∷ front) r back given [] zipped packed = absurd zipped
contents_or b (s ∷ front) r back given (p ∷ ps) zipped packed = contents_or b front r back given ps zipped.1 packed

heads : (r s : StoredResource) (rs ss : List StoredResource) → r ∷ rs ≡ s ∷ ss → r ≡ s
heads r s rs ss same = cc

tails : (r s : StoredResource) (rs ss : List StoredResource) → r ∷ rs ≡ s ∷ ss → rs ≡ ss
tails r s rs ss same = cc

-- one resource is the first whose content can't be had
firsts_once : (b : List ℕ) (front other : List StoredResource) (r s : StoredResource) (back rest : List StoredResource)
    (given due : Refusal) → front ++ r ∷ back ≡ other ++ s ∷ rest → All (HasContent b) front → All (HasContent b) other
    → IsPacked b r given → IsPacked b s due → given ≡ due
firsts_once b [] [] r s back rest given due same had had' one two =
    packed_once b s given due (subst (λ (t : StoredResource). IsPacked b t given) (heads r s back rest same) one) two
firsts_once b [] (t ∷ other) r s back rest given due same had had' one two =
    absurd (never_both b t given (All-head (HasContent b) t other had') (subst (λ (u : StoredResource). IsPacked b u given)
    (heads r t back (other ++ s ∷ rest) same) one))
firsts_once b (t ∷ front) [] r s back rest given due same had had' one two =
    absurd (never_both b t due (All-head (HasContent b) t front had) (subst (λ (u : StoredResource). IsPacked b u due)
    (sym (heads t s (front ++ r ∷ back) rest same)) two))
firsts_once b (t ∷ front) (u ∷ other) r s back rest given due same had had' one two =
    firsts_once b front other r s back rest given due (tails t u (front ++ r ∷ back) (other ++ s ∷ rest) same)
    (All-tail (HasContent b) t front had) (All-tail (HasContent b) u other had') one two

had_once : (b : List ℕ) (rs : List StoredResource) (x y : Result (List Written) Refusal) → AreContents b rs x → AreContents b rs y
    → x ≡ y
had_once b rs (Ok ps) (Ok qs) one other = ap (λ cs. Ok cs) (contents_once b rs ps qs one other)
had_once b rs (Ok ps) (Err given) one first =
    absurd (contents_or b first.before first.resource first.behind given ps (subst (λ ss. AllZip (IsContentOf b) ss ps) first.is one)
    first.refused)
had_once b rs (Err given) (Ok qs) first other =
    absurd (contents_or b first.before first.resource first.behind given qs (subst (λ ss. AllZip (IsContentOf b) ss qs) first.is other)
    first.refused)
had_once b rs (Err given) (Err due) one two =
    ap (λ r. Err r) (firsts_once b one.before two.before one.resource two.resource one.behind two.behind given due
    (sym one.is ∙ two.is) one.had two.had one.refused two.refused)

-- The result

laid_once : (b : List ℕ) (had : Result (List Written) Refusal) (r s : Result LinkedImage Refusal) → IsLaidTo b had r → IsLaidTo b had s
    → r ≡ s
laid_once b (Ok contents) r s is other = is ∙ sym other
laid_once b (Err given) r s is other = is ∙ sym other

judged_once : (b : List ℕ) (rs : List StoredResource) (refused : Option Refusal) (r s : Result LinkedImage Refusal)
    → IsJudgedTo b rs refused r → IsJudgedTo b rs refused s → r ≡ s
judged_once b rs (Some given) r s is other = is ∙ sym other
judged_once b rs None r s (had, contents, to) (had', contents', to') =
    laid_once b had' r s (subst (λ x. IsLaidTo b x r) (had_once b rs had had' contents contents') to) to'

-- these bytes come to one result
pub decompresses_once : (b : List ℕ) (r s : Result LinkedImage Refusal) → DecompressesTo b r → DecompressesTo b s → r ≡ s
decompresses_once b r s (rs, named, to) (ss, named', to') =
    let same = resources_once b rs ss named named' in
    judged_once b ss (index_refusal ss) r s (subst (λ (us : List StoredResource). IsJudgedTo b us (index_refusal us) r) same to) to'
