-- The contents of resources, from what was answered for each.
use Rattle.std.proofs.Common.{◌≡◌, ◌≢◌, inl, inr, ℕ, List, [], ◌∷◌, ◌++◌, map, All, AllPairs, None, Result, Ok, Err}
use Rattle.std.proofs.Common.{refl, sym, ap, ◌∙◌, subst}
use Rattle.std.proofs.lemmas.List.Elements.{All-cons, All-head, All-nil, All-tail}
use Rattle.std.specs.List.{AllZip}
use Rattle.jm_bytes.proofs.Pairs.{pairs_map}
use Rattle.jm_bytes.specs.declared.faults.Or.{Or}
use Rattle.jm_bytes.specs.declared.faults.Or.TheVariants as or
use Rattle.jm_bytes.specs.declared.words.Order.{Order}
use Rattle.jm_bytes.specs.Results.{IfAnswered}
use Rattle.jm_form.specs.Layout.{Written}
use Rattle.jm_form.specs.Places.{strings}
use Rattle.jm_link.specs.declared.linking.LinkStop.{LinkStop}
use Rattle.jm_link.specs.declared.linking.LinkStop.TheVariants as stop
use Rattle.jm_link.specs.Steps.{stop_of_fault}
use Rattle.jm_modset.proofs.ReadLaws.{name_is_new}
use Rattle.jm_packed.specs.declared.packed.PackedFault.{PackedFault}
use Rattle.jm_packed.specs.Packed.{ContentComes}
use Rattle.jm_pool.specs.Pairs.{bytes_of, names_of}
use Rattle.jm_reader.specs.Look.{head}
use Rattle.jm_texts.specs.declared.refusal.Refusal.TheVariants as refusal
use Rattle.jm_decompress.specs.declared.held.HeldResource.{HeldResource}
use Rattle.jm_decompress.specs.declared.resources.StoredResource.{StoredResource}
use Rattle.jm_decompress.specs.Decompressed.{ContentIs, IsContentOf, stored_bytes}
use Rattle.jm_decompress.specs.Steps.{AreHeld, AreTextsOf, ContentGives, ContentsGive, IsHeld, NewAtEach, PutsAll, had}
use Rattle.jm_decompress.proofs.ResourceLaws.{Apart}

abbrev pub Answer : Type 0
Answer = Result Written LinkStop

-- the content of a resource can't be had
pub not_had : (b : List ℕ) (r : StoredResource) (name : List ℕ) (error : Or PackedFault) (order : Order) (texts stored : List ℕ)
    → name ≡ r.name → order ≡ (head b).order → texts ≡ strings b (head b) → stored ≡ stored_bytes b r.row
    → IfAnswered (ContentComes order texts r.row stored) (Err error)
    → ContentGives b r (Err (stop_of_fault (λ fault. refusal.Packed name fault) error))
not_had b r name (or.Fault fault) order texts stored same one two three comes =
    (fault, rw (one, two, three) at comes, ap (λ (n : List ℕ). refusal.Packed n fault) same)
not_had b r name or.Memory order texts stored same one two three comes = tt

-- what was answered of resources that stand with their stored bytes
abbrev pub HeldGives : Order → List ℕ → HeldResource → Answer → Type 0
HeldGives order texts h answer = (b : List ℕ) → AreTextsOf b order texts → IsHeld b h → ContentGives b h.resource answer

-- is the answer for their resources
pub gives_each : (b : List ℕ) (order : Order) (texts : List ℕ) → AreTextsOf b order texts → (hs : List HeldResource)
    (all : List Answer) → AreHeld b hs → AllZip (HeldGives order texts) hs all → AllZip (ContentGives b) (map (λ h. h.resource) hs) all
gives_each b order texts are [] [] held zipped = tt
gives_each b order texts are [] (a ∷ all) held zipped = absurd zipped
gives_each b order texts are (h ∷ hs) [] held zipped = absurd zipped
gives_each b order texts are (h ∷ hs) (a ∷ all) held zipped = (
  zipped.0 b are (All-head (IsHeld b) h hs held),
  gives_each b order texts are hs all (All-tail (IsHeld b) h hs held) zipped.1,
)

-- the resources of pairs that were had, of the answer after these, and of the answers behind it
record Parts (b : List ℕ) (rs : List StoredResource) (done : List Written) (one : Answer) : Type 0 where
  pub front : List StoredResource
  pub item : StoredResource
  pub back : List StoredResource
  pub is : rs ≡ front ++ item ∷ back
  pub before : AllZip (IsContentOf b) front done
  pub at : ContentGives b item one

parts : (b : List ℕ) (rs : List StoredResource) (done : List Written) (one : Answer) (rest : List Answer)
    → AllZip (ContentGives b) rs (map had done ++ one ∷ rest) → Parts b rs done one
parts b [] [] one rest zipped = absurd zipped
parts b (r ∷ rs) [] one rest zipped = record { front = []; item = r; back = rs; is = refl; before = tt; at = zipped.0 }
parts b [] (p ∷ done) one rest zipped = absurd zipped
parts b (r ∷ rs) (p ∷ done) one rest zipped =
    let later = parts b rs done one rest zipped.1 in
    record {
      front = r ∷ later.front;
      item = later.item;
      back = later.back;
      is = ap (λ ss. r ∷ ss) later.is;
      before = (zipped.0, later.before);
      at = later.at;
    }

-- the pairs have the names of their resources
pub same_names : (b : List ℕ) (rs : List StoredResource) (ps : List Written) → AllZip (IsContentOf b) rs ps
    → names_of ps ≡ map (λ r. r.name) rs
same_names b [] [] zipped = refl
same_names b [] (p ∷ ps) zipped = absurd zipped
same_names b (r ∷ rs) [] zipped = absurd zipped
same_names b (r ∷ rs) (p ∷ ps) zipped =
    ap (λ name. name ∷ names_of ps) zipped.0.0 ∙ ap (λ names. r.name ∷ names) (same_names b rs ps zipped.1)

-- so each name is new where it is put
pub new_at_each : (b : List ℕ) (rs : List StoredResource) (all : List Answer) → AllZip (ContentGives b) rs all → AllPairs Apart rs
    → NewAtEach all
new_at_each b rs all zipped differ done p rest is =
    let cut = parts b rs done (Ok p) rest (subst (AllZip (ContentGives b) rs) is zipped) in
    let apart = pairs_map (λ (m n : List ℕ). m ≢ n) (λ (r : StoredResource). r.name) rs differ in
    subst (λ name. bytes_of name done ≡ None) (sym cut.at.0)
    (name_is_new (λ (r : StoredResource). r.name) rs cut.front cut.item cut.back done apart (sym cut.is)
    (same_names b cut.front done cut.before))

all_had : (b : List ℕ) (rs : List StoredResource) (ps : List Written) → AllZip (ContentGives b) rs (map had ps)
    → AllZip (IsContentOf b) rs ps
all_had b [] [] zipped = tt
all_had b [] (p ∷ ps) zipped = absurd zipped
all_had b (r ∷ rs) [] zipped = absurd zipped
all_had b (r ∷ rs) (p ∷ ps) zipped = (zipped.0, all_had b rs ps zipped.1)

abbrev pub HasContent : List ℕ → StoredResource → Type 0
HasContent b r = (content : List ℕ) × ContentIs b r (Ok content)

each_has : (b : List ℕ) (rs : List StoredResource) (ps : List Written) → AllZip (IsContentOf b) rs ps → All (HasContent b) rs
each_has b [] ps zipped = All-nil (HasContent b)
each_has b (r ∷ rs) [] zipped = absurd zipped
each_has b (r ∷ rs) (p ∷ ps) zipped = All-cons (HasContent b) r rs (p.1, zipped.0.1) (each_has b rs ps zipped.1)

-- all contents, or the first that can't be had
pub contents_given : (b : List ℕ) (rs : List StoredResource) (all : List Answer) (result : Result (List Written) LinkStop)
    → AllZip (ContentGives b) rs all → PutsAll all result → ContentsGive b rs result
contents_given b rs all (Ok pool) zipped is = all_had b rs pool (subst (AllZip (ContentGives b) rs) is zipped)
contents_given b rs all (Err given) zipped (inl is) = subst (λ (s : LinkStop). ContentsGive b rs (Err s)) (sym is) tt
contents_given b rs all (Err given) zipped (inr (done, rest, is)) =
    first given (parts b rs done (Err given) rest (subst (AllZip (ContentGives b) rs) is zipped))
  where
    first : (given : LinkStop) → Parts b rs done (Err given) → ContentsGive b rs (Err given)
    first (stop.Refused r) cut = record {
      before = cut.front;
      resource = cut.item;
      behind = cut.back;
      is = cut.is;
      had = each_has b cut.front done cut.before;
      refused = cut.at;
    }
    first (stop.NotThere listed) cut = cut.at
    first stop.Outside cut = cut.at
    first stop.Memory cut = tt
