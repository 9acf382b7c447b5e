-- Nodes that are judged while their contents are read.
use Rattle.std.proofs.Common.{◌≡◌, ℕ, ◌+◌, ◌<◌, List, [], ◌∷◌, ◌++◌, drop, get_or, length, map, take, true, Option, Some, None, codes}
use Rattle.std.proofs.Common.{Result, Ok, Err, IfOk, refl, sym, ap, subst, ◌∙◌, arith}
use Rattle.std.proofs.lemmas.List.{drop_all, length-append, map-append, take-append-drop, take_more}
use Rattle.jm_bytes.specs.Checks.{first_fault}
use Rattle.jm_bytes.proofs.CheckLaws.{first_fault_append_none, first_fault_append_some}
use Rattle.jm_filed.specs.Filed.{IsFiled, IsReadAt}
use Rattle.jm_filed.specs.Taken.{LieWithin, nodes, taken_as}
use Rattle.jm_filed.specs.declared.taking.TakenEntry.{TakenEntry}
use Rattle.jm_filed.proofs.FirstReadLaws.{first_among, first_more, first_read}
use Rattle.jm_form.specs.declared.container.Header.{Header}
use Rattle.jm_form.specs.Head.{IsFileOf}
use Rattle.jm_names.specs.ByName.{Named}
use Rattle.jm_names.specs.Names.{is_node}
use Rattle.jm_outside.specs.Files.{Files}
use Rattle.jm_outside.specs.Shelves.{ShelfFailed, ShelfSeen}
use Rattle.jm_outside.specs.declared.shelf.ShelfError.{ShelfError}
use Rattle.jm_outside.specs.declared.shelf.ShelfError.TheVariants as shelf_error
use Rattle.jm_reader.specs.Listing.{IsIndex}
use Rattle.jm_valid.specs.Opened.{Front}
use Rattle.jm_words.specs.declared.tasks.ImageWork.TheVariants as work
use Rattle.jm_inspect.specs.FileParts.{IsOpenFront}
use Rattle.jm_inspect.specs.NodeSteps.{IsOfDamage, JudgesRead}
use Rattle.jm_inspect.specs.Outcome.{reading, refused, verified}
use Rattle.jm_inspect.specs.Sinks.{Seen}
use Rattle.jm_inspect.specs.Steps.{PutDoes, StepComesTo, status_of}
use Rattle.jm_inspect.specs.Stops.{stop_of_shelf}
use Rattle.jm_inspect.specs.Texts.{complaint_text}
use Rattle.jm_inspect.specs.VerifyText.{bad_node, no_node, nodes_complaint}
use Rattle.jm_inspect.specs.Works.{WorkComesTo}
use Rattle.jm_inspect.specs.World.{world}
use Rattle.jm_inspect.specs.declared.complaint.Complaint.{Complaint}
use Rattle.jm_inspect.specs.declared.status.Status.{Status}
use Rattle.jm_inspect.specs.declared.status.Status.TheVariants as status
use Rattle.jm_inspect.specs.declared.stop.Stop.{Stop}
use Rattle.jm_inspect.specs.declared.stop.Stop.TheVariants as stop
use Rattle.jm_inspect.proofs.ContentLaws.{content_put, is_index}
use Rattle.jm_inspect.proofs.FrontLaws.{filed_there, index_there}
use Rattle.jm_inspect.proofs.StepLaws.{complained, fails_at_once}

-- One check

one_check : (check : Option Complaint) → first_fault (check ∷ []) ≡ check
one_check None = refl
one_check (Some given) = refl

module _ {index : Front} {told : Option Files} {path : List ℕ} where
  -- no node was judged
  pub none_judged : JudgesRead index told path [] None
  none_judged = record { read = []; are = tt; all = λ none. refl; judged = λ b file. refl; damage = tt }

  -- one was
  pub node_judged : (t : TakenEntry) (text : List ℕ) (found : Option Complaint) → IsReadAt told path t.content text
      → ((b : List ℕ) → IsFileOf index.bytes index.length b → found ≡ bad_node b (t.name, text)) → IsOfDamage found
      → JudgesRead index told path (t ∷ []) found
  node_judged t text found read is damage = record {
    read = (t.name, text) ∷ [];
    are = ((refl, read), tt);
    all = λ none. refl;
    judged = λ b file. one_check (bad_node b (t.name, text)) ∙ sym (is b file);
    damage = damage;
  }

  -- more were, after nodes without a bad word
  then_judged : {ts us : List TakenEntry} {found : Option Complaint} → JudgesRead index told path ts None
      → JudgesRead index told path us found → JudgesRead index told path (ts ++ us) found
  then_judged {ts} {us} {found} one two = record {
    read = one.read ++ two.read;
    are = first_more told path ts us one.read two.read (one.all refl) one.are two.are;
    all = λ none. omega (arith, length-append one.read two.read, length-append ts us, one.all refl, two.all none);
    judged = λ b file. ap first_fault (map-append (bad_node b) one.read two.read)
        ∙ first_fault_append_none (map (bad_node b) one.read) (map (bad_node b) two.read) (one.judged b file) ∙ two.judged b file;
    damage = two.damage;
  }

  -- a bad word was found, and no more nodes were
  judged_among : {ts : List TakenEntry} {given : Complaint} (us : List TakenEntry) → JudgesRead index told path ts (Some given)
      → JudgesRead index told path (ts ++ us) (Some given)
  judged_among {ts} {given} us some = record {
    read = some.read;
    are = first_among told path ts us some.read some.are;
    all = λ none. cc;
    judged = some.judged;
    damage = some.damage;
  }

  module _ (ts : List TakenEntry) (i : ℕ) (t : TakenEntry) (within : i < length ts) (is : get_or ts i t ≡ t) where
    more : {found : Option Complaint} → JudgesRead index told path (take i ts) None → JudgesRead index told path (t ∷ []) found
        → JudgesRead index told path (take (i + 1) ts) found
    more {found} before one =
        subst (λ us. JudgesRead index told path us found)
        (sym (take_more ts i t within ∙ ap (λ (u : TakenEntry). take i ts ++ u ∷ []) is)) (then_judged before one)

    -- one more
    pub next_judged : JudgesRead index told path (take i ts) None → JudgesRead index told path (t ∷ []) None
        → JudgesRead index told path (take (i + 1) ts) None
    next_judged before one = more before one

    -- it is the first with a bad word
    pub first_bad : {given : Complaint} → JudgesRead index told path (take i ts) None
        → JudgesRead index told path (t ∷ []) (Some given) → JudgesRead index told path ts (Some given)
    first_bad {given} before one =
        subst (λ us. JudgesRead index told path us (Some given)) (take-append-drop (i + 1) ts)
        (judged_among (drop (i + 1) ts) (more before one))

-- what follows of each complaint follows of the answer
pub on_found : {E : Type 0} (Judges Is : Option Complaint → Type 0) (answer : Result (Option Complaint) E)
    → ((found : Option Complaint) → Judges found → Is found) → IfOk answer Judges → IfOk answer Is
on_found Judges Is (Ok found) follows judges = follows found judges
on_found Judges Is (Err error) follows judges = tt

-- The nodes of an image

module _ (told : Option Files) (path : List ℕ) (front : Front) (opens : IsOpenFront told path front) where
  -- what was judged are the nodes of a file of the front
  pub image_judged : (ts : List TakenEntry) → ((b : List ℕ) → IsFileOf front.bytes front.length b → map (taken_as b) ts ≡ nodes b)
      → LieWithin front.length ts → (found : Option Complaint) → JudgesRead front told path ts found
      → (b : List ℕ) × IsFiled front told path b × (first_fault (map (bad_node b) (nodes b)) ≡ found)
  image_judged ts are within found judges = (b, file.1, go found judges.all (judges.judged b file.1.0))
    where
      read : List Named
      read = judges.read

      index : (h : Header) × IsIndex front.bytes front.length h
      index = is_index told path front opens

      file : (b : List ℕ) × IsFiled front told path b × (map (taken_as b) ts ≡ read ++ map (taken_as b) (drop (length read) ts))
      file = first_read front told path is_node ts are within read judges.are index.0 index.1 (index_there told path front opens)

      b : List ℕ
      b = file.0

      rest : List Named
      rest = map (taken_as b) (drop (length read) ts)

      listed : map (bad_node b) (nodes b) ≡ map (bad_node b) read ++ map (bad_node b) rest
      listed = ap (map (bad_node b)) (sym (are b file.1.0) ∙ file.2) ∙ map-append (bad_node b) read rest

      go : (found : Option Complaint) → (found ≡ None → length read ≡ length ts) → first_fault (map (bad_node b) read) ≡ found
          → first_fault (map (bad_node b) (nodes b)) ≡ found
      go None all none =
          let no_more : map (bad_node b) rest ≡ []
          = ap (λ us. map (bad_node b) (map (taken_as b) us)) (ap (λ n. drop n ts) (all refl) ∙ drop_all (length ts) ts (omega arith)) in
          ap first_fault listed
          ∙ first_fault_append_none (map (bad_node b) read) (map (bad_node b) rest) none
          ∙ ap first_fault no_more
      go (Some given) all some =
          ap first_fault listed ∙ first_fault_append_some (map (bad_node b) read) (map (bad_node b) rest) given some

  -- a root isn't there
  pub no_modules : (given : Complaint)
      → ((b : List ℕ) → IsFileOf front.bytes front.length b → Some given ≡ no_node b (codes "/modules"))
      → (b : List ℕ) × IsFiled front told path b × (nodes_complaint b ≡ Some given)
  no_modules given none =
      let there = filed_there told path front opens in
      let b = there.0 in
      let rest = no_node b (codes "/packages") ∷ map (bad_node b) (nodes b) in
      (b, there.1, ap (λ (check : Option Complaint). first_fault (check ∷ rest)) (sym (none b there.1.0)))

  module _ (modules : (b : List ℕ) → IsFileOf front.bytes front.length b → None ≡ no_node b (codes "/modules")) where
    pub no_packages : (given : Complaint)
        → ((b : List ℕ) → IsFileOf front.bytes front.length b → Some given ≡ no_node b (codes "/packages"))
        → (b : List ℕ) × IsFiled front told path b × (nodes_complaint b ≡ Some given)
    no_packages given none =
        let there = filed_there told path front opens in
        let b = there.0 in
        let rest = map (bad_node b) (nodes b) in (
          b,
          there.1,
          ap (λ (check : Option Complaint). first_fault (check ∷ no_node b (codes "/packages") ∷ rest)) (sym (modules b there.1.0))
              ∙ ap (λ (check : Option Complaint). first_fault (check ∷ rest)) (sym (none b there.1.0)),
        )

    -- both are
    pub roots_there : ((b : List ℕ) → IsFileOf front.bytes front.length b → None ≡ no_node b (codes "/packages"))
        → (found : Option Complaint)
        → (b : List ℕ) × IsFiled front told path b × (first_fault (map (bad_node b) (nodes b)) ≡ found)
        → (b : List ℕ) × IsFiled front told path b × (nodes_complaint b ≡ found)
    roots_there packages found (b, filed, is) =
        let rest = map (bad_node b) (nodes b) in (
          b,
          filed,
          ap (λ (check : Option Complaint). first_fault (check ∷ no_node b (codes "/packages") ∷ rest)) (sym (modules b filed.0))
              ∙ ap (λ (check : Option Complaint). first_fault (check ∷ rest)) (sym (packages b filed.0)) ∙ is,
        )

-- The step

module _ (path : List ℕ) (shelf new : ShelfSeen) (stays : new.told ≡ shelf.told) (source out : Seen (List ℕ)) (front : Front)
    (opens : IsOpenFront shelf.told path front) where
  abbrev Does : Result (Unit {0}) Stop → Seen (List ℕ) → Type 0
  Does answer new_out = StepComesTo (WorkComesTo shelf.told source.told path (work.Verify true)) reading answer
      (world shelf source out) (world new source new_out)

  -- a complaint was found in the nodes
  pub nodes_bad : (given : Complaint) → (b : List ℕ) × IsFiled front shelf.told path b × (nodes_complaint b ≡ Some given)
      → status_of given ≡ status.Damaged → new.faults ≡ shelf.faults → Does (Err (stop.Complaint given)) out
  nodes_bad given (b, filed, is) damage quiet =
      content_put path shelf new stays source out front opens (work.Verify true) b (refused status.Damaged (complaint_text given))
      (Err (stop.Complaint given)) out filed quiet refl (λ t. ap (verified b) is)
      (complained (refused status.Damaged (complaint_text given)) given out out
      (ap (λ (s : Status). refused s (complaint_text given)) (sym damage)) refl)

  -- none was
  pub nodes_good : (answer : Result (Unit {0}) Stop) (new_out : Seen (List ℕ))
      → (b : List ℕ) × IsFiled front shelf.told path b × (nodes_complaint b ≡ None) → new.faults ≡ shelf.faults
      → ((b : List ℕ) → IsFileOf front.bytes front.length b → PutDoes (verified b None) answer out new_out) → Does answer new_out
  nodes_good answer new_out (b, filed, is) quiet puts =
      content_put path shelf new stays source out front opens (work.Verify true) b (verified b None) answer new_out filed quiet refl
      (λ t. ap (verified b) is) (puts b filed.0)

  -- a content wasn't read
  pub nodes_unread : (error : ShelfError) → (error ≡ shelf_error.Failed → ShelfFailed shelf new) → Does (Err (stop_of_shelf error)) out
  nodes_unread shelf_error.Failed rose =
      fails_at_once (WorkComesTo shelf.told source.told path (work.Verify true)) reading (Err stop.Outside) (world shelf source out)
      (world new source out) tt (record { files = stays; source = refl; output = refl }) (λ failed. (refl, rose refl))
  nodes_unread shelf_error.Memory rose =
      fails_at_once (WorkComesTo shelf.told source.told path (work.Verify true)) reading (Err stop.Memory) (world shelf source out)
      (world new source out) tt (record { files = stays; source = refl; output = refl }) (λ failed. cc)
