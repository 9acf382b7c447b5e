-- What `link` and `decompress` do, from what their call answered.
use Rattle.std.proofs.Common.{◌≡◌, ◌∷◌, ◌≤◌, ◌+◌, inl, inr, ℕ, List, [], Option, Some, None, Result, Ok, Err, refl, sym, ap, subst}
use Rattle.std.proofs.Common.{arith, All, IsUtf8}
use Rattle.jm_bytes.proofs.Choice.{same_err}
use Rattle.jm_bytes.specs.declared.words.Order.{Order}
use Rattle.jm_decompress.specs.Decompressed.{DecompressComes, stored_sizes}
use Rattle.jm_decompress.specs.FiledDecompressed.{FiledDecompresses}
use Rattle.jm_form.specs.declared.damage.Damage.{Damage}
use Rattle.jm_filed.specs.Filed.{IsFiled}
use Rattle.jm_form.specs.Damages.{first_damage, stored_damage}
use Rattle.jm_form.specs.Head.{IsFileOf}
use Rattle.jm_outside.specs.Files.{Files}
use Rattle.jm_outside.specs.Shelves.{ShelfFailed, ShelfSeen}
use Rattle.jm_outside.proofs.MadeLaws.{part_alone}
use Rattle.jm_link.specs.declared.linking.LinkStop.{LinkStop}
use Rattle.jm_link.specs.declared.linking.LinkStop.TheVariants as link_stop
use Rattle.jm_link.specs.declared.linking.Summary.{Summary}
use Rattle.jm_texts.specs.declared.refusal.Refusal.{Refusal}
use Rattle.jm_jrt.proofs.TreeLaws.{trees_shown_short}
use Rattle.jm_link.specs.FiledLinked.{AreBytesOf, FiledLinks, IndexedFile}
use Rattle.jm_link.specs.Linked.{LinkedImage, Request}
use Rattle.jm_link.specs.Taken as taken
use Rattle.jm_modset.specs.Found.{Sources}
use Rattle.jm_modset.specs.Parts.{TellsNothing}
use Rattle.jm_outside.specs.Outcome.{Shows}
use Rattle.jm_link.specs.Steps.{LacksBy}
use Rattle.jm_modpath.specs.Listed.{IsBelow}
use Rattle.jm_link.specs.Links.{BreaksOff, ComesTo, IsLaid, LinksBy, path_files, request_of, summary_of}
use Rattle.jm_valid.specs.Opened.{Front}
use Rattle.jm_words.specs.declared.tasks.DecompressTask.{DecompressTask}
use Rattle.jm_words.specs.declared.tasks.LinkTask.{LinkTask}
use Rattle.jm_inspect.specs.declared.complaint.Complaint.TheVariants as complaint
use Rattle.jm_inspect.specs.declared.stop.Stop.{Stop}
use Rattle.jm_inspect.specs.declared.stop.Stop.TheVariants as stop
use Rattle.jm_inspect.specs.FileParts.{IsFileWithout, IsOpenFront, IsOpenFrontBy}
use Rattle.jm_inspect.specs.Outcome.{Outcome, done, not_there, reading, refusing}
use Rattle.jm_commands.specs.KeptOrder.{ordered_by}
use Rattle.jm_commands.specs.LinkText.{decompress_text}
use Rattle.jm_commands.specs.Outcome.{link_outcome, linked}
use Rattle.jm_inspect.specs.Works.{HasFile, StoredComes}
use Rattle.jm_commands.specs.Run.{DecompressComesTo, LinkComesBy, LinkComesOf, LinkComesTo, LinkComesWith, ShowsLinked}
use Rattle.jm_inspect.specs.Steps.{IsFailure, PutDoes, StepComesTo}
use Rattle.jm_inspect.specs.Sinks.{Seen}
use Rattle.jm_commands.specs.Stops.{stop_of_link}
use Rattle.jm_commands.specs.Taken.{LinkTakes, LinkTakesBy, TakesOpened, decompress_size}
use Rattle.jm_inspect.specs.Taken.{TakesFrom, TakesOfFront, front_size}
use Rattle.jm_inspect.specs.World.{World, world}
use Rattle.jm_inspect.proofs.FrontLaws.{filed_there, opened, opened_file, takes_behind, takes_so}
use Rattle.jm_inspect.proofs.StepLaws.{comes_behind, complains, fails_at_once, made_in_part, made_put}
use Rattle.jm_commands.proofs.KeptOrderLaws.{takes_as_asked}

-- an image that is laid out shows the trees of its resources
linked_shown : (order : Order) (result : Result LinkedImage Refusal) → IsLaid order result → ShowsLinked result
linked_shown order (Err refusal) laid = tt
linked_shown order (Ok image) laid =
    trees_shown_short image.bytes image.resources (omega (arith, laid.within)) laid.nodes laid.stands

-- A link with an image, by the bytes of its file

-- what it did, and took
pub record LinkedWith (image : IndexedFile) (link : LinkTask) (answer : Result Summary LinkStop) (old new : ShelfSeen) (handed last : ℕ)
    : Type 0 where
  pub bytes : List ℕ
  pub filed : IsFiled image.index old.told image.path bytes
  pub links : LinksBy (ComesTo old.told (Some bytes) link.directories (request_of link)) (TellsNothing old.told) link.output answer
      old new
  pub takes : taken.LinkTakes old.told (Some bytes) link.directories (request_of link) handed last

pub linked_with : (image : IndexedFile) (link : LinkTask) (answer : Result Summary LinkStop) (old new : ShelfSeen) (handed last : ℕ)
    → FiledLinks (Some image) link.directories (request_of link) link.output answer old new handed last
    → LinkedWith image link answer old new handed last
linked_with image link answer old new handed last did = go did.bytes did.are did.links did.takes
  where
    go : (bytes : Option (List ℕ)) → AreBytesOf (Some image) old.told bytes
        → LinksBy (ComesTo old.told bytes link.directories (request_of link)) (TellsNothing old.told) link.output answer old new
        → taken.LinkTakes old.told bytes link.directories (request_of link) handed last
        → LinkedWith image link answer old new handed last
    go None none links takes = absurd none
    go (Some b) filed links takes = record { bytes = b; filed = filed; links = links; takes = takes }

-- What was taken

takes_of : (told : Option Files) (b : List ℕ) (directories : List (List ℕ)) (asked : Request) (old later new : ℕ)
    → ((source : Sources) → taken.TakesOf source asked old new → taken.TakesOf source asked later new)
    → taken.LinkTakes told (Some b) directories asked old new → taken.LinkTakes told (Some b) directories asked later new
takes_of told b directories asked old later new each = go (path_files directories told)
  where
    of : ℕ → Option Files → Type 0
    of n shown = Shows shown (λ files. taken.TakesOf (record { image = Some b; files = files; directories = directories }) asked n new)

    go : (shown : Option Files) → of old shown → of later shown
    go None takes = tt
    go (Some files) takes = each (record { image = Some b; files = files; directories = directories }) takes

takes_later : (told : Option Files) (b : List ℕ) (directories : List (List ℕ)) (asked : Request) (old later new : ℕ) → old ≤ later
    → taken.LinkTakes told (Some b) directories asked old new → taken.LinkTakes told (Some b) directories asked later new
takes_later told b directories asked old later new within = takes_of told b directories asked old later new later_of
  where
    later_of : (source : Sources) → taken.TakesOf source asked old new → taken.TakesOf source asked later new
    later_of source (inl infos) = inl (omega (arith, within, infos))
    later_of source (inr (contents, are, all)) = inr (contents, are, omega (arith, within, all))

-- no more than before
pub takes_little : (told : Option Files) (image : Option (List ℕ)) (directories : List (List ℕ)) (asked : Request) (old new : ℕ)
    → new ≤ old → taken.LinkTakes told image directories asked old new
takes_little told image directories asked old new within = go (path_files directories told)
  where
    go : (shown : Option Files) → Shows shown (λ files. taken.TakesOf (record { image = image; files = files; directories = directories })
        asked old new)
    go None = tt
    go (Some files) = inl (omega (arith, within))

front_linked : (damage : Option Damage) (told : Option Files) (link : LinkTask) (b : List ℕ) (old new : ℕ) → new ≤ old + front_size b
    → TakesOpened damage told link b old new
front_linked None told link b old new within =
    takes_little told (Some b) link.directories (request_of link) (old + front_size b) new within
front_linked (Some damage) told link b old new within = within

-- the front alone
pub takes_link_front : (told : Option Files) (path : List ℕ) (link : LinkTask) (old new : ℕ) → TakesFrom told path front_size old new
    → LinkTakesBy told link (Some path) old new
takes_link_front told path link old new takes =
    takes_so told path (λ b before after. after ≤ before + front_size b) (λ b. TakesOpened (first_damage b) told link b) old new
    (λ b within. front_linked (first_damage b) told link b old new within) takes

-- the front, and what the link takes
pub takes_filed : (link asked : LinkTask) (path : List ℕ) (shelf mid new : ShelfSeen) (front : Front) (answer : Result Summary LinkStop)
    (old now after : ℕ) → mid.told ≡ shelf.told → IsOpenFront shelf.told path front
    → ((b : List ℕ) → IsFileOf front.bytes front.length b → asked ≡ ordered_by b link)
    → FiledLinks (Some (record { index = front; path = path })) asked.directories (request_of asked) asked.output answer mid new now after
    → TakesOfFront front front_size old now → LinkTakesBy shelf.told link (Some path) old after
takes_filed link asked path shelf mid new front answer old now after same opens ordered did took =
    let with = linked_with (record { index = front; path = path }) asked answer mid new now after did in
    let b = with.bytes in
    let all = subst (λ (t : LinkTask). taken.LinkTakes mid.told (Some b) t.directories (request_of t) now after)
    (ordered b with.filed.0) with.takes in
    let here = subst (λ (told : Option Files). taken.LinkTakes told (Some b) link.directories (request_of (ordered_by b link)) now after)
    same all in (
      Some b,
      subst (λ (told : Option Files). HasFile told path (Some b)) same with.filed.1,
      subst (λ (d : Option Damage). TakesOpened d shelf.told link b old after) (sym (opens.1 b with.filed.0))
          (takes_later shelf.told b link.directories (request_of link) now (old + front_size b) after (took b with.filed.0)
          (takes_as_asked shelf.told b link now after here)),
    )

-- What was linked

-- of work that comes to one of these results and writes the image to a path, from what is due then
module _ (text : Summary → List ℕ) (output : List ℕ) (Comes : Result LinkedImage Refusal → Type 0) (Absent : Type 0) (Due : Outcome
    → Type 0) (old new : World) (input : new.input ≡ old.input) (as_due : (result : Result LinkedImage Refusal) → Comes result
    → Due (link_outcome text output result)) where
  abbrev Does : Result (Unit {0}) Stop → Type 0
  Does answer = StepComesTo Due reading answer old new

  source : new.input.told ≡ old.input.told
  source = ap (λ (s : Seen (List ℕ)). s.told) input

  -- the image was written, and then the text was put
  pub put_linked : (summary : Summary) (answer : Result (Unit {0}) Stop) → LinksBy Comes Absent output (Ok summary) old.shelf
      new.shelf → PutDoes (done (text summary)) answer old.out new.out → Does answer
  put_linked summary answer (image, comes, is, stands) puts = inr (
    linked text output image,
    as_due (Ok image) comes,
    made_put ((output, image.bytes) ∷ []) (text (summary_of image)) answer old new
        (record { stand = record { made = stands.holds; whole = λ some. stands.whole }; durable = λ some. stands.durable })
        stands.kept input
        (subst (λ (s : Summary). PutDoes (done (text s)) answer old.out new.out) is puts),
  )

  -- it broke off, before the image was begun or in the midst of it
  broken_off : (given : Stop) → IsFailure (Err given) → BreaksOff Comes output old.shelf new.shelf → new.out.told ≡ old.out.told
      → (given ≡ stop.Outside → ShelfFailed old.shelf new.shelf) → Does (Err given)
  broken_off given fails (inl files) unput rose =
      fails_at_once Due reading (Err given) old new fails (record { files = files; source = source; output = unput })
      (λ failed. (refl, rose (same_err _ _ failed)))
  broken_off given fails (inr (image, comes, part)) unput rose = inr (
    linked text output image,
    as_due (Ok image) comes,
    made_in_part (linked text output image) given old new fails refl
        (part_alone old.shelf.told new.shelf.told output image.bytes part) source unput (λ failed. inl (refl, rose failed)),
  )

  -- it stopped before anything was put, for a listed file that isn't there by what is due then
  pub stopped_linked : (given : LinkStop) → LinksBy Comes Absent output (Err given) old.shelf new.shelf
      → ((listed : List ℕ) → given ≡ link_stop.NotThere listed → Absent → Due (not_there listed)) → new.out.told ≡ old.out.told
      → Does (Err (stop_of_link given))
  stopped_linked (link_stop.Refused refusal) (comes, files) as_absent unput =
      complains Due reading (refusing refusal) (complaint.Refused refusal) (complaint.Refused refusal) old new
      (as_due (Err refusal) comes) refl refl (record { files = files; source = source; output = unput })
  stopped_linked (link_stop.NotThere listed) (none, files) as_absent unput =
      complains Due reading (not_there listed) (complaint.NotThere listed) (complaint.NotThere listed) old new
      (as_absent listed refl none) refl refl (record { files = files; source = source; output = unput })
  stopped_linked link_stop.Outside (breaks, rose) as_absent unput = broken_off stop.Outside tt breaks unput (λ failed. rose)
  stopped_linked link_stop.Memory breaks as_absent unput = broken_off stop.Memory tt breaks unput (λ failed. cc)

-- From an image of these bytes, if there is one, and a module path

module _ (text : Summary → List ℕ) (image : Option (List ℕ)) (link : LinkTask) (old new : World) (input : new.input ≡ old.input) where
  abbrev Comes : Result LinkedImage Refusal → Type 0
  Comes = ComesTo old.shelf.told image link.directories (request_of link)

  abbrev pub Linked : Result Summary LinkStop → Type 0
  Linked answer = LinksBy Comes (TellsNothing old.shelf.told) link.output answer old.shelf new.shelf

  comes_due : (result : Result LinkedImage Refusal) → Comes result
      → LinkComesOf text old.shelf.told image link (link_outcome text link.output result)
  comes_due result comes = inl (result, comes, linked_shown link.order result comes.1, refl)

  absent_due : (given : LinkStop) → LacksBy (IsBelow link.directories) given → (listed : List ℕ) → given ≡ link_stop.NotThere listed
      → TellsNothing old.shelf.told → LinkComesOf text old.shelf.told image link (not_there listed)
  absent_due given lacks listed is none = inr (listed, none, subst (LacksBy (IsBelow link.directories)) is lacks, refl)

  pub link_put : (summary : Summary) (answer : Result (Unit {0}) Stop) → Linked (Ok summary)
      → PutDoes (done (text summary)) answer old.out new.out
      → StepComesTo (LinkComesOf text old.shelf.told image link) reading answer old new
  link_put = put_linked text link.output Comes (TellsNothing old.shelf.told) (LinkComesOf text old.shelf.told image link) old new input
      comes_due

  pub link_stopped : (given : LinkStop) → Linked (Err given) → LacksBy (IsBelow link.directories) given → new.out.told ≡ old.out.told
      → StepComesTo (LinkComesOf text old.shelf.told image link) reading (Err (stop_of_link given)) old new
  link_stopped given links lacks =
      stopped_linked text link.output Comes (TellsNothing old.shelf.told) (LinkComesOf text old.shelf.told image link) old new input
      comes_due given links (absent_due given lacks)

-- From a module path alone

pub alone_takes : (link : LinkTask) (answer : Result Summary LinkStop) (old new : ShelfSeen) (handed last : ℕ) → link.image ≡ None
    → FiledLinks None link.directories (request_of link) link.output answer old new handed last → LinkTakes old.told link handed last
alone_takes link answer old new handed last alone did =
    subst (λ (path : Option (List ℕ)). LinkTakesBy old.told link path handed last) (sym alone)
    (subst (λ (bytes : Option (List ℕ)). taken.LinkTakes old.told bytes link.directories (request_of link) handed last) did.are
    did.takes)

module _ (text : Summary → List ℕ) (link : LinkTask) (old new : World) (input : new.input ≡ old.input) (alone : link.image ≡ None)
    (handed last : ℕ) where
  abbrev DidAlone : Result Summary LinkStop → Type 0
  DidAlone answer = FiledLinks None link.directories (request_of link) link.output answer old.shelf new.shelf handed last

  -- there are no bytes of an image
  pub linked_alone : (answer : Result Summary LinkStop) → DidAlone answer
      → LinksBy (ComesTo old.shelf.told None link.directories (request_of link)) (TellsNothing old.shelf.told) link.output answer
      old.shelf new.shelf
  linked_alone answer did =
      subst (λ (bytes : Option (List ℕ)). LinksBy (ComesTo old.shelf.told bytes link.directories (request_of link))
      (TellsNothing old.shelf.told) link.output answer old.shelf new.shelf) did.are did.links

  as_alone : (answer : Result (Unit {0}) Stop) → StepComesTo (LinkComesOf text old.shelf.told None link) reading answer old new
      → StepComesTo (LinkComesTo text old.shelf.told link) reading answer old new
  as_alone answer step =
      subst (λ (path : Option (List ℕ)). StepComesTo (LinkComesBy text old.shelf.told link path) reading answer old new) (sym alone) step

  pub alone_put : (summary : Summary) (answer : Result (Unit {0}) Stop) → DidAlone (Ok summary)
      → PutDoes (done (text summary)) answer old.out new.out → StepComesTo (LinkComesTo text old.shelf.told link) reading answer old new
  alone_put summary answer did puts =
      as_alone answer (link_put text None link old new input summary answer (linked_alone (Ok summary) did) puts)

  pub alone_stopped : (given : LinkStop) → DidAlone (Err given) → LacksBy (IsBelow link.directories) given
      → new.out.told ≡ old.out.told → StepComesTo (LinkComesTo text old.shelf.told link) reading (Err (stop_of_link given)) old new
  alone_stopped given did lacks unput =
      as_alone (Err (stop_of_link given)) (link_stopped text None link old new input given (linked_alone (Err given) did) lacks unput)

-- Without compression

module _ (decompress : DecompressTask) (b : List ℕ) (old new : World) (input : new.input ≡ old.input) where
  decompress_due : (result : Result LinkedImage Refusal) → DecompressComes b result
      → DecompressComesTo decompress b (link_outcome decompress_text decompress.output result)
  decompress_due result comes = (result, comes, linked_shown _ result comes.1, refl)

  pub decompress_put : (summary : Summary) (answer : Result (Unit {0}) Stop) → LinksBy (DecompressComes b) ⊥ decompress.output
      (Ok summary) old.shelf new.shelf → PutDoes (done (decompress_text summary)) answer old.out new.out
      → StepComesTo (DecompressComesTo decompress b) reading answer old new
  decompress_put = put_linked decompress_text decompress.output (DecompressComes b) ⊥ (DecompressComesTo decompress b) old new input
      decompress_due

  pub decompress_stopped : (given : LinkStop) → LinksBy (DecompressComes b) ⊥ decompress.output (Err given) old.shelf new.shelf
      → new.out.told ≡ old.out.told → StepComesTo (DecompressComesTo decompress b) reading (Err (stop_of_link given)) old new
  decompress_stopped given links =
      stopped_linked decompress_text decompress.output (DecompressComes b) ⊥ (DecompressComesTo decompress b) old new input
      decompress_due given links (λ listed is never. absurd never)

-- Of the image in a file, which is open as it is stored

module _ (decompress : DecompressTask) (shelf mid new : ShelfSeen) (same : mid.told ≡ shelf.told) (front : Front)
    (opens : IsOpenFrontBy stored_damage shelf.told decompress.image front) (handed new_handed : ℕ) where
  abbrev DidStored : Result Summary LinkStop → Type 0
  DidStored answer = FiledDecompresses front decompress.image decompress.output answer mid new handed new_handed

  -- the file whose resources were had is that of the path, without a damage
  stored_there : (answer : Result Summary LinkStop) (did : DidStored answer)
      → IsFileWithout stored_damage shelf.told decompress.image did.bytes
  stored_there answer did =
      (subst (λ (told : Option Files). HasFile told decompress.image (Some did.bytes)) same did.filed.1, opens.1 did.bytes did.filed.0)

  -- what was taken: the front, and the stored contents
  pub takes_stored : (answer : Result Summary LinkStop) (old : ℕ) → DidStored answer → TakesOfFront front front_size old handed
      → TakesFrom shelf.told decompress.image decompress_size old new_handed
  takes_stored answer old did taken =
      takes_behind stored_damage shelf.told decompress.image did.bytes stored_sizes old handed new_handed (stored_there answer did)
      (taken did.bytes did.filed.0) did.takes

  module _ (kept : mid.faults ≡ shelf.faults) (source out new_out : Seen (List ℕ)) where
    abbrev EndsStored : Result (Unit {0}) Stop → Type 0
    EndsStored answer =
        StepComesTo (StoredComes shelf.told decompress.image (DecompressComesTo decompress)) reading answer (world shelf source out)
        (world new source new_out)

    -- after the opening, what is done with the file
    ends_stored : (b : List ℕ) (answer : Result (Unit {0}) Stop) → IsFileWithout stored_damage shelf.told decompress.image b
        → StepComesTo (DecompressComesTo decompress b) reading answer (world mid source out) (world new source new_out)
        → EndsStored answer
    ends_stored b answer is step =
        opened_file stored_damage (DecompressComesTo decompress) decompress.image shelf mid same source out kept b answer
        (world new source new_out) is step

    pub stored_put : (summary : Summary) (answer : Result (Unit {0}) Stop) → DidStored (Ok summary)
        → PutDoes (done (decompress_text summary)) answer out new_out → EndsStored answer
    stored_put summary answer did puts =
        ends_stored did.bytes answer (stored_there (Ok summary) did)
        (decompress_put decompress did.bytes (world mid source out) (world new source new_out) refl summary answer did.does puts)

    pub stored_stopped : (given : LinkStop) → DidStored (Err given) → new_out.told ≡ out.told → EndsStored (Err (stop_of_link given))
    stored_stopped given did unput =
        ends_stored did.bytes (Err (stop_of_link given)) (stored_there (Err given) did)
        (decompress_stopped decompress did.bytes (world mid source out) (world new source new_out) refl given did.does unput)

-- With the image in the file of a path, whose order is that of what is asked

module _ (text : Summary → List ℕ) (link asked : LinkTask) (path : List ℕ) (shelf mid new : ShelfSeen) (source out new_out : Seen (List ℕ))
    (same : mid.told ≡ shelf.told) (kept : mid.faults ≡ shelf.faults) (front : Front) (opens : IsOpenFront shelf.told path front)
    (ordered : (b : List ℕ) → IsFileOf front.bytes front.length b → asked ≡ ordered_by b link) (handed new_handed : ℕ) where
  abbrev Did : Result Summary LinkStop → Type 0
  Did answer =
      FiledLinks (Some (record { index = front; path = path })) asked.directories (request_of asked) asked.output answer mid new handed
      new_handed

  abbrev Ends : Result (Unit {0}) Stop → Type 0
  Ends answer = StepComesTo (LinkComesBy text shelf.told link (Some path)) reading answer (world shelf source out)
      (world new source new_out)

  with_bytes : (answer : Result Summary LinkStop) → Did answer
      → LinkedWith (record { index = front; path = path }) asked answer mid new handed new_handed
  with_bytes answer = linked_with (record { index = front; path = path }) asked answer mid new handed new_handed

  -- after the opening, what is done with the file
  ends : (b : List ℕ) (answer : Result (Unit {0}) Stop) → IsFiled front mid.told path b
      → StepComesTo (LinkComesOf text mid.told (Some b) asked) reading answer (world mid source out) (world new source new_out)
      → Ends answer
  ends b answer filed step =
      let of = subst (λ (t : LinkTask). StepComesTo (LinkComesOf text mid.told (Some b) t) reading answer (world mid source out)
      (world new source new_out)) (ordered b filed.0) step in
      comes_behind (LinkComesBy text shelf.told link (Some path)) shelf (world mid source out) (world new source new_out) answer
      same kept (opened (LinkComesWith text shelf.told link) shelf.told path front b opens
      (subst (λ (told : Option Files). IsFiled front told path b) same filed)
      (subst (λ (told : Option Files). StepComesTo (LinkComesWith text told link b) reading answer (world mid source out)
      (world new source new_out)) same of))

  pub filed_put : (summary : Summary) (answer : Result (Unit {0}) Stop) → Did (Ok summary) → PutDoes (done (text summary)) answer out new_out
      → Ends answer
  filed_put summary answer did puts =
      let with = with_bytes (Ok summary) did in
      ends with.bytes answer with.filed
      (link_put text (Some with.bytes) asked (world mid source out) (world new source new_out) refl summary answer with.links puts)

  pub filed_stopped : (given : LinkStop) → Did (Err given) → LacksBy (IsBelow asked.directories) given → new_out.told ≡ out.told
      → Ends (Err (stop_of_link given))
  filed_stopped given did lacks unput =
      let with = with_bytes (Err given) did in
      ends with.bytes (Err (stop_of_link given)) with.filed
      (link_stopped text (Some with.bytes) asked (world mid source out) (world new source new_out) refl given with.links lacks unput)

-- what the task names is text where what is asked with the order of the image does
pub asked_text : (told : Option Files) (link asked : LinkTask) (path : List ℕ) (front : Front) → IsOpenFront told path front
    → ((b : List ℕ) → IsFileOf front.bytes front.length b → asked ≡ ordered_by b link) → All IsUtf8 link.directories
    → IsUtf8 link.output → All IsUtf8 asked.directories × IsUtf8 asked.output
asked_text told link asked path front opens ordered directories output =
    let there = filed_there told path front opens in
    subst (λ (t : LinkTask). All IsUtf8 t.directories × IsUtf8 t.output) (sym (ordered there.0 there.1.0)) (directories, output)

-- By the path of the image, if there is one

pub link_comes : (text : Summary → List ℕ) (told : Option Files) (link : LinkTask) (path : Option (List ℕ)) (answer : Result (Unit {0}) Stop)
    (old new : World) → link.image ≡ path → StepComesTo (LinkComesBy text told link path) reading answer old new
    → StepComesTo (LinkComesTo text told link) reading answer old new
link_comes text told link path answer old new is step =
    subst (λ (p : Option (List ℕ)). StepComesTo (LinkComesBy text told link p) reading answer old new) (sym is) step

pub link_takes_by : (told : Option Files) (link : LinkTask) (path : Option (List ℕ)) (old new : ℕ) → link.image ≡ path
    → LinkTakesBy told link path old new → LinkTakes told link old new
link_takes_by told link path old new is takes = subst (λ (p : Option (List ℕ)). LinkTakesBy told link p old new) (sym is) takes
