-- Lines that are put while the contents of entries are read.
use Rattle.std.proofs.Common.{◌≡◌, ℕ, ◌+◌, ◌<◌, List, [], ◌∷◌, ◌++◌, drop, flat_map, get_or, length, map, take, true, Option}
use Rattle.std.proofs.Common.{Result, Ok, Err, IsOk, IsErrOf, is_ok, inl, refl, sym, ap, subst, ◌∙◌, arith, append-nil}
use Rattle.std.proofs.lemmas.List.{drop_all, length-append, take-append-drop, take_more}
use Rattle.std.proofs.lemmas.Grind.{flat_map-append}
use Rattle.hex.specs.Hex.{encode_lower}
use Rattle.sha2.specs.Sha256.{sha256}
use Rattle.jm_filed.specs.Filed.{IsFiled, IsReadAt}
use Rattle.jm_filed.specs.FirstRead.{AreFirstRead}
use Rattle.jm_filed.specs.Taken.{LieWithin, is_taken, taken, taken_as}
use Rattle.jm_filed.specs.declared.taking.TakenEntry.{TakenEntry}
use Rattle.jm_filed.proofs.FirstReadLaws.{first_among, first_more, first_read}
use Rattle.jm_form.specs.Head.{IsFileOf}
use Rattle.jm_names.specs.ByName.{Named}
use Rattle.jm_outside.specs.Files.{Files}
use Rattle.jm_outside.specs.Outcome.{CountsFaults, Rose}
use Rattle.jm_outside.specs.Shelves.{ShelfSeen}
use Rattle.jm_outside.specs.declared.shelf.ShelfError.{ShelfError}
use Rattle.jm_outside.specs.declared.shelf.ShelfError.TheVariants as shelf_error
use Rattle.jm_outside.specs.declared.streams.SinkError.{SinkError}
use Rattle.jm_pattern.specs.declared.signs.Sign.{Sign}
use Rattle.jm_valid.specs.Opened.{Front}
use Rattle.jm_words.specs.declared.tasks.ImageWork.TheVariants as work
use Rattle.jm_inspect.specs.DigestSteps.{PutsRead, after_both}
use Rattle.jm_inspect.specs.FileParts.{IsOpenFront}
use Rattle.jm_inspect.specs.ListText.{digest_line, digest_list_text, sized_as, sized_line}
use Rattle.jm_inspect.specs.Outcome.{Outcome, done, image_outcome, reading}
use Rattle.jm_inspect.specs.Pieces.{Passing, Piecewise, PutsText}
use Rattle.jm_inspect.specs.Sinks.{GetsFront, Seen}
use Rattle.jm_inspect.specs.Steps.{StepComesTo, StepDoes}
use Rattle.jm_inspect.specs.Stops.{stop_of_shelf, stop_of_sink}
use Rattle.jm_inspect.specs.Works.{WorkComesTo}
use Rattle.jm_inspect.specs.World.{World, world}
use Rattle.jm_inspect.specs.declared.stop.Stop.{Stop}
use Rattle.jm_inspect.proofs.ContentLaws.{is_index}
use Rattle.jm_inspect.proofs.FrontLaws.{index_there, of_work, opened}
use Rattle.jm_inspect.proofs.Gotten.{front_of_all, gets_nothing}
use Rattle.jm_inspect.proofs.Made.{stays_part, unmade_safe}
use Rattle.jm_inspect.proofs.PieceLaws.{broken, cut_passed, front_longer, last_put, text_put, text_unput, then_passed}
use Rattle.jm_inspect.proofs.StepLaws.{on_any_text, put_step}

-- what was passed on, of some entries
abbrev pub Passed : Option Files → List ℕ → List TakenEntry → Result (Unit {0}) Stop → (faults new_faults : ℕ)
    → (old new : Piecewise) → Type 0
Passed told path ts answer faults new_faults old new =
    PutsRead told path ts (λ lines puts. Passing lines puts old new) answer faults new_faults

-- No line

nothing_passed : (now : Piecewise) → Passing [] (Ok tt) now now
nothing_passed now = record {
  passed = ([], gets_nothing now.out now.out refl, append-nil now.held);
  front = tt;
  faults = record { count = omega arith; kept = λ ok. refl; rose = λ failed. cc };
  same = refl;
}

pub none_read : (told : Option Files) (path : List ℕ) (faults : ℕ) (now : Piecewise)
    → Passed told path [] (Ok tt) faults faults now now
none_read told path faults now = record {
  read = [];
  are = tt;
  all = λ ok. refl;
  reads = Ok tt;
  puts = Ok tt;
  lines = nothing_passed now;
  answers = refl;
  counts = record { count = omega arith; kept = λ ok. refl; rose = λ failed. cc };
}

-- the content of an entry wasn't read
pub unread : (told : Option Files) (path : List ℕ) (ts : List TakenEntry) (error : ShelfError) (faults new_faults : ℕ) (now : Piecewise)
    → CountsFaults faults new_faults (IsOk {T = Unit {0}} (Err error)) (IsErrOf {T = Unit {0}} (Err error) shelf_error.Failed)
    → Passed told path ts (Err (stop_of_shelf error)) faults new_faults now now
unread told path ts error faults new_faults now counts = record {
  read = [];
  are = tt;
  all = λ ok. cc;
  reads = Err error;
  puts = Ok tt;
  lines = nothing_passed now;
  answers = refl;
  counts = counts;
}

-- One line

-- the content of an entry was read, and its line passed on, or broken off
pub line_read : (told : Option Files) (path : List ℕ) (t : TakenEntry) (text : List ℕ) (puts : Result (Unit {0}) SinkError)
    (faults new_faults : ℕ) (old new : Piecewise) → IsReadAt told path t.content text
    → Passing (encode_lower (sha256 text) ++ 32 ∷ sized_line (sized_as t)) puts old new → new_faults ≡ faults
    → Passed told path (t ∷ []) (after_both (Ok tt) puts) faults new_faults old new
line_read told path t text puts faults new_faults old new read passing kept = record {
  read = (t.name, text) ∷ [];
  are = ((refl, read), tt);
  all = λ ok. refl;
  reads = Ok tt;
  puts = puts;
  lines = subst (λ line. Passing line puts old new)
      (ap (λ n. encode_lower (sha256 text) ++ 32 ∷ sized_line (n, t.name)) (sym read.size)
      ∙ sym (append-nil (digest_line (t.name, text)))) passing;
  answers = refl;
  counts = record { count = omega (arith, kept); kept = λ ok. kept; rose = λ failed. cc };
}

-- Some lines after others

both_ok : (reads : Result (Unit {0}) ShelfError) (puts : Result (Unit {0}) SinkError) → Ok tt ≡ after_both reads puts
    → (reads ≡ Ok tt) × (puts ≡ Ok tt)
both_ok (Ok _) (Ok _) is = (refl, refl)
both_ok (Err error) (Ok _) is = cc
both_ok (Ok _) (Err error) is = cc
both_ok (Err first) (Err error) is = cc

module _ {told : Option Files} {path : List ℕ} {ts us : List TakenEntry} {answer : Result (Unit {0}) Stop}
    {faults mid_faults new_faults : ℕ} {old now new : Piecewise} where
  pub then_read : Passed told path ts (Ok tt) faults mid_faults old now → Passed told path us answer mid_faults new_faults now new
      → Passed told path (ts ++ us) answer faults new_faults old new
  then_read one two =
      let ok = both_ok one.reads one.puts one.answers in
      let first : Passing (flat_map digest_line one.read) (Ok tt) old now
      = subst (λ puts. Passing (flat_map digest_line one.read) puts old now) ok.1 one.lines in
      let long = one.all refl in
      let kept : mid_faults ≡ faults = one.counts.kept (ap is_ok ok.0) in
      record {
        read = one.read ++ two.read;
        are = first_more told path ts us one.read two.read long one.are two.are;
        all = λ answered. omega (arith, length-append one.read two.read, length-append ts us, long, two.all answered);
        reads = two.reads;
        puts = two.puts;
        lines = subst (λ lines. Passing lines two.puts old new) (sym (flat_map-append digest_line one.read two.read))
            (then_passed first two.lines);
        answers = two.answers;
        counts = subst (λ count. CountsFaults count new_faults (IsOk two.reads) (IsErrOf two.reads shelf_error.Failed)) kept two.counts;
      }

-- they broke off, and no more was read
pub broken_read : {told : Option Files} {path : List ℕ} {ts : List TakenEntry} {given : Stop} {faults new_faults : ℕ} {old new : Piecewise}
    (us : List TakenEntry) → Passed told path ts (Err given) faults new_faults old new
    → Passed told path (ts ++ us) (Err given) faults new_faults old new
broken_read {told} {path} {ts} us some = record {
  read = some.read;
  are = first_among told path ts us some.read some.are;
  all = λ ok. cc;
  reads = some.reads;
  puts = some.puts;
  lines = some.lines;
  answers = some.answers;
  counts = some.counts;
}

-- Entry by entry

module _ {told : Option Files} {path : List ℕ} (ts : List TakenEntry) (i : ℕ) (t : TakenEntry) (within : i < length ts)
    (is : get_or ts i t ≡ t) {faults mid_faults new_faults : ℕ} {old now new : Piecewise} where
  more : {answer : Result (Unit {0}) Stop} → Passed told path (take i ts) (Ok tt) faults mid_faults old now
      → Passed told path (t ∷ []) answer mid_faults new_faults now new
      → Passed told path (take (i + 1) ts) answer faults new_faults old new
  more {answer} before one =
      subst (λ us. Passed told path us answer faults new_faults old new)
      (sym (take_more ts i t within ∙ ap (λ (u : TakenEntry). take i ts ++ u ∷ []) is)) (then_read before one)

  -- one more
  pub entry_read : Passed told path (take i ts) (Ok tt) faults mid_faults old now
      → Passed told path (t ∷ []) (Ok tt) mid_faults new_faults now new
      → Passed told path (take (i + 1) ts) (Ok tt) faults new_faults old new
  entry_read before one = more before one

  -- it broke off
  pub entry_broken : {given : Stop} → Passed told path (take i ts) (Ok tt) faults mid_faults old now
      → Passed told path (t ∷ []) (Err given) mid_faults new_faults now new
      → Passed told path ts (Err given) faults new_faults old new
  entry_broken {given} before one =
      subst (λ us. Passed told path us (Err given) faults new_faults old new) (take-append-drop (i + 1) ts)
      (broken_read (drop (i + 1) ts) (more before one))

-- What is due

-- a step with the same sink
pub same_sink : (Due : Outcome → Type 0) (answer : Result (Unit {0}) Stop) (old : World) (shelf : ShelfSeen)
    (source out new_out : Seen (List ℕ)) → out ≡ new_out → StepComesTo Due reading answer old (world shelf source out)
    → StepComesTo Due reading answer old (world shelf source new_out)
same_sink Due answer old shelf source out new_out same =
    subst (λ (o : Seen (List ℕ)). StepComesTo Due reading answer old (world shelf source o)) same

-- of the image in the file of a path the lines of the taken entries were put
module _ (path : List ℕ) (shelf new : ShelfSeen) (stays : new.told ≡ shelf.told) (source out : Seen (List ℕ)) (front : Front)
    (opens : IsOpenFront shelf.told path front) (include : Option (List (List Sign))) (ts : List TakenEntry)
    (are : (b : List ℕ) → IsFileOf front.bytes front.length b → map (taken_as b) ts ≡ taken b include)
    (within : LieWithin front.length ts) where
  abbrev Does : Result (Unit {0}) Stop → Seen (List ℕ) → Type 0
  Does answer new_out = StepComesTo (WorkComesTo shelf.told source.told path (work.List include true)) reading answer
      (world shelf source out) (world new source new_out)

  -- in a file with what was read the lines of what was read come first
  begins : (read : List Named) → AreFirstRead shelf.told path ts read
      → (b : List ℕ) × IsFiled front shelf.told path b
      × (digest_list_text b include ≡ flat_map digest_line read ++ flat_map digest_line (map (taken_as b) (drop (length read) ts)))
  begins read first =
      let index = is_index shelf.told path front opens in
      let found = first_read front shelf.told path (is_taken include) ts are within read first index.0 index.1
      (index_there shelf.told path front opens) in
      let b = found.0 in (
        b,
        found.1,
        ap (flat_map digest_line) (sym (are b found.1.0) ∙ found.2)
            ∙ flat_map-append digest_line read (map (taken_as b) (drop (length read) ts)),
      )

  due : (b : List ℕ) → IsFiled front shelf.told path b → (answer : Result (Unit {0}) Stop) (new_out : Seen (List ℕ))
      → StepDoes reading (done (digest_list_text b include)) answer (world shelf source out) (world new source new_out)
      → Does answer new_out
  due b filed answer new_out does =
      opened (of_work (work.List include true) source) shelf.told path front b opens filed
      (on_any_text (image_outcome (work.List include true) b) (done (digest_list_text b include)) answer (world shelf source out)
      (world new source new_out) (λ text. refl) does)

  -- the text was put whole, or broke off at the output
  put_does : (b : List ℕ) (puts : Result (Unit {0}) SinkError) (new_out : Seen (List ℕ))
      → PutsText (digest_list_text b include) puts out new_out → (IsOk puts → new.faults ≡ shelf.faults)
      → StepDoes reading (done (digest_list_text b include)) (after_both (Ok tt) puts) (world shelf source out) (world new source new_out)
  put_does b (Ok _) new_out put quiet =
      put_step (done (digest_list_text b include)) (world shelf source out) (world new source new_out) stays refl refl (Ok tt)
      (text_put (digest_list_text b include) out new_out put) (λ ok. (quiet refl, refl))
  put_does b (Err error) new_out put quiet =
      put_step (done (digest_list_text b include)) (world shelf source out) (world new source new_out) stays refl refl
      (Err (stop_of_sink error)) (text_unput (digest_list_text b include) error out new_out put) (λ ok. cc)

  -- it broke off at a read
  read_does : (text : List ℕ) (error : ShelfError) (new_out : Seen (List ℕ)) → GetsFront text out new_out
      → (IsErrOf {T = Unit {0}} (Err error) shelf_error.Failed → Rose shelf.faults new.faults)
      → StepDoes reading (done text) (Err (stop_of_shelf error)) (world shelf source out) (world new source new_out)
  read_does text shelf_error.Failed new_out front rose = record {
    answers = tt;
    output = front;
    files = stays_part [] shelf.told new.told stays;
    files_first = inl (unmade_safe shelf new stays);
    source = refl;
    outside = λ failed. inl (refl, rose refl);
    none_rose = λ ok. cc;
  }
  read_does text shelf_error.Memory new_out front rose = record {
    answers = tt;
    output = front;
    files = stays_part [] shelf.told new.told stays;
    files_first = inl (unmade_safe shelf new stays);
    source = refl;
    outside = λ failed. cc;
    none_rose = λ ok. cc;
  }

  module _ (held : List ℕ) (name : ℕ) (none : held ≡ []) where
    abbrev begun : Piecewise
    begun = record { held = held; out = out; name = name }

    -- all were passed on, and then what was held back was put
    pub digests_put : (now : Piecewise) (puts : Result (Unit {0}) SinkError) (new_out : Seen (List ℕ))
        → Passed shelf.told path ts (Ok tt) shelf.faults new.faults begun now → PutsText now.held puts now.out new_out
        → Does (after_both (Ok tt) puts) new_out
    digests_put now puts new_out passed put =
        let ok = both_ok passed.reads passed.puts passed.answers in
        let file = begins passed.read passed.are in
        let b = file.0 in
        let text : digest_list_text b include ≡ flat_map digest_line passed.read
        = file.2
        ∙ ap (λ us. flat_map digest_line passed.read ++ flat_map digest_line (map (taken_as b) us))
        (ap (λ n. drop n ts) (passed.all refl) ∙ drop_all (length ts) ts (omega arith))
        ∙ append-nil (flat_map digest_line passed.read) in
        let lines : Passing (flat_map digest_line passed.read) (Ok tt) begun now
        = subst (λ p. Passing (flat_map digest_line passed.read) p begun now) ok.1 passed.lines in
        due b file.1 (after_both (Ok tt) puts) new_out
        (put_does b puts new_out (subst (λ t. PutsText t puts out new_out) (sym text) (last_put none lines put))
        (λ answered. passed.counts.kept (ap is_ok ok.0)))

    -- they broke off
    pub digests_broken : (now : Piecewise) (given : Stop) → Passed shelf.told path ts (Err given) shelf.faults new.faults begun now
        → Does (Err given) now.out
    digests_broken now given passed = go passed.reads passed.puts passed.lines passed.answers passed.counts
      where
        read : List Named
        read = passed.read

        file : (b : List ℕ) × IsFiled front shelf.told path b
            × (digest_list_text b include ≡ flat_map digest_line read ++ flat_map digest_line (map (taken_as b) (drop (length read) ts)))
        file = begins read passed.are

        rest : List ℕ
        rest = flat_map digest_line (map (taken_as file.0) (drop (length read) ts))

        -- a prefix of the lines of what was read is one of all
        whole_front : GetsFront (flat_map digest_line read) out now.out → GetsFront (digest_list_text file.0 include) out now.out
        whole_front some = subst (λ t. GetsFront t out now.out) (sym file.2) (front_longer (flat_map digest_line read) rest out now.out some)

        go : (reads : Result (Unit {0}) ShelfError) (puts : Result (Unit {0}) SinkError)
            → Passing (flat_map digest_line read) puts begun now → Err given ≡ after_both reads puts
            → CountsFaults shelf.faults new.faults (IsOk reads) (IsErrOf reads shelf_error.Failed) → Does (Err given) now.out
        go (Ok _) (Ok _) lines is counts = cc
        go (Err error) (Ok _) lines is counts =
            let (got, gets, same) = lines.passed in
            let text : flat_map digest_line read ≡ got ++ now.held = sym (ap (λ h. h ++ flat_map digest_line read) none) ∙ same in
            let some = subst (λ t. GetsFront t out now.out) (sym text) (front_longer got now.held out now.out
            (front_of_all got out now.out gets)) in
            due file.0 file.1 (Err given) now.out
            (subst (λ answer. StepDoes reading (done (digest_list_text file.0 include)) answer (world shelf source out)
            (world new source now.out)) (sym is) (read_does (digest_list_text file.0 include) error now.out (whole_front some) counts.rose))
        go reads (Err error) lines is counts =
            let all = subst (λ t. PutsText t (Err error) out now.out) (sym file.2) (broken none (cut_passed rest lines)) in
            due file.0 file.1 (Err given) now.out
            (subst (λ answer. StepDoes reading (done (digest_list_text file.0 include)) answer (world shelf source out)
            (world new source now.out)) (sym (is ∙ after_put reads error)) (put_does file.0 (Err error) now.out all (λ ok. cc)))
          where
            after_put : (reads : Result (Unit {0}) ShelfError) (error : SinkError)
                → after_both reads (Err error) ≡ after_both (Ok tt) (Err error)
            after_put (Ok _) error = refl
            after_put (Err first) error = refl
