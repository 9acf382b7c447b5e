-- Texts that a sink gets piece by piece.
use Rattle.std.proofs.Common.{◌≡◌, ℕ, ◌+◌, ◌<◌, List, [], ◌∷◌, ◌++◌, drop, flat_map, get_or, length}
use Rattle.std.proofs.Common.{take, Option, Some, None, option_map, Result, Ok, Err, OnOk, IsOk, IsErrOf, inl}
use Rattle.std.proofs.Common.{refl, sym, ap, subst, ◌∙◌, arith, append-nil}
use Rattle.std.proofs.Math.Seq.{take-append-add}
use Rattle.std.proofs.lemmas.List.{append_assoc, flat_map_more, length-append, take-append-drop, take-append-le, take_more}
use Rattle.std.proofs.lemmas.Grind.{flat_map-append}
use Rattle.jm_form.specs.declared.trees.Holds.{Holds}
use Rattle.jm_form.specs.declared.trees.Holds.TheVariants.{Children, Owners}
use Rattle.jm_jrt.specs.Reply.{held_lines}
use Rattle.jm_jrt.specs.Views.{count_of}
use Rattle.jm_outside.specs.Outcome.{CountsFaults, PutsFront, Told}
use Rattle.jm_outside.specs.declared.streams.SinkError.{SinkError}
use Rattle.jm_outside.specs.declared.streams.SinkError.TheVariants as sink_error
use Rattle.jm_inspect.specs.Outcome.{done}
use Rattle.jm_inspect.specs.Pieces.{Passing, Piecewise, PutsText}
use Rattle.jm_inspect.specs.Steps.{PutDoes}
use Rattle.jm_inspect.specs.Sinks.{Gets, GetsFront, Seen}
use Rattle.jm_inspect.specs.Stops.{stop_of_sink}
use Rattle.jm_inspect.proofs.Gotten.{front_of_nothing}

-- One text after another

gets_both : (xs ys : List ℕ) (old now new : Seen (List ℕ)) → Gets xs old now → Gets ys now new → Gets (xs ++ ys) old new
gets_both xs ys old now new first second = go old.told now.told new.told first second
  where
    go : (a b c : Option (List ℕ)) → b ≡ option_map (λ put. put ++ xs) a → c ≡ option_map (λ put. put ++ ys) b
        → c ≡ option_map (λ put. put ++ (xs ++ ys)) a
    go None b c one two = two ∙ ap (option_map (λ put. put ++ ys)) one
    go (Some put) b c one two = two ∙ ap (option_map (λ put. put ++ ys)) one ∙ ap (λ l. Some l) (append_assoc put xs ys)

front_behind : (xs ys : List ℕ) (old now new : Seen (List ℕ)) → Gets xs old now → GetsFront ys now new → GetsFront (xs ++ ys) old new
front_behind xs ys old now new first front = go old.told now.told new.told first front
  where
    cut : (put all : List ℕ) → PutsFront (put ++ xs) all ys → PutsFront put all (xs ++ ys)
    cut put all (n, within, is) = (
      length xs + n,
      omega (arith, within, length-append xs ys),
      is ∙ append_assoc put xs (take n ys)
          ∙ ap (λ l. put ++ l) (sym (take-append-add xs ys n)),
    )

    told : (put : List ℕ) (c : Option (List ℕ)) → Told (Some (put ++ xs)) c (λ before after. PutsFront before after ys)
        → Told (Some put) c (λ before after. PutsFront before after (xs ++ ys))
    told put None lost = lost
    told put (Some all) is = cut put all is

    go : (a b c : Option (List ℕ)) → b ≡ option_map (λ put. put ++ xs) a → Told b c (λ before after. PutsFront before after ys)
        → Told a c (λ before after. PutsFront before after (xs ++ ys))
    go None b c one two = tt
    go (Some put) b c one two = told put c (subst (λ (o : Option (List ℕ)). Told o c (λ before after. PutsFront before after ys)) one two)

pub front_longer : (xs ys : List ℕ) (old new : Seen (List ℕ)) → GetsFront xs old new → GetsFront (xs ++ ys) old new
front_longer xs ys old new front = go old.told new.told front
  where
    go : (a b : Option (List ℕ)) → Told a b (λ before after. PutsFront before after xs)
        → Told a b (λ before after. PutsFront before after (xs ++ ys))
    go None b is = tt
    go (Some put) None lost = lost
    go (Some put) (Some all) (n, within, is) = (
      n,
      omega (arith, within, length-append xs ys),
      is
          ∙ ap (λ l. put ++ l) (sym (take-append-le n xs ys within)),
    )

-- A text more

-- what is held back, before a sink whose name doesn't matter
abbrev pub bare : List ℕ → Seen (List ℕ) → Piecewise
bare held out = record { held = held; out = out; name = 0 }

-- no memory was found
pub none_passed : {more held : List ℕ} {now : Piecewise}
    → Passing more (Err sink_error.Memory) now (record { held = held; out = now.out; name = now.name })
none_passed {more} {held} {now} = record {
  passed = tt;
  front = front_of_nothing (now.held ++ more) now.out now.out refl;
  faults = record { count = omega arith; kept = λ ok. cc; rose = λ failed. cc };
  same = refl;
}

-- of what was held back, a text with which it begins was put
pub front_put : {text : List ℕ} {answer : Result (Unit {0}) SinkError} {old new : Piecewise} (rest : List ℕ)
    → PutsText text answer old.out new.out → old.held ≡ text ++ rest → OnOk answer (new.held ≡ rest) → new.name ≡ old.name
    → Passing [] answer old new
front_put {text} {answer} {old} {new} rest put begins left same = go answer put left
  where
    whole : old.held ++ [] ≡ text ++ rest
    whole = append-nil old.held ∙ begins

    go : (answer : Result (Unit {0}) SinkError) → PutsText text answer old.out new.out → OnOk answer (new.held ≡ rest)
        → Passing [] answer old new
    go (Ok _) put left = record {
      passed = (text, put.all, whole ∙ ap (λ l. text ++ l) (sym left));
      front = tt;
      faults = put.faults;
      same = same;
    }
    go (Err e) put left = record {
      passed = tt;
      front = subst (λ l. GetsFront l old.out new.out) (sym whole) (front_longer text rest old.out new.out put.front);
      faults = put.faults;
      same = same;
    }

-- Texts one after another

-- of two texts both were passed on, or the second broke off
pub then_passed : {a b : List ℕ} {answer : Result (Unit {0}) SinkError} {old now new : Piecewise} → Passing a (Ok tt) old now
    → Passing b answer now new → Passing (a ++ b) answer old new
then_passed {a} {b} {answer} {old} {now} {new} one two = go answer two
  where
    got : List ℕ
    got = one.passed.0

    kept : now.out.faults ≡ old.out.faults
    kept = one.faults.kept refl

    both : old.held ++ (a ++ b) ≡ got ++ (now.held ++ b)
    both = sym (append_assoc old.held a b) ∙ ap (λ l. l ++ b) one.passed.2 ∙ append_assoc got now.held b

    go : (answer : Result (Unit {0}) SinkError) → Passing b answer now new → Passing (a ++ b) answer old new
    go (Ok _) two = record {
      passed = (
        got ++ two.passed.0,
        gets_both got two.passed.0 old.out now.out new.out one.passed.1 two.passed.1,
        both ∙ ap (λ l. got ++ l) two.passed.2 ∙ sym (append_assoc got two.passed.0 new.held),
      );
      front = tt;
      faults = let all = two.faults.kept refl ∙ kept in record { count = omega (arith, all); kept = λ ok. all; rose = λ failed. cc };
      same = two.same ∙ one.same;
    }
    go (Err e) two = record {
      passed = tt;
      front = subst (λ l. GetsFront l old.out new.out) (sym both) (front_behind got (now.held ++ b) old.out now.out new.out one.passed.1
          two.front);
      faults = subst (λ (count : ℕ). CountsFaults count new.out.faults (IsOk {T = Unit {0}} (Err e)) (IsErrOf {T = Unit {0}} (Err e)
          sink_error.Failed)) kept two.faults;
      same = two.same ∙ one.same;
    }

-- the first of them broke off
pub cut_passed : {a : List ℕ} {error : SinkError} {old new : Piecewise} (b : List ℕ)
    → Passing a (Err error) old new → Passing (a ++ b) (Err error) old new
cut_passed {a} {error} {old} {new} b text = record {
  passed = tt;
  front = subst (λ l. GetsFront l old.out new.out) (append_assoc old.held a b) (front_longer (old.held ++ a) b old.out new.out text.front);
  faults = text.faults;
  same = text.same;
}

-- a text was passed on, and then some of what was held back was put
pub passed_then : {text : List ℕ} {answer : Result (Unit {0}) SinkError} {old now new : Piecewise}
    → Passing text (Ok tt) old now → Passing [] answer now new → Passing text answer old new
passed_then {text} {answer} {old} {now} {new} one two =
    subst (λ l. Passing l answer old new) (append-nil text) (then_passed one two)

-- The lines of some items

module _ {T : Type 0} (line : T → List ℕ) (ts : List T) (i : ℕ) where
  more_lines : (t : T) → i < length ts → get_or ts i t ≡ t → flat_map line (take (i + 1) ts) ≡ flat_map line (take i ts) ++ line t
  more_lines t within is =
      ap (flat_map line) (take_more ts i t within ∙ ap (λ (u : T). take i ts ++ u ∷ []) is) ∙ sym (flat_map_more line [] (take i ts) t)

  -- one line more
  pub line_then : {t : T} {answer : Result (Unit {0}) SinkError} {old now new : Piecewise}
      → i < length ts → get_or ts i t ≡ t → Passing (flat_map line (take i ts)) (Ok tt) old now
      → Passing (line t) answer now new → Passing (flat_map line (take (i + 1) ts)) answer old new
  line_then {t} {answer} {old} {now} {new} within is before one =
      subst (λ l. Passing l answer old new) (sym (more_lines t within is)) (then_passed before one)

  -- a line broke off
  pub line_cut : {t : T} {error : SinkError} {old now new : Piecewise}
      → i < length ts → get_or ts i t ≡ t → Passing (flat_map line (take i ts)) (Ok tt) old now
      → Passing (line t) (Err error) now new → Passing (flat_map line ts) (Err error) old new
  line_cut {t} {error} {old} {now} {new} within is before one =
      subst (λ l. Passing l (Err error) old new)
      (sym (flat_map-append line (take (i + 1) ts) (drop (i + 1) ts)) ∙ ap (flat_map line) (take-append-drop (i + 1) ts))
      (cut_passed (flat_map line (drop (i + 1) ts)) (line_then within is before one))

-- The whole

-- it broke off
pub broken : {whole : List ℕ} {error : SinkError} {old new : Piecewise} → old.held ≡ [] → Passing whole (Err error) old new
    → PutsText whole (Err error) old.out new.out
broken {whole} {error} {old} {new} none text = record {
  all = tt;
  front = subst (λ l. GetsFront (l ++ whole) old.out new.out) none text.front;
  faults = text.faults;
}

-- all was passed on, and what was held back was put
pub last_put : {whole : List ℕ} {answer : Result (Unit {0}) SinkError} {old now : Piecewise} {out : Seen (List ℕ)} → old.held ≡ []
    → Passing whole (Ok tt) old now → PutsText now.held answer now.out out → PutsText whole answer old.out out
last_put {whole} {answer} {old} {now} {out} none text put = go answer put
  where
    end : Piecewise
    end = record { held = []; out = out; name = now.name }

    passed : {answer : Result (Unit {0}) SinkError} → PutsText now.held answer now.out out → OnOk answer (end.held ≡ [])
        → Passing whole answer old end
    passed put left = passed_then text (front_put [] put (sym (append-nil now.held)) left refl)

    go : (answer : Result (Unit {0}) SinkError) → PutsText now.held answer now.out out → PutsText whole answer old.out out
    go (Ok _) put =
        let all = passed put refl in
        let (got, gets, is) = all.passed in
        record {
          all = subst (λ l. Gets l old.out out) (sym (ap (λ l. l ++ whole) (sym none) ∙ is ∙ append-nil got)) gets;
          front = tt;
          faults = all.faults;
        }
    go (Err e) put = broken none (passed put tt)

-- it broke off while a text was put with which what was held back begins
pub front_cut : {whole text : List ℕ} {error : SinkError} {old now : Piecewise} {out : Seen (List ℕ)} (rest : List ℕ) → old.held ≡ []
    → Passing whole (Ok tt) old now → now.held ≡ text ++ rest → PutsText text (Err error) now.out out
    → PutsText whole (Err error) old.out out
front_cut {whole} {text} {error} {old} {now} {out} rest none before begins put =
    broken none (passed_then before (front_put {new = record { held = rest; out = out; name = now.name }} rest put begins tt refl))

-- nothing was held back, and no memory was found
pub unput : {whole : List ℕ} {out : Seen (List ℕ)} → PutsText whole (Err sink_error.Memory) out out
unput {whole} {out} = broken {old = bare [] out} refl (none_passed {held = []})

-- to the same sink
pub puts_so : {text : List ℕ} {answer : Result (Unit {0}) SinkError} {old now new : Seen (List ℕ)} → PutsText text answer old now → now ≡ new
    → PutsText text answer old new
puts_so {text} {answer} {old} put same = subst (PutsText text answer old) same put

-- the same text
pub puts_text : {text same : List ℕ} {answer : Result (Unit {0}) SinkError} {old new : Seen (List ℕ)} → same ≡ text
    → PutsText text answer old new → PutsText same answer old new
puts_text {text} {same} {answer} {old} {new} is put = subst (λ t. PutsText t answer old new) (sym is) put

-- there is no line where there is no child
pub no_child : (path : List ℕ) (holds : Holds) → count_of holds ≡ 0 → held_lines path holds ≡ []
no_child path (Children []) none = refl
no_child path (Children (name ∷ names)) none = cc
no_child path (Owners []) none = refl
no_child path (Owners (owner ∷ owners)) none = cc

-- The step of a run

pub text_put : (text : List ℕ) (out new_out : Seen (List ℕ)) → PutsText text (Ok tt) out new_out → PutDoes (done text) (Ok tt) out new_out
text_put text out new_out put = record {
  answers = refl;
  output = put.all;
  outside = λ failed. cc;
  kept =
      λ ok. put.faults.kept refl;
  memory = λ failed. cc;
}

pub text_unput : (text : List ℕ) (error : SinkError) (out new_out : Seen (List ℕ)) → PutsText text (Err error) out new_out
    → PutDoes (done text) (Err (stop_of_sink error)) out new_out
text_unput text sink_error.Failed out new_out put = record {
  answers = refl;
  output = put.front;
  outside =
      λ failed. put.faults.rose refl;
  kept = λ ok. cc;
  memory = λ failed. cc;
}
text_unput text sink_error.Memory out new_out put = record {
  answers = tt;
  output = put.front;
  outside = λ failed. cc;
  kept =
      λ ok. cc;
  memory = λ same. inl refl;
}
