-- Texts that a sink gets.
use Rattle.std.proofs.Common.{◌≡◌, ◌++◌, ℕ, List, [], length, Option, Some, None, option_map, refl, sym, ap, ◌∙◌, subst, arith, append-nil}
use Rattle.std.proofs.lemmas.List.{take_all}
use Rattle.jm_bytes.proofs.Choice.{same_some}
use Rattle.jm_outside.specs.Outcome.{PutsFront, Told}
use Rattle.jm_inspect.specs.Sinks.{Gets, GetsFront, Seen}

-- the empty text changes nothing
pub gets_nothing : (old new : Seen (List ℕ)) → new.told ≡ old.told → Gets [] old new
gets_nothing old new same = same ∙ go old.told
  where
    go : (told : Option (List ℕ)) → told ≡ option_map (λ put. put ++ []) told
    go None = refl
    go (Some put) = ap (λ text. Some text) (sym (append-nil put))

-- a sink that got nothing got a front
pub front_of_nothing : (text : List ℕ) (old new : Seen (List ℕ)) → new.told ≡ old.told → GetsFront text old new
front_of_nothing text old new same = subst (λ (told : Option (List ℕ)). Told old.told told (λ before after. PutsFront before after
    text)) (sym same) (go old.told)
  where
    go : (told : Option (List ℕ)) → Told told told (λ before after. PutsFront before after text)
    go None = tt
    go (Some put) = (0, omega arith, sym (append-nil put))

-- and so did one that got all
pub front_of_all : (text : List ℕ) (old new : Seen (List ℕ)) → Gets text old new → GetsFront text old new
front_of_all text old new gets = go old.told new.told gets
  where
    go : (told after : Option (List ℕ)) → after ≡ option_map (λ put. put ++ text) told
        → Told told after (λ before after. PutsFront before after text)
    go None after gets = tt
    go (Some put) None gets = cc
    go (Some put) (Some all) gets = (
      length text,
      omega arith,
      same_some all (put ++ text) gets
          ∙ ap (λ more. put ++ more) (sym (take_all (length text) text (omega arith))),
    )
