use Rattle.std.proofs.Common.{◌≡◌, ◌∙◌, ◌∷◌, [], ◌++◌, Option, None, Some, is_none, true, ap, sym, refl, rules}
use Rattle.std.proofs.lemmas.List.{map-append}
use Rattle.std.specs.Str.{bytes_eq}
use Rattle.std.specs.Prelude.{ℕ}
use Rattle.indexmap.proofs.CallerLemmas.{insert_entry-new}
use Rattle.jm_pattern.specs.Numbers.{numbers_of, number_of}
use Rattle.jm_pattern.proofs.NumberLaws.{lookup_numbers, number_new}
use Rattle.jm_pattern.proofs.numbers.Numbers.add.Goals as goal

is_missing : (o : Option ℕ) → is_none o ≡ true → o ≡ None
is_missing None is = refl
is_missing (Some n) is = cc

pub returns-in_ok-insert-clause-ok : goal.returns-in_ok-insert-clause-ok
returns-in_ok-insert-clause-ok c =
    let es = c.self.inside.numbers.entries in
    let text = c.args.text in
    let named = ap (λ t. number_of t c.args.self.now) c.as_slice.ensures in
    let missing : is_none c.get.result ≡ true = search rules in
    let none : number_of text c.args.self.now ≡ None = sym named ∙ sym c.get.ensures ∙ is_missing c.get.result missing in
    let absent = lookup_numbers (λ k. k.items) c.into_vec.result.items es ∙ ap (number_of c.into_vec.result.items) c.self.view_is
    ∙ ap (λ t. number_of t c.args.self.now) c.into_vec.ensures ∙ none in
    let more = c.in_ok-insert.ensures.entries ∙ insert_entry-new (λ one other. bytes_eq one.items other.items) c.self.inside.numbers
    c.into_vec.result c.args.number absent in
    ap numbers_of more ∙ map-append (λ e. (e.0.items, e.1)) es ((c.into_vec.result, c.args.number) ∷ [])
    ∙ ap (λ l. l ++ (c.into_vec.result.items, c.args.number) ∷ []) c.self.view_is
    ∙ ap (λ t. c.args.self.now ++ (t, c.args.number) ∷ []) c.into_vec.ensures ∙ number_new text c.args.number c.args.self.now none
