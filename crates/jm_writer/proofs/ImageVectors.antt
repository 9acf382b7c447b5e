-- A small image that is written by the definitions: its table serves its names, and its header.
use Rattle.std.proofs.Common.{◌≡◌, ◌≢◌, ℕ, ◌^◌, ◌<◌, List, [], ◌∷◌, map, Some, Ok, refl, subst, arith}
use Rattle.std.proofs.lemmas.Bool.{false≢true}
use Rattle.std.proofs.lemmas.List.Elements.{All-cons, All-nil}
use Rattle.std.proofs.lemmas.List.Kept.{AllPairs-cons}
use Rattle.std.specs.Prelude.{codes, ◌==◌, slice_index, slice_index_or}
use Rattle.jm_bytes.proofs.Members.{any_contains}
use Rattle.jm_bytes.proofs.Pairs.{pairs_none}
use Rattle.jm_bytes.specs.declared.words.Order.TheVariants.{Big, Little}
use Rattle.jm_form.specs.Strings.{IsZeroFree}
use Rattle.jm_form.specs.declared.table.Redirect.TheVariants as redirect
use Rattle.jm_form.specs.declared.damage.Damage.TheVariants as damage
use Rattle.jm_form.specs.Damages.{first_damage}
use Rattle.jm_form.specs.Greedy.{GreedyTable, bucket_of, word_of}
use Rattle.jm_form.specs.Head.{header_of}
use Rattle.jm_form.specs.Layout.{Written, image_of, index_of, names_of, sized}
use Rattle.jm_form.specs.Serves.{Serves}
use Rattle.jm_form.specs.Table.{redirect_of, slot_of}
use Rattle.jm_form.specs.Validity.{Valid}
use Rattle.jm_writer.specs.Writable.{Writable, header_with}
use Rattle.jm_writer.proofs.ImageValid.{image_valid}

-- one entry in a table of two slots

abbrev one : List Written
one = (codes "/a/p/A", codes "hi") ∷ []

abbrev two_slots : GreedyTable
two_slots = record { length = 2; redirects = redirect.Slot 1 ∷ redirect.Slot 1 ∷ []; slots = 1 ∷ [] }

one_served : Serves (names_of one) 2 (map word_of two_slots.redirects) (1 ∷ [])
one_served = record {
  words_length = refl;
  given_length = refl;
  led = λ place below. led place (omega arith);
  apart = AllPairs-cons (λ a b. a ≢ b) 1 [] (All-nil (λ b. 1 ≢ b)) (pairs_none (λ a b. a ≢ b));
}
  where
    led : (place : ℕ) → 0 ≡ place → slot_of 2 (slice_index_or (names_of one) place [])
        (redirect_of (slice_index (map word_of two_slots.redirects) (bucket_of 2 (slice_index_or (names_of one) place []))))
        ≡ Some (slice_index (1 ∷ []) place)
    led place is = subst (λ p. slot_of 2 (slice_index_or (names_of one) p [])
        (redirect_of (slice_index (map word_of two_slots.redirects) (bucket_of 2 (slice_index_or (names_of one) p []))))
        ≡ Some (slice_index (1 ∷ []) p)) is refl

one_writable : Writable Little two_slots one
one_writable = record {
  named = All-cons (λ name. name ≢ []) (codes "/a/p/A") [] (λ e. cc) (All-nil (λ name. name ≢ []));
  zero_free = All-cons IsZeroFree (codes "/a/p/A") [] (λ zero. false≢true (any_contains (λ x. x == 0) (codes "/a/p/A") 0 zero refl))
      (All-nil IsZeroFree);
  serves = one_served;
  words = All-cons (λ r. word_of r < 2 ^ 32) (redirect.Slot 1) (redirect.Slot 1 ∷ []) (omega arith)
      (All-cons (λ r. word_of r < 2 ^ 32) (redirect.Slot 1) [] (omega arith) (All-nil (λ r. word_of r < 2 ^ 32)));
  within = omega arith;
}

one_valid : Valid (image_of Little two_slots one)
one_valid = image_valid Little two_slots one one_writable

one_header : header_of (image_of Little two_slots one) ≡ Ok (header_with (index_of Little two_slots (map sized one)))
one_header = refl

one_big_header : header_of (image_of Big two_slots one) ≡ Ok (record {
  order = Big;
  flags = 0;
  count = 1;
  length = 2;
  locations =
      10;
  strings = 13;
})
one_big_header = refl

-- an entry without a name and without content has the blank row, so it is lost: names have a byte

nameless_lost : first_damage (image_of Little (record { length = 1; redirects = redirect.Slot 0 ∷ []; slots = 0 ∷ [] }) (([], [])
    ∷ [])) ≡ Some (damage.Count 1 0)
nameless_lost = refl
