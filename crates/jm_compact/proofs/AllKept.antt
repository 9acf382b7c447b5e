-- A pool of kept slots stays when all of them are kept.
use Rattle.std.proofs.Common.{◌≡◌, ℕ, ◌<◌, Bool, true, false, List, [], ◌∷◌, get_or, length, map}
use Rattle.std.proofs.Common.{Contains, refl, ap, ap₂, ◌∙◌, arith}
use Rattle.jm_bytes.proofs.Members.{contains_here, contains_later}
use Rattle.jm_class.specs.Classes.{SlotData, Constant}
use Rattle.jm_compact.specs.Compact.{new_number, renamed, compact_pool}
use Rattle.jm_compact.proofs.KeptSlots.{IsKept, IsClosed, kept_all, kept_slot, number_within}
use Rattle.jm_compact.proofs.NewNumbers.{new_number-all}
use Rattle.jm_compact.proofs.Shapes.{renamed_same, renamed_twice}
use Rattle.jm_compact.proofs.Trees.{each_kept, fits_number, fit_two}

map_same : {A : Type 0} (f : A → A) (items : List A) → ((x : A) → Contains items x → f x ≡ x) → map f items ≡ items
map_same f [] same = refl
map_same f (x ∷ items) same = ap₂ (λ y ys. y ∷ ys) (same x (contains_here x items))
    (map_same f items (λ y there. same y (contains_later x items y there)))

module _ (pool : List SlotData) (flags again : List Bool) (size : length again ≡ length (compact_pool flags pool))
    (all : (place : ℕ) → place < length again → get_or again place false ≡ true) where
  pub number_stays : (i : ℕ) → IsKept pool flags i → new_number again (new_number flags i) ≡ new_number flags i
  number_stays i kept_i =
      let within = (number_within (compact_pool flags pool) (new_number flags i) _ (kept_slot pool flags i kept_i)).1 in
      new_number-all again all (new_number flags i) (omega (arith, within, size))

  pub compact_again : IsClosed pool flags → compact_pool again (compact_pool flags pool) ≡ compact_pool flags pool
  compact_again closed =
      ap (map (renamed (new_number again))) (kept_all again (compact_pool flags pool) size all)
      ∙ map_same (renamed (new_number again)) (compact_pool flags pool)
      (each_kept pool flags (λ slot. renamed (new_number again) slot ≡ slot) refl stays)
    where
      stays : (i : ℕ) (kept_i : IsKept pool flags i) → renamed (new_number again) (renamed (new_number flags) (Constant kept_i.tag
          kept_i.body)) ≡ renamed (new_number flags) (Constant kept_i.tag kept_i.body)
      stays i kept_i =
          let fits = fits_number pool flags closed i kept_i.tag kept_i.body kept_i.is in
          renamed_twice (new_number flags) (new_number again) kept_i.tag kept_i.body fits
          (fit_two pool flags closed i kept_i.tag kept_i.body kept_i.is)
          ∙ renamed_same (λ n. new_number again (new_number flags n)) (new_number flags) kept_i.tag kept_i.body fits
          (λ k named. number_stays k (closed.names i kept_i k named))
