-- The greedy table, evaluated on a few names.
use Rattle.std.proofs.Common.{◌≡◌, [], ◌∷◌, Some, None, refl}
use Rattle.std.specs.Prelude.{codes}
use Rattle.jm_form.specs.declared.table.Redirect.TheVariants as redirect
use Rattle.jm_form.specs.Greedy.{lengths_from, greedy, buckets_in_turn, seeds}

lengths_of_two : lengths_from 4 2 ≡ 2 ∷ 3 ∷ 5 ∷ 7 ∷ []
lengths_of_two = refl

three_in_turn : buckets_in_turn (codes "a" ∷ codes "b" ∷ codes "c" ∷ []) 3 ≡ 2 ∷ 1 ∷ []
three_in_turn = refl

no_name : greedy [] 0 ≡ Some (record { length = 0; redirects = []; slots = [] })
no_name = refl

one_name : greedy (codes "a" ∷ []) 1 ≡ Some (record { length = 1; redirects = redirect.Slot 0 ∷ []; slots = 0 ∷ [] })
one_name = refl

three_names : greedy (codes "a" ∷ codes "b" ∷ codes "c" ∷ []) 3
    ≡ Some (record { length = 3; redirects = redirect.Nowhere ∷ redirect.Slot 2 ∷ redirect.Seed 1 ∷ []; slots = 1 ∷ 0 ∷ 2 ∷ [] })
unfolding seeds
three_names = refl

both_nodes : greedy (codes "/packages" ∷ codes "/modules" ∷ []) 2 ≡ None
unfolding seeds
both_nodes = refl

both_nodes_at_three : greedy (codes "/packages" ∷ codes "/modules" ∷ []) 3
    ≡ Some (record { length = 3; redirects = redirect.Slot 0 ∷ redirect.Slot 1 ∷ redirect.Nowhere ∷ []; slots = 1 ∷ 0 ∷ [] })
unfolding seeds
both_nodes_at_three = refl

four_nodes_at_four : greedy (codes "/m/a" ∷ codes "/modules/m" ∷ codes "/packages" ∷ codes "/modules" ∷ []) 4 ≡ None
unfolding seeds
four_nodes_at_four = refl

four_nodes : greedy (codes "/m/a" ∷ codes "/modules/m" ∷ codes "/packages" ∷ codes "/modules" ∷ []) 5
    ≡ Some (record {
      length = 5;
      redirects = redirect.Nowhere ∷ redirect.Slot 1 ∷ redirect.Seed 2 ∷ redirect.Nowhere
          ∷ redirect.Nowhere ∷ [];
      slots = 1 ∷ 0 ∷ 2 ∷ 4 ∷ [];
    })
unfolding seeds
four_nodes = refl

five_names : greedy (codes "a" ∷ codes "b" ∷ codes "c" ∷ codes "d" ∷ codes "e" ∷ []) 5
    ≡ Some (record {
      length = 5;
      redirects = redirect.Seed 5 ∷ redirect.Nowhere ∷ redirect.Slot 0 ∷ redirect.Slot 1
          ∷ redirect.Slot 3 ∷ [];
      slots = 2 ∷ 1 ∷ 0 ∷ 4 ∷ 3 ∷ [];
    })
unfolding seeds
five_names = refl

six_names : greedy (codes "a" ∷ codes "b" ∷ codes "c" ∷ codes "d" ∷ codes "e" ∷ codes "f" ∷ []) 7
    ≡ Some (record {
      length = 7;
      redirects = redirect.Nowhere ∷ redirect.Slot 0 ∷ redirect.Slot 1 ∷ redirect.Slot 3
          ∷ redirect.Slot 4 ∷ redirect.Nowhere ∷ redirect.Seed 1 ∷ [];
      slots = 2 ∷ 1 ∷ 0 ∷ 4 ∷ 3 ∷ 5 ∷ [];
    })
unfolding seeds
six_names = refl

three_wide : greedy (codes "a" ∷ codes "b" ∷ codes "c" ∷ []) 5
    ≡ Some (record {
      length = 5;
      redirects = redirect.Slot 0 ∷ redirect.Nowhere ∷ redirect.Slot 1 ∷ redirect.Slot 2
          ∷ redirect.Nowhere ∷ [];
      slots = 0 ∷ 2 ∷ 1 ∷ [];
    })
unfolding seeds
three_wide = refl

long_names : greedy (codes "/m/p/A.class" ∷ codes "/m/p/B.class" ∷ codes "/m/q/A.class" ∷ codes "/m/q/B.class" ∷ []) 4
    ≡ Some (record {
      length = 4;
      redirects = redirect.Slot 0 ∷ redirect.Slot 1 ∷ redirect.Slot 2 ∷ redirect.Slot 3 ∷ [];
      slots =
          0 ∷ 3 ∷ 1 ∷ 2 ∷ [];
    })
unfolding seeds
long_names = refl

same_hash : greedy (codes "sdvftpvypyfbsuvdfziriooruykkqjlparolzjqxggywzobvf"
    ∷ codes "sdvftpvypyfbsuvdfziriooruykkqjlparolzjqxggpgtpfmu" ∷ codes "a" ∷ []) 3
    ≡ Some (record { length = 3; redirects = redirect.Seed 2 ∷ redirect.Nowhere ∷ redirect.Slot 0 ∷ []; slots = 2 ∷ 1 ∷ 0 ∷ [] })
unfolding seeds
same_hash = refl
