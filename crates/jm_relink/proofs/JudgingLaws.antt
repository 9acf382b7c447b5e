-- The modules of groups, and the first refusal, from what the steps come to.
use Rattle.std.proofs.Common.{◌≡◌, ℕ, inl, inr, Bool, true, false, cond, List, [], ◌∷◌, ◌++◌, append_assoc}
use Rattle.std.proofs.Common.{Contains, Option, Some, None, option_to_list, Result, Ok, Err, refl, sym, ap}
use Rattle.std.proofs.Common.{subst, ◌∙◌}
use Rattle.std.proofs.lemmas.Slice.Eq.{bytes_eq-Decides}
use Rattle.std.specs.List.{cons_option, filter_map}
use Rattle.std.specs.Str.{bytes_eq}
use Rattle.jm_bytes.specs.Results.{followed}
use Rattle.jm_bytes.proofs.Choice.{same_err, same_ok}
use Rattle.jm_bytes.proofs.Members.{contains_cases, contains_none}
use Rattle.jm_modinfo.specs.declared.descriptor.Descriptor.{Descriptor}
use Rattle.jm_modinfo.specs.declared.faults.DescriptorFault.{DescriptorFault}
use Rattle.jm_modinfo.specs.Descriptions.{info_for}
use Rattle.jm_relink.specs.declared.fault.RelinkFault.{RelinkFault}
use Rattle.jm_relink.specs.declared.fault.RelinkFault.TheVariants as fault_of
use Rattle.jm_relink.specs.Files.{info_entry}
use Rattle.jm_relink.specs.Groups.{Group}
use Rattle.jm_relink.specs.Judging.{descriptor_due, entry_due, group_due, groups_due, seen_with}
use Rattle.jm_relink.specs.Modules.{SeenModule, info_refusal}
use Rattle.jm_relink.proofs.ListLaws.{append_none, put_alone}

-- One module

-- what was said is a descriptor of this module
pub record IsOwn (m : List ℕ) (said : Result Descriptor DescriptorFault) (d : Descriptor) : Type 0 where
  pub says : said ≡ Ok d
  pub name : d.name ≡ m
  pub free : info_refusal m said ≡ None

own : (m : List ℕ) (said : Result Descriptor DescriptorFault) (d : Descriptor) → descriptor_due m said ≡ Ok d → IsOwn m said d
own m (Err fault) d h = cc
own m (Ok e) d h = go (bytes_eq e.name m) refl h
  where
    go : (b : Bool) → bytes_eq e.name m ≡ b → cond b (Ok e) (Err (fault_of.Foreign (info_entry m))) ≡ Ok d → IsOwn m (Ok e) d
    go false is k = cc
    go true is k =
        let one : e ≡ d = same_ok {E = RelinkFault} e d k in
        record {
          says = ap (λ x. Ok x) one;
          name = subst (λ (x : Descriptor). x.name ≡ m) one ((bytes_eq-Decides e.name m).0 is);
          free = ap (λ c. cond c None (Some (fault_of.Foreign (info_entry m)))) is;
        }

not_own : (m : List ℕ) (said : Result Descriptor DescriptorFault) (e : RelinkFault) → descriptor_due m said ≡ Err e
    → info_refusal m said ≡ Some e
not_own m (Err fault) e h = ap (λ x. Some x) (same_err {A = Descriptor} (fault_of.BadInfo (info_entry m) fault) e h)
not_own m (Ok d) e h = go (bytes_eq d.name m) refl h
  where
    go : (b : Bool) → bytes_eq d.name m ≡ b → cond b (Ok d) (Err (fault_of.Foreign (info_entry m))) ≡ Err e → info_refusal m (Ok d) ≡ Some e
    go true is k = cc
    go false is k =
        ap (λ c. cond c None (Some (fault_of.Foreign (info_entry m)))) is
        ∙ ap (λ x. Some x) (same_err {A = Descriptor} (fault_of.Foreign (info_entry m)) e k)

-- a module that isn't refused
pub record IsJudged (release : ℕ) (g : Group) (content : List ℕ) (o : Option SeenModule) : Type 0 where
  pub descriptor : Descriptor
  pub own : IsOwn g.0 (info_for release content) descriptor
  pub is : o ≡ Some (seen_with g.1 descriptor)

pub entry_ok : (release : ℕ) (g : Group) (content : List ℕ) (o : Option SeenModule) → entry_due release g (Some content) ≡ Ok o
    → IsJudged release g content o
entry_ok release g content o h = go (descriptor_due g.0 (info_for release content)) refl h
  where
    go : (r : Result Descriptor RelinkFault) → descriptor_due g.0 (info_for release content) ≡ r
        → followed (followed r (λ d. Ok (seen_with g.1 d))) (λ s. Ok (Some s)) ≡ Ok o → IsJudged release g content o
    go (Err e) is k = cc
    go (Ok d) is k = record {
      descriptor = d;
      own = own g.0 (info_for release content) d is;
      is = sym (same_ok {E = RelinkFault} (Some (seen_with g.1 d)) o k);
    }

pub entry_err : (release : ℕ) (g : Group) (content : List ℕ) (e : RelinkFault) → entry_due release g (Some content) ≡ Err e
    → info_refusal g.0 (info_for release content) ≡ Some e
entry_err release g content e h = go (descriptor_due g.0 (info_for release content)) refl h
  where
    go : (r : Result Descriptor RelinkFault) → descriptor_due g.0 (info_for release content) ≡ r
        → followed (followed r (λ d. Ok (seen_with g.1 d))) (λ s. Ok (Some s)) ≡ Err e
        → info_refusal g.0 (info_for release content) ≡ Some e
    go (Ok d) is k = cc
    go (Err other) is k =
        not_own g.0 (info_for release content) e (is ∙ ap (λ x. Err x) (same_err {A = Option SeenModule} other e k))

-- One module after another

-- the module of a group, if it isn't refused
abbrev pub value : Result (Option SeenModule) RelinkFault → Option SeenModule
value (Ok o) = o
value (Err e) = None

abbrev pub seen_of : ℕ → Group → Option SeenModule
seen_of release g = value (group_due release g)

-- a group isn't refused
abbrev pub IsFree : ℕ → Group → Type 0
IsFree release g = (o : Option SeenModule) × (group_due release g ≡ Ok o)

pub groups_ok : (release : ℕ) (seen : List SeenModule) (gs : List Group) (r : List SeenModule) → groups_due release seen gs ≡ Ok r
    → (r ≡ seen ++ filter_map (seen_of release) gs) × ((g : Group) → Contains gs g → IsFree release g)
groups_ok release seen [] r h =
    (sym (same_ok {E = RelinkFault} seen r h) ∙ sym (append_none seen), λ g there. absurd (contains_none g there))
groups_ok release seen (g ∷ gs) r h = go (group_due release g) refl h (λ more k. groups_ok release more gs r k)
  where
    go : (due : Result (Option SeenModule) RelinkFault) → group_due release g ≡ due
        → followed due (λ o. groups_due release (seen ++ option_to_list o) gs) ≡ Ok r
        → ((more : List SeenModule) → groups_due release more gs ≡ Ok r
        → (r ≡ more ++ filter_map (seen_of release) gs) × ((k : Group) → Contains gs k → IsFree release k))
        → (r ≡ seen ++ cons_option (seen_of release g) (filter_map (seen_of release) gs))
        × ((k : Group) → Contains (g ∷ gs) k → IsFree release k)
    go (Err e) is k rest = cc
    go (Ok o) is k rest =
        let later = rest (seen ++ option_to_list o) k in (
          later.0 ∙ append_assoc seen (option_to_list o) (filter_map (seen_of release) gs)
              ∙ ap (λ xs. seen ++ xs) (sym (put_alone o (filter_map (seen_of release) gs)))
              ∙ ap (λ due. seen ++ cons_option (value due) (filter_map (seen_of release) gs)) (sym is),
          λ x there. elim (contains_cases g gs x there) [
            | inl same ↦ subst (IsFree release) same (o, is)
            | inr behind ↦ later.1 x behind
          ],
        )

-- the first group that is refused
pub record IsFirstRefused (release : ℕ) (gs : List Group) (e : RelinkFault) : Type 0 where
  pub front : List Group
  pub group : Group
  pub back : List Group
  pub cut : gs ≡ front ++ group ∷ back
  pub refused : group_due release group ≡ Err e
  pub free : (g : Group) → Contains front g → IsFree release g

pub groups_err : (release : ℕ) (seen : List SeenModule) (gs : List Group) (e : RelinkFault) → groups_due release seen gs ≡ Err e
    → IsFirstRefused release gs e
groups_err release seen [] e h = cc
groups_err release seen (g ∷ gs) e h = go (group_due release g) refl h (λ more k. groups_err release more gs e k)
  where
    go : (due : Result (Option SeenModule) RelinkFault) → group_due release g ≡ due
        → followed due (λ o. groups_due release (seen ++ option_to_list o) gs) ≡ Err e
        → ((more : List SeenModule) → groups_due release more gs ≡ Err e → IsFirstRefused release gs e)
        → IsFirstRefused release (g ∷ gs) e
    go (Err other) is k rest = record {
      front = [];
      group = g;
      back = gs;
      cut = refl;
      refused = is ∙ ap (λ x. Err x) (same_err {A = List SeenModule} other e k);
      free = λ x there. absurd (contains_none x there);
    }
    go (Ok o) is k rest =
        let later = rest (seen ++ option_to_list o) k in
        record {
          front = g ∷ later.front;
          group = later.group;
          back = later.back;
          cut = ap (λ xs. g ∷ xs) later.cut;
          refused = later.refused;
          free = λ x there. elim (contains_cases g later.front x there) [
            | inl same ↦ subst (IsFree release) same (o, is)
            | inr behind ↦ later.free x behind
          ];
        }
