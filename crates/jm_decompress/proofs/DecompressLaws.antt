-- What a `decompress` does, from what its steps did.
use Rattle.std.proofs.Common.{◌≡◌, false, ℕ, List, [], ◌∷◌, Option, Result, Ok, Err, refl, sym, ap, ◌∙◌, subst}
use Rattle.jm_bytes.specs.declared.words.Order.{Order}
use Rattle.jm_form.specs.declared.container.Header.{Header}
use Rattle.jm_form.specs.Layout.{Written}
use Rattle.jm_form.specs.Places.{strings}
use Rattle.jm_form.specs.Validity.{StoredAs}
use Rattle.jm_link.specs.Linked.{IsPluggedTo, LinkedImage, PlugsTo, Request}
use Rattle.jm_link.specs.Links.{IsLaid, PoolComesTo}
use Rattle.jm_modset.specs.Shown.{AreFit}
use Rattle.jm_plugins.specs.declared.chain.BadClass.{BadClass}
use Rattle.jm_plugins.specs.Matching.{kept}
use Rattle.jm_plugins.specs.Plugins.{GoesOn}
use Rattle.jm_pool.specs.Pairs.{names_of}
use Rattle.jm_reader.specs.Look.{head}
use Rattle.jm_reader.proofs.HeadLaws.{head_is}
use Rattle.jm_texts.specs.declared.refusal.Refusal.{Refusal}
use Rattle.jm_words.specs.declared.tasks.Plugin.TheVariants as plugin
use Rattle.jm_decompress.specs.declared.told.ToldResources.{ToldResources}
use Rattle.jm_decompress.specs.Decompressed.{AreContents, DecompressComes, IsJudgedTo, IsLaidTo, laid}
use Rattle.jm_decompress.specs.Steps.{AreTextsOf, AreTold, IsRefusedBy}
use Rattle.jm_decompress.proofs.ContentLaws.{same_names}

-- the byte order of the header, and the strings that were read
pub texts_of : (b : List ℕ) (h : Header) (texts : List ℕ) → StoredAs b h → texts ≡ strings b (head b) → AreTextsOf b h.order texts
texts_of b h texts valid are = record { order = ap (λ (g : Header). g.order) (sym (head_is b h valid.header)); strings = are }

-- contents are written as by a link that keeps an order
abbrev pub asked : Order → List (List ℕ) → Request
asked order names = record {
  release = 21;
  roots = [];
  bind = false;
  plugins = plugin.KeepOrder names ∷ [];
  order = order;
}

-- what that one plug-in makes of contents is laid out
plugged : (order : Order) (names : List (List ℕ)) (contents : List Written) (r : Result LinkedImage Refusal)
    → PlugsTo (asked order names) 0 contents r → r ≡ laid order (kept names contents)
plugged order names contents r (left, (made, is, goes), to) =
    let left_is : left ≡ Ok (kept names contents) = subst (λ m. GoesOn (λ (pairs : List Written) (s : Result (List Written) BadClass). s
    ≡ Ok pairs) m left) is goes in
    subst (λ l. IsPluggedTo order 0 l r) left_is to

-- the index refuses the resources
pub judged_comes : (b : List ℕ) (given : Refusal) → IsRefusedBy b given → DecompressComes b (Err given)
judged_comes b given (rs, named, is) =
    ((rs, named, subst (λ (o : Option Refusal). IsJudgedTo b rs o (Err given)) (sym is) refl), tt)

module _ (b : List ℕ) (told : ToldResources) (are : AreTold b told) where
  comes : (r : Result LinkedImage Refusal) (had : Result (List Written) Refusal) → AreContents b told.resources had → IsLaidTo b had r
      → IsLaid (head b).order r → DecompressComes b r
  comes r had contents to image = (
    (told.resources, are.named, subst (λ (o : Option Refusal). IsJudgedTo b told.resources o r) (sym are.free) (had, contents, to)),
    image,
  )

  -- a content can't be had
  pub packed_comes : (given : Refusal) → AreContents b told.resources (Err given) → DecompressComes b (Err given)
  packed_comes given contents = comes (Err given) (Err given) contents refl tt

  module _ (contents : List Written) (had : AreContents b told.resources (Ok contents)) where
    pub contents_fit : AreFit (names_of contents)
    contents_fit = subst AreFit (sym (same_names b told.resources contents had)) are.fit

    -- the contents were written
    pub pool_comes : (r : Result LinkedImage Refusal) → PoolComesTo (asked (head b).order told.order) 0 contents r → DecompressComes b r
    pool_comes r (plugs, image) =
        comes r (Ok contents) had (plugged (head b).order told.order contents r plugs
        ∙ ap (λ names. laid (head b).order (kept names contents)) are.order) image
