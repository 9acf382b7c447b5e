-- Items of which the length is known.
use Rattle.std.specs.Prelude.{List, map, false}
use Rattle.jm_poolmap.specs.declared.forms.Item.{Item}
use Rattle.jm_poolmap.specs.declared.forms.Item.TheVariants.{Bytes, Site, OptionalSite, ByteSite}
use Rattle.jm_poolmap.specs.Forms as form
use Rattle.jm_poolmap.specs.Forms.{Form, Skip, site, optional_site, in_order}

-- that many bytes, or a site, as a form
abbrev pub item_form : Item → Form
item_form (Bytes n) = Skip n
item_form Site = site
item_form OptionalSite = optional_site
item_form ByteSite = form.Site false false

-- items one after the other
abbrev pub items : List Item → Form
items list = in_order (map item_form list)
