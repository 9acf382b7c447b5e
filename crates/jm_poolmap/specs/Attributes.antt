-- The bodies of the attributes of a class, a field, a method and a Code, by their names (JVMS 4.7;
-- which of them are known is this project's rule).
use Rattle.std.specs.Prelude.{ℕ, List, [], ◌∷◌, Option, Some, None, codes}
use Rattle.std.specs.Prelude.{if◌then◌else◌, option_and_then}
use Rattle.std.specs.Str.{bytes_eq}
use Rattle.jm_class.specs.Classes.{SlotData, utf8_at}
use Rattle.jm_class.specs.Layouts.{U1, U2}
use Rattle.jm_poolmap.specs.declared.forms.Place as place
use Rattle.jm_poolmap.specs.declared.forms.Place.TheVariants.{Class, Field, Method, Code}
use Rattle.jm_poolmap.specs.declared.forms.Item.{Item}
use Rattle.jm_poolmap.specs.declared.forms.Item.TheVariants.{Bytes, Site, OptionalSite}
use Rattle.jm_poolmap.specs.Forms.{Form, Never, Skip, Rest, Named, Then, Sized, site, in_order}
use Rattle.jm_poolmap.specs.Forms.{counted, form_if}
use Rattle.jm_poolmap.specs.Items.{items}
use Rattle.jm_poolmap.specs.Frames.{frame}
use Rattle.jm_poolmap.specs.Instructions.{instructions}

-- what a body consists of: any bytes, some items, a count of one byte or of two and that many rows,
-- bootstrap methods, frames, a Code
pub data Content : Type 0 where
  Any : Content
  Items : (items : List Item) → Content
  ShortRows : (row : List Item) → Content
  Rows : (row : List Item) → Content
  Methods : Content
  Frames : Content
  Coded : Content

-- the attributes that are known in one place, by their names
abbrev pub NamedRows : Type 0
NamedRows = List (List ℕ × Content)

-- the attributes that a class, a field and a method may have alike
abbrev pub common_rows : NamedRows
common_rows =
    (codes "Signature", Items (Site ∷ []))
    ∷ (codes "Deprecated", Any)
    ∷ (codes "Synthetic", Any)
    ∷ []

-- the attributes of a class
abbrev pub class_rows : NamedRows
class_rows =
    (codes "SourceFile", Items (Site ∷ []))
    ∷ (codes "NestHost", Items (Site ∷ []))
    ∷ (codes "NestMembers", Rows (Site ∷ []))
    ∷ (codes "InnerClasses", Rows (Site ∷ OptionalSite ∷ OptionalSite ∷ Bytes 2 ∷ []))
    ∷ (codes "EnclosingMethod", Items (Site ∷ OptionalSite ∷ []))
    ∷ (codes "BootstrapMethods", Methods)
    ∷ (codes "SourceDebugExtension", Any)
    ∷ common_rows

-- the attributes of a field
abbrev pub field_rows : NamedRows
field_rows = (codes "ConstantValue", Items (Site ∷ [])) ∷ common_rows

-- the attributes of a method
abbrev pub method_rows : NamedRows
method_rows =
    (codes "Code", Coded)
    ∷ (codes "Exceptions", Rows (Site ∷ []))
    ∷ (codes "MethodParameters", ShortRows (OptionalSite ∷ Bytes 2 ∷ []))
    ∷ common_rows

-- the attributes of a Code
abbrev pub code_rows : NamedRows
code_rows =
    (codes "LineNumberTable", Any)
    ∷ (codes "LocalVariableTable", Rows (Bytes 4 ∷ Site ∷ Site ∷ Bytes 2 ∷ []))
    ∷ (codes "LocalVariableTypeTable", Rows (Bytes 4 ∷ Site ∷ Site ∷ Bytes 2 ∷ []))
    ∷ (codes "StackMapTable", Frames)
    ∷ []

-- the attributes that are known in a place
abbrev pub rows_at : place.Place → NamedRows
rows_at Class = class_rows
rows_at Field = field_rows
rows_at Method = method_rows
rows_at Code = code_rows

-- what the row of a name says
abbrev pub named : NamedRows → List ℕ → Option Content
named [] name = None
named (row ∷ rows) name = if bytes_eq name row.0 then Some row.1 else named rows name

-- the same, by the place and the number of the constant of its name (a word of the proofs)
abbrev pub content_at : place.Place → List SlotData → ℕ → Option Content
content_at place pool index = option_and_then (named (rows_at place)) (utf8_at pool index)

-- a bootstrap method, and its arguments
abbrev pub bootstrap_method : Form
bootstrap_method = Then site (counted U2 (items (Site ∷ [])))

-- a handler: from, to and where it goes on, and the class that it catches
abbrev pub handler : Form
handler = items (Bytes 6 ∷ OptionalSite ∷ [])

-- the body of an attribute, where that of a Code is of a form
abbrev pub body : Form → Content → Form
body code Any = Rest
body code (Items list) = items list
body code (ShortRows row) = counted U1 (items row)
body code (Rows row) = counted U2 (items row)
body code Methods = counted U2 bootstrap_method
body code Frames = counted U2 frame
body code Coded = code

-- what follows the name of an attribute: its length, and its body
abbrev pub after_name : Form → place.Place → List ℕ → Form
after_name code place name =
    form_if (λ content. Sized (body code content)) (named (rows_at place) name)

-- an attribute: its name, which says what it consists of, and its body after its length
abbrev pub attribute_with : Form → place.Place → Form
attribute_with code place = Named (after_name code place)

-- an attribute of a Code, which is no Code
abbrev pub attribute_of_code : Form
attribute_of_code = attribute_with Never Code

-- the parts of a Code: the depth of the stack, the number of variables, the instructions, handlers
-- and attributes
abbrev pub code : Form
code = in_order (
    Skip 2 ∷ Skip 2 ∷ Sized instructions ∷ counted U2 handler ∷ counted U2 attribute_of_code ∷ [])

-- an attribute of a class, a field or a method
abbrev pub attribute : place.Place → Form
attribute place = attribute_with code place
