-- What the code's tables say, as plain data.
use Rattle.jm_poolmap.specs.declared.forms.Content as content
use Rattle.jm_poolmap.specs.declared.forms.Content.TheVariants as told
use Rattle.jm_poolmap.specs.declared.forms.Operands as operands
use Rattle.jm_poolmap.specs.declared.forms.Operands.TheVariants as kind
use Rattle.jm_poolmap.specs.Attributes.{Content, Any, Items, ShortRows, Rows, Methods}
use Rattle.jm_poolmap.specs.Attributes.{Frames, Coded}
use Rattle.jm_poolmap.specs.Instructions as instructions

-- what the code's table says of an opcode, as plain data
abbrev pub operands_of : operands.Operands → instructions.Operands
operands_of (kind.Items list) = instructions.Items list.now
operands_of kind.Table = instructions.Table
operands_of kind.Lookup = instructions.Lookup
operands_of kind.Wide = instructions.Wide

-- what the code's table says of an attribute's body, as plain data
abbrev pub content_of : content.Content → Content
content_of told.Any = Any
content_of (told.Items list) = Items list.now
content_of (told.ShortRows row) = ShortRows row.now
content_of (told.Rows row) = Rows row.now
content_of told.Methods = Methods
content_of told.Frames = Frames
content_of told.Code = Coded
