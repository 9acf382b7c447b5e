-- The pieces of a name as the code holds them, seen as plain texts.
use Rattle.jm_names.specs.Names.{Cut}
use Rattle.jm_names.specs.declared.pieces.Pieces.{Pieces}

-- the pieces that the code holds, as texts
abbrev pub cut_of : Pieces → Cut
cut_of pieces = record {
  «module» = pieces.module.now;
  parent = pieces.parent.now;
  base = pieces.base.now;
  ext = pieces.ext.now;
}
