use Rattle.std.proofs.Common.{subst, sym}
use Rattle.jm_reader.specs.Look.{TextsEnd}
use Rattle.jm_form.specs.declared.rows.Compression.TheVariants.{Refused}
use Rattle.jm_reader.proofs.IndexLaws.{front_found, front_sound, front_texts_end}
use Rattle.jm_reader.proofs.look_up.find_row_in.Goals as goal

pub row_of_name-requires-clause-ends : goal.row_of_name-requires-clause-ends
row_of_name-requires-clause-ends g c =
    let v = c.args.index.now in
    let header = c.header.ensures in
    subst (λ l. TextsEnd l c.header.result) (sym c.buf.ensures)
    (front_texts_end Refused v.bytes v.length c.header.result header.front header.valid header.within)

pub returns-clause-found : goal.returns-clause-found
returns-clause-found g c b file =
    let v = c.args.index.now in
    let is = rw c.buf.ensures at c.row_of_name.ensures.row in
    (front_found v.bytes v.length c.header.result c.header.ensures.front c.header.ensures.valid c.args.name.now c.row_of_name.result is b
    file).found

pub returns-clause-sound : goal.returns-clause-sound
returns-clause-sound g c b file =
    let v = c.args.index.now in
    let is = rw c.buf.ensures at c.row_of_name.ensures.row in
    (front_found v.bytes v.length c.header.result c.header.ensures.front c.header.ensures.valid c.args.name.now c.row_of_name.result is b
    file).sound

pub returns-clause-content : goal.returns-clause-content
returns-clause-content g c b file =
    let v = c.args.index.now in
    let is = rw c.buf.ensures at c.row_of_name.ensures.row in
    (front_found v.bytes v.length c.header.result c.header.ensures.front c.header.ensures.valid c.args.name.now c.row_of_name.result is b
    file).content

pub returns-clause-row : goal.returns-clause-row
returns-clause-row g c =
    let v = c.args.index.now in
    let is = rw c.buf.ensures at c.row_of_name.ensures.row in
    front_sound v.bytes v.length c.header.result c.header.ensures.front c.header.ensures.valid c.args.name.now c.row_of_name.result
    c.header.ensures.within is
