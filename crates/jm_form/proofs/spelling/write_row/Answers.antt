use Rattle.std.proofs.Common.{◌≡◌}
use Rattle.jm_form.specs.Rows.{usual}
use Rattle.jm_form.proofs.UsualLaws.{RowFits, usual_spells, usual_read_back, usual_in_turn}
use Rattle.jm_form.proofs.spelling.write_row.Goals as goal

whole : (c : goal.After-from_vec) → c.from_vec.result ≡ usual c.args.row.now
whole c = rw (
  c.from_vec.ensures,
  c.in_ok-extend.ensures.ok,
  c.in_ok-put_attribute-7.ensures.text,
  c.in_ok-put_attribute-6.ensures.text,
  c.in_ok-put_attribute-5.ensures.text,
  c.in_ok-put_attribute-4.ensures.text,
  c.in_ok-put_attribute-3.ensures.text,
  c.in_ok-put_attribute-2.ensures.text,
  c.in_ok-put_attribute.ensures.text,
  c.new-text.ensures.items,
) (usual_in_turn c.args.row.now)

fits : (c : goal.After-from_vec) → RowFits c.args.row.now
fits c = record {
  «module» = c.put_attribute.ensures.fits;
  parent = c.put_attribute-2.ensures.fits;
  base =
      c.put_attribute-3.ensures.fits;
  ext = c.put_attribute-4.ensures.fits;
  offset = c.put_attribute-5.ensures.fits;
  packed =
      c.put_attribute-6.ensures.fits;
  size = c.put_attribute-7.ensures.fits;
}

pub returns-clause-usual : goal.returns-clause-usual
returns-clause-usual c = whole c

pub returns-clause-spells : goal.returns-clause-spells
returns-clause-spells c = rw (whole c) (usual_spells c.args.row.now (fits c))

pub returns-clause-reads_back : goal.returns-clause-reads_back
returns-clause-reads_back c = rw (whole c) (λ rest. usual_read_back c.args.row.now rest (fits c))
