-- `writer::put_image` meets its contract: the test whether the image fits, the entries, and the rest of the image.
-- Assumes nothing.
use mathlib.Core.Path.{ap, sym, ◌∙◌}
use Rattle.std.specs.Prelude.{Err}
use Rattle.layout.specs.Editions.{shape}
use Rattle.layout.specs.Write.{fields_in}
use Rattle.writer.specs.Entries.{fields_bytes}
use Rattle.writer.proofs.Images.{image-room, image-put, image-not}
use Rattle.writer.proofs.put_image.Goals as goal

pub put_fields-requires : goal.put_fields-requires
put_fields-requires c = let a = c.args in
    let room = image-room a.format (fields_bytes (shape a.format) a.values.now (fields_in a.fields.now)) a.out.now c.requires.out_len_bound.1 (sym c.fits.ensures ∙ c.if-not-fits.false) in record { all_puttable = c.requires.all_puttable; out_len_bound = (c.requires.out_len_bound.0, rw c.header_length.ensures room) }

pub returns-then-not-fits : goal.returns-then-not-fits
returns-then-not-fits c = let a = c.args in
    image-not a.format (fields_bytes (shape a.format) a.values.now (fields_in a.fields.now)) a.out.now c.requires.out_len_bound.1 (sym c.fits.ensures ∙ c.if-not-fits.true) (ap Err c.from.ensures)

pub returns : goal.returns
returns c = let a = c.args in
    image-put a.format (fields_bytes (shape a.format) a.values.now (fields_in a.fields.now)) a.out.now c.requires.out_len_bound.1 (sym c.fits.ensures ∙ c.if-not-fits.false)
    c.header_length.ensures c.put_fields.ensures c.finish.ensures c.image_length.ensures
