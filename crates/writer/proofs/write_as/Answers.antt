-- `writer::write_as` meets its contract: what the judgement of the fields comes to.
-- Assumes nothing.
use mathlib.Core.Path.{refl}
use Rattle.layout.specs.Write.{fields_in}
use Rattle.layout.proofs.Passed.{passed}
use Rattle.writer.proofs.Judged.{sound, sound-put, write-sound, write-unsound}
use Rattle.writer.proofs.write_as.Goals as goal

pub returns-in_err-n : goal.returns-in_err-n
returns-in_err-n c = let a = c.args in
    rw (write-unsound a.format a.edition (fields_in a.fields.now) a.values.now a.out.now c.judge_fields.ensures c.in_err-n.was)
    (passed c.from_residual.result c.from_residual.ensures.1, refl)

pub put_image-requires : goal.put_image-requires
put_image-requires c = let a = c.args in
    let s = sound a.format a.edition (fields_in a.fields.now) a.values.now c.judge_fields.ensures c.in_ok-n.was in record { all_puttable = sound-put a.format a.edition (fields_in a.fields.now) a.values.now s; out_len_bound = (c.requires, s.cut) }

pub returns : goal.returns
returns c = let a = c.args in
    let s = sound a.format a.edition (fields_in a.fields.now) a.values.now c.judge_fields.ensures c.in_ok-n.was in
    rw (write-sound a.format a.edition (fields_in a.fields.now) a.values.now a.out.now s) c.put_image.ensures
