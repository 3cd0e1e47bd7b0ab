-- `editor::Entries::put` meets its contract: the test whether the image fits, the entries, and the rest of the image.
-- Assumes nothing.
use Rattle.layout.specs.Editions.{shape}
use Rattle.layout.proofs.Outcomes.{outcome}
use Rattle.editor.specs.Here.{entries_of}
use Rattle.editor.proofs.Splicing.{entries-not, entries-room, entries-put}
use Rattle.editor.proofs.Entries.put.Goals as goal

pub returns-then-not-fits : goal.returns-then-not-fits
returns-then-not-fits c = let a = c.args in
    rw c.from.ensures (outcome (entries-not a.format (entries_of (shape a.format) a.self) a.out.now c.len-n.ensures c.fits.ensures c.if-not-fits.true))

pub lay-requires : goal.lay-requires
lay-requires c = let a = c.args in
    record { out_len_bound = c.requires; entries_in_bounds = entries-room a.format (entries_of (shape a.format) a.self) a.out.now c.len-n.ensures c.fits.ensures c.if-not-fits.false }

pub returns : goal.returns
returns c = let a = c.args in
    outcome (entries-put a.format (entries_of (shape a.format) a.self) a.out.now c.len-n.ensures c.fits.ensures c.if-not-fits.false c.lay.ensures c.finish.ensures c.image_length.ensures)
