-- `editor::Entries::len` meets its contract: three lengths, added up.
-- Assumes nothing.
use Rattle.layout.specs.Editions.{shape}
use Rattle.editor.specs.Here.{fresh_bytes}
use Rattle.editor.proofs.Splicing.{capped-spliced}
use Rattle.editor.proofs.Entries.len.Goals as goal

pub returns : goal.returns
returns c = let x = c.args.self in
    capped-spliced x.front.now (fresh_bytes (shape c.args.format) x.fresh) x.after.now c.len.ensures c.add_capped-n.ensures c.add_capped.ensures
