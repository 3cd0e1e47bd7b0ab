-- The walk that a pass over an image goes by, and the entries on its way.
-- Assumes nothing.
use Rattle.std.specs.Prelude.{ℕ, ◌-◌, List, [], false}
use Rattle.layout.specs.declared.Format.{Format}
use Rattle.layout.specs.Bytes.{part}
use Rattle.layout.specs.Editions.{shape}
use Rattle.layout.specs.Walk.{Raw, Walked, done, stop, walk}

-- the walk over the room from start to end
abbrev pub walked : Format → List ℕ → ℕ → ℕ → Walked
walked f image start end = walk (shape f) false start (part start (end - start) image)

-- the walk came to its end
abbrev pub IsDone : Walked → Type 0
IsDone (done rs p) = Unit {0}
IsDone (stop k p) = ⊥

abbrev pub raws_in : Walked → List Raw
raws_in (done rs p) = rs
raws_in (stop k p) = []
