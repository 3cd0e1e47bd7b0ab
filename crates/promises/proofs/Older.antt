-- An older edition reads what a newer one reads.
-- Assumes nothing.
use Prim.Native.Nat.{ℕ, ◌≤◌}
use mathlib.Core.Path.{◌≡◌, ap, ◌∙◌}
use mathlib.Core.List.{List, [], map}
use Rattle.std.specs.Prelude.{Ok}
use Rattle.layout.specs.declared.Format.{Format}
use Rattle.layout.specs.Editions.{shape, chosen}
use Rattle.layout.specs.Walk.{Raw, content}
use Rattle.laws.proofs.Judging.{lawful-down}
use Rattle.laws.proofs.Calls.{Reading, accepted-reading, made-reading}
use Rattle.promises.proofs.Telling.{one_format, chosen-serves}

-- a number that chooses a format in two editions chooses the same
pub same_chosen : (f e o : ℕ) (g h : Format) → chosen f e ≡ Ok g → chosen f o ≡ Ok h → chosen f o ≡ Ok g
same_chosen f e o g h k l = l ∙ ap Ok (one_format (chosen-serves f o h l).number (chosen-serves f e g k).number)

-- the older edition has a format, whichever it is
pub older-reading : (f o n : ℕ) (image : List ℕ) (g h : Format) (start : ℕ) (rs : List Raw) → chosen f o ≡ Ok h → o ≤ n →
    Reading f n image g start rs → Reading f o image g start rs
older-reading f o n image g h start rs k le r =
    let m = r.made in
    accepted-reading f o image g start rs
    (rw (m.is, m.starts)
    (made-reading f o g rs m.closing m.rest (same_chosen f n o g h r.known k) m.closes m.takes m.frames
    (lawful-down (shape g) o n [] (map content rs) le m.lawful) m.required (rw m.is at r.short)))
