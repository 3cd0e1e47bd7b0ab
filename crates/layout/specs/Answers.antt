-- The answers of this crate, by the types that std has for them.
-- Assumes nothing.
use Rattle.std.specs.Prelude.{ℕ, zero, suc, Some, None}
use Rattle.std.specs.declared.option.Option.{Option}
use Rattle.std.specs.declared.result.Result.{Result}
use Rattle.layout.specs.declared.Entry.{Entry}
use Rattle.layout.specs.declared.Format.{Format}
use Rattle.layout.specs.declared.Frame.{Frame}
use Rattle.layout.specs.declared.Head.{Head}
use Rattle.layout.specs.declared.Part.{Part}
use Rattle.layout.specs.declared.Refusal.{Refusal}

-- what a call's format and edition come to: a layout, or the number of the refusal
abbrev pub Chosen : Type 0
Chosen = Result Format ℕ

-- the answer of a check and of a list: how many entries there are
abbrev pub Checked : Type 0
Checked = Result ℕ Refusal

-- the answer for one entry
abbrev pub Lookup : Type 0
Lookup = Result Entry Refusal

-- the answer that gives a part of the lent image
abbrev pub Located : Type 0
Located = Result Part Refusal

-- the answer of a write and of an edit: the length of the image, its end included. Of a vendor write: the number of bytes put out
abbrev pub Made : Type 0
Made = Result ℕ Refusal

-- what an image's header says: its entries start at the first place, and their room ends before the second
abbrev pub Opened : Type 0
Opened = Result (ℕ × ℕ) Refusal

-- what opens an entry: its head, or none where the entries end here; or the number of the refusal
abbrev pub Headed : Type 0
Headed = Result (Option Head) ℕ

-- a length that was read, with the place after it, from the entry's first byte; or the number of the refusal
abbrev pub Length : Type 0
Length = Result (ℕ × ℕ) ℕ

-- what stands at the front of the room that is left: the frame of an entry, or none where the entries end; or the number of the refusal
abbrev pub Next : Type 0
Next = Result (Option Frame) ℕ

-- what a definition finds wrong, by its number, which is 0 for nothing
abbrev pub fault_told : ℕ → Option ℕ
fault_told zero = None
fault_told (suc n) = Some (suc n)
