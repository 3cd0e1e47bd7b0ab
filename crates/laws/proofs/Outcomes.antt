-- What is said of a head, of a length that is read and of a room, by which of them there is.
-- Assumes nothing.
use Prim.Native.Nat.{ℕ}
use Rattle.std.specs.Prelude.{Ok, Err, Some, None}
use Rattle.layout.specs.declared.Head.{Head}
use Rattle.layout.specs.Answers.{Headed, Length, Opened}

-- what is said of a head that opens, and what where the entries end
abbrev pub OnHeaded : (Head → Type 0) → Type 0 → Headed → Type 0
OnHeaded P Q (Ok (Some h)) = P h
OnHeaded P Q (Ok None) = Q
OnHeaded P Q (Err n) = Unit {0}

-- what is said of a length that is read
abbrev pub OnLength : (ℕ → ℕ → Type 0) → Length → Type 0
OnLength P (Ok (v, j)) = P v j
OnLength P (Err n) = Unit {0}

-- what is said of a room
abbrev pub OnOpened : (ℕ → ℕ → Type 0) → Opened → Type 0
OnOpened P (Ok (start, end)) = P start end
OnOpened P (Err r) = Unit {0}

-- What follows from what is said of a room is said of it.
pub on-opened : {P Q : ℕ → ℕ → Type 0} → ((start end : ℕ) → P start end → Q start end) → (x : Opened) → OnOpened P x → OnOpened Q x
on-opened f (Ok (start, end)) p = f start end p
on-opened f (Err r) p = tt
