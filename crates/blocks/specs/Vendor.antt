-- The two calls for vendor blocks (02, "Vendor blocks for the optics lab").
-- Assumes nothing.
use Rattle.std.specs.Prelude.{ℕ, List, [], ◌∷◌, ◌++◌, map, length, drop, ltb, leb, eqb, Ok, Err}
use Rattle.layout.specs.declared.Refusal.{Refusal}
use Rattle.layout.specs.Answers.{Chosen}
use Rattle.layout.specs.Bytes.{if, part_at, refusal}
use Rattle.layout.specs.Editions.{chosen}
use Rattle.layout.specs.Walk.{Content, content}
use Rattle.layout.specs.Read.{limit, Read, accepted, refused, read_image}
use Rattle.layout.specs.Calls.{Told, told, told_refusal}
use Rattle.layout.specs.Write.{word, items_in, Outcome, refuse, put_bytes}
use Rattle.blocks.specs.declared.Offsets.{Offsets}
use Rattle.blocks.specs.Answers.{Said, Vended}
use Rattle.blocks.specs.Payload.{matching, joined, payload_says, payload_of, cut_into, writable}

-- ---- what both calls ask first

abbrev pub ask_chosen : Chosen → ℕ → Chosen
ask_chosen (Ok f) lent = if (ltb limit lent) (λ _. Err 2) (λ _. Ok f)
ask_chosen (Err n) lent = Err n

-- 16 for any format but 4; 1 for an unknown edition, and 16 for one that does not have the format; 2 where too many bytes are lent to be written
unfoldable pub asked : ℕ → ℕ → ℕ → Chosen
asked f e lent = if (eqb f 4) (λ _. ask_chosen (chosen f e) lent) (λ _. Err 16)

-- ---- read

-- the answer of a read, and what the lent buffer then is
pub record Taking : Type 0 where
  pub answer : Vended
  pub memory : List ℕ

-- a refused read leaves the buffer as it was
abbrev pub untaken : Refusal → List ℕ → Taking
untaken r buffer = record { answer = Err r; memory = buffer }

-- the payload goes to the buffer's front, and the bytes past it stay; 12 where it does not fit
abbrev pub taking : Said → List ℕ → List ℕ → Taking
taking (Ok b) payload buffer =
    if (leb (length payload) (length buffer))
    (λ _. record { answer = Ok ((length payload), b); memory = payload ++ drop (length payload) buffer })
    (λ _. untaken (refusal 12 0) buffer)
taking (Err n) payload buffer = untaken (refusal n 0) buffer

-- 17 where no entry matches; then what the payload comes to
abbrev pub take_matching : List Content → List ℕ → Taking
take_matching [] buffer = untaken (refusal 17 0) buffer
take_matching (c ∷ cs) buffer = taking (payload_says (joined (c ∷ cs))) (joined (c ∷ cs)) buffer

-- by what the image is read as
abbrev pub take_read : Read → List ℕ → Taking
take_read (accepted f start rs) buffer = take_matching (matching (map content rs)) buffer
take_read (refused r) buffer = untaken r buffer

abbrev pub take_asked : Chosen → ℕ → ℕ → List ℕ → List ℕ → Taking
take_asked (Ok g) f e img buffer = take_read (read_image f e img) buffer
take_asked (Err n) f e img buffer = untaken (refusal n 0) buffer

-- what both ask, of the buffer; 2 for the image and the image's own refusals; then 17 to 20, 12
unfoldable pub read_vendor : ℕ → ℕ → List ℕ → List ℕ → Taking
read_vendor f e img buffer = take_asked (asked f e (length buffer)) f e img buffer

-- what the answer tells beside the block: the length of the payload, or the refusal
abbrev pub told_vended : Vended → Told
told_vended (Ok (n, b)) = told n (part_at 0 0) []
told_vended (Err r) = told_refusal r

-- ---- write

-- piece lengths in lent bytes, four bytes for each, low byte first; a last one that is cut short counts as none
unfoldable pub pieces_in : List ℕ → List ℕ
pieces_in s = items_in 4 (word 0) s

abbrev pub put_asked : Chosen → List ℕ → Offsets → List ℕ → List ℕ → Outcome
put_asked (Ok g) serial o pieces out =
    if (writable serial pieces) (λ _. put_bytes (cut_into pieces (payload_of serial o)) out) (λ _. refuse (refusal 18 0) out)
put_asked (Err n) serial o pieces out = refuse (refusal n 0) out

-- what both ask, of the output; then 18, 12
unfoldable pub write_vendor : ℕ → ℕ → List ℕ → Offsets → List ℕ → List ℕ → Outcome
write_vendor f e serial o pieces out = put_asked (asked f e (length out)) serial o pieces out
