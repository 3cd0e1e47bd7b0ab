-- `crc::check32_over` meets its contract: the last bytes are taken in after the others, and the final change follows.
-- Assumes nothing.
use Rattle.std.proofs.Common.{◌≡◌, ℕ, List, [], ◌++◌, map, refl, ap, sym, ◌∙◌, append-nil, rules}
use Rattle.crc.specs.Crc.{check_of, mirror, polynomial32}
use Rattle.crc.proofs.Mirror.{final-change}
use Rattle.crc.proofs.check32_over.Goals as goal

-- The check goes on from a remainder that is kept mirrored.
abbrev taken : ℕ → List ℕ → ℕ
taken r bs = check_of 32 polynomial32 r (map (mirror 8) bs)

-- The start is its own mirror.
start : mirror 32 0xFFFFFFFF ≡ 0xFFFFFFFF
unfolding mirror
start = refl

-- Where no bytes follow, the check gives the remainder.
none-follow : (r : ℕ) → taken r [] ≡ r
unfolding check_of
none-follow r = refl

pub returns : goal.returns
returns c = let args = c.args in let last = args.last.now in
    final-change c.taken_in.result _ (search rules)
    (sym (none-follow (mirror 32 c.taken_in.result))
    ∙ c.taken_in.ensures []
    ∙ ap (taken (mirror 32 c.taken_in-r.result)) (append-nil last)
    ∙ c.taken_in-r.ensures last
    ∙ ap (λ (s : ℕ). taken s (args.bytes.now ++ last)) start)
