-- What the passes over an image answer.
-- Assumes nothing.
use Rattle.std.specs.Prelude.{ℕ, zero, suc, ◌+◌, ◌-◌, ◌≡◌, List, [], ◌∷◌, Bool, true, false, length, take, Ok, Err, Some, None}
use Rattle.std.specs.declared.option.Option.{Option}
use Rattle.layout.specs.declared.Format.{Format}
use Rattle.layout.specs.Bytes.{part, refusal}
use Rattle.layout.specs.Shape.{next, Judged, fine, faulty}
use Rattle.layout.specs.Editions.{shape}
use Rattle.layout.specs.Walk.{Raw, Walked, done, stop}
use Rattle.layout.specs.Read.{judge, complete, codes_of}
use Rattle.accept.specs.Answers.{Judgement, Ending}

-- a pass that stood at q has come to p over these entries. b tells whether none may follow the entry before q, and c the one before p
abbrev pub Passed : Format → List ℕ → ℕ → Bool → ℕ → List Raw → Bool → ℕ → Type 0
Passed f image end b q [] c p = (b ≡ c) × (q ≡ p)
Passed f image end b q (r ∷ rs) c p =
    (next (shape f) b (part q (end - q) image) ≡ Ok (Some r.frame))
    × (r.bytes ≡ take r.frame.size (part q (end - q) image))
    × Passed f image end ((shape f).last r.frame.code) (q + r.frame.size) rs c p

-- how a walk ends, where n entries came before, and the rules come to this
abbrev pub walk_ending : ℕ → Judgement → Walked → Ending
walk_ending n j (done rs p) = Ok (record { count = n + length rs; over = p; judgement = j })
walk_ending n j (stop k p) = Err (refusal k p)

-- 7 and 8 entry by entry, then 11
abbrev pub judgement : Judged → Bool → Judgement
judgement fine true = Ok tt
judgement fine false = Err (refusal 11 0)
judgement (faulty n p) b = Err (refusal n p)

-- the judgement of all entries, of which the first stands at p
abbrev pub judged : Format → ℕ → List Raw → ℕ → Judgement
judged f e rs p = judgement (judge (shape f) e [] rs p) (complete (shape f).required (codes_of rs))

-- how a walk ends whose first entry stands at `start`, with the judgement of its entries
abbrev pub ending_of : Format → ℕ → Walked → ℕ → Ending
ending_of f e (done rs p) start = Ok (record { count = length rs; over = p; judgement = judged f e rs start })
ending_of f e (stop k p) start = Err (refusal k p)
