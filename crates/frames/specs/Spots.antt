-- Entry n from a place on: its frame, and where it stands.
-- Assumes nothing.
use Rattle.std.specs.Prelude.{ℕ, zero, suc, ◌+◌, ◌-◌, List, Bool, Ok, Err, Some, None}
use Rattle.layout.specs.declared.Frame.{Frame}
use Rattle.layout.specs.Answers.{Next}
use Rattle.layout.specs.Bytes.{part}
use Rattle.layout.specs.Shape.{Shape, next}
use Rattle.frames.specs.Answers.{Spot}

-- by what stands at a place; `on` says what a frame there comes to
abbrev pub spot_by : Next → (Frame → Spot) → Spot
spot_by (Ok (Some f)) on = on f
spot_by (Ok None) on = None
spot_by (Err k) on = None

-- entry n of those that begin at p, in a room that ends before `end`. The test says whether the entry before was one that none may follow
unfoldable pub spot_at : Shape → List ℕ → Bool → ℕ → ℕ → ℕ → Spot
spot_at S image shut p end zero = spot_by (next S shut (part p (end - p) image)) (λ f. Some (f, p))
spot_at S image shut p end (suc n) =
    spot_by (next S shut (part p (end - p) image)) (λ f. spot_at S image (S.last f.code) (p + f.size) end n)
