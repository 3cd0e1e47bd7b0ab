-- The walk's step (01, "Writing, editing, walking").
-- Assumes nothing.
use Rattle.std.specs.Prelude.{ℕ, List}
use Rattle.layout.specs.Calls.{step_from}
use Rattle.reader.specs.declared.Walk.{Walk}
use Rattle.reader.specs.declared.Stepped.{Stepped}

-- a step answers as entry n on the image lent to it, and hands back the walk with the entry number that `step_from` gives
abbrev pub step_walk : Walk → List ℕ → Stepped
step_walk w image =
    record {
      answer = (step_from w.format w.edition w.entry image).answer;
      next = record { format = w.format; edition = w.edition; entry = (step_from w.format w.edition w.entry image).next };
    }
