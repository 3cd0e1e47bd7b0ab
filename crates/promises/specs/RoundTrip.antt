-- Promise 3, round trip (demand 2): what the writer takes, the reader of that edition gives back.
-- Assumes nothing.
use Rattle.std.specs.Prelude.{ℕ, List, [], map, take, eqb}
use Rattle.layout.specs.declared.Field.{Field}
use Rattle.layout.specs.Bytes.{if, part}
use Rattle.layout.specs.Walk.{Content}
use Rattle.layout.specs.Write.{write_image}
use Rattle.promises.specs.Words.{Counts, Reads, tells_write}

-- what a field of a write says: its code, its part of the lent values, and a key in VPD alone
abbrev pub field_says : ℕ → List ℕ → Field → Content
field_says f values x =
    record {
      code = x.code;
      key = if (eqb f 2) (λ _. part x.key.place.0 x.key.len values) (λ _. []);
      value = part x.value.place.0 x.value.len values;
    }

-- of the whole output, and of its part up to the length given
abbrev pub RoundTrip : Type 0
RoundTrip =
    (f e : ℕ) (fields : List Field) (values out : List ℕ) (n : ℕ) → Counts (tells_write f e fields values out) n →
    Reads f e (write_image f e fields values out).memory (map (field_says f values) fields)
    × Reads f e (take n (write_image f e fields values out).memory) (map (field_says f values) fields)
