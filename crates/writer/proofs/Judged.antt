-- What the writer answers, by the judgement of the fields; and that fields judged fine can be put.
-- Assumes nothing.
use Prim.Native.Nat.{ℕ}
use mathlib.Core.Path.{◌≡◌, refl, sym, ◌∙◌}
use mathlib.Core.List.{List, [], ◌∷◌}
use mathlib.Core.Bool.{Bool, true, false}
use native.Mathlib.Omega.{arith}
use lib.ListN.{length}
use Rattle.std.specs.Prelude.{Ok, Err}
use Rattle.std.specs.declared.result.Result.{Result}
use Rattle.layout.specs.declared.Refusal.{Refusal}
use Rattle.layout.specs.declared.Field.{Field}
use Rattle.layout.specs.declared.Format.{Format}
use Rattle.layout.specs.Bytes.{refusal}
use Rattle.layout.specs.Shape.{Judged, fine, faulty}
use Rattle.layout.specs.Editions.{shape}
use Rattle.layout.specs.Walk.{Content}
use Rattle.layout.specs.Read.{complete}
use Rattle.layout.specs.Write.{judge_fields, contents_of, content_codes, image_of, refuse, put, write_judged, write_as}
use Rattle.layout.specs.Each.{Each, none, also}
use Rattle.laws.proofs.Formats.{laws}
use Rattle.laws.proofs.Names.{named-byte}
use Rattle.laws.proofs.Writing.{Writable, fields-fine, writer-parts}
use Rattle.output.specs.Lengths.{capped}
use Rattle.rules.specs.Fields.{soundness, judged_fields}
use Rattle.writer.specs.Entries.{fields_bytes, Puttable, AllPuttable}

module _ (f : Format) (e : ℕ) (xs : List Field) (values : List ℕ) where
  -- Fields that can be written can be put.
  writable-put : (shut : Bool) (cs : List Content) → Writable (shape f) e shut cs → Each (Puttable (shape f)) cs
  writable-put shut [] w = none
  writable-put shut (c ∷ cs) w =
      also (named-byte f e c.code w.1, (writer-parts (shape f) c w.2).1) (writable-put ((shape f).last c.code) cs w.4)

  -- What is known of fields that are judged sound.
  pub record IsSound (n : ℕ) : Type 0 where
    pub judged : judge_fields (shape f) e values false [] xs 0 ≡ fine
    pub whole : complete (shape f).required (content_codes (contents_of (shape f) values xs)) ≡ true
    pub cut : n ≡ capped (length (fields_bytes (shape f) values xs))

  pub sound : {n : ℕ} {r : Result ℕ Refusal} → r ≡ judged_fields f e xs values → r ≡ Ok n → IsSound n
  unfolding judged_fields
  sound {n} told is =
      go (judge_fields (shape f) e values false [] xs 0) (complete (shape f).required (content_codes (contents_of (shape f) values xs))) refl refl (sym told ∙ is)
    where
      go : (j : Judged) (b : Bool) → judge_fields (shape f) e values false [] xs 0 ≡ j → complete (shape f).required (content_codes (contents_of (shape f) values xs)) ≡ b →
          soundness j b (length (fields_bytes (shape f) values xs)) ≡ Ok n → IsSound n
      go fine true i w q = record { judged = i; whole = w; cut = cc }
      go fine false i w q = let z : ◌≡◌ {A = ℕ} 0 1 = cc in absurd (omega arith)
      go (faulty k p) b i w q = let z : ◌≡◌ {A = ℕ} 0 1 = cc in absurd (omega arith)

  pub sound-put : {n : ℕ} → IsSound n → AllPuttable (shape f) values xs
  sound-put s = writable-put false (contents_of (shape f) values xs) (fields-fine (laws f) e values false [] xs 0 s.judged).0

  pub write-sound : {n : ℕ} (out : List ℕ) → IsSound n → write_as f e xs values out ≡ put (shape f) (image_of (shape f) (fields_bytes (shape f) values xs)) out
  unfolding write_as
  write-sound out s = rw (s.judged, s.whole)

  pub write-unsound : (out : List ℕ) {r : Result ℕ Refusal} {q : Refusal} → r ≡ judged_fields f e xs values → r ≡ Err q → write_as f e xs values out ≡ refuse q out
  unfolding judged_fields write_as
  write-unsound out {q = q} told is =
      go (judge_fields (shape f) e values false [] xs 0) (complete (shape f).required (content_codes (contents_of (shape f) values xs))) refl (sym told ∙ is)
    where
      go : (j : Judged) (b : Bool) → complete (shape f).required (content_codes (contents_of (shape f) values xs)) ≡ b →
          soundness j b (length (fields_bytes (shape f) values xs)) ≡ Err q → write_judged j (shape f) (contents_of (shape f) values xs) out ≡ refuse q out
      go fine true w e = let z : ◌≡◌ {A = ℕ} 0 1 = cc in absurd (omega arith)
      go fine false w e = let x : refusal 11 0 ≡ q = cc in rw (w, x)
      go (faulty m i) b w e = let x : refusal m i ≡ q = cc in rw x
