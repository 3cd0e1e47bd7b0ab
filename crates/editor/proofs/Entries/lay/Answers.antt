-- `editor::Entries::lay` meets its contract: three writes, each where the one before ends.
-- Assumes nothing.
use Prim.Native.Nat.{ℕ}
use mathlib.Core.Path.{refl, ap, ◌∙◌}
use mathlib.Core.List.{List}
use native.Mathlib.Omega.{arith}
use lib.ListN.{length}
use Rattle.layout.specs.Editions.{shape}
use Rattle.output.specs.Placing.{copied}
use Rattle.output.proofs.Lengths.{capped-min}
use Rattle.output.proofs.Overlay.{length-copied}
use Rattle.editor.specs.Here.{fresh_bytes, entries_of}
use Rattle.editor.proofs.Splicing.{length-spliced, three-laid}
use Rattle.editor.proofs.Entries.lay.Goals as goal

pub put-requires : goal.put-requires
put-requires c = let a = c.args in
    let x = a.self in
    let fresh : List ℕ = fresh_bytes (shape a.format) x.fresh in
    let l = ap length c.copy_at.ensures ∙ length-copied a.out.now c.header_length-start.result x.front.now in
    record {
      out_len_bound = (omega (arith, l, c.requires.out_len_bound.0), c.requires.out_len_bound.1);
      fresh_in_bounds = omega (arith, l, c.requires.entries_in_bounds, length-spliced x.front.now fresh x.after.now, c.header_length-start.ensures);
    }

pub overflow_add-next : goal.overflow_add-next
overflow_add-next c = let a = c.args in
    let x = a.self in
    let fresh : List ℕ = fresh_bytes (shape a.format) x.fresh in
    omega (arith, c.requires.out_len_bound, c.requires.entries_in_bounds, length-spliced x.front.now fresh x.after.now, c.header_length-start.ensures, c.len.ensures, capped-min (length fresh))

pub returns : goal.returns
returns c = let a = c.args in
    let x = a.self in
    let fresh : List ℕ = fresh_bytes (shape a.format) x.fresh in
    let starts = c.header_length-start in
    let fits = c.requires.entries_in_bounds in
    let l = length-spliced x.front.now fresh x.after.now in
    three-laid x.front.now fresh x.after.now a.out.now starts.result c.copy_at.ensures c.put.ensures c.copy_at-2.ensures refl
    (omega (arith, c.len.ensures, capped-min (length fresh), l, fits, c.requires.out_len_bound.0)) (omega (arith, starts.ensures, fits))
    ∙ ap (λ (k : ℕ). copied a.out.now k (entries_of (shape a.format) x)) starts.ensures
