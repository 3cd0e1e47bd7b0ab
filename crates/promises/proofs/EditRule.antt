-- Promise 6 holds.
-- Assumes nothing.
use Prim.Native.Nat.{ℕ}
use mathlib.Core.Path.{◌≡◌, ap, ◌∙◌}
use mathlib.Core.List.{List, [], ◌∷◌, ◌++◌, append-nil, map}
use mathlib.Core.Bool.{false}
use native.Mathlib.Omega.{arith}
use lib.ListN.{length}
use Rattle.layout.specs.declared.Frame.{Frame}
use Rattle.layout.specs.Shape.{Shape}
use Rattle.layout.specs.Editions.{shape}
use Rattle.layout.specs.Walk.{content, flat}
use Rattle.layout.specs.Change.{laid}
use Rattle.layout.specs.Edit.{revalued, edit}
use Rattle.laws.specs.Grammar.{grammar}
use Rattle.layout.proofs.Lists.{length-map}
use Rattle.laws.proofs.Editing.{Takes, may-editable, value-shorter, revalued_is}
use Rattle.laws.proofs.Calls.{check-found}
use Rattle.promises.specs.EditRule.{Edited, EditRule}
use Rattle.promises.proofs.Telling.{counts-accepted}
use Rattle.promises.proofs.Written.{length-short}
use Rattle.promises.proofs.Changes.{Done, entries_fit, edit-done}
use Rattle.promises.proofs.Relaid.{relaid, Apart, apart}
use Rattle.promises.proofs.EditsTaken.{edits}

edited : (f e : ℕ) (image : List ℕ) (i : ℕ) (v out : List ℕ) (m : ℕ) (d : Done (edit i v) f e image out m) → Edited f e image i v out m
unfolding edit laid
edited f e image i v out m d =
    let g = d.format in
    let S : Shape = shape g in
    let editable = may-editable S e d.start d.raws i v d.asked in
    let a : Apart (Takes S v) S (grammar g) e false d.raws i (λ r. revalued S r v ∷ [])
    = apart (Takes S v) S (grammar g) e (λ r. revalued S r v ∷ []) false d.raws i d.reading.made.frames editable in
    let x = a.is_raw in
    let code : a.raw.frame.code ≡ x.code = ap (λ (f : Frame). f.code) x.framed in
    let shorter = value-shorter S e d.raws i v editable in
    let fits = entries_fit d in
    let is : laid (revalued S a.raw v ∷ []) ≡ x.front ++ (S.lens x.code (length v) ++ v) = append-nil (revalued S a.raw v) ∙ revalued_is S a.raw v x in
    record {
      format = g;
      contents = map content a.past;
      counted = length-map content a.past ∙ a.counted;
      later = map content a.later;
      code = x.code;
      key = x.key;
      front = x.front;
      old_lens = x.lens;
      old_value = x.value;
      new_lens = S.lens x.code (length v);
      relaid =
          relaid (edit i v) f e image out m d x.code a.past a.later (x.front ++ (x.lens ++ x.value)) (x.front ++ (S.lens x.code (length v) ++ v)) a.frames_past
          (rw code at a.frames_later) (a.was ∙ ap (λ (y : List ℕ). flat a.past ++ (y ++ flat a.later)) x.is) (a.becomes ∙ ap (λ (y : List ℕ). flat a.past ++ (y ++ flat a.later)) is);
      opens = x.opens;
      says_old = x.says;
      says_new = length-short g x.code (length v) (rw code at a.holds.0) (omega arith);
    }

pub edit-rule : EditRule
edit-rule =
    record {
      puts = λ f e image i v out m q. edited f e image i v out m (edit-done f e image i v out m q);
      edits = λ f e image n q. edits f e image n (check-found f e image n (counts-accepted f e image n q));
    }
