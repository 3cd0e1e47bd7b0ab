-- The pass over the frames and the rules, as the loop over the entries goes by it.
-- Assumes nothing.
use Prim.Native.Nat.{ℕ, zero, suc, ◌+◌, ◌-◌, ◌≤◌, ◌<◌}
use mathlib.Core.Path.{◌≡◌, refl, ap, sym, ◌∙◌}
use mathlib.Core.List.{List, [], ◌∷◌, ◌++◌, append_assoc, append-nil}
use mathlib.Core.Bool.{Bool, true, false}
use native.Mathlib.Omega.{arith}
use native.Mathlib.Nat.{zero-add, add-zero}
use lib.ListN.{length, set, replicate}
use Rattle.std.specs.Prelude.{Ok, Err, Some, None}
use Rattle.std.specs.declared.option.Option.{Option}
use Rattle.layout.specs.Answers.{fault_told}
use Rattle.layout.specs.declared.Format.{Format}
use Rattle.layout.specs.declared.Frame.{Frame}
use Rattle.layout.specs.Bytes.{if, part, refusal}
use Rattle.layout.specs.Shape.{Shape, Label, next, fine}
use Rattle.layout.specs.Editions.{shape, names}
use Rattle.layout.specs.Walk.{Raw, Content, content, label_of, Walked, done, stop, more, walk, labels_of}
use Rattle.layout.specs.Read.{seen_before, reader_rule, fault, judge, complete, codes_of}
use Rattle.laws.specs.Marked.{all_marked}
use Rattle.laws.specs.Passes.{walked}
use Rattle.laws.proofs.Frames.{raw_of}
use Rattle.layout.proofs.Lists.{joined-append}
use Rattle.laws.proofs.Marks.{Marks, none-marked, one-marked, marked-complete}
use Rattle.laws.proofs.Names.{required-bytes}
use Rattle.laws.proofs.Walking.{walk_end, walk-bad}
use Rattle.keys.specs.Filter.{may_repeat, with_key}
use Rattle.keys.proofs.Seen.{key_seen, Knows, none-known, one_known, unknown-unseen}
use Rattle.accept.specs.Answers.{Ending}
use Rattle.accept.specs.Passes.{Passed, walk_ending, judgement, ending_of}
use Rattle.frames.proofs.Spots.{framed-inside}
use Rattle.accept.proofs.Endings.{frame-says, walk-takes}

-- ---- the fault of one entry, by the tests that lead to it

module _ (S : Shape) (e : ℕ) (seen : List Label) (c : Content) where
  pub fault-unnamed : names S e c.code ≡ false → fault S e seen c ≡ 0
  unfolding fault
  fault-unnamed n = rw n

  pub fault-key : names S e c.code ≡ true → S.reader_key c.code c.key ≡ false → fault S e seen c ≡ 7
  unfolding fault reader_rule
  fault-key n k = rw (n, k)

  pub fault-value : names S e c.code ≡ true → S.reader_key c.code c.key ≡ true → S.value_rule c.code c.value ≡ false → fault S e seen c ≡ 7
  unfolding fault reader_rule
  fault-value n k v = rw (n, k, v)

  pub fault-seen : names S e c.code ≡ true → S.reader_key c.code c.key ≡ true → S.value_rule c.code c.value ≡ true → (b : Bool) →
      seen_before S seen (label_of c) ≡ b → fault S e seen c ≡ if {A = ℕ} b (λ _. 8) (λ _. 0)
  unfolding fault reader_rule
  fault-seen n k v b s = rw (n, k, v, s)

-- a fault that is told is one
some-told : (n k : ℕ) → Some k ≡ fault_told n → (n ≡ k) × (0 < k)
some-told zero k q = let z : ◌≡◌ {A = ℕ} 0 1 = cc in absurd (omega arith)
some-told (suc n) k q = let same : suc n ≡ k = cc in (same, omega arith)

-- none is told where there is none
none-told : (n : ℕ) → None ≡ fault_told n → n ≡ 0
none-told zero q = refl
none-told (suc n) q = let z : ◌≡◌ {A = ℕ} 0 1 = cc in absurd (omega arith)

-- ---- the loop

codes-snoc : (rs : List Raw) (r : Raw) → codes_of (rs ++ (r ∷ [])) ≡ codes_of rs ++ (r.frame.code ∷ [])
codes-snoc rs r = joined-append codes_of (λ x. x.frame.code ∷ []) refl (λ x xs. refl) rs (r ∷ [])

labels-snoc : (rs : List Raw) (r : Raw) → labels_of (rs ++ (r ∷ [])) ≡ labels_of rs ++ (label_of (content r) ∷ [])
labels-snoc rs r = joined-append labels_of (λ x. label_of (content x) ∷ []) refl (λ x xs. refl) rs (r ∷ [])

passed-snoc : (f : Format) (image : List ℕ) (end : ℕ) (b c : Bool) (q p : ℕ) (rs : List Raw) (x : Frame) → Passed f image end b q rs c p → next (shape f) c (part p (end - p) image) ≡ Ok (Some x) →
    Passed f image end b q (rs ++ (raw_of x (part p (end - p) image) ∷ [])) ((shape f).last x.code) (p + x.size)
passed-snoc f image end b c q p [] x h n = rw (h.0, h.1) (n, refl, (refl, refl))
passed-snoc f image end b c q p (r ∷ rs) x h n = (h.0, h.1, passed-snoc f image end ((shape f).last r.frame.code) c (q + r.frame.size) p rs x h.2 n)

-- how the pass ends, where n entries are passed, the next stands at p, and the walk from there on is w
abbrev ending_from : Format → ℕ → List Raw → ℕ → ℕ → Walked → Ending
ending_from f e past n p (done rs q) =
    Ok (record { count = n + length rs; over = q; judgement = judgement (judge (shape f) e (labels_of past) rs p) (complete (shape f).required (codes_of past ++ codes_of rs)) })
ending_from f e past n p (stop k q) = Err (refusal k q)

from_first : (f : Format) (e start : ℕ) (w : Walked) → ending_of f e w start ≡ ending_from f e [] 0 start w
from_first f e start (done rs q) = rw (zero-add (length rs))
from_first f e start (stop k q) = refl

-- a fault is the judgement, whatever entries follow
from-fault : (f : Format) (e : ℕ) (past : List Raw) (n p : ℕ) (r : Raw) (w : Walked) (k : ℕ) → fault (shape f) e (labels_of past) (content r) ≡ k → 0 < k →
    ending_from f e past n p (more r w) ≡ walk_ending n (Err (refusal k p)) (more r w)
unfolding judge
from-fault f e past n p r (done rs q) zero h some = absurd (omega (arith, some))
from-fault f e past n p r (done rs q) (suc k) h some = rw h
from-fault f e past n p r (stop m q) k h some = refl

-- without one the pass goes on
from-fine : (f : Format) (e : ℕ) (past : List Raw) (n p : ℕ) (r : Raw) (w : Walked) → fault (shape f) e (labels_of past) (content r) ≡ 0 →
    ending_from f e past n p (more r w) ≡ ending_from f e (past ++ (r ∷ [])) (n + 1) (p + r.frame.size) w
unfolding judge
from-fine f e past n p r (done rs q) h =
    let count : n + suc (length rs) ≡ n + 1 + length rs = omega arith in
    rw (h, count, labels-snoc past r, codes-snoc past r, append_assoc (codes_of past) (r.frame.code ∷ []) (codes_of rs))
from-fine f e past n p r (stop m q) h = refl

-- the loop stands at p, after n entries: those passed, whose codes are marked and whose keys the filter knows, and how the pass ends from there on
pub record Along (f : Format) (e : ℕ) (image : List ℕ) (start end p n : ℕ) (shut : Bool) (marks words : List ℕ) : Type 0 where
  pub past : List Raw
  pub passed : Passed f image end false start past shut p
  pub is_marked : Marks (codes_of past) marks
  pub is_known : Knows (labels_of past) words
  pub left : ending_of f e (walked f image start end) start ≡ ending_from f e past n p (walk (shape f) shut p (part p (end - p) image))
  pub bound : p ≤ end
  pub few : n ≤ p

pub along-first : (f : Format) (e : ℕ) (image : List ℕ) (start end : ℕ) (words : List ℕ) → start ≤ end → Along f e image start end start 0 false (replicate 256 0) words
along-first f e image start end words le =
    record {
      past = [];
      passed = (refl, refl);
      is_marked = none-marked;
      is_known = none-known words;
      left = from_first f e start (walked f image start end);
      bound = le;
      few = omega arith;
    }

module _ (f : Format) (e : ℕ) (image : List ℕ) (start end p n : ℕ) (shut : Bool) (marks words : List ℕ) (w : Along f e image start end p n shut marks words) where
  -- the entries end here: all are fine, and the marks tell whether they are complete
  pub along-ended : next (shape f) shut (part p (end - p) image) ≡ Ok None → (b : Bool) → b ≡ all_marked (shape f).required marks →
      ending_of f e (walked f image start end) start ≡ Ok (record { count = n; over = p; judgement = judgement fine b })
  unfolding judge
  along-ended x b q =
      w.left ∙ rw (walk_end (shape f) shut p (part p (end - p) image) x, add-zero n, append-nil (codes_of w.past))
      (ap {B = Ending} (λ (t : Bool). Ok (record { count = n; over = p; judgement = judgement fine t })) (sym (q ∙ marked-complete (shape f).required (codes_of w.past) marks (required-bytes f) w.is_marked)))

  -- a frame is broken
  pub along-broken : (k : ℕ) → next (shape f) shut (part p (end - p) image) ≡ Err k → ending_of f e (walked f image start end) start ≡ Err (refusal k p)
  along-broken k x = w.left ∙ rw (walk-bad (shape f) shut p (part p (end - p) image) k x)

  module _ (x : Frame) (nx : next (shape f) shut (part p (end - p) image) ≡ Ok (Some x)) where
    -- the walk after this frame
    abbrev rest : Walked
    rest = walk (shape f) ((shape f).last x.code) (p + x.size) (part (p + x.size) (end - (p + x.size)) image)

    -- what is found wrong with its code, key and value, where the marks, the filter and the entries passed tell whether it comes a second time, is its fault
    pub along-judges : (key value : List ℕ) (known repeated : Bool) (k : Option ℕ) → key ≡ part (p + x.key) x.klen image → value ≡ part (p + x.val) x.vlen image → known ≡ may_repeat words x.code key →
        ((past : List Raw) (shut : Bool) → Passed f image end false start past shut p → Marks (codes_of past) marks → (known ≡ false → key_seen (labels_of past) key ≡ false) →
        repeated ≡ seen_before (shape f) (labels_of past) (record { code = x.code; key = key })) →
        ((seen : List Label) → repeated ≡ seen_before (shape f) seen (record { code = x.code; key = key }) → k ≡ fault_told (fault (shape f) e seen (record { code = x.code; key = key; value = value }))) →
        k ≡ fault_told (fault (shape f) e (labels_of w.past) (content (raw_of x (part p (end - p) image))))
    along-judges key value known repeated k is_key is_value noted sees finds =
        let before = sees w.past shut w.passed w.is_marked (λ unknown. unknown-unseen (labels_of w.past) words x.code key w.is_known (sym noted ∙ unknown)) in
        rw (frame-says f image end shut p x nx, ← is_key, ← is_value) (finds (labels_of w.past) before)

    -- a rule is broken: the frames that follow may still be
    pub along-fault : (k : ℕ) → Some k ≡ fault_told (fault (shape f) e (labels_of w.past) (content (raw_of x (part p (end - p) image)))) →
        ending_of f e (walked f image start end) start ≡ walk_ending n (Err (refusal k p)) (walk (shape f) shut p (part p (end - p) image))
    along-fault k q =
        let told = some-told (fault (shape f) e (labels_of w.past) (content (raw_of x (part p (end - p) image)))) k q in
        let takes = walk-takes f image end shut p x nx in
        w.left ∙ ap (ending_from f e w.past n p) takes ∙ from-fault f e w.past n p (raw_of x (part p (end - p) image)) rest k told.0 told.1 ∙ ap (walk_ending n (Err (refusal k p))) (sym takes)

    -- nothing is wrong, and the pass goes on
    pub along-on : x.code < 256 → None ≡ fault_told (fault (shape f) e (labels_of w.past) (content (raw_of x (part p (end - p) image)))) →
        Along f e image start end (p + x.size) (n + 1) ((shape f).last x.code) (set marks x.code 1) (with_key words x.code (part (p + x.key) x.klen image))
    along-on lt q =
        let r : Raw = raw_of x (part p (end - p) image) in
        let i = framed-inside f shut image p end x nx in
        let says : label_of (content r) ≡ record { code = x.code; key = part (p + x.key) x.klen image } = ap label_of (frame-says f image end shut p x nx) in
        let seen : labels_of (w.past ++ (r ∷ [])) ≡ labels_of w.past ++ (record { code = x.code; key = part (p + x.key) x.klen image } ∷ [])
        = labels-snoc w.past r ∙ ap (λ (a : Label). labels_of w.past ++ (a ∷ [])) says in
        record {
          past = w.past ++ (r ∷ []);
          passed = passed-snoc f image end false shut start p w.past x w.passed nx;
          is_marked = rw (codes-snoc w.past r) (one-marked (codes_of w.past) marks x.code lt w.is_marked);
          is_known = rw seen (one_known (labels_of w.past) words (record { code = x.code; key = part (p + x.key) x.klen image }) w.is_known);
          left = w.left ∙ ap (ending_from f e w.past n p) (walk-takes f image end shut p x nx) ∙ from-fine f e w.past n p r rest (none-told (fault (shape f) e (labels_of w.past) (content r)) q);
          bound = i.2;
          few = omega arith;
        }
