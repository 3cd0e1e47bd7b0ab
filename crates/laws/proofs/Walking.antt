-- The walk, over any format that meets the laws: what is walked to its end is entries of the grammar laid flat, and the other way round.
-- Assumes nothing.
use Prim.Native.Nat.{ℕ, zero, suc, ◌+◌, ◌≤◌, ◌<◌}
use mathlib.Core.Path.{◌≡◌, refl, ap, sym, ◌∙◌}
use mathlib.Core.List.{List, [], ◌∷◌, ◌++◌, append_assoc}
use mathlib.Core.Bool.{Bool, true, false}
use native.Mathlib.Omega.{arith}
use native.Mathlib.Nat.{add-zero}
use lib.ListN.{length, take, drop, length-append, length-drop, take-append-drop}
use lib.Seq.{take_at, drop_at}
use lib.Dec.{leb}
use Rattle.std.specs.Prelude.{Ok, Err, Some, None}
use Rattle.layout.specs.declared.Frame.{Frame}
use Rattle.layout.specs.declared.Head.{Head}
use Rattle.layout.specs.Answers.{Headed, Length, Next}
use Rattle.layout.specs.Bytes.{if}
use Rattle.layout.specs.Shape.{Shape, frame_of, on_length, on_head, next}
use Rattle.layout.specs.Walk.{Raw, flat, Walked, done, stop, more, turn, walks, walk}
use Rattle.laws.specs.Grammar.{Grammar}
use Rattle.laws.proofs.Format.{Laws}
use Rattle.laws.proofs.Frames.{raw_of, IsRaw, raw-size, raw-reads, raw-some, framed-raw, framed-in, framed-open}

-- entries of the grammar, none after one that none may follow. `shut`: the entry before the first was such
abbrev pub Frames : Shape → Grammar → Bool → List Raw → Type 0
Frames S G shut [] = Unit {0}
Frames S G shut (r ∷ rs) = (shut ≡ false) × IsRaw G r × Frames S G (S.last r.frame.code) rs

-- where entries end, whatever came before
abbrev pub EndsAt : Shape → List ℕ → Type 0
EndsAt S e = (b : Bool) → S.head b e ≡ Ok None

-- a walk that came to its end: the entries, what they are followed by, and the place
pub record Decoded (S : Shape) (G : Grammar) (b : Bool) (p : ℕ) (s : List ℕ) (rs : List Raw) (q : ℕ) : Type 0 where
  pub rest : List ℕ
  pub flag : Bool
  pub joined : s ≡ flat rs ++ rest
  pub frames : Frames S G b rs
  pub ended : S.head flag rest ≡ Ok None
  pub place : q ≡ p + length (flat rs)

never-stop : {A : Type 0} {n p q : ℕ} {rs : List Raw} → stop n p ≡ done rs q → A
never-stop e = let z : ◌≡◌ {A = ℕ} 0 1 = cc in absurd (omega arith)

next-ended : (S : Shape) (b : Bool) (s : List ℕ) → next S b s ≡ Ok None → S.head b s ≡ Ok None
unfolding next
next-ended S b s q = go (S.head b s) q
  where
    lengths : (x : Length) (h : Head) → on_length x h s ≡ Ok None → ⊥
    lengths (Ok (v, j)) h q = rooms (leb (j + v) (length s)) q
      where
        rooms : (t : Bool) → if {A = Next} t (λ _. Ok (Some (frame_of h v j))) (λ _. Err 5) ≡ Ok None → ⊥
        rooms true q = let z : ◌≡◌ {A = ℕ} 0 1 = cc in omega arith
        rooms false q = let z : ◌≡◌ {A = ℕ} 0 1 = cc in omega arith
    lengths (Err n) h q = let z : ◌≡◌ {A = ℕ} 0 1 = cc in omega arith

    go : (x : Headed) → on_head x S s ≡ Ok None → x ≡ Ok None
    go (Ok (Some h)) q = absurd (lengths (S.vlen h s) h q)
    go (Ok None) q = refl
    go (Err n) q = let z : ◌≡◌ {A = ℕ} 0 1 = cc in absurd (omega arith)

module _ {S : Shape} {G : Grammar} (L : Laws S G) where
  -- entries laid flat before an end are walked as these entries
  walks-flat : (d : ℕ) (b : Bool) (p : ℕ) (rs : List Raw) (e : List ℕ) → Frames S G b rs → EndsAt S e → length (flat rs) < d →
      walks d S b p (flat rs ++ e) ≡ done rs (p + length (flat rs))
  unfolding walks next
  walks-flat zero b p rs e fs en lt = absurd (omega arith)
  walks-flat (suc d) b p [] e fs en lt = rw (en b, add-zero)
  walks-flat (suc d) b p (r ∷ rs) e fs en lt =
      let i = fs.1 in
      let z = raw-some L r i in
      let l : length (flat rs) < d = omega (arith, length-append r.bytes (flat rs), raw-size i) in
      let q : p + r.frame.size + length (flat rs) ≡ p + length (r.bytes ++ flat rs) = omega (arith, length-append r.bytes (flat rs), raw-size i) in
      rw (fs.0, append_assoc r.bytes (flat rs) e, raw-reads L r (flat rs ++ e) i, take_at r.bytes (flat rs ++ e) r.frame.size (raw-size i), drop_at r.bytes (flat rs ++ e) r.frame.size (raw-size i), walks-flat d (S.last r.frame.code) (p + r.frame.size) rs e fs.2 en l, q)

  pub walk-flat : (b : Bool) (p : ℕ) (rs : List Raw) (e : List ℕ) → Frames S G b rs → EndsAt S e → walk S b p (flat rs ++ e) ≡ done rs (p + length (flat rs))
  unfolding walk
  walk-flat b p rs e fs en = walks-flat (suc (length (flat rs ++ e))) b p rs e fs en (omega (arith, length-append (flat rs) e))

  decode-more : (b : Bool) (p : ℕ) (s : List ℕ) (f : Frame) (w : Walked) (rs : List Raw) (q : ℕ) → b ≡ false → next S b s ≡ Ok (Some f) →
      ((rs' : List Raw) (q' : ℕ) → w ≡ done rs' q' → Decoded S G (S.last f.code) (p + f.size) (drop f.size s) rs' q') →
      more (raw_of f s) w ≡ done rs q → Decoded S G b p s rs q
  decode-more b p s f (done rs' q') rs q o n ih e =
      let e₁ : raw_of f s ∷ rs' ≡ rs = cc in
      let e₂ : q' ≡ q = cc in
      let d : Decoded S G (S.last f.code) (p + f.size) (drop f.size s) rs' q' = ih rs' q' refl in
      let i = framed-raw L b s f n in
      rw (← e₁, ← e₂)
      (record {
        rest = d.rest;
        flag = d.flag;
        joined = sym (append_assoc (take f.size s) (flat rs') d.rest ∙ (rw (← d.joined) (take-append-drop f.size s)));
        frames = (o, i, d.frames);
        ended = d.ended;
        place = omega (arith, d.place, length-append (take f.size s) (flat rs'), raw-size i);
      })
  decode-more b p s f (stop n p') rs q o nx ih e = never-stop e

  decode-turn : (b : Bool) (p : ℕ) (s : List ℕ) (x : Next) (k : Frame → Walked) (rs : List Raw) (q : ℕ) → ((f : Frame) → next S b s ≡ Ok (Some f) → b ≡ false) → next S b s ≡ x →
      ((f : Frame) (rs' : List Raw) (q' : ℕ) → k f ≡ done rs' q' → Decoded S G (S.last f.code) (p + f.size) (drop f.size s) rs' q') →
      turn x p s k ≡ done rs q → Decoded S G b p s rs q
  decode-turn b p s (Ok (Some f)) k rs q o n ih e = decode-more b p s f (k f) rs q (o f n) n (ih f) e
  decode-turn b p s (Ok None) k rs q o n ih e =
      let e₁ : [] ≡ rs = cc in
      let e₂ : p ≡ q = cc in
      rw (← e₁, ← e₂) (record { rest = s; flag = b; joined = refl; frames = tt; ended = next-ended S b s n; place = sym (add-zero p) })
  decode-turn b p s (Err m) k rs q o n ih e = never-stop e

  decode : (d : ℕ) (b : Bool) (p : ℕ) (s : List ℕ) (rs : List Raw) (q : ℕ) → ((t : List ℕ) (f : Frame) → next S b t ≡ Ok (Some f) → b ≡ false) → walks d S b p s ≡ done rs q → Decoded S G b p s rs q
  unfolding walks
  decode zero b p s rs q o e = never-stop e
  decode (suc d) b p s rs q o e =
      decode-turn b p s (next S b s) (λ f. walks d S (S.last f.code) (p + f.size) (drop f.size s)) rs q (o s) refl
      (λ f rs' q' e'. decode d (S.last f.code) (p + f.size) (drop f.size s) rs' q' (λ t g n. framed-open L f.code t g n) e') e

  -- what is walked to its end is entries of the grammar laid flat, and an end
  pub walk-decode : (p : ℕ) (s : List ℕ) (rs : List Raw) (q : ℕ) → walk S false p s ≡ done rs q → Decoded S G false p s rs q
  unfolding walk
  walk-decode p s rs q e = decode (suc (length s)) false p s rs q (λ t f n. refl) e

  -- where a walk ended, entries end whatever came before
  pub decoded-ends : {b : Bool} {p : ℕ} {s : List ℕ} {rs : List Raw} {q : ℕ} (d : Decoded S G b p s rs q) → EndsAt S d.rest
  decoded-ends d c = L.head_ends d.flag c d.rest d.ended

  -- turns beyond the bytes change nothing
  fuel-turn : (b : Bool) (p : ℕ) (s : List ℕ) (x : Next) (k k' : Frame → Walked) → next S b s ≡ x →
      ((f : Frame) → 0 < f.size → f.size ≤ length s → k f ≡ k' f) → turn x p s k ≡ turn x p s k'
  fuel-turn b p s (Ok (Some f)) k k' n ih = let i = framed-in L b s f n in rw (ih f i.0 i.1)
  fuel-turn b p s (Ok None) k k' n ih = refl
  fuel-turn b p s (Err m) k k' n ih = refl

  fuel : (d d' : ℕ) (b : Bool) (p : ℕ) (s : List ℕ) → length s < d → length s < d' → walks d S b p s ≡ walks d' S b p s
  unfolding walks
  fuel zero d' b p s l l' = absurd (omega arith)
  fuel (suc d) zero b p s l l' = absurd (omega arith)
  fuel (suc d) (suc d') b p s l l' =
      fuel-turn b p s (next S b s) (λ f. walks d S (S.last f.code) (p + f.size) (drop f.size s)) (λ f. walks d' S (S.last f.code) (p + f.size) (drop f.size s)) refl
      (λ f n0 nl. fuel d d' (S.last f.code) (p + f.size) (drop f.size s) (omega (arith, length-drop f.size s)) (omega (arith, length-drop f.size s)))

  -- one turn of the walk, with no count of turns in sight
  pub walk-frame : (b : Bool) (p : ℕ) (s : List ℕ) (f : Frame) → next S b s ≡ Ok (Some f) →
      walk S b p s ≡ more (raw_of f s) (walk S (S.last f.code) (p + f.size) (drop f.size s))
  unfolding walk walks
  walk-frame b p s f n =
      let i = framed-in L b s f n in
      rw n
      (ap (more (raw_of f s))
      (fuel (length s) (suc (length (drop f.size s))) (S.last f.code) (p + f.size) (drop f.size s) (omega (arith, length-drop f.size s)) (omega arith)))

pub walk_end : (S : Shape) (b : Bool) (p : ℕ) (s : List ℕ) → next S b s ≡ Ok None → walk S b p s ≡ done [] p
unfolding walk walks
walk_end S b p s n = rw n

pub walk-bad : (S : Shape) (b : Bool) (p : ℕ) (s : List ℕ) (k : ℕ) → next S b s ≡ Err k → walk S b p s ≡ stop k p
unfolding walk walks
walk-bad S b p s k n = rw n
