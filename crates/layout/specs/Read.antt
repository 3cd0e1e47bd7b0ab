-- Reading an image: the refusals of the image itself, in 01's order ("Numbers given back", "Order").
-- Assumes nothing.
use Rattle.std.specs.Prelude.{ℕ, zero, suc, ◌+◌, ◌-◌, List, [], ◌∷◌, ◌++◌, Bool, true, false, ◌&&◌, length, take, ltb, eqb, Ok, Err}
use Rattle.layout.specs.declared.Format.{Format}
use Rattle.layout.specs.Answers.{Chosen, Opened}
use Rattle.layout.specs.declared.Refusal.{Refusal}
use Rattle.layout.specs.Bytes.{if, one_of, same_bytes, part, refusal}
use Rattle.layout.specs.Shape.{Shape, Label, Judged, fine, faulty}
use Rattle.layout.specs.Editions.{shape, chosen, names}
use Rattle.layout.specs.Walk.{Raw, Content, content, label_of, Walked, done, stop, walk}

-- the most bytes that an image or an output may have
abbrev pub limit : ℕ
limit = 65536

-- the place of the stored check, where the entries end at p
abbrev pub check_place : Shape → ℕ → ℕ
check_place S p = p + length S.closing

-- the stored check is the check over every byte before the end of the entries, which is p
unfoldable pub sealed : Shape → List ℕ → ℕ → Bool
sealed S img p = same_bytes (part (check_place S p) (length (S.check (take p img))) img) (S.check (take p img))

-- does an earlier entry make this one come a second time
abbrev pub same : Shape → Label → Label → Bool
same S a b = eqb a.code b.code && S.twice a b

unfoldable pub seen_before : Shape → List Label → Label → Bool
seen_before S [] a = false
seen_before S (b ∷ bs) a = if (same S a b) (λ _. true) (λ _. seen_before S bs a)

-- the reader's rule of a named entry
unfoldable pub reader_rule : Shape → Content → Bool
reader_rule S c = S.reader_key c.code c.key && S.value_rule c.code c.value

-- what is wrong with an entry, after those seen: 7, then 8, and 0 for nothing. Only a named entry can break a rule
unfoldable pub fault : Shape → ℕ → List Label → Content → ℕ
fault S e seen c =
    if (names S e c.code)
    (λ _. if (reader_rule S c) (λ _. if (seen_before S seen (label_of c)) (λ _. 8) (λ _. 0)) (λ _. 7))
    (λ _. 0)

abbrev pub or_else : ℕ → ℕ → (Unit {0} → Judged) → Judged
or_else zero p rest = rest tt
or_else (suc n) p rest = faulty (suc n) p

-- the first fault of entries of which the first stands at p, entry by entry
unfoldable pub judge : Shape → ℕ → List Label → List Raw → ℕ → Judged
judge S e seen [] p = fine
judge S e seen (r ∷ rs) p =
    or_else (fault S e seen (content r)) p
    (λ _. judge S e (seen ++ (label_of (content r) ∷ [])) rs (p + r.frame.size))

-- every required code is among these codes
unfoldable pub complete : List ℕ → List ℕ → Bool
complete [] codes = true
complete (c ∷ cs) codes = one_of codes c && complete cs codes

abbrev pub codes_of : List Raw → List ℕ
codes_of [] = []
codes_of (r ∷ rs) = r.frame.code ∷ codes_of rs

-- what reading an image gives. 01's term "accepted": nothing is refused. The entries, of which the first stands at the place given
pub data Read : Type 0 where
  accepted : Format → ℕ → List Raw → Read
  refused : Refusal → Read

abbrev pub bad : ℕ → ℕ → Read
bad n p = refused (refusal n p)

-- after the rules: 11
abbrev pub read_complete : Judged → Format → ℕ → List Raw → Read
read_complete fine f start rs = if (complete (shape f).required (codes_of rs)) (λ _. accepted f start rs) (λ _. bad 11 0)
read_complete (faulty n p) f start rs = bad n p

-- after what the format asks of the walk's end: 10, then 7 and 8 entry by entry
abbrev pub read_filled : Judged → List Raw → ℕ → Format → ℕ → List ℕ → ℕ → Read
read_filled fine rs p f e img start =
    if (sealed (shape f) img p) (λ _. read_complete (judge (shape f) e [] rs start) f start rs) (λ _. bad 10 (check_place (shape f) p))
read_filled (faulty n q) rs p f e img start = bad n q

-- after the walk over a room that ends at `end`: what the format asks there, and the rest
abbrev pub read_walked : Walked → Format → ℕ → List ℕ → ℕ → ℕ → Read
read_walked (done rs p) f e img start end = read_filled ((shape f).filled p end) rs p f e img start
read_walked (stop n p) f e img start end = bad n p

-- after the header: the walk over the room
abbrev pub read_opened : Opened → Format → ℕ → List ℕ → Read
read_opened (Ok (start, end)) f e img = read_walked (walk (shape f) false start (part start (end - start) img)) f e img start end
read_opened (Err r) f e img = refused r

-- an image of a known format, with an edition that has it
unfoldable pub read_as : Format → ℕ → List ℕ → Read
read_as f e img = read_opened ((shape f).opened img) f e img

abbrev pub read_chosen : Chosen → ℕ → List ℕ → Read
read_chosen (Ok f) e img = if (ltb limit (length img)) (λ _. bad 2 0) (λ _. read_as f e img)
read_chosen (Err n) e img = bad n 0

-- any image, of any format number and edition: 16, 1, 2, and the image's own refusals
unfoldable pub read_image : ℕ → ℕ → List ℕ → Read
read_image f e img = read_chosen (chosen f e) e img
