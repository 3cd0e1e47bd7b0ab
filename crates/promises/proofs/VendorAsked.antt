-- What no vendor call takes, and that any other is taken by what its image is read as.
-- Assumes nothing.
use Prim.Native.Nat.{ℕ, ◌≤◌, ◌<◌}
use mathlib.Core.Path.{◌≡◌, refl, ◌∙◌}
use mathlib.Core.List.{List}
use mathlib.Core.Logic.{◌⊎◌, inl, inr}
use mathlib.Core.Bool.{Bool, true, false}
use lib.ListN.{length}
use lib.Dec.{ltb}
use borrow.Author.Tests.{ltb-true, ltb-false, ne_eqb, lt-ltb, le-ltb}
use Rattle.std.specs.Prelude.{Ok, Err}
use Rattle.layout.specs.declared.Format.{Format}
use Rattle.layout.specs.declared.Format.TheVariants.{Onie}
use Rattle.layout.specs.Answers.{Chosen}
use Rattle.layout.specs.Bytes.{refusal}
use Rattle.layout.specs.Editions.{chosen}
use Rattle.layout.specs.Read.{limit, read_chosen, read_image}
use Rattle.blocks.specs.declared.Offsets.{Offsets}
use Rattle.blocks.specs.Vendor.{asked, untaken, take_read, read_vendor}
use Rattle.blocks.proofs.Asking.{read-unasked, read_asked, write-unasked}
use Rattle.promises.specs.Words.{onie, Refuses}
use Rattle.promises.specs.Vendor.{tells_vendor, tells_vendor_write, VendorAsked}
use Rattle.promises.proofs.Telling.{serves-chosen}
use Rattle.promises.proofs.Asked.{no-edition, too-early}

-- ---- what both calls ask

other-asked : (f e lent : ℕ) → (f ≡ 4 → ⊥) → asked f e lent ≡ Err 16
unfolding asked
other-asked f e lent other = rw (ne_eqb f 4 other)

asked-unknown : (e lent n : ℕ) → chosen 4 e ≡ Err n → asked 4 e lent ≡ Err n
unfolding asked
asked-unknown e lent n q = rw q

long-asked : (e lent : ℕ) (g : Format) → chosen 4 e ≡ Ok g → limit < lent → asked 4 e lent ≡ Err 2
unfolding asked
long-asked e lent g q lt = rw (q, lt-ltb limit lent lt)

pub short-asked : (e lent : ℕ) (g : Format) → chosen 4 e ≡ Ok g → lent ≤ limit → asked 4 e lent ≡ Ok g
unfolding asked
short-asked e lent g q le = rw (q, le-ltb limit lent le)

-- ---- the calls by it

-- any format but 4
pub read-other : (f e : ℕ) (image buffer : List ℕ) → (f ≡ 4 → ⊥) → read_vendor f e image buffer ≡ untaken (refusal 16 0) buffer
read-other f e image buffer other = read-unasked f e image buffer 16 (other-asked f e (length buffer) other)

-- a read into a buffer that is not too long, by what its image is read as
pub read_by : (e : ℕ) (image buffer : List ℕ) → length buffer ≤ limit → read_vendor 4 e image buffer ≡ take_read (read_image 4 e image) buffer
unfolding read_image
read_by e image buffer le = go (chosen 4 e) refl
  where
    go : (x : Chosen) → chosen 4 e ≡ x → read_vendor 4 e image buffer ≡ take_read (read_chosen (chosen 4 e) e image) buffer
    go (Ok g) q = read_asked 4 e image buffer g (short-asked e (length buffer) g q le)
    go (Err n) q = read-unasked 4 e image buffer n (asked-unknown e (length buffer) n q) ∙ rw q

-- ---- refused

both-refuse : (f e n : ℕ) → ((lent : ℕ) → asked f e lent ≡ Err n) →
    ((image buffer : List ℕ) → Refuses (tells_vendor f e image buffer) n 0)
    × ((serial : List ℕ) (o : Offsets) (pieces out : List ℕ) → Refuses (tells_vendor_write f e serial o pieces out) n 0)
both-refuse f e n q = (
  λ image buffer. rw (read-unasked f e image buffer n (q (length buffer))),
  λ serial o pieces out. rw (write-unasked f e serial o pieces out n (q (length out))),
)

-- a too long image is refused whatever is asked of the buffer, by 2 as well
long-image : (e : ℕ) (g : Format) (image buffer : List ℕ) → chosen 4 e ≡ Ok g → limit < length image → Refuses (tells_vendor 4 e image buffer) 2 0
unfolding read_image
long-image e g image buffer q lt = go (ltb limit (length buffer)) refl
  where
    go : (t : Bool) → ltb limit (length buffer) ≡ t → Refuses (tells_vendor 4 e image buffer) 2 0
    go true l = rw (read-unasked 4 e image buffer 2 (long-asked e (length buffer) g q (ltb-true limit (length buffer) l)))
    go false l = rw (read_by e image buffer (ltb-false limit (length buffer) l), q, lt-ltb limit (length image) lt)

pub vendor-asked : VendorAsked
vendor-asked =
    record {
      format = λ f e other. both-refuse f e 16 (λ lent. other-asked f e lent other);
      edition = λ e none. both-refuse 4 e 1 (λ lent. asked-unknown e lent 1 (no-edition 4 e Onie onie none));
      early = λ e k lt. both-refuse 4 e 16 (λ lent. asked-unknown e lent 16 (too-early 4 e Onie onie k lt));
      length = λ e s. (
        λ image buffer. long e (serves-chosen s) image buffer,
        λ serial o pieces out lt. rw (write-unasked 4 e serial o pieces out 2 (long-asked e (length out) Onie (serves-chosen s) lt)),
      );
    }
  where
    long : (e : ℕ) → chosen 4 e ≡ Ok Onie → (image buffer : List ℕ) → (limit < length image) ⊎ (limit < length buffer) → Refuses (tells_vendor 4 e image buffer) 2 0
    long e q image buffer (inl lt) = long-image e Onie image buffer q lt
    long e q image buffer (inr lt) = rw (read-unasked 4 e image buffer 2 (long-asked e (length buffer) Onie q lt))
