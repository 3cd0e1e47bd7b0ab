-- Promise 1, published rules: an image is accepted exactly where it is of the grammar, and the list is all its entries, in order.
-- Assumes nothing.
use Rattle.std.specs.Prelude.{ℕ, List}
use Rattle.layout.specs.declared.Format.{Format}
use Rattle.layout.specs.Walk.{Content}
use Rattle.laws.specs.Grammar.{Published}
use Rattle.promises.specs.Words.{Serves, Counts, Reads, tells_check}

-- what an accepted image is: an image of a known format's grammar, whose list says what the grammar says
pub record OfGrammar (f e : ℕ) (image : List ℕ) : Type 0 where
  pub format : Format
  pub serves : Serves f e format
  pub contents : List Content
  pub published : Published format e image contents
  pub reads : Reads f e image contents

pub record PublishedRules : Type 0 where
  pub accepted_is : (f e : ℕ) (image : List ℕ) (n : ℕ) → Counts (tells_check f e image) n → OfGrammar f e image
  pub is_accepted : (f e : ℕ) (format : Format) (image : List ℕ) (cs : List Content) → Serves f e format → Published format e image cs → Reads f e image cs
