-- `accept::Span::fault_of` meets its contract: 7 for the key or the value, then 8.
-- Assumes nothing.
use mathlib.Core.Path.{ap, sym, ◌∙◌}
use Rattle.layout.specs.Answers.{fault_told}
use Rattle.accept.proofs.Judging.{fault-unnamed, fault-key, fault-value, fault-seen}
use Rattle.accept.proofs.Span.fault_of.Goals as goal

pub returns-then-not-is_named : goal.returns-then-not-is_named
returns-then-not-is_named c seen repeats = let n = sym c.is_named.ensures ∙ c.if-not-is_named.true in
    ap fault_told (sym (fault-unnamed _ _ seen _ n))

pub returns-then-not-reader_key : goal.returns-then-not-reader_key
returns-then-not-reader_key c seen repeats = let n = sym c.is_named.ensures ∙ c.if-not-is_named.false in
    let k = sym c.reader_key.ensures ∙ c.if-not-reader_key.true in
    ap fault_told (sym (fault-key _ _ seen _ n k))

pub returns-then-not-value_rule : goal.returns-then-not-value_rule
returns-then-not-value_rule c seen repeats = let n = sym c.is_named.ensures ∙ c.if-not-is_named.false in
    let k = sym c.reader_key.ensures ∙ c.if-not-reader_key.false in
    let v = sym c.value_rule.ensures ∙ c.if-not-value_rule.true in
    ap fault_told (sym (fault-value _ _ seen _ n k v))

pub returns-then-repeated : goal.returns-then-repeated
returns-then-repeated c seen repeats = let n = sym c.is_named.ensures ∙ c.if-not-is_named.false in
    let k = sym c.reader_key.ensures ∙ c.if-not-reader_key.false in
    let v = sym c.value_rule.ensures ∙ c.if-not-value_rule.false in
    ap fault_told (sym (fault-seen _ _ seen _ n k v _ (sym repeats ∙ c.if-repeated.true)))

pub returns : goal.returns
returns c seen repeats = let n = sym c.is_named.ensures ∙ c.if-not-is_named.false in
    let k = sym c.reader_key.ensures ∙ c.if-not-reader_key.false in
    let v = sym c.value_rule.ensures ∙ c.if-not-value_rule.false in
    ap fault_told (sym (fault-seen _ _ seen _ n k v _ (sym repeats ∙ c.if-repeated.false)))
