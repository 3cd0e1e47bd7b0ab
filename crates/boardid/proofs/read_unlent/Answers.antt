-- `boardid::read_unlent` meets its contract: what is asked first, and then what a read into no bytes is refused by.
-- Assumes nothing.
use mathlib.Core.Path.{ap, sym, ◌∙◌}
use Rattle.layout.specs.declared.Refusal.{Refusal}
use Rattle.layout.specs.Calls.{told_refusal}
use Rattle.records.specs.Packed.{packed}
use Rattle.records.specs.Exports.{unlent}
use Rattle.boardid.proofs.Vendor.{unlent-unasked, unlent-alike}
use Rattle.boardid.proofs.read_unlent.Goals as goal

pub returns-in-Err : goal.returns-in-Err
returns-in-Err c = λ buffer long. let a = c.args in c.from.ensures ∙ (unlent-unasked a.format a.edition a.image.now a.lent buffer long _ (sym c.ask.ensures ∙ c.in-Err.is))

pub returns-in-Err-read_vendor : goal.returns-in-Err-read_vendor
returns-in-Err-read_vendor c = λ buffer long.
    let a = c.args in
    let asks = sym c.ask.ensures ∙ c.in-Ok.is in
    let reads = sym c.in-Err-read_vendor.is ∙ c.read_vendor.ensures.0 in
    (ap unlent reads ∙ unlent-alike a.format a.edition a.image.now a.lent buffer long _ asks)

pub returns-in-Ok-read_vendor : goal.returns-in-Ok-read_vendor
returns-in-Ok-read_vendor c = λ buffer long.
    let a = c.args in
    let asks = sym c.ask.ensures ∙ c.in-Ok.is in
    let reads = sym c.in-Ok-read_vendor.is ∙ c.read_vendor.ensures.0 in
    c.from-in-Ok-read_vendor.ensures ∙ (ap unlent reads ∙ unlent-alike a.format a.edition a.image.now a.lent buffer long _ asks)
