use Rattle.std.proofs.Common.{◌<◌, ◌^◌, ℕ, sym, subst, ◌∙◌}
use Rattle.hashkeys.specs.Classes.{IsTableSize}
use Rattle.bin_layout.proofs.Sizes.{exponent_is}
use Rattle.lean_bins.proofs.SlotRefs.{size_few, index_few}
use Rattle.lean_bins.proofs.bins.LeanBins.try_class.Goals as goal

pub slot_ref-requires : goal.slot_ref-requires
slot_ref-requires g c =
    let size : IsTableSize c.n.result = subst IsTableSize (sym c.n.ensures.value) c.n.ensures.class.0 in
    let few = size_few c.ilog2-exponent.result c.n.result size c.ilog2-exponent.ensures.power_le in
    let power = exponent_is c.n.result c.ilog2-exponent.result size c.ilog2-exponent.ensures.power_le
    c.ilog2-exponent.ensures.next_power_gt in
    let below : c.index-index.result < 2 ^ c.ilog2-exponent.result = subst (λ (i : ℕ). i < 2 ^ c.ilog2-exponent.result)
    (sym c.index-index.ensures)
    (subst (λ (n : ℕ). c.args.class.index < n) (sym (power ∙ c.n.ensures.value)) c.n.ensures.class.1) in
    index_few c.ilog2-exponent.result c.index-index.result few below

pub try_at-requires-clause-few : goal.try_at-requires-clause-few
try_at-requires-clause-few g c =
    size_few c.ilog2-exponent.result c.n.result (subst IsTableSize (sym c.n.ensures.value) c.n.ensures.class.0)
    c.ilog2-exponent.ensures.power_le

pub try_at-requires-clause-class : goal.try_at-requires-clause-class
try_at-requires-clause-class g c =
    let size : IsTableSize c.n.result = subst IsTableSize (sym c.n.ensures.value) c.n.ensures.class.0 in
    let power = exponent_is c.n.result c.ilog2-exponent.result size c.ilog2-exponent.ensures.power_le
    c.ilog2-exponent.ensures.next_power_gt in
    subst (λ (i : ℕ). i < 2 ^ c.ilog2-exponent.result) (sym c.index-index.ensures)
    (subst (λ (n : ℕ). c.args.class.index < n) (sym (power ∙ c.n.ensures.value)) c.n.ensures.class.1)
