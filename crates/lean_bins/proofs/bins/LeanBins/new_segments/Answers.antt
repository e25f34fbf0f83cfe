use Rattle.std.proofs.Common.{rules, ◌≡◌, ◌<◌, ℕ, ◌+◌, ◌*◌, ◌%◌, ◌^◌, length, ap, ◌∙◌, arith}
use Rattle.std.proofs.Math.Nat.{mod-eq_of_lt}
use Rattle.std.proofs.lemmas.Nat.{pow_below}
use Rattle.bin_layout.specs.Names.{home_named}
use Rattle.lean_bins.specs.Segments.{IsSlotFrom, first_named}
use Rattle.lean_bins.proofs.SlotRefs.{segments_push}
use Rattle.lean_bins.proofs.bins.LeanBins.new_segments.Goals as goal

pub loop-number-preserved : goal.loop-number-preserved
loop-number-preserved g c =
    let kept = c.loop-number.invariant in
    let p : ℕ = 2 ^ c.args.exponent in
    let small : p < 4294967296 = pow_below c.args.exponent 32 (omega (arith, c.requires)) in
    let same : 1 * p % 4294967296 ≡ p = omega (arith, mod-eq_of_lt {n = p} {m = 4294967296} small) in
    let len : c.loop-number.number ≡ length c.loop-number.segments.items = omega (arith, kept.len, c.loop-number.segments.ok.0) in
    let at : 1 * p % 4294967296 + c.loop-number.number * 4096 ≡ p + length c.loop-number.segments.items * 4096 = omega (arith, same, len) in
    let of : IsSlotFrom c.args.self.now (p + length c.loop-number.segments.items * 4096) c.new.result = record {
      of_map = ap home_named c.new.ensures ∙ c.tag_of-tag.ensures.map ∙ search rules;
      from = ap first_named c.new.ensures ∙ c.tag_of-tag.ensures.from ∙ at;
    } in
    record {
      segments = segments_push c.args.self.now p c.loop-number.segments.items c.push_reserved.new.self.items c.new.result c.push_reserved.ensures.items
          (omega (arith, c.push_reserved.ensures.len, kept.len, len, c.push_reserved.new.self.ok.0)) of kept.segments;
      len = omega (arith, c.push_reserved.ensures.len, kept.len);
      room = omega (arith, c.push_reserved.ensures.capacity, kept.room);
    }
