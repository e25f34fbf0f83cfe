use Rattle.std.proofs.Common.{◌≡◌, ◌<◌, ℕ, ◌*◌, ◌%◌, ◌^◌, length, ap, ◌∙◌, arith}
use Rattle.std.proofs.Math.Nat.{mod-eq_of_lt}
use Rattle.std.proofs.lemmas.Nat.{pow_below}
use Rattle.bin_history.specs.declared.form.Form.TheVariants.{Lean}
use Rattle.bin_layout.specs.Names.{home_named}
use Rattle.bin_layout.specs.Views.{HomeView}
use Rattle.lean_bins.specs.Segments.{IsSlotFrom, first_named}
use Rattle.lean_bins.proofs.SlotRefs.{tables_push}
use Rattle.lean_bins.proofs.opening.no_tables.Goals as goal

pub loop-exponent-preserved : goal.loop-exponent-preserved
loop-exponent-preserved g c =
    let kept = c.loop-exponent.invariant in
    let home : HomeView = record { ledger = c.args.ledger.now; form = Lean; salt = c.args.salt; n = c.args.n } in
    let p : ℕ = 2 ^ c.loop-exponent.exponent in
    let small : p < 4294967296 = pow_below c.loop-exponent.exponent 32 (omega (arith, c.loop-exponent-test.true)) in
    let same : 1 * p % 4294967296 ≡ p = omega (arith, mod-eq_of_lt {n = p} {m = 4294967296} small) in
    let len : c.loop-exponent.exponent ≡ length c.loop-exponent.slots.items = omega (arith, kept.len, c.loop-exponent.slots.ok.0) in
    let of : IsSlotFrom home (2 ^ length c.loop-exponent.slots.items) c.new.result = record {
      of_map = ap home_named c.new.ensures ∙ c.tag_of-tag.ensures.map;
      from = ap first_named c.new.ensures ∙ c.tag_of-tag.ensures.from ∙ same ∙ ap (λ (k : ℕ). 2 ^ k) len;
    } in
    record {
      slots = tables_push home c.loop-exponent.slots.items c.push_reserved.new.self.items c.new.result c.push_reserved.ensures.items
          (omega (arith, c.push_reserved.ensures.len, kept.len, len, c.push_reserved.new.self.ok.0)) of kept.slots;
      len = omega (arith, c.push_reserved.ensures.len, kept.len);
      room = omega (arith, c.push_reserved.ensures.capacity, kept.room);
    }
