use Rattle.std.proofs.Common.{◌≡◌, ℕ, ◌<◌, length, get_or, ap, subst, sym, ◌∙◌, ◌+◌, arith}
use Rattle.boxcar.specs.Slot.{Named}
use Rattle.bin_layout.specs.Names.{home_named}
use Rattle.generations.specs.Generations.{IsSlotOf, size_named}
use Rattle.bin_layout.specs.Views.{HomeView}
use Rattle.generations.proofs.Indexes.{slots_push}
use Rattle.generations.proofs.tables.no_tables.Goals as goal

pub loop-exponent-preserved : goal.loop-exponent-preserved
loop-exponent-preserved g c =
    let kept = c.loop-exponent.invariant in
    let m : HomeView = record {
      ledger = c.args.ledger.now;
      form = c.args.form;
      salt = c.args.salt;
      n = c.args.n;
    } in
    let len : c.loop-exponent.exponent ≡ length c.loop-exponent.slots.items =
    omega (arith, kept.len, c.loop-exponent.slots.ok.0) in
    let of : IsSlotOf m c.loop-exponent.exponent c.new.result =
    record {
      of_map = ap home_named c.new.ensures ∙ c.tag_of-tag.ensures.map;
      of_size =
          ap size_named c.new.ensures ∙ c.tag_of-tag.ensures.size;
    } in
    record {
      slots = subst (λ (n : ℕ). (e : ℕ) (d : Named) → e < n + 1 →
          IsSlotOf m e (get_or c.push_reserved.new.self.items e d)) (sym len)
          (slots_push m c.loop-exponent.slots.items c.push_reserved.new.self.items c.new.result
          c.push_reserved.ensures.items
          (subst (λ (n : ℕ). IsSlotOf m n c.new.result) len of)
          (subst (λ (n : ℕ). (e : ℕ) (d : Named) → e < n → IsSlotOf m e (get_or c.loop-exponent.slots.items e d))
          len kept.slots));
      len = omega (arith, c.push_reserved.ensures.len, kept.len);
      room = omega (arith, c.push_reserved.ensures.capacity, kept.room);
    }
