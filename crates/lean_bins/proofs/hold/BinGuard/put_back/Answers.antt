use Rattle.std.proofs.Common.{subst, sym}
use Rattle.bin_history.specs.Calls.{after}
use Rattle.bin_layout.specs.Places.{AreAt}
use Rattle.lean_bins.proofs.Halves.{place_taken, taken_wide}
use Rattle.lean_bins.proofs.hold.BinGuard.put_back.Goals as goal

pub give_back-requires-clause-at : goal.give_back-requires-clause-at
give_back-requires-clause-at g c =
    subst (λ p. AreAt g.K.PartialEq.eq (after g.V.PartialEq.eq g.F.Remap.remapped g.F.Remap.merged) p c.args.bin c.args.role)
    (sym (place_taken c.args.self.home.now c.args.self.class c.args.self.exponent
    c.args.self.inner.rows.now.table.shared.key.tag c.args.self.inner.at c.args.self.from))
    c.requires

pub give_back-requires-clause-least : goal.give_back-requires-clause-least
give_back-requires-clause-least g c = taken_wide c.args.self.home.now c.args.self.class c.args.self.exponent
    c.args.self.inner.rows.now.table.shared.key.tag c.args.self.inner.at c.args.self.from
