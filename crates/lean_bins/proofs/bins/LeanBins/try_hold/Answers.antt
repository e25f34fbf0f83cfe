use Rattle.std.proofs.Common.{◌≡◌, true, sym, subst, ◌∙◌}
use Rattle.hashkeys.specs.Classes.{ClassView, covers}
use Rattle.bin_layout.specs.Views.{IsPlaceOf, place_of}
use Rattle.lean_bins.proofs.bins.LeanBins.try_hold.Goals as goal

pub returns-clause-covers : goal.returns-clause-covers
returns-clause-covers g c =
    subst (λ (k : ClassView). covers k c.args.hash ≡ true)
    (sym (c.take_out.ensures.at.class ∙ c.take_out.ensures.class)) c.in_ok-taken.ensures.covers

pub returns-clause-of_map : goal.returns-clause-of_map
returns-clause-of_map g c =
    subst (IsPlaceOf c.args.self.now)
    (λ i. place_of (sym c.take_out.ensures.home i) (sym c.take_out.ensures.class i)) c.in_ok-taken.ensures.of_map
