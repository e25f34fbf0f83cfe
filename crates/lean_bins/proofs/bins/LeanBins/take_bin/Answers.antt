use Rattle.std.proofs.Common.{ap, arith}
use Rattle.hashkeys.specs.Classes.{ClassView}
use Rattle.bin_history.specs.Calls.{after}
use Rattle.bin_layout.proofs.Places.{IsBinWithRole-at}
use Rattle.bin_layout.specs.Views.{place_of}
use Rattle.lean_bins.proofs.bins.LeanBins.take_bin.Goals as goal

pub returns-clause-least : goal.returns-clause-least
returns-clause-least g c =
    omega (
      arith,
      ap (λ (k : ClassView). k.n) c.in_ok-held.ensures.at.class,
      c.in_ok-held.ensures.of_map.least,
    )

pub returns-clause-with_role : goal.returns-clause-with_role
returns-clause-with_role g c =
    let held = c.in_ok-held.held in
    IsBinWithRole-at g.K.PartialEq.eq (after g.V.PartialEq.eq g.F.Remap.remapped g.F.Remap.merged) g.K.HashKey.code
    c.args.self.now (place_of held.place.home.now held.place.class) held.bin held.role
    c.in_ok-held.ensures.at c.in_ok-held.ensures.of_map c.in_ok-held.ensures.lawful
