use Rattle.std.proofs.Common.{◌^◌, length, subst}
use Rattle.generations.specs.Generations.{IsTable}
use Rattle.bin_layout.specs.Views.{HomeView}
use Rattle.generations.proofs.generations.Generations.widest_place.Goals as goal

pub returns-in-Some-clause-of_map : goal.returns-in-Some-clause-of_map
returns-in-Some-clause-of_map g c =
    c.place_in.ensures.of_map c.args.self.now (2 ^ c.min-widest.result) c.in-Some.ensures

pub returns-in-None-clause-of_map : goal.returns-in-None-clause-of_map
returns-in-None-clause-of_map g c =
    let opening = c.self.inside.opening.items in
    c.place_in-in-None.ensures.of_map c.args.self.now (length opening)
    (subst (λ (m : HomeView). IsTable m (length opening) opening) c.self.view_is c.self.invariant.opening_is)
