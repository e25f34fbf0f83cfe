use Rattle.std.proofs.Common.{◌-◌, ◌^◌, length, subst}
use Rattle.generations.specs.Generations.{IsTable}
use Rattle.bin_layout.specs.Views.{HomeView}
use Rattle.generations.proofs.generations.Generations.find.Goals as goal

pub returns-then-is_begun-clause-of_map : goal.returns-then-is_begun-clause-of_map
returns-then-is_begun-clause-of_map g c =
    c.place_in-class.ensures.of_map c.args.self.now (2 ^ (c.min-widest.result - c.loop-narrower.narrower))
    c.in-Some.ensures

pub returns-then-is_begun-clause-few : goal.returns-then-is_begun-clause-few
returns-then-is_begun-clause-few g c =
    c.place_in-class.ensures.few c.args.self.now (2 ^ (c.min-widest.result - c.loop-narrower.narrower))
    c.in-Some.ensures

pub returns-clause-few : goal.returns-clause-few
returns-clause-few g c =
    let opening = c.self.inside.opening.items in
    c.place_in.ensures.few c.args.self.now (length opening)
    (subst (λ (m : HomeView). IsTable m (length opening) opening) c.self.view_is c.self.invariant.opening_is)

pub returns-clause-of_map : goal.returns-clause-of_map
returns-clause-of_map g c =
    let opening = c.self.inside.opening.items in
    c.place_in.ensures.of_map c.args.self.now (length opening)
    (subst (λ (m : HomeView). IsTable m (length opening) opening) c.self.view_is c.self.invariant.opening_is)
