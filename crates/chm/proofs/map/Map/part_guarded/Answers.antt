use Rattle.std.proofs.Common.{sym, subst}
use Rattle.std.specs.Option.{IsSomeAnd}
use Rattle.bin_history.specs.Calls.{after}
use Rattle.lean_bins.specs.BinSlot.{IsInSlot}
use Rattle.bin_layout.specs.Views.{HomeView, place_of}
use Rattle.chm.specs.Visits.{VisitView}
use Rattle.chm.proofs.map.Map.part_guarded.Goals as goal

pub add_in_place-more-requires-clause-lies : goal.add_in_place-more-requires-clause-lies
add_in_place-more-requires-clause-lies g c =
    let after_is = after g.V.PartialEq.eq g.F.Remap.remapped g.F.Remap.merged in
    let lies = subst
    (λ o. IsSomeAnd o (IsInSlot g.K.PartialEq.eq after_is (place_of c.args.held.home.now c.args.held.class)))
    c.value.ensures.value c.requires.lies in
    subst
    (λ (h : HomeView). IsInSlot g.K.PartialEq.eq after_is (place_of h c.args.held.class) c.value.result.now)
    c.requires.home lies

pub release-requires : goal.release-requires
release-requires g c =
    subst
    (λ (h : HomeView). IsInSlot g.K.PartialEq.eq (after g.V.PartialEq.eq g.F.Remap.remapped g.F.Remap.merged)
    (place_of h c.args.held.class) c.add_in_place-more.new.bin_slot)
    (sym c.requires.home) c.add_in_place-more.ensures.lies

pub returns-clause-shown : goal.returns-clause-shown
returns-clause-shown g c =
    let (es, visit, takes) = c.add_in_place-more.ensures.shown in
    let v : VisitView _ _ = record { class = c.class_in-class.result; entries = es } in
    (v, c.add_in_place-more.ensures.seen, visit, takes, λ classes walked. c.go_past.ensures.walked classes walked)
