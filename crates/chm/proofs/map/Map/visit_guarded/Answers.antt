use Rattle.std.proofs.Common.{sym, subst}
use Rattle.std.specs.Option.{IsSomeAnd}
use Rattle.bin_history.specs.Calls.{after}
use Rattle.lean_bins.specs.BinSlot.{IsInSlot}
use Rattle.bin_layout.specs.Views.{HomeView, place_of}
use Rattle.part_walks.specs.Parts.{IsFirstOf}
use Rattle.chm.specs.Visits.{classes_of_visits}
use Rattle.chm.proofs.Cursors.{HasCome-push}
use Rattle.chm.proofs.map.Map.visit_guarded.Goals as goal

pub copies_in_place-copies-requires-clause-lies : goal.copies_in_place-copies-requires-clause-lies
copies_in_place-copies-requires-clause-lies g c =
    let after_is = after g.V.PartialEq.eq g.F.Remap.remapped g.F.Remap.merged in
    let lies = subst
    (λ o. IsSomeAnd o (IsInSlot g.K.PartialEq.eq after_is (place_of c.args.held.home.now c.args.held.class)))
    c.value.ensures.value c.requires.lies in
    subst
    (λ (h : HomeView). IsInSlot g.K.PartialEq.eq after_is (place_of h c.args.held.class) c.value.result.now)
    c.requires.home lies

pub release-requires : goal.release-requires
release-requires g c =
    subst
    (λ (h : HomeView). IsInSlot g.K.PartialEq.eq (after g.V.PartialEq.eq g.F.Remap.remapped g.F.Remap.merged)
    (place_of h c.args.held.class) c.copies_in_place-copies.new.bin_slot)
    (sym c.requires.home) c.copies_in_place-copies.ensures.lies

pub go_past-requires : goal.go_past-requires
go_past-requires g c =
    record {
      first = subst (λ o. IsSomeAnd o (λ k. IsFirstOf k c.narrower-class.result)) (sym c.requires.next)
          c.narrower-class.ensures.first;
    }

pub returns-clause-come : goal.returns-clause-come
returns-clause-come g c = λ shown come.
    HasCome-push c.go_past.new.self shown
    (record { class = c.narrower-class.result; entries = c.in_ok-entries.entries.items })
    (c.go_past.ensures.passed (classes_of_visits shown) come)
