use Rattle.std.proofs.Common.{◌≡◌, List, sym, subst}
use Rattle.std.specs.List.{FoldsTo}
use Rattle.std.specs.Option.{IsSomeAnd}
use Rattle.hashkeys.specs.Classes.{is_of}
use Rattle.hashkeys.specs.declared.hashing.Salt.{Salt}
use Rattle.bin_history.specs.Calls.{after}
use Rattle.bin_history.specs.Part.{part_of_entries}
use Rattle.bin_history.proofs.Keys.{key_tells}
use Rattle.count_ledger.specs.Views.{RoleView}
use Rattle.bin_store.specs.Places.{tag_of}
use Rattle.bin_layout.specs.Places.{AreAt}
use Rattle.part_walks.specs.Parts.{IsFirstOf}
use Rattle.chm.specs.Cursors.{IsUsedAt}
use Rattle.chm.specs.Visits.{VisitView, classes_of_visits}
use Rattle.chm.proofs.Cursors.{HasCome-push}
use Rattle.chm.proofs.PartVisits.{IsVisit-met}
use Rattle.chm.proofs.map.Map.show_held.Goals as goal

pub release-requires : goal.release-requires
release-requires g c =
    let At : RoleView _ _ _ → Type 0 = λ r. AreAt g.K.PartialEq.eq
    (after g.V.PartialEq.eq g.F.Remap.remapped g.F.Remap.merged) (tag_of c.args.held.place) c.args.held.bin r in
    subst At (sym c.observe_bin.ensures.same_role) c.requires.at

pub go_past-requires : goal.go_past-requires
go_past-requires g c =
    record {
      first = subst (λ o. IsSomeAnd o (λ k. IsFirstOf k c.narrower-class.result)) (sym c.requires.next)
          c.narrower-class.ensures.first;
    }

pub returns-clause-shown : goal.returns-clause-shown
returns-clause-shown g c =
    let code = g.K.HashKey.code in
    let bin = c.args.held.bin in
    let ledger = c.args.self.now.ledger in
    let class = c.narrower-class.result in
    let v : VisitView _ _ = record { class = class; entries = part_of_entries (is_of code ledger.salt class) bin.entries } in (
      v,
      c.observe_bin.ensures.seen,
      IsVisit-met g.K.PartialEq.eq (key_tells g.met.K.Eq.laws g.met.K.HashKey.equal_is_same) code ledger
          c.observe_bin.new.pass.seen c.class.result class bin (sym c.class.ensures)
          c.lawful.ensures.lawful.distinct c.observe_bin.ensures.met c.narrower-class.ensures.within,
      subst (λ (s : Salt). FoldsTo (IsUsedAt (goal.G-step g)) c.args.f.now
          (part_of_entries (is_of code s class) bin.entries) c.use_at_bin.new.f) c.requires.salt
          c.use_at_bin.ensures.used,
      λ shown come. HasCome-push c.go_past.new.self shown v (c.go_past.ensures.passed (classes_of_visits shown) come),
    )
