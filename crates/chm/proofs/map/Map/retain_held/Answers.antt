use Rattle.std.proofs.Common.{◌≡◌, ℕ, true, Option, List, IsSomeAnd, refl, sym, subst, ap, ◌∙◌}
use Rattle.hashkeys.specs.Classes.{ClassView, covers}
use Rattle.bin_history.specs.Calls.{after}
use Rattle.bin_history.specs.Entries.{replay}
use Rattle.bin_history.specs.Part.{part_of_entries}
use Rattle.bin_history.proofs.Keys.{key_tells}
use Rattle.count_ledger.specs.Agreement.{BinAgrees}
use Rattle.count_ledger.specs.Views.{RoleView}
use Rattle.part_walks.specs.Parts.{IsFirstOf}
use Rattle.chm.specs.Retained.{HasStopped, HasStoppedAt}
use Rattle.chm.specs.Visits.{IsVisit}
use Rattle.chm.specs.declared.fault.Fault.{Fault}
use Rattle.chm.proofs.Clearing.{IsFront-seen, made_seen}
use Rattle.chm.proofs.InPlace.{some_and}
use Rattle.chm.proofs.PartVisits.{IsVisit-part, part-of-part}
use Rattle.chm.proofs.Retaining.{kept-seen, stopped-seen}
use Rattle.chm.proofs.Sure.{IfErr-of, IsMadeOrFull-of}
use Rattle.chm.proofs.Visiting.{HasSeenMore-seen}
use Rattle.chm.proofs.map.Map.retain_held.Goals as goal

pub release-requires : goal.release-requires
release-requires g c =
    let at = c.requires.at in
    let same = c.observe_bin.ensures.same_role in
    record {
      class = c.drop_all-done.ensures.class ∙ at.class;
      form = c.drop_all-done.ensures.form ∙ at.form;
      salt = c.drop_all-done.ensures.salt ∙ at.salt;
      ledger = ap (λ (r : RoleView _ _ _). r.ledger) same ∙ c.drop_all-done.ensures.ledger ∙ at.ledger;
      agree = subst
          (λ (r : RoleView _ _ _). BinAgrees g.K.PartialEq.eq
          (after g.V.PartialEq.eq g.F.Remap.remapped g.F.Remap.merged) c.drop_all-done.new.bin r)
          (sym same) c.drop_all-done.ensures.agree;
    }

pub returns-clause-removed : goal.returns-clause-removed
returns-clause-removed g c =
    let (rs, each, is) = c.drop_all-done.ensures.removed in (
      rs,
      each,
      made_seen rs c.args.pass.now c.drop_all-done.new.pass c.observe_bin.new.pass is
          (HasSeenMore-seen g.K.PartialEq.eq (after g.V.PartialEq.eq g.F.Remap.remapped g.F.Remap.merged)
          c.args.self.now.ledger c.drop_all-done.new.pass c.observe_bin.new.pass c.observe_bin.ensures.seen),
    )

pub returns-in_err-done-clause-removed : goal.returns-in_err-done-clause-removed
returns-in_err-done-clause-removed g c =
    let (rs, each, is) = c.drop_all-done.ensures.removed in (
      rs,
      each,
      made_seen rs c.args.pass.now c.drop_all-done.new.pass c.observe_bin.new.pass is
          (HasSeenMore-seen g.K.PartialEq.eq (after g.V.PartialEq.eq g.F.Remap.remapped g.F.Remap.merged)
          c.args.self.now.ledger c.drop_all-done.new.pass c.observe_bin.new.pass c.observe_bin.ensures.seen),
    )

pub returns-clause-kept : goal.returns-clause-kept
returns-clause-kept g c =
    let same = g.K.PartialEq.eq in
    let code = g.K.HashKey.code in
    let its_after = after g.V.PartialEq.eq g.F.Remap.remapped g.F.Remap.merged in
    let ledger = c.args.self.now.ledger in
    let bin = c.drop_all-done.new.bin in
    let mid = c.drop_all-done.new.pass in
    let end = c.observe_bin.new.pass in
    let all = replay same ledger.opening end.seen in
    let narrow = subst (λ (k : ClassView). (hash : ℕ) → covers c.args.class hash ≡ true → covers k hash ≡ true)
    (sym c.drop_all-done.ensures.class) c.requires.within in
    let part = part-of-part code ledger bin.class c.args.class bin.entries all c.observe_bin.ensures.met.entries narrow in (
      record {
        front = IsFront-seen same its_after ledger mid end c.observe_bin.ensures.seen;
        kept = kept-seen (goal.G-step g) code ledger c.args.class c.args.keeps.now c.args.pass.now
            c.drop_all-done.new.keeps mid end bin.entries all c.in_ok-done.ensures.kept
            (HasSeenMore-seen same its_after ledger mid end c.observe_bin.ensures.seen) part;
      },
      c.go_past.ensures.passed,
    )

pub returns-in_err-done-clause-stopped : goal.returns-in_err-done-clause-stopped
returns-in_err-done-clause-stopped g c =
    let same = g.K.PartialEq.eq in
    let code = g.K.HashKey.code in
    let its_after = after g.V.PartialEq.eq g.F.Remap.remapped g.F.Remap.merged in
    let ledger = c.args.self.now.ledger in
    let bin = c.drop_all-done.new.bin in
    let class = c.args.class in
    let p = c.args.keeps.now in
    let old = c.args.pass.now in
    let q = c.drop_all-done.new.keeps in
    let mid = c.drop_all-done.new.pass in
    let end = c.observe_bin.new.pass in
    let all = replay same ledger.opening end.seen in
    let narrow = subst (λ (k : ClassView). (hash : ℕ) → covers class hash ≡ true → covers k hash ≡ true)
    (sym c.drop_all-done.ensures.class) c.requires.within in
    let part = part-of-part code ledger bin.class class bin.entries all c.observe_bin.ensures.met.entries narrow in
    let visit = IsVisit-part same (key_tells g.met.K.Eq.laws g.met.K.HashKey.equal_is_same) code ledger end.seen bin.class
    class bin.entries c.lawful.ensures.lawful.distinct c.observe_bin.ensures.met.entries narrow in
    let (next, next_is, is_first) = some_and (λ (k : ClassView). IsFirstOf k class) c.args.cursor.now.next c.requires.first in
    let P : Fault → Type 0 = λ fault. IsSomeAnd c.args.cursor.now.next (λ (k : ClassView). HasStoppedAt (goal.G-step g) same
    code its_after ledger fault k p old q end) × (c.args.cursor.now ≡ c.args.cursor.now) in
    let at : (fault : Fault) → HasStopped (goal.G-step g) code ledger class fault p old q mid bin.entries → P fault =
    λ fault stopped. (
      subst (λ (o : Option ClassView). IsSomeAnd o (λ (k : ClassView). HasStoppedAt (goal.G-step g) same code its_after
          ledger fault k p old q end)) (sym next_is) (
            class,
            is_first,
            record {
              front = IsFront-seen same its_after ledger mid end c.observe_bin.ensures.seen;
              visit = subst (λ (es : List (_ × _)). IsVisit same code ledger end.seen (record { class = class; entries = es }))
                  part visit;
              stopped = stopped-seen (goal.G-step g) code ledger class fault p old q mid end bin.entries all stopped
                  (HasSeenMore-seen same its_after ledger mid end c.observe_bin.ensures.seen) part;
            },
          ),
      refl,
    ) in
    IfErr-of P c.from_residual.result _ c.from_residual.ensures.1 (at _ c.in_err-done.ensures.stopped)

pub returns-in_err-done-clause-sure : goal.returns-in_err-done-clause-sure
returns-in_err-done-clause-sure g c = λ lean keys values.
    IsMadeOrFull-of c.from_residual.result _ c.from_residual.ensures.1
    (c.in_err-done.ensures.sure lean keys values)
