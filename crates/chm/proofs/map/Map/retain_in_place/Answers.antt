use Rattle.std.proofs.Common.{◌≡◌, ℕ, true, List, sym, subst}
use Rattle.std.proofs.lemmas.Result.{IfErr-weaker, on_ok_weaker}
use Rattle.hashkeys.specs.Classes.{ClassView, covers, is_of}
use Rattle.bin_history.specs.Calls.{after}
use Rattle.bin_history.specs.Entries.{replay}
use Rattle.bin_history.specs.Leans.{as_bin}
use Rattle.bin_history.specs.Part.{part_of_entries}
use Rattle.bin_history.proofs.Keys.{key_tells}
use Rattle.bin_layout.specs.Views.{place_of}
use Rattle.chm.specs.Views.{bins_of}
use Rattle.chm.specs.Visits.{IsVisit}
use Rattle.chm.proofs.Clearing.{IsFront-seen, made_seen}
use Rattle.chm.proofs.InPlace.{class_at}
use Rattle.chm.proofs.PartVisits.{IsVisit-met, part-of-part}
use Rattle.chm.proofs.Retaining.{kept-seen, stopped-seen}
use Rattle.chm.proofs.Visiting.{HasSeenMore-seen}
use Rattle.chm.proofs.map.Map.retain_in_place.Goals as goal

pub returns-clause-removed : goal.returns-clause-removed
returns-clause-removed g c =
    let (rs, each, is) = c.drop_all_in_place-done.ensures.removed in (
      rs,
      each,
      made_seen rs c.args.pass.now c.drop_all_in_place-done.new.pass c.observe_in_place.new.pass is
          (HasSeenMore-seen g.K.PartialEq.eq (after g.V.PartialEq.eq g.F.Remap.remapped g.F.Remap.merged)
          c.args.self.now.ledger c.drop_all_in_place-done.new.pass c.observe_in_place.new.pass c.observe_in_place.ensures.seen),
    )

pub returns-clause-kept : goal.returns-clause-kept
returns-clause-kept g c =
    let x = c.drop_all_in_place-done.new.bin_slot in
    let same = g.K.PartialEq.eq in
    let code = g.K.HashKey.code in
    let its_after = after g.V.PartialEq.eq g.F.Remap.remapped g.F.Remap.merged in
    let ledger = c.args.self.now.ledger in
    let mid = c.drop_all_in_place-done.new.pass in
    let end = c.observe_in_place.new.pass in
    let all = replay same ledger.opening end.seen in
    let own = class_at same its_after (place_of (bins_of c.args.self.now) c.args.own) x.entries x.role
    c.drop_all_in_place-done.ensures.lies in
    let narrow = subst (λ (k : ClassView). (hash : ℕ) → covers c.args.class hash ≡ true → covers k hash ≡ true) (sym own)
    c.requires.within in
    let part = part-of-part code ledger x.entries.class c.args.class x.entries.entries all
    c.observe_in_place.ensures.met.entries narrow in
    on_ok_weaker c.drop_all_in_place-done.result (λ kept. record {
      front = IsFront-seen same its_after ledger mid end c.observe_in_place.ensures.seen;
      kept = kept-seen (goal.G-step g) code ledger c.args.class c.args.keeps.now c.args.pass.now
          c.drop_all_in_place-done.new.keeps mid end x.entries.entries all kept
          (HasSeenMore-seen same its_after ledger mid end c.observe_in_place.ensures.seen) part;
    }) c.drop_all_in_place-done.ensures.kept

pub returns-clause-stopped : goal.returns-clause-stopped
returns-clause-stopped g c =
    let x = c.drop_all_in_place-done.new.bin_slot in
    let same = g.K.PartialEq.eq in
    let code = g.K.HashKey.code in
    let its_after = after g.V.PartialEq.eq g.F.Remap.remapped g.F.Remap.merged in
    let ledger = c.args.self.now.ledger in
    let mid = c.drop_all_in_place-done.new.pass in
    let end = c.observe_in_place.new.pass in
    let all = replay same ledger.opening end.seen in
    let own = class_at same its_after (place_of (bins_of c.args.self.now) c.args.own) x.entries x.role
    c.drop_all_in_place-done.ensures.lies in
    let narrow = subst (λ (k : ClassView). (hash : ℕ) → covers c.args.class hash ≡ true → covers k hash ≡ true) (sym own)
    c.requires.within in
    let part = part-of-part code ledger x.entries.class c.args.class x.entries.entries all
    c.observe_in_place.ensures.met.entries narrow in
    let visit = IsVisit-met same (key_tells g.met.K.Eq.laws g.met.K.HashKey.equal_is_same) code ledger end.seen c.args.own
    c.args.class (as_bin x.entries) own c.lawful_entries.ensures.distinct c.observe_in_place.ensures.met c.requires.within in
    IfErr-weaker c.drop_all_in_place-done.result _ _ (λ fault stopped. record {
      front = IsFront-seen same its_after ledger mid end c.observe_in_place.ensures.seen;
      visit = subst (λ (es : List (_ × _)). IsVisit same code ledger end.seen (record { class = c.args.class; entries = es }))
          part visit;
      stopped = stopped-seen (goal.G-step g) code ledger c.args.class fault c.args.keeps.now c.args.pass.now
          c.drop_all_in_place-done.new.keeps mid end x.entries.entries all stopped
          (HasSeenMore-seen same its_after ledger mid end c.observe_in_place.ensures.seen) part;
    }) c.drop_all_in_place-done.ensures.stopped
