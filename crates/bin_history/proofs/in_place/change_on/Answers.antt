use Rattle.std.proofs.Common.{refl, sym, ap, ◌∙◌, Some, None, false}
use Rattle.bin_entries.proofs.Entries.{store_same}
use Rattle.bin_history.specs.Records.{RecordView}
use Rattle.bin_history.specs.declared.call.Call.TheVariants.{Contains, Put}
use Rattle.bin_history.specs.declared.call.Reply.TheVariants.{Truth, Value}
use Rattle.bin_history.proofs.Leans.{IsMadeOn-lean}
use Rattle.bin_history.proofs.in_place.change_on.Goals as goal

pub returns-in-Some-clause-made : goal.returns-in-Some-clause-made
returns-in-Some-clause-made g c =
    let (there, stored, twice, met) = c.in-Some.ensures.changed in
    let before = c.in-Some.changed.before.value in
    let put = c.in-Some.changed.put.value in
    let seen = c.of_change-seen.ensures in
    let is = c.seen.ensures in (
      before,
      put,
      met,
      IsMadeOn-lean g.K.PartialEq.eq g.V.PartialEq.eq g.F.Remap.remapped g.F.Remap.merged c.args.client
          c.args.ordinal (Put (g.Q.AsKey.stands_for c.args.query) put) c.args.entries.now c.change_seen.new.entries
          (Some before) (Some put) (Value (Some before)) c.seen.result (sym there) refl (ap (λ (x : RecordView _ _ _). x.client) is)
          (ap (λ (x : RecordView _ _ _). x.ordinal) is)
          (ap (λ (x : RecordView _ _ _). x.call) is ∙ seen.call) (ap (λ (x : RecordView _ _ _). x.before) is ∙ seen.before)
          (ap (λ (x : RecordView _ _ _). x.after) is ∙ seen.after ∙ ap Some twice) refl stored,
    )

pub returns-in-None-clause-made : goal.returns-in-None-clause-made
returns-in-None-clause-made g c =
    let (absent, stays) = c.in-None.ensures.changed in
    let key = (g.Q.AsKey.stands_for c.args.query) in
    let seen = c.of_absent-seen.ensures in
    let is = c.seen-in-None.ensures in
    IsMadeOn-lean g.K.PartialEq.eq g.V.PartialEq.eq g.F.Remap.remapped g.F.Remap.merged c.args.client
    c.args.ordinal (Contains key) c.args.entries.now c.change_seen.new.entries None None (Truth false)
    c.seen-in-None.result (sym absent) refl (ap (λ (x : RecordView _ _ _). x.client) is) (ap (λ (x : RecordView _ _ _). x.ordinal) is)
    (ap (λ (x : RecordView _ _ _). x.call) is ∙ seen.call) (ap (λ (x : RecordView _ _ _). x.before) is ∙ seen.before)
    (ap (λ (x : RecordView _ _ _). x.after) is ∙ seen.after) refl
    (stays ∙ sym (store_same g.K.PartialEq.eq c.args.entries.now.entries key None absent))
