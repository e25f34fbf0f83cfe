use Rattle.std.proofs.Common.{◌≡◌, ap, ◌∙◌}
use Rattle.bin_history.specs.Readiness.{call_to, value_seen}
use Rattle.bin_history.specs.Records.{RecordView}
use Rattle.bin_history.specs.Updates.{prepared_key}
use Rattle.bin_history.proofs.Updates.{updated-lean}
use Rattle.bin_history.proofs.update.update_on.Goals as goal

pub returns-clause-made : goal.returns-clause-made
returns-clause-made g c =
    let (left, seen, stored) = c.update_seen-updated.ensures.updated in
    let (before_is, put_is, after_is, met) = seen in
    let key = c.key-key.ensures in
    let is = c.seen.ensures in
    let of = c.of_update-seen.ensures in (
      left,
      met,
      updated-lean g.K.PartialEq.eq g.V.PartialEq.eq g.F.Remap.remapped g.F.Remap.merged c.args.client c.args.ordinal
          (prepared_key g.Q.AsKey.stands_for c.args.prepared) c.args.entries.now c.update_seen-updated.new.entries left c.seen.result
          (ap (λ (x : RecordView _ _ _). x.client) is) (ap (λ (x : RecordView _ _ _). x.ordinal) is)
          (ap (λ (x : RecordView _ _ _). x.call) is ∙ of.call ∙ (λ i. call_to (key i) (put_is i)))
          (ap (λ (x : RecordView _ _ _). x.before) is ∙ ap value_seen of.before ∙ before_is)
          (ap (λ (x : RecordView _ _ _). x.after) is ∙ ap value_seen of.after ∙ after_is) stored,
    )
