use Rattle.std.proofs.Common.{◌≡◌, None, is_some, ap, ◌∙◌, sym, refl, subst}
use Rattle.bin_history.specs.Entries.{lookup}
use Rattle.bin_history.specs.Leans.{LeanView, as_bin}
use Rattle.bin_history.specs.Made.{IsMadeOn}
use Rattle.bin_history.specs.Ops.{call_on}
use Rattle.bin_history.specs.Readiness.{call_seen, value_seen}
use Rattle.bin_history.specs.Records.{RecordView}
use Rattle.bin_history.specs.Seeks.{op_for}
use Rattle.bin_history.specs.declared.call.Reply.{Reply}
use Rattle.bin_history.specs.declared.call.Reply.TheVariants.{Value, Truth}
use Rattle.bin_history.specs.declared.op.Op.TheVariants as op
use Rattle.bin_history.specs.declared.seek.Seek.{Seek}
use Rattle.bin_history.specs.declared.seen.Seen.{Seen}
use Rattle.bin_entries.proofs.Entries.{store_same}
use Rattle.bin_history.proofs.Leans.{IsMadeOn-lean}
use Rattle.bin_history.proofs.Sure.{copied_is_some}
use Rattle.bin_history.proofs.seek.Seek.make_on.Goals.{in-Get+in_ok-copy_of_option-in-Get, in-Contains, in-Remove}
use Rattle.bin_history.proofs.seek.Seek.make_on.Goals as goal

pub returns-clause-made : goal.returns-clause-made
returns-clause-made g c =
    let k = g.Q.AsKey.stands_for c.args.query in
    let same = g.K.PartialEq.eq in
    let l = c.args.entries.now in
    let v = lookup same l.entries k in
    let Made : Seek → Type 0 = λ s. IsMadeOn same g.V.PartialEq.eq g.F.Remap.remapped g.F.Remap.merged c.args.client
    c.args.ordinal (call_on k (op_for s)) (as_bin l) (as_bin c.match-self.entries) c.match-self.made.0 c.seen.result in
    let by = ap (λ (x : RecordView _ _ _). x.client) c.seen.ensures in
    let next = ap (λ (x : RecordView _ _ _). x.ordinal) c.seen.ensures in
    let called = ap (λ (x : RecordView _ _ _). x.call) c.seen.ensures in
    let before = ap (λ (x : RecordView _ _ _). x.before) c.seen.ensures in
    let after = ap (λ (x : RecordView _ _ _). x.after) c.seen.ensures in
    let made = IsMadeOn-lean same g.V.PartialEq.eq g.F.Remap.remapped g.F.Remap.merged c.args.client c.args.ordinal in
    elim c.match-self.branch [
      | in-Get+in_ok-copy_of_option-in-Get w ↦
          let seen = w.seen_there.ensures in
          let found = w.get_as-found.ensures in
          subst Made (sym w.in-Get.is)
          (made (call_on k op.Get) l c.match-self.entries v v c.match-self.made.0 c.seen.result refl refl by next
          (called ∙ ap (λ (m : Reply _ × Seen _ _ _). call_seen m.1.call) w.made-is ∙ seen.call_is)
          (before ∙ ap (λ (m : Reply _ × Seen _ _ _). value_seen m.1.before) w.made-is ∙ seen.before_is ∙ found)
          (after ∙ ap (λ (m : Reply _ × Seen _ _ _). value_seen m.1.after) w.made-is ∙ seen.after_is ∙ found)
          (ap (λ (m : Reply _ × Seen _ _ _). m.0) w.made-is
          ∙ ap Value (w.in_ok-copy_of_option-in-Get.ensures.copy ∙ found))
          (ap (λ (e : LeanView _ _). e.entries) w.entries-is ∙ sym (store_same same l.entries k v refl)))
      | in-Contains w ↦
          let seen = w.seen_there-in-Contains.ensures in
          let found = w.get_as-found-in-Contains.ensures in
          subst Made (sym w.in-Contains.is)
          (made (call_on k op.Contains) l c.match-self.entries v v c.match-self.made.0 c.seen.result refl refl by next
          (called ∙ ap (λ (m : Reply _ × Seen _ _ _). call_seen m.1.call) w.made-is ∙ seen.call_is)
          (before ∙ ap (λ (m : Reply _ × Seen _ _ _). value_seen m.1.before) w.made-is ∙ seen.before_is ∙ found)
          (after ∙ ap (λ (m : Reply _ × Seen _ _ _). value_seen m.1.after) w.made-is ∙ seen.after_is ∙ found)
          (ap (λ (m : Reply _ × Seen _ _ _). m.0) w.made-is
          ∙ ap Truth (w.is_some.ensures ∙ copied_is_some _ ∙ ap is_some found))
          (ap (λ (e : LeanView _ _). e.entries) w.entries-is ∙ sym (store_same same l.entries k v refl)))
      | in-Remove w ↦
          let seen = w.of_taken-seen.ensures in
          let taken = w.take_as-taken.ensures in
          subst Made (sym w.in-Remove.is)
          (made (call_on k op.Remove) l c.match-self.entries v None c.match-self.made.0 c.seen.result refl refl by next
          (called ∙ ap (λ (m : Reply _ × Seen _ _ _). call_seen m.1.call) w.made-is ∙ seen.call)
          (before ∙ ap (λ (m : Reply _ × Seen _ _ _). value_seen m.1.before) w.made-is ∙ seen.before
          ∙ w.as_ref.ensures.value ∙ taken.taken)
          (after ∙ ap (λ (m : Reply _ × Seen _ _ _). value_seen m.1.after) w.made-is ∙ seen.after)
          (ap (λ (m : Reply _ × Seen _ _ _). m.0) w.made-is ∙ ap Value taken.taken)
          (ap (λ (e : LeanView _ _). e.entries) w.entries-is ∙ taken.entries))
    ]
