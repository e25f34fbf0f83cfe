use Rattle.std.proofs.Common.{◌≡◌}
use Rattle.bin_history.specs.Ops.{call_on, key_in}
use Rattle.bin_history.specs.declared.form.Form.TheVariants.{Lean}
use Rattle.bin_history.specs.declared.call.Reply.{Reply}
use Rattle.count_ledger.specs.Views.{LedgerView, PassView}
use Rattle.chm.specs.Headline.{IsCalled}
use Rattle.chm.specs.Sure.{IsSureOf, NeedsNoMemory}
use Rattle.chm.specs.declared.fault.Fault.{Fault}
use Rattle.chm.specs.declared.fault.Fault.TheVariants.{NoMemory}
use Rattle.chm.proofs.AtKey.{answered_of, if_tried, sure_of}
use Rattle.chm.proofs.map.Map.try_call.Goals as goal

pub returns-clause-answered : goal.returns-clause-answered
returns-clause-answered g c =
    let fails : LedgerView _ _ → PassView _ _ _ → Fault → Type 0 = λ l o fault. (fault ≡ NoMemory)
    × (l.form ≡ Lean → NeedsNoMemory g.V.Clone.is_infallible c.args.op → ⊥) in
    if_tried _ _ (answered_of g.K.PartialEq.eq g.V.PartialEq.eq g.F.Remap.remapped g.F.Remap.merged c.args.self.now.ledger
    c.args.pass.now c.try_call_at_key.new.pass fails (call_on (key_in c.args.key) c.args.op) (λ fault so. so.0))
    c.try_call_at_key.result c.try_call_at_key.ensures.made

pub returns-clause-sure : goal.returns-clause-sure
returns-clause-sure g c =
    let fails : LedgerView _ _ → PassView _ _ _ → Fault → Type 0 = λ l o fault. (fault ≡ NoMemory)
    × (l.form ≡ Lean → NeedsNoMemory g.V.Clone.is_infallible c.args.op → ⊥) in
    let does : LedgerView _ _ → PassView _ _ _ → PassView _ _ _ → Reply _ → Type 0 = λ l o n reply. IsCalled g.K.PartialEq.eq
    g.V.PartialEq.eq g.F.Remap.remapped g.F.Remap.merged l (call_on (key_in c.args.key) c.args.op) o n reply in
    if_tried _ (λ r. IsSureOf g.V.Clone.is_infallible c.args.self.now.ledger.form c.args.op r) (λ r made. λ lean needs.
    sure_of does fails c.args.self.now.ledger c.args.pass.now c.try_call_at_key.new.pass (λ fault so. so.0) r made
    (λ so. so.1 lean needs)) c.try_call_at_key.result c.try_call_at_key.ensures.made
