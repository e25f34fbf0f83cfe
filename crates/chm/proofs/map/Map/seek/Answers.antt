use Rattle.std.proofs.Common.{◌≡◌}
use Rattle.bin_history.specs.Ops.{call_on}
use Rattle.bin_history.specs.Seeks.{op_for}
use Rattle.bin_history.specs.Sure.{IsNeverRefused}
use Rattle.bin_history.specs.declared.call.Reply.{Reply}
use Rattle.bin_history.specs.declared.form.Form.TheVariants.{Lean}
use Rattle.bin_history.specs.declared.seek.Seek.TheVariants.{Get}
use Rattle.count_ledger.specs.Views.{LedgerView, PassView}
use Rattle.chm.specs.Headline.{IsCalled}
use Rattle.chm.specs.declared.fault.Fault.{Fault}
use Rattle.chm.specs.declared.fault.Fault.TheVariants.{NoMemory}
use Rattle.chm.proofs.AtKey.{answered_of, sure_of}
use Rattle.chm.proofs.map.Map.seek.Goals as goal

pub returns-clause-answered : goal.returns-clause-answered
returns-clause-answered g c =
    let fails : LedgerView _ _ → PassView _ _ _ → Fault → Type 0 = λ l o fault. (fault ≡ NoMemory)
    × (l.form ≡ Lean → (c.args.seek ≡ Get → IsNeverRefused g.V.Clone.is_infallible) → ⊥) in
    answered_of g.K.PartialEq.eq g.V.PartialEq.eq g.F.Remap.remapped g.F.Remap.merged c.args.self.now.ledger c.args.pass.now
    c.call_at_key.new.pass fails (call_on (g.Q.AsKey.stands_for c.args.query) (op_for c.args.seek)) (λ fault so. so.0)
    c.call_at_key.result c.call_at_key.ensures

pub returns-clause-sure : goal.returns-clause-sure
returns-clause-sure g c =
    let fails : LedgerView _ _ → PassView _ _ _ → Fault → Type 0 = λ l o fault. (fault ≡ NoMemory)
    × (l.form ≡ Lean → (c.args.seek ≡ Get → IsNeverRefused g.V.Clone.is_infallible) → ⊥) in
    let does : LedgerView _ _ → PassView _ _ _ → PassView _ _ _ → Reply _ → Type 0 = λ l o n reply. IsCalled g.K.PartialEq.eq
    g.V.PartialEq.eq g.F.Remap.remapped g.F.Remap.merged l (call_on (g.Q.AsKey.stands_for c.args.query)
    (op_for c.args.seek)) o n reply in
    λ never. sure_of does fails c.args.self.now.ledger c.args.pass.now c.call_at_key.new.pass (λ fault so. so.0)
    c.call_at_key.result c.call_at_key.ensures (λ so. so.1 c.requires.form never)
