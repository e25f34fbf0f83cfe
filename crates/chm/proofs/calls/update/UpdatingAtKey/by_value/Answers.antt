use Rattle.std.proofs.Common.{◌≡◌, ap, refl, sym, ◌∙◌}
use Rattle.hashkeys.specs.Classes.{covers}
use Rattle.bin_history.specs.Ops.{key_in}
use Rattle.bin_history.specs.declared.form.Form.TheVariants.{Lean}
use Rattle.bin_history.proofs.Lawful.{recorded_is_not_lean}
use Rattle.chm.specs.Updates.{MayAdd}
use Rattle.chm.specs.declared.fault.Fault.{Fault}
use Rattle.chm.specs.declared.fault.Fault.TheVariants.{NoMemory}
use Rattle.chm.proofs.Sure.{IfErr-of}
use Rattle.chm.proofs.Updating.{IsUpdated-called}
use Rattle.chm.proofs.calls.update.UpdatingAtKey.by_value.Goals as goal

pub returns-clause-done : goal.returns-clause-done
returns-clause-done g c =
    let key = key_in c.args.self.key in
    let bin = c.args.bin.now in
    let on = ap (covers bin.class) (sym c.requires.hash) ∙ c.requires.covers in
    IsUpdated-called g.K.PartialEq.eq g.K.HashKey.code g.V.PartialEq.eq g.F.Remap.remapped g.F.Remap.merged
    (goal.G-post g c.args.self.f) c.args.map.now.ledger key c.into_op-op.result c.f-change.result.0 c.f-change.result.1
    c.args.pass.now c.call_by_value.new.pass c.in_ok-reply.reply bin c.call_by_value.new.bin c.get.result c.in_ok-reply.ensures.called
    (c.into_op-op.ensures.call key) on (rw c.get-asked.ensures at c.get.ensures) c.f-change.ensures

pub returns-in_err-reply-clause-fails : goal.returns-in_err-reply-clause-fails
returns-in_err-reply-clause-fails g c =
    let P : Fault → Type 0 = λ fault. (fault ≡ NoMemory)
    × (c.args.map.now.ledger.form ≡ Lean → MayAdd (goal.G-post g c.args.self.f)) in
    IfErr-of P c.from_residual.result NoMemory c.from_residual.ensures.1
    (refl, λ lean. absurd (recorded_is_not_lean (sym c.requires.recorded ∙ lean)))
