use Rattle.std.proofs.Common.{◌≡◌, refl}
use Rattle.std.proofs.lemmas.Bool.{false≢true}
use Rattle.bin_history.specs.Ops.{key_in}
use Rattle.bin_history.specs.declared.form.Form.TheVariants.{Lean}
use Rattle.chm.specs.Sure.{NeedsNoMemory}
use Rattle.chm.specs.declared.fault.Fault.{Fault}
use Rattle.chm.specs.declared.fault.Fault.TheVariants.{NoMemory}
use Rattle.chm.proofs.Sure.{IfErr-of, IsSpared-of}
use Rattle.chm.proofs.calls.making.CallingAtKey.in_place.Goals as goal

pub returns-in_err-reply-clause-fails : goal.returns-in_err-reply-clause-fails
returns-in_err-reply-clause-fails g c =
    let P : Fault → Type 0 = λ fault. (fault ≡ NoMemory)
    × (c.args.map.now.ledger.form ≡ Lean → NeedsNoMemory g.V.Clone.is_infallible c.args.self.op → ⊥) in
    IfErr-of P c.from_residual.result NoMemory c.from_residual.ensures.1 (
      refl,
      λ lean none. false≢true (c.in_err-reply.ensures.spared
          (IsSpared-of g.K.PartialEq.eq g.V.Clone.is_infallible _ (key_in c.args.self.key) c.args.self.op none)),
    )
