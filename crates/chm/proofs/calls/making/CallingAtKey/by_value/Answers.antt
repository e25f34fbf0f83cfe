use Rattle.std.proofs.Common.{◌≡◌, refl, ap, sym, ◌∙◌}
use Rattle.hashkeys.specs.Classes.{covers}
use Rattle.hashkeys.specs.Hashing.{hash_of}
use Rattle.bin_history.specs.Calls.{key_of}
use Rattle.bin_history.specs.Ops.{call_on, key_in}
use Rattle.bin_history.specs.declared.form.Form.TheVariants.{Lean}
use Rattle.bin_history.proofs.Changes.{key-call_on}
use Rattle.bin_history.proofs.Lawful.{recorded_is_not_lean}
use Rattle.chm.specs.Sure.{NeedsNoMemory}
use Rattle.chm.specs.declared.fault.Fault.{Fault}
use Rattle.chm.specs.declared.fault.Fault.TheVariants.{NoMemory}
use Rattle.chm.proofs.Meeting.{IsCalled-met}
use Rattle.chm.proofs.Sure.{IfErr-of}
use Rattle.chm.proofs.calls.making.CallingAtKey.by_value.Goals as goal

pub returns-clause-done : goal.returns-clause-done
returns-clause-done g c =
    let ledger = c.args.map.now.ledger in
    let call = call_on (key_in c.args.self.key) c.args.self.op in
    let key = key-call_on (key_in c.args.self.key) c.args.self.op in
    let hash : c.args.hash ≡ hash_of ledger.salt (g.K.HashKey.code (key_of call)) =
    c.requires.hash ∙ ap (λ k. hash_of ledger.salt (g.K.HashKey.code k)) (sym key) in
    IsCalled-met g.K.PartialEq.eq g.K.HashKey.code g.V.PartialEq.eq g.F.Remap.remapped g.F.Remap.merged
    ledger call c.args.pass.now c.call_by_value.new.pass c.in_ok-reply.reply
    c.args.bin.now c.call_by_value.new.bin c.in_ok-reply.ensures.called
    (ap (covers c.args.bin.now.class) (sym hash) ∙ c.requires.covers)

pub returns-in_err-reply-clause-fails : goal.returns-in_err-reply-clause-fails
returns-in_err-reply-clause-fails g c =
    let P : Fault → Type 0 = λ fault. (fault ≡ NoMemory)
    × (c.args.map.now.ledger.form ≡ Lean → NeedsNoMemory g.V.Clone.is_infallible c.args.self.op → ⊥) in
    IfErr-of P c.from_residual.result NoMemory c.from_residual.ensures.1 (
      refl,
      λ lean none. recorded_is_not_lean (sym c.requires.recorded ∙ lean),
    )
