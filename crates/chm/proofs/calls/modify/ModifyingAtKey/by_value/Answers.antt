use Rattle.std.proofs.Common.{◌≡◌, ap, refl, sym, subst, ◌∙◌}
use Rattle.std.specs.Fn.{FnOnceReturnsAtMut}
use Rattle.hashkeys.specs.Classes.{covers}
use Rattle.bin_history.specs.declared.call.Call.TheVariants.{Contains, Put}
use Rattle.bin_history.specs.declared.form.Form.TheVariants.{Lean}
use Rattle.bin_history.proofs.Lawful.{recorded_is_not_lean}
use Rattle.chm.specs.Histories.{IsCalledOn}
use Rattle.chm.specs.declared.fault.Fault.{Fault}
use Rattle.chm.specs.declared.fault.Fault.TheVariants.{NoMemory}
use Rattle.chm.proofs.Giving.{modified_none, modified_some}
use Rattle.chm.proofs.Sure.{IfErr-of}
use Rattle.chm.proofs.calls.modify.ModifyingAtKey.by_value.Goals as goal

pub returns-in_ok-reply-in-None-clause-done : goal.returns-in_ok-reply-in-None-clause-done
returns-in_ok-reply-in-None-clause-done g c =
    let bin = c.args.bin.now in
    let left_bin = c.call_by_value.new.bin in
    let on = ap (covers bin.class) (sym c.requires.hash) ∙ c.requires.covers in
    modified_none g.K.PartialEq.eq g.K.HashKey.code g.V.PartialEq.eq g.F.Remap.remapped g.F.Remap.merged
    c.args.map.now.ledger c.args.self.key.now c.args.pass.now c.call_by_value.new.pass bin left_bin on
    (FnOnceReturnsAtMut g.G.FnOnce c.args.self.f) c.in_ok-reply-in-None.reply (sym c.in_ok-own.ensures.value ∙ c.in-None.is)
    (subst
    (λ (k : _). IsCalledOn g.K.PartialEq.eq g.K.HashKey.code g.V.PartialEq.eq g.F.Remap.remapped g.F.Remap.merged
    c.args.map.now.ledger bin left_bin (Contains k) c.args.pass.now c.call_by_value.new.pass c.in_ok-reply-in-None.reply)
    c.in_ok-own.ensures.key c.in_ok-reply-in-None.ensures.called)

pub returns-in_ok-reply-in-Some-clause-done : goal.returns-in_ok-reply-in-Some-clause-done
returns-in_ok-reply-in-Some-clause-done g c =
    let bin = c.args.bin.now in
    let left_bin = c.call_by_value-in-Some.new.bin in
    let on = ap (covers bin.class) (sym c.requires.hash) ∙ c.requires.covers in
    let put = c.f-answer.new.arg2 in
    let new = c.call_by_value-in-Some.new.pass in
    let reply = c.in_ok-reply-in-Some.reply in
    modified_some g.K.PartialEq.eq g.K.HashKey.code g.V.PartialEq.eq g.F.Remap.remapped g.F.Remap.merged
    c.args.map.now.ledger c.args.self.key.now c.args.pass.now new bin left_bin on
    (FnOnceReturnsAtMut g.G.FnOnce c.args.self.f) c.in-Some.value put c.f-answer.result reply
    (sym c.in_ok-own.ensures.value ∙ c.in-Some.is)
    (record { shown = _; shows = refl; left = _; met = c.f-answer.ensures; leaves = refl })
    (subst
    (λ (k : _). IsCalledOn g.K.PartialEq.eq g.K.HashKey.code g.V.PartialEq.eq g.F.Remap.remapped g.F.Remap.merged
    c.args.map.now.ledger bin left_bin (Put k put) c.args.pass.now new reply) c.in_ok-own.ensures.key c.in_ok-reply-in-Some.ensures.called)

pub returns-in_err-own-clause-fails : goal.returns-in_err-own-clause-fails
returns-in_err-own-clause-fails g c =
    let P : Fault → Type 0 = λ fault. (fault ≡ NoMemory) × (c.args.map.now.ledger.form ≡ Lean → ⊥) in
    IfErr-of P c.from_residual.result NoMemory c.from_residual.ensures.1
    (refl, λ lean. recorded_is_not_lean (sym c.requires.recorded ∙ lean))

pub returns-in_err-reply-in-None-clause-fails : goal.returns-in_err-reply-in-None-clause-fails
returns-in_err-reply-in-None-clause-fails g c =
    let P : Fault → Type 0 = λ fault. (fault ≡ NoMemory) × (c.args.map.now.ledger.form ≡ Lean → ⊥) in
    IfErr-of P c.from_residual-in_err-reply-in-None.result NoMemory c.from_residual-in_err-reply-in-None.ensures.1
    (refl, λ lean. recorded_is_not_lean (sym c.requires.recorded ∙ lean))

pub returns-in_err-reply-in-Some-clause-fails : goal.returns-in_err-reply-in-Some-clause-fails
returns-in_err-reply-in-Some-clause-fails g c =
    let P : Fault → Type 0 = λ fault. (fault ≡ NoMemory) × (c.args.map.now.ledger.form ≡ Lean → ⊥) in
    IfErr-of P c.from_residual-in_err-reply-in-Some.result NoMemory c.from_residual-in_err-reply-in-Some.ensures.1
    (refl, λ lean. recorded_is_not_lean (sym c.requires.recorded ∙ lean))
