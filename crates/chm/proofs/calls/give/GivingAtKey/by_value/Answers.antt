use Rattle.std.proofs.Common.{◌≡◌, inl, inr, ap, refl, sym, subst, ◌∙◌}
use Rattle.hashkeys.specs.Classes.{covers}
use Rattle.bin_history.specs.Ops.{call_on}
use Rattle.bin_history.specs.Readiness.{call_to}
use Rattle.bin_history.proofs.Lawful.{recorded_is_not_lean}
use Rattle.chm.proofs.Giving.{given_by_call}
use Rattle.chm.proofs.calls.give.GivingAtKey.by_value.Goals as goal

pub returns-clause-done : goal.returns-clause-done
returns-clause-done g c =
    let bin = c.args.bin.now in
    let key = g.Q.AsKey.stands_for c.args.self.query in
    let left = c.f-left.result.0 in
    let answer = c.f-left.result.1 in
    let on = ap (covers bin.class) (sym c.requires.hash) ∙ c.requires.covers in
    given_by_call g.K.PartialEq.eq g.K.HashKey.code g.V.PartialEq.eq g.F.Remap.remapped g.F.Remap.merged
    c.args.map.now.ledger key c.args.pass.now c.call_by_value.new.pass bin c.call_by_value.new.bin on (goal.G-post g c.args.self.f c.args.self.given)
    left answer (call_on c.in-Ok.own c.op_leaving-op.result) c.in-Ok-call_by_value.reply
    (c.op_leaving-op.ensures c.in-Ok.own ∙ ap (λ (k : _). call_to k left) c.in-Ok.ensures.key)
    (subst (λ b. goal.G-post g c.args.self.f c.args.self.given b (left, answer)) c.in-Ok.ensures.value c.f-left.ensures) c.in-Ok-call_by_value.ensures.called

pub returns-in_default-clause-fails : goal.returns-in_default-clause-fails
returns-in_default-clause-fails g c = (
  refl,
  λ lean. absurd (recorded_is_not_lean (sym c.requires.recorded ∙ lean)),
  inl refl,
)

pub returns-in_default-call_by_value-clause-fails : goal.returns-in_default-call_by_value-clause-fails
returns-in_default-call_by_value-clause-fails g c = (
  refl,
  λ lean. absurd (recorded_is_not_lean (sym c.requires.recorded ∙ lean)),
  inr (refl, _, _, c.f-left.ensures),
)
