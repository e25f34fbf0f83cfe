use Rattle.std.proofs.Common.{subst, sym, ◌∙◌}
use Rattle.bin_history.specs.declared.call.Call.TheVariants.{Put}
use Rattle.bin_history.specs.declared.call.Reply.TheVariants.{Value}
use Rattle.count_ledger.specs.Views.{PassView}
use Rattle.chm.specs.Headline.{IsCalled}
use Rattle.chm.specs.Views.{MapView}
use Rattle.chm.proofs.Sure.{IfErr-of}
use Rattle.clients.specs.Filled.{ArePut}
use Rattle.clients.proofs.ManyPuts.{ArePut-push, fails-of}
use Rattle.clients.proofs.Replacements.{full-of}
use Rattle.clients.proofs.client.ClientOf.put_all.Goals as goal

pub returns-in_err-put-clause-put : goal.returns-in_err-put-clause-put
returns-in_err-put-clause-put g c =
    let (can, finite, same, puts) = c.loop-key.invariant in (
      c.into_iter-key-iterator.result,
      c.loop-key.yielded,
      c.into_iter-key-iterator.ensures.into_iter_gives,
      subst (λ (p : PassView _ _ _). ArePut g.K.PartialEq.eq g.V.PartialEq.eq g.F.Remap.remapped g.F.Remap.merged
          c.args.self.now.map.ledger c.loop-key.yielded c.args.self.now.pass p)
          (sym c.in_err-put.ensures.answered.refused) puts,
      fails-of _ _ _ c.from_residual.result c.from_residual.ensures.1 (
        (c.in-Some.key, c.in-Some.value),
        c.next.new.self,
        (c.loop-key.key-iterator, c.loop-key.yielded_by, c.in-Some.ensures.steps),
      ),
    )

pub loop-key-preserved-in_ok-put : goal.loop-key-preserved-in_ok-put
loop-key-preserved-in_ok-put g c =
    let (can, finite, same, puts) = c.loop-key.invariant in
    let on = c.in-Some.ensures.goes.on finite in (
      on.0,
      on.1,
      c.in_ok-put.ensures.map ∙ same,
      ArePut-push g.K.PartialEq.eq g.V.PartialEq.eq g.F.Remap.remapped g.F.Remap.merged c.args.self.now.map.ledger
          c.loop-key.yielded (c.in-Some.key, c.in-Some.value) c.args.self.now.pass c.loop-key.self.pass c.put.new.self.pass
          (Value c.in_ok-put.field-0) puts
          (subst (λ (m : MapView _ _). IsCalled g.K.PartialEq.eq g.V.PartialEq.eq g.F.Remap.remapped g.F.Remap.merged
          m.ledger (Put c.in-Some.key c.in-Some.value) c.loop-key.self.pass c.put.new.self.pass (Value c.in_ok-put.field-0))
          same c.in_ok-put.ensures.answered.called),
    )

pub loop-key-preserved : goal.loop-key-preserved
loop-key-preserved g c =
    let (can, finite, same, puts) = c.loop-key.invariant in
    let on = c.in-Some.ensures.goes.on finite in (
      on.0,
      on.1,
      c.in_ok-put.ensures.map ∙ same,
      ArePut-push g.K.PartialEq.eq g.V.PartialEq.eq g.F.Remap.remapped g.F.Remap.merged c.args.self.now.map.ledger
          c.loop-key.yielded (c.in-Some.key, c.in-Some.value) c.args.self.now.pass c.loop-key.self.pass c.put.new.self.pass
          (Value c.in_ok-put.field-0) puts
          (subst (λ (m : MapView _ _). IsCalled g.K.PartialEq.eq g.V.PartialEq.eq g.F.Remap.remapped g.F.Remap.merged
          m.ledger (Put c.in-Some.key c.in-Some.value) c.loop-key.self.pass c.put.new.self.pass (Value c.in_ok-put.field-0))
          same c.in_ok-put.ensures.answered.called),
    )

pub returns-in_err-put-clause-full : goal.returns-in_err-put-clause-full
returns-in_err-put-clause-full g c =
    let (can, finite, same, puts) = c.loop-key.invariant in
    IfErr-of _ c.from_residual.result _ c.from_residual.ensures.1
    (rw (c.in_err-put.ensures.answered.refused) (rw same at (full-of _ _ c.in_err-put.ensures.answered.full)))
