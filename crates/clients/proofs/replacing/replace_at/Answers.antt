use Rattle.std.proofs.Common.{◌+◌, Bool, cond, inl, inr, Err, Option, None, sym, ap, arith, subst}
use Rattle.chm.specs.declared.calls.update.Change.TheVariants.{Set}
use Rattle.clients.specs.Replaced.{Replaces}
use Rattle.clients.proofs.Replacements.{count-fits, full-of, made-within, sets-none, updated-so}
use Rattle.clients.proofs.replacing.replace_at.Goals as goal

pub overflow_add-result : goal.overflow_add-result
overflow_add-result g c =
    omega (
      arith,
      count-fits c.args.map.now.ledger.form c.args.map.now.ledger.clients c.args.count _ c.requires.count
          (made-within _ _ _ c.in-Ok.ensures.full),
    )

pub returns-then-is_replaced-clause-replaced : goal.returns-then-is_replaced-clause-replaced
returns-then-is_replaced-clause-replaced g c =
    updated-so (goal.G-step g) g.K.PartialEq.eq g.V.PartialEq.eq g.F.Remap.remapped g.F.Remap.merged c.args.map.now.ledger
    c.args.key.now (c.args.f, c.args.count) _ c.args.pass.now c.update_lent.new.pass
    (c.in-Ok.left, c.in-Ok.is_replaced) _ c.in-Ok.ensures.updated
    (ap (λ (b : Bool). (c.in-Ok.left, cond b (c.args.count + 1) c.args.count)) (sym c.if-is_replaced.true))
    (λ before change (shown, copied, posted). subst (λ (o : Option _). Replaces (goal.G-step g) c.args.key.now c.args.f o change
    (c.in-Ok.left, c.in-Ok.is_replaced)) copied posted.1.0)

pub returns-else-is_replaced-clause-replaced : goal.returns-else-is_replaced-clause-replaced
returns-else-is_replaced-clause-replaced g c =
    updated-so (goal.G-step g) g.K.PartialEq.eq g.V.PartialEq.eq g.F.Remap.remapped g.F.Remap.merged c.args.map.now.ledger
    c.args.key.now (c.args.f, c.args.count) _ c.args.pass.now c.update_lent.new.pass
    (c.in-Ok.left, c.in-Ok.is_replaced) _ c.in-Ok.ensures.updated
    (ap (λ (b : Bool). (c.in-Ok.left, cond b (c.args.count + 1) c.args.count)) (sym c.if-is_replaced.false))
    (λ before change (shown, copied, posted). subst (λ (o : Option _). Replaces (goal.G-step g) c.args.key.now c.args.f o change
    (c.in-Ok.left, c.in-Ok.is_replaced)) copied posted.1.0)

pub returns-in-Err-clause-sure : goal.returns-in-Err-clause-sure
returns-in-Err-clause-sure g c = λ lean.
    elim c.in-Err.ensures.faults [
      | inl out ↦
          let (value, answer, (shown, copied, posted)) = c.in-Err.ensures.sets lean (ap Err out) in
          let told : Replaces (goal.G-step g) c.args.key.now c.args.f None (Set value) answer =
          subst (λ (o : Option _). Replaces (goal.G-step g) c.args.key.now c.args.f o (Set value) answer) copied posted.1.0 in
          absurd (sets-none value told.0)
      | inr full ↦ full
    ]

pub returns-in-Err-clause-full : goal.returns-in-Err-clause-full
returns-in-Err-clause-full g c =
    rw (c.in-Err.ensures.refused) (full-of _ _ c.in-Err.ensures.full)
