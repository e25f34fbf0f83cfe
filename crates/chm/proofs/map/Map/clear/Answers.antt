use Rattle.std.proofs.Common.{◌≡◌, ℕ, [], refl, subst, arith}
use Rattle.std.proofs.lemmas.Bool.{true≢false}
use Rattle.std.proofs.lemmas.Result.{on_err_weaker}
use Rattle.bin_history.specs.Calls.{after}
use Rattle.bin_layout.specs.Walks.{IsWalk}
use Rattle.bin_history.proofs.Keys.{key_tells}
use Rattle.chm.proofs.Clearing.{emptied, own_left}
use Rattle.chm.proofs.InPlace.{OnErr-of}
use Rattle.chm.proofs.Retaining.{cleared_by, full_if_full, left_of}
use Rattle.chm.proofs.Sure.{IfErr-of, IsMadeOrFull-of}
use Rattle.chm.proofs.map.Map.clear.Goals as goal

pub returns-clause-cleared : goal.returns-clause-cleared
returns-clause-cleared g c =
    let (classes, walk, are) = c.in_ok-retain_from.ensures.retained in (
      classes,
      subst (λ (n : ℕ). IsWalk n classes) c.opening_cursor.ensures.n walk,
      cleared_by _ g.K.PartialEq.eq g.K.HashKey.code (after g.V.PartialEq.eq g.F.Remap.remapped g.F.Remap.merged)
          c.args.self.now.ledger _ c.args.pass.now _ c.retain_from.new.pass classes are
          (λ i e j said. true≢false said.4.met.0),
    )

pub returns-clause-emptied : goal.returns-clause-emptied
returns-clause-emptied g c one =
    let (classes, walk, cleared) = returns-clause-cleared g c in (
      classes,
      walk,
      emptied g.K.PartialEq.eq (after g.V.PartialEq.eq g.F.Remap.remapped g.F.Remap.merged)
          c.args.self.now.ledger g.K.HashKey.code (key_tells g.met.K.Eq.laws g.met.K.HashKey.equal_is_same)
          c.args.pass.now c.retain_from.new.pass classes one
          (λ hash. (let e = walk.each_hash hash in omega arith)) cleared,
    )

pub returns-clause-removed : goal.returns-clause-removed
returns-clause-removed g c = c.retain_from.ensures.removed

pub returns-in_err-retain_from-clause-removed : goal.returns-in_err-retain_from-clause-removed
returns-in_err-retain_from-clause-removed g c = c.retain_from.ensures.removed

pub returns-in_err-retain_from-clause-left : goal.returns-in_err-retain_from-clause-left
returns-in_err-retain_from-clause-left g c = OnErr-of c.from_residual.result
    (left_of _ g.K.PartialEq.eq g.K.HashKey.code (after g.V.PartialEq.eq g.F.Remap.remapped g.F.Remap.merged)
    c.args.self.now.ledger _ _ _ c.args.pass.now _ c.retain_from.new.pass c.in_err-retain_from.ensures.stopped)

pub returns-in_err-retain_from-clause-own_left : goal.returns-in_err-retain_from-clause-own_left
returns-in_err-retain_from-clause-own_left g c = λ one.
    on_err_weaker c.from_residual.result
    (own_left g.K.PartialEq.eq (after g.V.PartialEq.eq g.F.Remap.remapped g.F.Remap.merged)
    c.args.self.now.ledger g.K.HashKey.code (key_tells g.met.K.Eq.laws g.met.K.HashKey.equal_is_same)
    c.retain_from.new.pass one) (returns-in_err-retain_from-clause-left g c)

pub returns-in_err-retain_from-clause-full : goal.returns-in_err-retain_from-clause-full
returns-in_err-retain_from-clause-full g c =
    let (classes, next, come, j, mid, are, (class, first, stopped)) = c.in_err-retain_from.ensures.stopped in
    IfErr-of _ c.from_residual.result _ c.from_residual.ensures.1
    (full_if_full _ _ _ c.in_err-retain_from.ensures.faults stopped.stopped.full stopped.stopped.memory)

pub returns-in_err-retain_from-clause-sure : goal.returns-in_err-retain_from-clause-sure
returns-in_err-retain_from-clause-sure g c = λ lean keys.
    IsMadeOrFull-of c.from_residual.result _ c.from_residual.ensures.1
    (c.in_err-retain_from.ensures.sure lean keys)

pub retain_from-requires-clause-begun : goal.retain_from-requires-clause-begun
retain_from-requires-clause-begun g c = c.opening_cursor.ensures.begun [] refl
