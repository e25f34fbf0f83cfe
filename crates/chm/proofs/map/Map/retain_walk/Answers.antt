use Rattle.std.proofs.Common.{◌≡◌, ℕ, Option, Some, IsSomeAnd, [], ◌∷◌, ◌++◌, refl, sym, subst, ap, ◌∙◌}
use Rattle.hashkeys.specs.Classes.{ClassView}
use Rattle.bin_history.specs.Calls.{after}
use Rattle.bin_layout.specs.Walks.{IsWalk}
use Rattle.count_ledger.specs.Views.{PassView}
use Rattle.chm.specs.Cursors.{CursorView, HasComeTo}
use Rattle.chm.specs.Retained.{HasStoppedAt, IsStoppedBy}
use Rattle.chm.specs.declared.fault.Fault.{Fault}
use Rattle.chm.proofs.Clearing.{removed-more, unchanged}
use Rattle.chm.proofs.Retaining.{AreRetained-push}
use Rattle.chm.proofs.Sure.{IfErr-of, IsMadeOrFull-of}
use Rattle.chm.proofs.map.Map.retain_walk.Goals as goal

pub loop-init : goal.loop-init
loop-init g c =
    record {
      callable = c.requires.callable;
      kept = ([], c.requires.begun, (refl, refl));
      removed = unchanged c.args.pass.now c.args.pass.now refl;
      n = refl;
      ledger = c.requires.pass;
    }

pub loop-preserved : goal.loop-preserved
loop-preserved g c =
    let (old, passed, are) = c.loop.invariant.kept in
    let (class, here, on) = c.in_ok-retain_class.ensures.kept in
    record {
      callable = c.retain_class.ensures.callable;
      kept = (
        old ++ class ∷ [],
        on old passed,
        AreRetained-push (goal.G-step g) g.K.PartialEq.eq g.K.HashKey.code
            (after g.V.PartialEq.eq g.F.Remap.remapped g.F.Remap.merged) c.args.self.now.ledger c.args.keeps.now
            c.args.pass.now old c.loop.keeps c.loop.pass class c.retain_class.new.keeps c.retain_class.new.pass are here,
      );
      removed = removed-more c.args.pass.now c.loop.pass c.retain_class.new.pass c.loop.invariant.removed
          c.retain_class.ensures.removed;
      n = c.retain_class.ensures.n ∙ c.loop.invariant.n;
      ledger = ap (λ (p : PassView _ _ _). p.ledger) c.retain_class.ensures.removed.2.pass ∙ c.loop.invariant.ledger;
    }

pub returns-in_default-clause-retained : goal.returns-in_default-clause-retained
returns-in_default-clause-retained g c =
    let (classes, passed, are) = c.loop.invariant.kept in
    let at_end = sym (ap (λ (k : CursorView). k.next) c.cursor.view_is) ∙ c.in_default.is in (
      classes,
      subst (λ (n : ℕ). IsWalk n classes) c.loop.invariant.n
          (subst (λ (next : Option ClassView). HasComeTo c.loop.cursor.n next classes) at_end passed),
      are,
    )

pub returns-in_err-retain_class-clause-removed : goal.returns-in_err-retain_class-clause-removed
returns-in_err-retain_class-clause-removed g c =
    removed-more c.args.pass.now c.loop.pass c.retain_class.new.pass c.loop.invariant.removed
    c.retain_class.ensures.removed

pub returns-in_err-retain_class-clause-stopped : goal.returns-in_err-retain_class-clause-stopped
returns-in_err-retain_class-clause-stopped g c =
    let same = g.K.PartialEq.eq in
    let code = g.K.HashKey.code in
    let its_after = after g.V.PartialEq.eq g.F.Remap.remapped g.F.Remap.merged in
    let ledger = c.args.self.now.ledger in
    let p = c.args.keeps.now in
    let old = c.args.pass.now in
    let q = c.retain_class.new.keeps in
    let end = c.retain_class.new.pass in
    let (classes, passed, are) = c.loop.invariant.kept in
    let next = c.in-Some-next.next in
    let next_is = sym (ap (λ (k : CursorView). k.next) c.cursor.view_is) ∙ c.in-Some-next.is in
    let P : Fault → Type 0 = λ fault. IsStoppedBy (goal.G-step g) same code its_after ledger c.args.start.n fault p old q end in
    let Stopped : Fault → ClassView → Type 0 = λ fault k. HasStoppedAt (goal.G-step g) same code its_after ledger fault k
    c.loop.keeps c.loop.pass q end in
    let at : (fault : Fault) → IsSomeAnd c.loop.cursor.next (λ (k : ClassView). Stopped fault k) → P fault =
    λ fault stopped. (
      classes,
      next,
      subst (λ (n : ℕ). HasComeTo n (Some next) classes) c.loop.invariant.n
          (subst (λ (o : Option ClassView). HasComeTo c.loop.cursor.n o classes) next_is passed),
      c.loop.keeps,
      c.loop.pass,
      are,
      subst (λ (o : Option ClassView). IsSomeAnd o (λ (k : ClassView). Stopped fault k)) next_is stopped,
    ) in
    IfErr-of P c.from_residual.result _ c.from_residual.ensures.1 (at _ c.in_err-retain_class.ensures.stopped.0)

pub returns-in_err-retain_class-clause-sure : goal.returns-in_err-retain_class-clause-sure
returns-in_err-retain_class-clause-sure g c = λ lean keys.
    IsMadeOrFull-of c.from_residual.result _ c.from_residual.ensures.1
    (c.in_err-retain_class.ensures.sure lean keys)
