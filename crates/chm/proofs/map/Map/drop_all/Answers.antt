use Rattle.std.proofs.Common.{refl, ap, ◌∙◌}
use Rattle.count_ledger.specs.Views.{PassView}
use Rattle.chm.specs.Retained.{HasStopped}
use Rattle.chm.proofs.Clearing.{removed-more, unchanged}
use Rattle.chm.proofs.Retaining.{settled_none}
use Rattle.chm.proofs.Sure.{IfErr-of, IsMadeOrFull-of}
use Rattle.chm.proofs.map.Map.drop_all.Goals as goal

pub loop-place-init : goal.loop-place-init
loop-place-init g c =
    record {
      callable = c.requires.callable;
      settled = settled_none (goal.G-step g) g.K.HashKey.code c.args.self.now.ledger c.args.class c.args.keeps.now
          c.args.pass.now c.args.bin.now.entries;
      removed = unchanged c.args.pass.now c.args.pass.now refl;
      pass = c.requires.pass;
      class = refl;
      form = refl;
      salt = refl;
      ledger = refl;
      agree = c.requires.agree;
    }

pub loop-place-preserved : goal.loop-place-preserved
loop-place-preserved g c =
    let inv = c.loop-place.invariant in
    record {
      callable = c.drop_next.ensures.callable;
      settled = rw c.in-Some.is at (c.in_ok-place.ensures.settled c.args.keeps.now c.args.pass.now inv.settled);
      removed = removed-more c.args.pass.now c.loop-place.pass c.drop_next.new.pass inv.removed c.drop_next.ensures.removed;
      pass = ap (λ (p : PassView _ _ _). p.ledger) c.drop_next.ensures.removed.2.pass ∙ inv.pass;
      class = c.drop_next.ensures.class ∙ inv.class;
      form = c.drop_next.ensures.form ∙ inv.form;
      salt = c.drop_next.ensures.salt ∙ inv.salt;
      ledger = c.drop_next.ensures.ledger ∙ inv.ledger;
      agree = c.drop_next.ensures.agree;
    }

pub loop-place-smaller : goal.loop-place-smaller
loop-place-smaller g c = rw c.in-Some.is at c.in_ok-place.ensures.fewer

pub returns-clause-kept : goal.returns-clause-kept
returns-clause-kept g c =
    let inv = c.loop-place.invariant in
    rw c.in_default.is at (c.in_ok-place.ensures.kept c.args.keeps.now c.args.pass.now inv.settled)

pub returns-clause-removed : goal.returns-clause-removed
returns-clause-removed g c =
    removed-more c.args.pass.now c.loop-place.pass c.drop_next.new.pass c.loop-place.invariant.removed
    c.drop_next.ensures.removed

pub returns-in_err-place-clause-removed : goal.returns-in_err-place-clause-removed
returns-in_err-place-clause-removed g c =
    removed-more c.args.pass.now c.loop-place.pass c.drop_next.new.pass c.loop-place.invariant.removed
    c.drop_next.ensures.removed

pub returns-in_err-place-clause-stopped : goal.returns-in_err-place-clause-stopped
returns-in_err-place-clause-stopped g c =
    IfErr-of (λ fault. HasStopped (goal.G-step g) g.K.HashKey.code c.args.self.now.ledger c.args.class fault
    c.args.keeps.now c.args.pass.now c.drop_next.new.keeps c.drop_next.new.pass c.drop_next.new.bin.entries)
    c.from_residual.result _ c.from_residual.ensures.1
    (c.in_err-place.ensures.stopped c.args.keeps.now c.args.pass.now c.loop-place.invariant.settled)

pub returns-in_err-place-clause-sure : goal.returns-in_err-place-clause-sure
returns-in_err-place-clause-sure g c = λ lean keys values.
    IsMadeOrFull-of c.from_residual.result _ c.from_residual.ensures.1
    (c.in_err-place.ensures.sure lean keys values)
