use Rattle.std.proofs.Common.{◌++◌, List, sym, ap, ◌∙◌, subst, append_assoc}
use Rattle.count_ledger.specs.Views.{PassView}
use Rattle.std.specs.Vec.Iter.{into_iter_items}
use Rattle.clients.specs.Replaced.{AreReplaced}
use Rattle.clients.proofs.Replacements.{AreReplaced-push}
use Rattle.clients.proofs.replacing.replace_among.Goals as goal

pub loop-key-preserved : goal.loop-key-preserved
loop-key-preserved g c =
    let so = c.loop-key.invariant in
    record {
      can_next = tt;
      is_finite = tt;
      callable = c.in-Ok.ensures.callable;
      ledger = c.replace_at.ensures.ledger ∙ so.ledger;
      client = c.replace_at.ensures.client ∙ so.client;
      count = c.in-Ok.ensures.count;
      are = AreReplaced-push (goal.G-step g) g.K.PartialEq.eq g.V.PartialEq.eq g.F.Remap.remapped g.F.Remap.merged
          c.args.map.now.ledger c.loop-key.yielded (c.in-Some.key, c.in-Some._value) (c.args.f, c.args.count)
          (c.loop-key.left, c.loop-key.replaced) _ c.args.pass.now c.loop-key.pass c.replace_at.new.pass so.are
          c.in-Ok.ensures.replaced;
      rest = append_assoc c.loop-key.yielded _ _
          ∙ ap (λ (es : List _). c.loop-key.yielded ++ es) (sym c.in-Some.ensures.steps.0) ∙ so.rest;
    }

pub returns-in-Err-clause-stopped : goal.returns-in-Err-clause-stopped
returns-in-Err-clause-stopped g c =
    let so = c.loop-key.invariant in (
      c.loop-key.yielded,
      (c.in-Some.key, c.in-Some._value),
      into_iter_items c.next.new.self,
      c.loop-key.left,
      sym (ap (λ (es : List _). c.loop-key.yielded ++ es) (sym c.in-Some.ensures.steps.0) ∙ so.rest),
      subst (λ (p : PassView _ _ _). AreReplaced (goal.G-step g) g.K.PartialEq.eq g.V.PartialEq.eq g.F.Remap.remapped
          g.F.Remap.merged c.args.map.now.ledger c.loop-key.yielded (c.args.f, c.args.count) c.args.pass.now
          (c.loop-key.left, c.loop-key.replaced) p) (sym c.in-Err.ensures.refused) so.are,
      c.in-Err.ensures.full,
      c.in-Err.ensures.sure,
    )
