use Rattle.std.proofs.Common.{◌∷◌, ◌++◌, [], Option, refl, sym, ◌∙◌, subst, rules}
use Rattle.count_ledger.specs.Views.{PassView}
use Rattle.chm.specs.Cursors.{HasComeTo}
use Rattle.chm.specs.Visits.{classes_of_visits}
use Rattle.clients.specs.Replaced.{AreReplacedIn}
use Rattle.clients.proofs.Replacements.{AreReplacedIn-push, stopped-at}
use Rattle.clients.proofs.replacing.replace_walk.Goals as goal

pub loop-init : goal.loop-init
loop-init g c = record {
  callable = c.requires.callable;
  ledger = refl;
  client = refl;
  count = search rules;
  are = ([], c.cursor-cursor.ensures.begun [] refl, (refl, refl));
}

pub loop-preserved : goal.loop-preserved
loop-preserved g c =
    let so = c.loop.invariant in
    let (visits, come, are) = so.are in
    let (v, seen, visited, its, on) = rw c.in-Ok-Some.field-0-is at c.in-Ok-Some.ensures.next in
    record {
      callable = rw c.in-Ok-Some.field-0-is at c.in-Ok-Some.ensures.callable;
      ledger = c.replace_next.ensures.ledger ∙ so.ledger;
      client = c.replace_next.ensures.client ∙ so.client;
      count = rw c.in-Ok-Some.field-0-is at c.in-Ok-Some.ensures.count;
      are = (
        visits ++ v ∷ [],
        on visits come,
        AreReplacedIn-push (goal.G-step g) g.K.PartialEq.eq g.V.PartialEq.eq g.F.Remap.remapped g.F.Remap.merged
            c.args.map.now.ledger g.K.HashKey.code visits v (c.args.f, 0) (c.loop.left, c.loop.replaced) _ c.args.pass.now
            c.loop.pass seen c.replace_next.new.pass are visited its,
      );
    }

pub replace_next-requires-clause-pass : goal.replace_next-requires-clause-pass
replace_next-requires-clause-pass g c = c.loop.invariant.ledger ∙ c.requires.pass

pub returns-in-Ok-None-clause-replaced : goal.returns-in-Ok-None-clause-replaced
returns-in-Ok-None-clause-replaced g c =
    let (visits, come, are) = c.loop.invariant.are in
    let (at_end, same) = rw c.in-Ok-None.field-0-is at c.in-Ok-None.ensures.end in (
      c.loop.cursor.n,
      visits,
      c.loop.left,
      subst (λ (next : Option _). HasComeTo c.loop.cursor.n next (classes_of_visits visits)) at_end come,
      subst (λ (p : PassView _ _ _). AreReplacedIn (goal.G-step g) g.K.PartialEq.eq g.K.HashKey.code g.V.PartialEq.eq
          g.F.Remap.remapped g.F.Remap.merged c.args.map.now.ledger visits (c.args.f, 0) c.args.pass.now
          (c.loop.left, c.loop.replaced) p) (sym same) are,
    )

pub returns-in-Err-clause-stopped : goal.returns-in-Err-clause-stopped
returns-in-Err-clause-stopped g c =
    let (visits, come, are) = c.loop.invariant.are in
    stopped-at (goal.G-step g) g.K.PartialEq.eq g.V.PartialEq.eq g.F.Remap.remapped g.F.Remap.merged c.args.map.now.ledger
    g.K.HashKey.code c.in-Err.error.fault c.args.f c.args.pass.now c.in-Err.error.replaced c.loop.cursor.n
    c.loop.cursor.next visits (c.loop.left, c.loop.replaced) c.loop.pass c.replace_next.new.pass come are
    c.in-Err.ensures.stopped
