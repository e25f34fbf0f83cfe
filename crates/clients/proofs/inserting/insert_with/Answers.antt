use Rattle.std.proofs.Common.{Option, refl, rules, subst}
use Rattle.clients.specs.Inserted.{FindsOrMakes}
use Rattle.clients.proofs.Inserts.{inserted-found, inserted-not, inserted-never}
use Rattle.clients.proofs.inserting.insert_with.Goals as goal

pub returns-in-Ok-Ok : goal.returns-in-Ok-Ok
returns-in-Ok-Ok g c =
    inserted-found (goal.M-post g c.args.make) g.V.Clone.is_infallible g.K.PartialEq.eq g.V.PartialEq.eq g.F.Remap.remapped
    g.F.Remap.merged c.args.map.now.ledger _ c.args.pass.now c.update_as.new.pass _ _ _ _ c.in-Ok-Ok.field-0-is
    c.in-Ok-Ok.ensures
    (λ before left answer (change, (shown, copied, posted), left_is). (
      change,
      left_is,
      subst (λ (o : Option _). FindsOrMakes (goal.M-post g c.args.make) g.V.Clone.is_infallible o change answer)
          copied (search rules),
    ))

pub returns-in-Ok-Err : goal.returns-in-Ok-Err
returns-in-Ok-Err g c =
    inserted-not (goal.M-post g c.args.make) g.V.Clone.is_infallible g.K.PartialEq.eq g.V.PartialEq.eq g.F.Remap.remapped
    g.F.Remap.merged c.args.map.now.ledger _ c.args.pass.now c.update_as.new.pass _ _ _ _ _ c.in-Ok-Err.field-0-is
    refl c.in-Ok-Err.ensures
    (λ before left answer (change, (shown, copied, posted), left_is). (
      change,
      left_is,
      subst (λ (o : Option _). FindsOrMakes (goal.M-post g c.args.make) g.V.Clone.is_infallible o change answer)
          copied (search rules),
    ))

pub returns-in-Err : goal.returns-in-Err
returns-in-Err g c =
    inserted-never (goal.M-post g c.args.make) g.V.Clone.is_infallible g.K.PartialEq.eq g.V.PartialEq.eq g.F.Remap.remapped
    g.F.Remap.merged c.args.map.now.ledger _ c.args.pass.now c.update_as.new.pass _ _ _ _ refl c.in-Err.ensures
