use Rattle.std.proofs.Common.{◌≡◌, Option, Some, true, refl, sym, subst, rules, option_copied}
use Rattle.chm.specs.declared.calls.update.Change.TheVariants.{Set}
use Rattle.clients.specs.Replaced.{Replaces}
use Rattle.clients.proofs.replacing.replacement.Goals as goal

pub returns-clause-replaced : goal.returns-clause-replaced
returns-clause-replaced g c =
    let found : option_copied c.args.found ≡ Some c.in-Some.value.now = search rules in
    subst (λ (o : Option _). Replaces (goal.G-step g) c.args.key.now c.args.f o (Set c.next_of-next.result)
    (c.next_of-next.new.f, true)) (sym found) (c.next_of-next.result, refl, refl, c.next_of-next.ensures.next)
