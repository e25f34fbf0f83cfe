use Rattle.std.proofs.Common.{◌≡◌, ◌+◌, ◌/◌, take, sym, ap, ◌∙◌, arith, ◌++◌, ◌∷◌, []}
use Rattle.std.proofs.lemmas.List.{map_more, take_all}
use Rattle.std.proofs.lemmas.List.Elements.{All-push}
use Rattle.std.proofs.lemmas.List.Sums.{sum_by_push}
use Rattle.hashkeys.specs.Classes.{IsClass}
use Rattle.hashkeys.specs.Limits.{most_bins}
use Rattle.count_ledger.specs.Books.{classes_of_roles}
use Rattle.count_ledger.proofs.Covering.{wide_by_rest}
use Rattle.count_ledger.proofs.settling.are_wide.Goals as goal

pub loop-role-preserved : goal.loop-role-preserved
loop-role-preserved g c =
    let role = c.role-item.result in
    let before = classes_of_roles (take c.loop-role.role-index c.args.roles.now) in
    let next : classes_of_roles (take (c.loop-role.role-index + 1) c.args.roles.now) ≡ before ++ role.class ∷ [] =
    map_more (λ r. r.class) c.args.roles.now c.loop-role.role-index role (omega arith)
    ∙ ap (λ r. before ++ r.class ∷ []) (sym c.role-item.is) in
    let size = c.n.ensures.value ∙ ap (λ k. k.n) c.class.ensures in
    record {
      left = rw (next, sum_by_push (λ k. most_bins / k.n) before role.class) (
          let is = c.saturating_sub-left.ensures in
          let left = c.loop-role.invariant.left in
          let width : most_bins / c.n.result ≡ most_bins / role.class.n = ap (λ n. most_bins / n) size in
          omega arith
          );
      lawful = rw next (All-push IsClass before role.class c.loop-role.invariant.lawful
          (rw c.class.ensures at c.n.ensures.class));
    }

pub returns : goal.returns
returns g c =
    let whole = take_all c.loop-role.role-index c.args.roles.now c.loop-role-test.false in
    wide_by_rest c.loop-role.left (classes_of_roles c.args.roles.now) (rw whole at c.loop-role.invariant.left)
    (rw whole at c.loop-role.invariant.lawful)
