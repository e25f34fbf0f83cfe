use Rattle.std.proofs.Common.{◌≡◌, refl, rules}
use Rattle.std.specs.Fn.{always_mut}
use Rattle.clients.proofs.Turns.{FoldsTo-part}
use Rattle.clients.proofs.client.ClientOf.for_each.Goals as goal
use denote.Param.Always.{mut_by, mut_next}

-- each call of the closure leaves a function that may be called again
pub fold_all-requires-clause-callable : goal.fold_all-requires-clause-callable
fold_all-requires-clause-callable g c =
    mut_by _ (λ s. always_mut g.G.FnMut s.0) (λ s a can. search rules)
    (λ s a r t can called. mut_next g.G.FnMut s.0 (a.1.0, tt) tt t.0 t.0 (search rules) refl can) _ c.requires.callable

pub returns-clause-used : goal.returns-clause-used
returns-clause-used g c =
    let map_is : c.map.result.now ≡ c.args.self.now.map = search rules in
    let pass_is : c.pass_mut.result.now ≡ c.args.self.now.pass = search rules in
    let left = g.met.H.Seat.Seat.pass_is c.self.inside.seat c.fold_all.new.pass in
    let (visits, whole, folds) = c.in_ok-_last.ensures.folded in
    rw (left) ((visits, rw (map_is, pass_is) at whole, (_, FoldsTo-part _ _ (λ s. s.0.0) (λ p x q step. search rules) _ _ _ folds)))

pub returns-in_err-_last-clause-seen : goal.returns-in_err-_last-clause-seen
returns-in_err-_last-clause-seen g c =
    let pass_is : c.pass_mut.result.now ≡ c.args.self.now.pass = search rules in
    let left = g.met.H.Seat.Seat.pass_is c.self.inside.seat c.fold_all.new.pass in
    rw (left) (rw (pass_is) at c.in_err-_last.ensures.seen)
