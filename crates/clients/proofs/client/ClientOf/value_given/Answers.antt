use Rattle.std.proofs.Common.{◌≡◌, ap, ◌∙◌, rules}
use Rattle.bin_history.specs.declared.call.Reply.TheVariants.{Value}
use Rattle.clients.proofs.Replies.{stands_for}
use Rattle.count_ledger.specs.Views.{PassView}
use Rattle.clients.proofs.client.ClientOf.value_given.Goals as goal

pub returns-clause-answered : goal.returns-clause-answered
returns-clause-answered g c =
    let map_is : c.map.result.now ≡ c.args.self.now.map = search rules in
    let pass_is : c.pass_mut.result.now ≡ c.args.self.now.pass = search rules in
    let left = g.met.H.Seat.Seat.pass_is c.self.inside.seat c.call_on.new.pass in
    rw (left) (stands_for g.K.PartialEq.eq g.V.PartialEq.eq g.F.Remap.remapped g.F.Remap.merged
    (λ r. r) (λ x. Value x) _ _ _ _ _ _ c.in-Value.is (rw (map_is, pass_is) at c.in_ok-value.ensures.answered))

pub invariant_of-self-2 : goal.invariant_of-self-2
invariant_of-self-2 g c =
    let (front, r, its, made, found) = c.in_ok-value.ensures.answered.called in
    let ledger = ap (λ (p : PassView _ _ _). p.ledger) made.pass ∙ ap (λ (p : PassView _ _ _). p.ledger) c.pass_mut.ensures.pass in
    let client = ap (λ (p : PassView _ _ _). p.client) made.pass ∙ ap (λ (p : PassView _ _ _). p.client) c.pass_mut.ensures.pass in
    g.met.H.Holder.fits_still c.self.inside.holder c.self.inside.seat c.call_on.new.pass ledger client c.self.invariant
