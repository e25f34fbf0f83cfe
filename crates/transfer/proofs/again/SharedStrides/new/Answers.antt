use Rattle.std.proofs.Common.{◌≡◌, ap, ◌∙◌, rules}
use Rattle.std.proofs.lemmas.List.Elements.{All-push}
use Rattle.transfer.specs.Views.{MoverView}
use Rattle.transfer.proofs.again.SharedStrides.new.Goals as goal

pub loop-client-preserved : goal.loop-client-preserved
loop-client-preserved g c =
    let l = c.loop-client in
    let move = c.in_ok-strides.strides in
    let of_move : c.in-Some.mover.strides ≡ move = ap (λ (m : MoverView). m.strides) c.in-Some.ensures.new in
    record {
      of =
          rw c.push_reserved-in-loop-client.ensures.items
          (All-push (λ p. p.value.strides ≡ move) l.places.items c.place_of-in-loop-client.result l.invariant.of
          (c.place_of-in-loop-client.ensures ∙ of_move));
      len = search rules;
      room = search rules;
    }
