use Rattle.std.proofs.Common.{inl, inr, sym, ◌∙◌}
use Rattle.std.proofs.lemmas.Bool.{false≢true}
use Rattle.live_bulk.specs.Shared.{all_shown}
use Rattle.live_bulk.proofs.folding.live_reduce.Goals as goal

pub returns-clause-fold : goal.returns-clause-fold
returns-clause-fold g c =
    let all = c.in_ok-part.ensures.gathered in
    let fold = rw c.in_ok-folded.was at all.collected in (
      all.parts,
      elim all.whole [ inl e ↦ absurd (false≢true (rw c.in_ok-folded.was at e)) | inr shared ↦ shared ],
      fold.0,
      λ es moved. fold.0 ∙ sym (c.any_order.ensures (all_shown all.parts) es moved),
    )
