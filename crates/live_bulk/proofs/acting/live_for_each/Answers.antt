use Rattle.std.proofs.Common.{inl, inr, refl}
use Rattle.std.proofs.lemmas.Bool.{false≢true}
use Rattle.live_bulk.proofs.Seen.{seen-as-before}
use Rattle.live_bulk.proofs.acting.live_for_each.Goals as goal

pub returns-clause-answers : goal.returns-clause-answers
returns-clause-answers g c =
    let all = c.in_ok-part.ensures.gathered in (
      all.parts,
      elim all.whole [ inl e ↦ absurd (false≢true (rw c.in_ok-list.was at e)) | inr shared ↦ shared ],
      rw c.in_ok-list.was at all.collected,
    )

pub returns-in_err-_clients-clause-seen : goal.returns-in_err-_clients-clause-seen
returns-in_err-_clients-clause-seen g c = seen-as-before c.args.passes.now.items c.args.passes.now.items refl

pub returns-in_err-clone-clause-seen : goal.returns-in_err-clone-clause-seen
returns-in_err-clone-clause-seen g c = seen-as-before c.args.passes.now.items c.args.passes.now.items refl
