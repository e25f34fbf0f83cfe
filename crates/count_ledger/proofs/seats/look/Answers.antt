use Rattle.count_ledger.proofs.Keeping.{Allows-told}
use Rattle.count_ledger.proofs.seats.look.Goals as goal

pub load-requires : goal.load-requires
load-requires g c = (
  c.requires.seat,
  c.requires.word,
  rw c.requires.terms
      (Allows-told g.K.HashKey.code g.K.PartialEq.eq _ c.args.shared.now.key _ g.T.StepTerms.change _ c.args.word c.args.seat.now.me
      (λ n. n) c.requires.rule),
)
