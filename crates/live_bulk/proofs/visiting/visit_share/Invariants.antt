use Rattle.bin_history.specs.Calls.{after}
use Rattle.live_bulk.proofs.ShareWalks.{HasShown}
use Rattle.live_bulk.proofs.visiting.visit_share.Given as goal

abbrev pub invariant-loop : goal.invariant-loop
invariant-loop g l =
    HasShown g.K.PartialEq.eq g.K.HashKey.code (after g.V.PartialEq.eq g.F.Remap.remapped g.F.Remap.merged)
    l.fn.map.ledger (g.S.Taker.reached l.fn.stepper) l.initial.pass l.fn.share l.pass l.walk l.part
