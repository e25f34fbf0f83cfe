use Rattle.std.proofs.lemmas.Result.{IfOk-weaker}
use Rattle.mapcli_core.proofs.Seats.{new-ledger, AreAnswers-worked, ArePlayed-gathered}
use Rattle.mapcli_core.proofs.play.play_blocks.Goals as goal

pub share-answered-requires-clause-own : goal.share-answered-requires-clause-own
share-answered-requires-clause-own g c = λ κs within.
    new-ledger c.args.map.now.ledger.id _ c.args.passes.now.items c.requires.fresh

pub replies_of-requires : goal.replies_of-requires
replies_of-requires g c =
    AreAnswers-worked c.args.map.now.ledger.id c.args.blocks c.args.passes.now.items c.share-answered.new.passes.items
    c.in_ok-answers.answers.items c.requires.fresh c.share-answered.ensures.len c.in_ok-answers.ensures.done

pub returns-clause-fault : goal.returns-clause-fault
returns-clause-fault g c = c.replies_of.ensures.fault

pub returns-clause-played : goal.returns-clause-played
returns-clause-played g c =
    IfOk-weaker c.replies_of.result _ _
    (λ r gathered.
    ArePlayed-gathered c.args.map.now.ledger.id c.args.blocks c.args.passes.now.items c.share-answered.new.passes.items
    c.in_ok-answers.answers.items c.requires.fresh c.share-answered.ensures.len c.in_ok-answers.ensures.done r.items gathered)
    c.replies_of.ensures.replies
