use Rattle.std.proofs.Common.{None, is_some, ap, ◌∙◌, sym}
use Rattle.std.proofs.lemmas.Bool.{false≢true}
use Rattle.bin_history.specs.Changes.{left_by, reply_of}
use Rattle.bin_history.specs.Entries.{lookup, store}
use Rattle.bin_history.specs.Ops.{call_on, key_in, may_add}
use Rattle.bin_history.specs.Records.{RecordView}
use Rattle.bin_history.proofs.Changes.{after_of_none, key-call_on}
use Rattle.bin_history.proofs.Leans.{IsMadeOn-lean}
use Rattle.bin_history.proofs.Sure.{IsSpared-sure, seen_there, store_sure}
use Rattle.bin_history.proofs.op.Op.make_on.Goals as goal

pub returns-clause-made : goal.returns-clause-made
returns-clause-made g c =
    let k = key_in c.args.key in
    let op = c.args.self in
    let es = c.args.entries.now.entries in
    let effect = c.in_ok-work.work.effect in
    let v = lookup g.K.PartialEq.eq es k in
    let w = left_by op effect v in
    let work = rw c.get.ensures at c.in_ok-work.ensures.work in
    let seen = rw c.get.ensures at c.in_ok-work.ensures.seen in
    let its = key-call_on k op in
    IsMadeOn-lean g.K.PartialEq.eq g.V.PartialEq.eq g.F.Remap.remapped g.F.Remap.merged c.args.client c.args.ordinal
    (call_on k op) c.args.entries.now c.carry_out.new.entries v w c.reply.result c.seen.result
    (sym (ap (lookup g.K.PartialEq.eq es) its))
    work.effect
    (ap (λ (x : RecordView _ _ _). x.client) c.seen.ensures)
    (ap (λ (x : RecordView _ _ _). x.ordinal) c.seen.ensures)
    (ap (λ (x : RecordView _ _ _). x.call) c.seen.ensures ∙ seen.call_is)
    (ap (λ (x : RecordView _ _ _). x.before) c.seen.ensures ∙ seen.before_is)
    (ap (λ (x : RecordView _ _ _). x.after) c.seen.ensures ∙ seen.after_is)
    (c.reply.ensures ∙ ap (reply_of c.in_ok-work.work.answer) c.in_ok-taken.ensures.taken ∙ work.answer)
    (c.in_ok-taken.ensures.entries ∙ ap (λ q. store g.K.PartialEq.eq es q w) (sym its))

pub returns-in_err-taken-clause-spared : goal.returns-in_err-taken-clause-spared
returns-in_err-taken-clause-spared g c spare =
    let k = key_in c.args.key in
    let work = rw c.get.ensures at c.in_ok-work.ensures.work in
    let seen = rw c.get.ensures at c.in_ok-work.ensures.seen in
    absurd (false≢true (store_sure (lookup g.K.PartialEq.eq c.args.entries.now.entries k) (left_by c.args.self c.in_ok-work.work.effect None)
    c.is_some-there.result (may_add c.args.self)
    (ap is_some (sym seen.before_is) ∙ seen_there _ ∙ sym c.is_some-there.ensures)
    (λ none never. (rw none at work.effect)
    ∙ after_of_none g.V.PartialEq.eq g.F.Remap.remapped g.F.Remap.merged k c.args.self never)
    spare.adds c.in_err-taken.ensures.succeeds (λ first. c.in_err-taken.ensures.first first.1 first.0)))

pub returns-in_err-taken-clause-succeeds : goal.returns-in_err-taken-clause-succeeds
returns-in_err-taken-clause-succeeds g c sure =
    let k = key_in c.args.key in
    let spare = IsSpared-sure g.K.PartialEq.eq g.K.Clone.is_infallible g.V.Clone.is_infallible c.args.entries.now c.args.key
    c.args.self sure in
    let work = rw c.get.ensures at c.in_ok-work.ensures.work in
    let seen = rw c.get.ensures at c.in_ok-work.ensures.seen in
    absurd (false≢true (store_sure (lookup g.K.PartialEq.eq c.args.entries.now.entries k) (left_by c.args.self c.in_ok-work.work.effect None)
    c.is_some-there.result (may_add c.args.self)
    (ap is_some (sym seen.before_is) ∙ seen_there _ ∙ sym c.is_some-there.ensures)
    (λ none never. (rw none at work.effect)
    ∙ after_of_none g.V.PartialEq.eq g.F.Remap.remapped g.F.Remap.merged k c.args.self never)
    spare.adds c.in_err-taken.ensures.succeeds (λ first. c.in_err-taken.ensures.first first.1 first.0)))
