use Rattle.std.proofs.Common.{◌≡◌, ◌<◌, [], ◌∷◌, length, ap, sym, subst, ◌∙◌, arith}
use Rattle.std.proofs.lemmas.Bool.{false≢true}
use Rattle.bin_history.specs.Ops.{call_on, key_in}
use Rattle.bin_history.proofs.Keys.{key_tells}
use Rattle.bin_history.specs.Limits.{most_calls}
use Rattle.count_ledger.specs.Views.{LedgerView}
use Rattle.count_ledger.proofs.Agreements.{BinAgrees-gone_on, IsLegalStep-made}
use Rattle.chm.specs.Histories.{IsCalledOn}
use Rattle.chm.specs.Views.{MapView}
use Rattle.chm.proofs.Meeting.{IsCalledOn-agreed}
use Rattle.chm.proofs.map.Map.call_by_value.Goals as goal

pub post_trace-requires-clause-legal : goal.post_trace-requires-clause-legal
post_trace-requires-clause-legal g c =
    IsLegalStep-made g.K.PartialEq.eq (key_tells g.met.K.Eq.laws g.met.K.HashKey.equal_is_same) g.K.HashKey.code
    g.V.PartialEq.eq g.F.Remap.remapped g.F.Remap.merged c.args.bin.now c.args.role.now c.in_ok-reply.trace
    c.requires.agree c.lawful.ensures.lawful c.lawful.ensures.replayed c.in_ok-reply.ensures.made

pub returns-clause-called : goal.returns-clause-called
returns-clause-called g c =
    let own : c.self.inside.ledger ≡ c.args.self.now.ledger = ap (λ (m : MapView _ _). m.ledger) c.self.view_is in
    let call = call_on (key_in c.args.key) c.args.op in
    let L : LedgerView _ _ → Type 0 = λ l. IsCalledOn g.K.PartialEq.eq g.K.HashKey.code g.V.PartialEq.eq
    g.F.Remap.remapped g.F.Remap.merged l c.args.bin.now c.make_on.new.self call c.args.pass.now
    c.post_trace.new.pass c.in_ok-reply.reply in
    let posted = c.post_trace.ensures.posted in
    subst L own
    (IsCalledOn-agreed g.K.PartialEq.eq g.K.HashKey.code g.V.PartialEq.eq g.F.Remap.remapped g.F.Remap.merged
    (key_tells g.met.K.Eq.laws g.met.K.HashKey.equal_is_same) c.self.inside.ledger call c.args.pass.now
    c.post_trace.new.pass c.in_ok-reply.reply c.args.bin.now c.make_on.new.self c.args.role.now c.in_ok-reply.trace
    c.client.result c.made.result posted.0 c.requires.agree c.lawful.ensures.lawful c.lawful.ensures.replayed
    c.post_trace.ensures.of_role c.in_ok-reply.ensures.made c.client.ensures.value c.made.ensures.value posted.1)

pub returns-clause-agree : goal.returns-clause-agree
returns-clause-agree g c =
    let tells = key_tells g.met.K.Eq.laws g.met.K.HashKey.equal_is_same in
    BinAgrees-gone_on g.K.PartialEq.eq tells g.K.HashKey.code _ c.args.bin.now c.make_on.new.self c.args.role.now
    c.post_trace.new.role
    (c.in_ok-reply.trace ∷ []) c.requires.agree c.make_on.ensures.class c.make_on.ensures.salt
    c.in_ok-reply.ensures.made.history c.post_trace.ensures.role

pub make_on-requires-clause-ordinal : goal.make_on-requires-clause-ordinal
make_on-requires-clause-ordinal g c = λ recorded.
    let form = sym c.requires.form ∙ recorded in
    let room : length c.args.pass.now.made < 1000000 =
    subst (λ f. length c.args.pass.now.made < most_calls f c.args.self.now.ledger.clients) form c.requires.room in
    let value = c.made.ensures.value in omega (arith, room, value)

pub returns-in_err-reply-clause-sure : goal.returns-in_err-reply-clause-sure
returns-in_err-reply-clause-sure g c is = absurd (false≢true (c.in_err-reply.ensures.succeeds is))
