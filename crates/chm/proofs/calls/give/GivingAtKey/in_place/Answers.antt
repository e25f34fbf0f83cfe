use Rattle.std.proofs.Common.{◌≡◌, inl, [], ◌∷◌, refl, sym, ap, subst, ◌∙◌}
use Rattle.std.proofs.lemmas.Bool.{false≢true}
use Rattle.hashkeys.specs.Classes.{covers}
use Rattle.hashkeys.specs.Hashing.{hash_of}
use Rattle.bin_history.specs.Calls.{after, key_of}
use Rattle.bin_history.specs.Entries.{lookup}
use Rattle.bin_history.specs.Leans.{as_bin}
use Rattle.bin_history.specs.Readiness.{call_to}
use Rattle.bin_history.specs.Updates.{prepared_key}
use Rattle.bin_history.specs.declared.call.Reply.TheVariants.{Value}
use Rattle.bin_history.proofs.Keys.{key_tells}
use Rattle.count_ledger.specs.Views.{LedgerView, RoleView}
use Rattle.count_ledger.proofs.Agreements.{BinAgrees-gone_on, IsLegalStep-made}
use Rattle.bin_layout.specs.Views.{place_of}
use Rattle.chm.specs.Given.{IsGiven}
use Rattle.chm.specs.Headline.{IsCalled}
use Rattle.chm.specs.Views.{MapView, bins_of}
use Rattle.chm.proofs.Giving.{key-call_to, may_be_absent}
use Rattle.chm.proofs.InPlace.{at_role, role_at, same_at, class_at, salt_at, role_class}
use Rattle.chm.proofs.Meeting.{IsCalledOn-agreed, IsCalled-met}
use Rattle.chm.proofs.calls.give.GivingAtKey.in_place.Goals as goal

pub update_on-answer-requires-clause-hash : goal.update_on-answer-requires-clause-hash
update_on-answer-requires-clause-hash g c =
    let salt = salt_at g.K.PartialEq.eq (after g.V.PartialEq.eq g.F.Remap.remapped g.F.Remap.merged)
    (place_of (bins_of c.args.map.now) c.args.class) c.args.bin_slot.now.entries c.args.bin_slot.now.role
    c.requires.lies in
    c.requires.hash ∙ (λ i. hash_of (sym salt i) (g.K.HashKey.code (sym c.in-Ok.ensures.key i)))

pub update_on-answer-requires-clause-of_class : goal.update_on-answer-requires-clause-of_class
update_on-answer-requires-clause-of_class g c =
    let after_is = after g.V.PartialEq.eq g.F.Remap.remapped g.F.Remap.merged in
    let p = place_of (bins_of c.args.map.now) c.args.class in
    let x = c.args.bin_slot.now in
    let salt = salt_at g.K.PartialEq.eq after_is p x.entries x.role c.requires.lies in
    let class = class_at g.K.PartialEq.eq after_is p x.entries x.role c.requires.lies in
    (λ i. covers (class i) (hash_of (salt i) (g.K.HashKey.code (c.in-Ok.ensures.key i))))
    ∙ ap (covers c.args.class) (sym c.requires.hash)
    ∙ c.requires.covers

pub take_role-role-requires : goal.take_role-role-requires
take_role-role-requires g c =
    role_class g.K.PartialEq.eq (after g.V.PartialEq.eq g.F.Remap.remapped g.F.Remap.merged)
    (place_of (bins_of c.args.map.now) c.args.class) c.args.bin_slot.now.entries c.args.bin_slot.now.role
    c.requires.lies

pub post_trace-requires-clause-role : goal.post_trace-requires-clause-role
post_trace-requires-clause-role g c =
    let at = at_role g.K.PartialEq.eq (after g.V.PartialEq.eq g.F.Remap.remapped g.F.Remap.merged)
    (place_of (bins_of c.args.map.now) c.args.class) c.args.bin_slot.now.entries c.args.bin_slot.now.role
    c.take_role-role.result c.take_role-role.ensures.role c.requires.lies in
    at.ledger ∙ sym (ap (λ (m : MapView _ _). m.ledger.id) c.map.view_is)

pub post_trace-requires-clause-client : goal.post_trace-requires-clause-client
post_trace-requires-clause-client g c =
    let (left, met, made) = c.update_on-answer.ensures.made in
    let call = call_to {F = g.row.F.Denot} (prepared_key g.Q.AsKey.stands_for c.in-Ok.prepared) left in
    let reply = Value (lookup g.K.PartialEq.eq c.args.bin_slot.now.entries.entries
    (prepared_key g.Q.AsKey.stands_for c.in-Ok.prepared)) in
    let key = key-call_to g.row.F.Denot (prepared_key g.Q.AsKey.stands_for c.in-Ok.prepared) left ∙ c.in-Ok.ensures.key in
    made.client_is ∙ c.client.ensures.value

pub post_trace-requires-clause-ordinal : goal.post_trace-requires-clause-ordinal
post_trace-requires-clause-ordinal g c =
    let (left, met, made) = c.update_on-answer.ensures.made in
    let call = call_to {F = g.row.F.Denot} (prepared_key g.Q.AsKey.stands_for c.in-Ok.prepared) left in
    let reply = Value (lookup g.K.PartialEq.eq c.args.bin_slot.now.entries.entries
    (prepared_key g.Q.AsKey.stands_for c.in-Ok.prepared)) in
    let key = key-call_to g.row.F.Denot (prepared_key g.Q.AsKey.stands_for c.in-Ok.prepared) left ∙ c.in-Ok.ensures.key in
    made.ordinal_is ∙ c.made.ensures.value

pub post_trace-requires-clause-class : goal.post_trace-requires-clause-class
post_trace-requires-clause-class g c =
    let at = at_role g.K.PartialEq.eq (after g.V.PartialEq.eq g.F.Remap.remapped g.F.Remap.merged)
    (place_of (bins_of c.args.map.now) c.args.class) c.args.bin_slot.now.entries c.args.bin_slot.now.role
    c.take_role-role.result c.take_role-role.ensures.role c.requires.lies in
    let (left, met, made) = c.update_on-answer.ensures.made in
    let call = call_to {F = g.row.F.Denot} (prepared_key g.Q.AsKey.stands_for c.in-Ok.prepared) left in
    let reply = Value (lookup g.K.PartialEq.eq c.args.bin_slot.now.entries.entries
    (prepared_key g.Q.AsKey.stands_for c.in-Ok.prepared)) in
    let key = key-call_to g.row.F.Denot (prepared_key g.Q.AsKey.stands_for c.in-Ok.prepared) left ∙ c.in-Ok.ensures.key in
    let class = sym at.agree.class ∙ at.class in
    let salt = sym at.agree.salt ∙ at.salt in
    let of = ap key_of made.call_is ∙ key in
    (λ i. covers (class i) (hash_of (salt i) (g.K.HashKey.code (of i))))
    ∙ ap (covers c.args.class) (sym c.requires.hash)
    ∙ c.requires.covers

pub post_trace-requires-clause-legal : goal.post_trace-requires-clause-legal
post_trace-requires-clause-legal g c =
    let at = at_role g.K.PartialEq.eq (after g.V.PartialEq.eq g.F.Remap.remapped g.F.Remap.merged)
    (place_of (bins_of c.args.map.now) c.args.class) c.args.bin_slot.now.entries c.args.bin_slot.now.role
    c.take_role-role.result c.take_role-role.ensures.role c.requires.lies in
    let (left, met, made) = c.update_on-answer.ensures.made in
    let call = call_to {F = g.row.F.Denot} (prepared_key g.Q.AsKey.stands_for c.in-Ok.prepared) left in
    let reply = Value (lookup g.K.PartialEq.eq c.args.bin_slot.now.entries.entries
    (prepared_key g.Q.AsKey.stands_for c.in-Ok.prepared)) in
    let key = key-call_to g.row.F.Denot (prepared_key g.Q.AsKey.stands_for c.in-Ok.prepared) left ∙ c.in-Ok.ensures.key in
    IsLegalStep-made g.K.PartialEq.eq (key_tells g.met.K.Eq.laws g.met.K.HashKey.equal_is_same) g.K.HashKey.code
    g.V.PartialEq.eq g.F.Remap.remapped g.F.Remap.merged (as_bin c.args.bin_slot.now.entries) c.take_role-role.result
    c.update_on-answer.result.1 at.agree c.lawful_entries.ensures refl made

pub returns-clause-done : goal.returns-clause-done
returns-clause-done g c =
    let own : c.map.inside.ledger ≡ c.args.map.now.ledger = ap (λ (m : MapView _ _). m.ledger) c.map.view_is in
    let bin = as_bin c.args.bin_slot.now.entries in
    let at = at_role g.K.PartialEq.eq (after g.V.PartialEq.eq g.F.Remap.remapped g.F.Remap.merged)
    (place_of (bins_of c.args.map.now) c.args.class) c.args.bin_slot.now.entries c.args.bin_slot.now.role
    c.take_role-role.result c.take_role-role.ensures.role c.requires.lies in
    let (left, met, made) = c.update_on-answer.ensures.made in
    let call = call_to {F = g.row.F.Denot} (prepared_key g.Q.AsKey.stands_for c.in-Ok.prepared) left in
    let reply = Value (lookup g.K.PartialEq.eq c.args.bin_slot.now.entries.entries
    (prepared_key g.Q.AsKey.stands_for c.in-Ok.prepared)) in
    let key = key-call_to g.row.F.Denot (prepared_key g.Q.AsKey.stands_for c.in-Ok.prepared) left ∙ c.in-Ok.ensures.key in
    let posted = c.post_trace.ensures.posted in
    let called = IsCalledOn-agreed g.K.PartialEq.eq g.K.HashKey.code g.V.PartialEq.eq g.F.Remap.remapped
    g.F.Remap.merged (key_tells g.met.K.Eq.laws g.met.K.HashKey.equal_is_same) c.map.inside.ledger call
    c.args.pass.now c.post_trace.new.pass reply bin (as_bin c.update_on-answer.new.entries)
    c.take_role-role.result c.update_on-answer.result.1 c.client.result c.made.result posted.0 at.agree c.lawful_entries.ensures refl
    c.post_trace.ensures.of_role made c.client.ensures.value c.made.ensures.value posted.1 in
    let on = (λ i. covers (at.class i) (hash_of (own i).salt (g.K.HashKey.code (key i))))
    ∙ ap (covers c.args.class) (sym c.requires.hash)
    ∙ c.requires.covers in
    let is_called = subst
    (λ (l : LedgerView _ _). IsCalled g.K.PartialEq.eq g.V.PartialEq.eq g.F.Remap.remapped g.F.Remap.merged l call
    c.args.pass.now c.post_trace.new.pass reply) own
    (IsCalled-met g.K.PartialEq.eq g.K.HashKey.code g.V.PartialEq.eq g.F.Remap.remapped g.F.Remap.merged
    c.map.inside.ledger call c.args.pass.now c.post_trace.new.pass reply bin
    (as_bin c.update_on-answer.new.entries) called on) in
    subst
    (λ (k : _). IsGiven g.K.PartialEq.eq g.V.PartialEq.eq g.F.Remap.remapped g.F.Remap.merged
    (goal.G-post g c.args.self.f c.args.self.given) c.args.map.now.ledger k c.args.pass.now c.post_trace.new.pass
    c.update_on-answer.result.0) c.in-Ok.ensures.key (
      lookup g.K.PartialEq.eq c.args.bin_slot.now.entries.entries (prepared_key g.Q.AsKey.stands_for c.in-Ok.prepared),
      left,
      met.1,
      is_called,
    )

pub returns-clause-lies : goal.returns-clause-lies
returns-clause-lies g c =
    let same = g.K.PartialEq.eq in
    let after_is = after g.V.PartialEq.eq g.F.Remap.remapped g.F.Remap.merged in
    let p = place_of (bins_of c.args.map.now) c.args.class in
    let at = at_role g.K.PartialEq.eq (after g.V.PartialEq.eq g.F.Remap.remapped g.F.Remap.merged)
    (place_of (bins_of c.args.map.now) c.args.class) c.args.bin_slot.now.entries c.args.bin_slot.now.role
    c.take_role-role.result c.take_role-role.ensures.role c.requires.lies in
    let (left, met, made) = c.update_on-answer.ensures.made in
    let call = call_to {F = g.row.F.Denot} (prepared_key g.Q.AsKey.stands_for c.in-Ok.prepared) left in
    let reply = Value (lookup g.K.PartialEq.eq c.args.bin_slot.now.entries.entries
    (prepared_key g.Q.AsKey.stands_for c.in-Ok.prepared)) in
    let key = key-call_to g.row.F.Denot (prepared_key g.Q.AsKey.stands_for c.in-Ok.prepared) left ∙ c.in-Ok.ensures.key in
    let left = c.put_role.new.self in
    same_at same after_is p left.entries c.update_on-answer.new.entries left.role
    (c.put_role.ensures.entries ∙ c.take_role-role.ensures.entries)
    (role_at same after_is p c.update_on-answer.new.entries left.role c.post_trace.new.role c.put_role.ensures.role (record {
      class = c.update_on-answer.ensures.class ∙ at.class;
      form = at.form;
      salt = c.update_on-answer.ensures.salt ∙ at.salt;
      ledger = ap (λ (r : RoleView _ _ _). r.ledger) c.post_trace.ensures.role ∙ at.ledger;
      agree = BinAgrees-gone_on same (key_tells g.met.K.Eq.laws g.met.K.HashKey.equal_is_same) g.K.HashKey.code
          after_is (as_bin c.args.bin_slot.now.entries) (as_bin c.update_on-answer.new.entries) c.take_role-role.result
          c.post_trace.new.role (c.update_on-answer.result.1 ∷ []) at.agree c.update_on-answer.ensures.class c.update_on-answer.ensures.salt
          made.history c.post_trace.ensures.role;
    }))

pub returns-in_default-clause-fails : goal.returns-in_default-clause-fails
returns-in_default-clause-fails g c =
    let key = g.Q.AsKey.stands_for c.args.self.query in
    let class = class_at g.K.PartialEq.eq (after g.V.PartialEq.eq g.F.Remap.remapped g.F.Remap.merged)
    (place_of (bins_of c.args.map.now) c.args.class) c.args.bin_slot.now.entries c.args.bin_slot.now.role
    c.requires.lies in
    let on = (λ i. covers (class i) (hash_of c.args.map.now.ledger.salt (g.K.HashKey.code key)))
    ∙ ap (covers c.args.class) (sym c.requires.hash)
    ∙ c.requires.covers in
    let (front, is_front, met) = c.peek_in_place.ensures.front in (
      refl,
      λ lean. (
        refl,
        may_be_absent g.K.PartialEq.eq g.K.HashKey.code g.V.PartialEq.eq g.F.Remap.remapped g.F.Remap.merged
            c.args.map.now.ledger key c.args.pass.now (as_bin c.args.bin_slot.now.entries) front on is_front met
            (λ some. false≢true (c.in_default.ensures.succeeds some)),
      ),
      inl refl,
    )
