use Rattle.std.proofs.Common.{◌≡◌, [], ◌∷◌, refl, sym, ap, subst, ◌∙◌}
use Rattle.std.specs.Fn.{FnOnceReturnsAtMut}
use Rattle.hashkeys.specs.Classes.{covers}
use Rattle.hashkeys.specs.Hashing.{hash_of}
use Rattle.bin_history.specs.Calls.{after, key_of}
use Rattle.bin_history.specs.Leans.{as_bin}
use Rattle.bin_history.proofs.Keys.{key_tells}
use Rattle.count_ledger.specs.Views.{LedgerView, RoleView}
use Rattle.count_ledger.proofs.Agreements.{BinAgrees-gone_on, IsLegalStep-made}
use Rattle.bin_layout.specs.Views.{place_of}
use Rattle.chm.specs.Headline.{IsCalled}
use Rattle.chm.specs.Views.{MapView, bins_of}
use Rattle.chm.proofs.Giving.{change_call}
use Rattle.chm.proofs.InPlace.{at_role, role_at, same_at, class_at, salt_at, role_class}
use Rattle.chm.proofs.Meeting.{IsCalledOn-agreed, IsCalled-met}
use Rattle.chm.proofs.map.Map.modify_in_place.Goals as goal

pub change_on-answer-requires-clause-hash : goal.change_on-answer-requires-clause-hash
change_on-answer-requires-clause-hash g c =
    let salt = salt_at g.K.PartialEq.eq (after g.V.PartialEq.eq g.F.Remap.remapped g.F.Remap.merged)
    (place_of (bins_of c.args.self.now) c.args.class) c.args.bin_slot.now.entries c.args.bin_slot.now.role
    c.requires.lies in
    c.requires.hash ∙ (λ i. hash_of (sym salt i) (g.K.HashKey.code (g.Q.AsKey.stands_for c.args.query)))

pub change_on-answer-requires-clause-of_class : goal.change_on-answer-requires-clause-of_class
change_on-answer-requires-clause-of_class g c =
    let after_is = after g.V.PartialEq.eq g.F.Remap.remapped g.F.Remap.merged in
    let p = place_of (bins_of c.args.self.now) c.args.class in
    let x = c.args.bin_slot.now in
    let salt = salt_at g.K.PartialEq.eq after_is p x.entries x.role c.requires.lies in
    let class = class_at g.K.PartialEq.eq after_is p x.entries x.role c.requires.lies in
    (λ i. covers (class i) (hash_of (salt i) (g.K.HashKey.code (g.Q.AsKey.stands_for c.args.query))))
    ∙ ap (covers c.args.class) (sym c.requires.hash)
    ∙ c.requires.covers

pub take_role-role-requires : goal.take_role-role-requires
take_role-role-requires g c =
    role_class g.K.PartialEq.eq (after g.V.PartialEq.eq g.F.Remap.remapped g.F.Remap.merged)
    (place_of (bins_of c.args.self.now) c.args.class) c.args.bin_slot.now.entries c.args.bin_slot.now.role
    c.requires.lies

pub post_trace-requires-clause-role : goal.post_trace-requires-clause-role
post_trace-requires-clause-role g c =
    let at = at_role g.K.PartialEq.eq (after g.V.PartialEq.eq g.F.Remap.remapped g.F.Remap.merged)
    (place_of (bins_of c.args.self.now) c.args.class) c.args.bin_slot.now.entries c.args.bin_slot.now.role
    c.take_role-role.result c.take_role-role.ensures.role c.requires.lies in
    at.ledger ∙ sym (ap (λ (m : MapView _ _). m.ledger.id) c.self.view_is)

pub post_trace-requires-clause-client : goal.post_trace-requires-clause-client
post_trace-requires-clause-client g c =
    let (call, reply, key, made, how) = change_call g.K.PartialEq.eq g.V.PartialEq.eq g.F.Remap.remapped g.F.Remap.merged
    (FnOnceReturnsAtMut g.G.FnOnce c.args.f) (g.Q.AsKey.stands_for c.args.query) c.client.result c.made.result
    c.args.bin_slot.now.entries c.change_on-answer.new.entries c.change_on-answer.result.0 c.change_on-answer.result.1
    c.change_on-answer.ensures.made in
    made.client_is ∙ c.client.ensures.value

pub post_trace-requires-clause-ordinal : goal.post_trace-requires-clause-ordinal
post_trace-requires-clause-ordinal g c =
    let (call, reply, key, made, how) = change_call g.K.PartialEq.eq g.V.PartialEq.eq g.F.Remap.remapped g.F.Remap.merged
    (FnOnceReturnsAtMut g.G.FnOnce c.args.f) (g.Q.AsKey.stands_for c.args.query) c.client.result c.made.result
    c.args.bin_slot.now.entries c.change_on-answer.new.entries c.change_on-answer.result.0 c.change_on-answer.result.1
    c.change_on-answer.ensures.made in
    made.ordinal_is ∙ c.made.ensures.value

pub post_trace-requires-clause-class : goal.post_trace-requires-clause-class
post_trace-requires-clause-class g c =
    let at = at_role g.K.PartialEq.eq (after g.V.PartialEq.eq g.F.Remap.remapped g.F.Remap.merged)
    (place_of (bins_of c.args.self.now) c.args.class) c.args.bin_slot.now.entries c.args.bin_slot.now.role
    c.take_role-role.result c.take_role-role.ensures.role c.requires.lies in
    let (call, reply, key, made, how) = change_call g.K.PartialEq.eq g.V.PartialEq.eq g.F.Remap.remapped g.F.Remap.merged
    (FnOnceReturnsAtMut g.G.FnOnce c.args.f) (g.Q.AsKey.stands_for c.args.query) c.client.result c.made.result
    c.args.bin_slot.now.entries c.change_on-answer.new.entries c.change_on-answer.result.0 c.change_on-answer.result.1
    c.change_on-answer.ensures.made in
    let class = sym at.agree.class ∙ at.class in
    let salt = sym at.agree.salt ∙ at.salt in
    let of = ap key_of made.call_is ∙ key in
    (λ i. covers (class i) (hash_of (salt i) (g.K.HashKey.code (of i))))
    ∙ ap (covers c.args.class) (sym c.requires.hash)
    ∙ c.requires.covers

pub post_trace-requires-clause-legal : goal.post_trace-requires-clause-legal
post_trace-requires-clause-legal g c =
    let at = at_role g.K.PartialEq.eq (after g.V.PartialEq.eq g.F.Remap.remapped g.F.Remap.merged)
    (place_of (bins_of c.args.self.now) c.args.class) c.args.bin_slot.now.entries c.args.bin_slot.now.role
    c.take_role-role.result c.take_role-role.ensures.role c.requires.lies in
    let (call, reply, key, made, how) = change_call g.K.PartialEq.eq g.V.PartialEq.eq g.F.Remap.remapped g.F.Remap.merged
    (FnOnceReturnsAtMut g.G.FnOnce c.args.f) (g.Q.AsKey.stands_for c.args.query) c.client.result c.made.result
    c.args.bin_slot.now.entries c.change_on-answer.new.entries c.change_on-answer.result.0 c.change_on-answer.result.1
    c.change_on-answer.ensures.made in
    IsLegalStep-made g.K.PartialEq.eq (key_tells g.met.K.Eq.laws g.met.K.HashKey.equal_is_same) g.K.HashKey.code
    g.V.PartialEq.eq g.F.Remap.remapped g.F.Remap.merged (as_bin c.args.bin_slot.now.entries) c.take_role-role.result
    c.change_on-answer.result.1 at.agree c.lawful_entries.ensures refl made

pub returns-clause-modified : goal.returns-clause-modified
returns-clause-modified g c =
    let own : c.self.inside.ledger ≡ c.args.self.now.ledger = ap (λ (m : MapView _ _). m.ledger) c.self.view_is in
    let bin = as_bin c.args.bin_slot.now.entries in
    let at = at_role g.K.PartialEq.eq (after g.V.PartialEq.eq g.F.Remap.remapped g.F.Remap.merged)
    (place_of (bins_of c.args.self.now) c.args.class) c.args.bin_slot.now.entries c.args.bin_slot.now.role
    c.take_role-role.result c.take_role-role.ensures.role c.requires.lies in
    let (call, reply, key, made, how) = change_call g.K.PartialEq.eq g.V.PartialEq.eq g.F.Remap.remapped g.F.Remap.merged
    (FnOnceReturnsAtMut g.G.FnOnce c.args.f) (g.Q.AsKey.stands_for c.args.query) c.client.result c.made.result
    c.args.bin_slot.now.entries c.change_on-answer.new.entries c.change_on-answer.result.0 c.change_on-answer.result.1
    c.change_on-answer.ensures.made in
    let posted = c.post_trace.ensures.posted in
    let called = IsCalledOn-agreed g.K.PartialEq.eq g.K.HashKey.code g.V.PartialEq.eq g.F.Remap.remapped
    g.F.Remap.merged (key_tells g.met.K.Eq.laws g.met.K.HashKey.equal_is_same) c.self.inside.ledger call
    c.args.pass.now c.post_trace.new.pass reply bin (as_bin c.change_on-answer.new.entries)
    c.take_role-role.result c.change_on-answer.result.1 c.client.result c.made.result posted.0 at.agree c.lawful_entries.ensures refl
    c.post_trace.ensures.of_role made c.client.ensures.value c.made.ensures.value posted.1 in
    let on = (λ i. covers (at.class i) (hash_of (own i).salt (g.K.HashKey.code (key i))))
    ∙ ap (covers c.args.class) (sym c.requires.hash)
    ∙ c.requires.covers in
    let is_called = subst
    (λ (l : LedgerView _ _). IsCalled g.K.PartialEq.eq g.V.PartialEq.eq g.F.Remap.remapped g.F.Remap.merged l call
    c.args.pass.now c.post_trace.new.pass reply) own
    (IsCalled-met g.K.PartialEq.eq g.K.HashKey.code g.V.PartialEq.eq g.F.Remap.remapped g.F.Remap.merged
    c.self.inside.ledger call c.args.pass.now c.post_trace.new.pass reply bin
    (as_bin c.change_on-answer.new.entries) called on) in
    (call, reply, is_called, how)

pub returns-clause-lies : goal.returns-clause-lies
returns-clause-lies g c =
    let same = g.K.PartialEq.eq in
    let after_is = after g.V.PartialEq.eq g.F.Remap.remapped g.F.Remap.merged in
    let p = place_of (bins_of c.args.self.now) c.args.class in
    let at = at_role g.K.PartialEq.eq (after g.V.PartialEq.eq g.F.Remap.remapped g.F.Remap.merged)
    (place_of (bins_of c.args.self.now) c.args.class) c.args.bin_slot.now.entries c.args.bin_slot.now.role
    c.take_role-role.result c.take_role-role.ensures.role c.requires.lies in
    let (call, reply, key, made, how) = change_call g.K.PartialEq.eq g.V.PartialEq.eq g.F.Remap.remapped g.F.Remap.merged
    (FnOnceReturnsAtMut g.G.FnOnce c.args.f) (g.Q.AsKey.stands_for c.args.query) c.client.result c.made.result
    c.args.bin_slot.now.entries c.change_on-answer.new.entries c.change_on-answer.result.0 c.change_on-answer.result.1
    c.change_on-answer.ensures.made in
    let left = c.put_role.new.self in
    same_at same after_is p left.entries c.change_on-answer.new.entries left.role
    (c.put_role.ensures.entries ∙ c.take_role-role.ensures.entries)
    (role_at same after_is p c.change_on-answer.new.entries left.role c.post_trace.new.role c.put_role.ensures.role (record {
      class = c.change_on-answer.ensures.class ∙ at.class;
      form = at.form;
      salt = c.change_on-answer.ensures.salt ∙ at.salt;
      ledger = ap (λ (r : RoleView _ _ _). r.ledger) c.post_trace.ensures.role ∙ at.ledger;
      agree = BinAgrees-gone_on same (key_tells g.met.K.Eq.laws g.met.K.HashKey.equal_is_same) g.K.HashKey.code
          after_is (as_bin c.args.bin_slot.now.entries) (as_bin c.change_on-answer.new.entries) c.take_role-role.result
          c.post_trace.new.role (c.change_on-answer.result.1 ∷ []) at.agree c.change_on-answer.ensures.class c.change_on-answer.ensures.salt
          made.history c.post_trace.ensures.role;
    }))
