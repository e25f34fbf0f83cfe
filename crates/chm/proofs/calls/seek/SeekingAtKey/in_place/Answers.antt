use Rattle.std.proofs.Common.{◌≡◌, [], ◌∷◌, refl, sym, ap, subst, ◌∙◌}
use Rattle.std.proofs.lemmas.Bool.{false≢true}
use Rattle.hashkeys.specs.Classes.{covers}
use Rattle.hashkeys.specs.Hashing.{hash_of}
use Rattle.bin_history.specs.Calls.{after, key_of}
use Rattle.bin_history.specs.Leans.{as_bin}
use Rattle.bin_history.specs.Ops.{call_on}
use Rattle.bin_history.specs.Seeks.{op_for}
use Rattle.bin_history.specs.Sure.{IsNeverRefused}
use Rattle.bin_history.specs.declared.form.Form.TheVariants.{Lean}
use Rattle.bin_history.specs.declared.seek.Seek.TheVariants.{Get}
use Rattle.bin_history.proofs.Changes.{key-call_on}
use Rattle.bin_history.proofs.Keys.{key_tells}
use Rattle.count_ledger.specs.Views.{LedgerView, RoleView}
use Rattle.count_ledger.proofs.Agreements.{BinAgrees-gone_on, IsLegalStep-made}
use Rattle.bin_layout.specs.Views.{place_of}
use Rattle.chm.specs.Headline.{IsCalled}
use Rattle.chm.specs.Views.{MapView, bins_of}
use Rattle.chm.specs.declared.fault.Fault.{Fault}
use Rattle.chm.specs.declared.fault.Fault.TheVariants.{NoMemory}
use Rattle.chm.proofs.InPlace.{at_role, role_at, same_at, class_at, salt_at, role_class}
use Rattle.chm.proofs.Meeting.{IsCalledOn-agreed, IsCalled-met}
use Rattle.chm.proofs.Sure.{IfErr-of}
use Rattle.chm.proofs.calls.seek.SeekingAtKey.in_place.Goals as goal

pub make_on-requires-clause-hash : goal.make_on-requires-clause-hash
make_on-requires-clause-hash g c =
    let salt = salt_at g.K.PartialEq.eq (after g.V.PartialEq.eq g.F.Remap.remapped g.F.Remap.merged)
    (place_of (bins_of c.args.map.now) c.args.class) c.args.bin_slot.now.entries c.args.bin_slot.now.role
    c.requires.lies in
    c.requires.hash ∙ (λ i. hash_of (sym salt i) (g.K.HashKey.code (g.Q.AsKey.stands_for c.args.self.query)))

pub make_on-requires-clause-of_class : goal.make_on-requires-clause-of_class
make_on-requires-clause-of_class g c =
    let after_is = after g.V.PartialEq.eq g.F.Remap.remapped g.F.Remap.merged in
    let p = place_of (bins_of c.args.map.now) c.args.class in
    let x = c.args.bin_slot.now in
    let salt = salt_at g.K.PartialEq.eq after_is p x.entries x.role c.requires.lies in
    let class = class_at g.K.PartialEq.eq after_is p x.entries x.role c.requires.lies in
    (λ i. covers (class i) (hash_of (salt i) (g.K.HashKey.code (g.Q.AsKey.stands_for c.args.self.query))))
    ∙ ap (covers c.args.class) (sym c.requires.hash)
    ∙ c.requires.covers

pub take_role-role-requires : goal.take_role-role-requires
take_role-role-requires g c =
    role_class g.K.PartialEq.eq (after g.V.PartialEq.eq g.F.Remap.remapped g.F.Remap.merged)
    (place_of (bins_of c.args.map.now) c.args.class) c.args.bin_slot.now.entries c.args.bin_slot.now.role
    c.requires.lies

pub post_trace-requires-clause-role : goal.post_trace-requires-clause-role
post_trace-requires-clause-role g c =
    let at = at_role g.K.PartialEq.eq (after g.V.PartialEq.eq g.F.Remap.remapped g.F.Remap.merged)
    (place_of (bins_of c.args.map.now) c.args.class) c.args.bin_slot.now.entries c.args.bin_slot.now.role
    c.take_role-role.result c.take_role-role.ensures.role c.requires.lies in
    at.ledger ∙ sym (ap (λ (m : MapView _ _). m.ledger.id) c.map.view_is)

pub post_trace-requires-clause-class : goal.post_trace-requires-clause-class
post_trace-requires-clause-class g c =
    let at = at_role g.K.PartialEq.eq (after g.V.PartialEq.eq g.F.Remap.remapped g.F.Remap.merged)
    (place_of (bins_of c.args.map.now) c.args.class) c.args.bin_slot.now.entries c.args.bin_slot.now.role
    c.take_role-role.result c.take_role-role.ensures.role c.requires.lies in
    let class = sym at.agree.class ∙ at.class in
    let salt = sym at.agree.salt ∙ at.salt in
    let key = ap key_of c.in_ok-reply.ensures.made.call_is ∙ key-call_on (g.Q.AsKey.stands_for c.args.self.query) (op_for c.args.self.seek) in
    (λ i. covers (class i) (hash_of (salt i) (g.K.HashKey.code (key i))))
    ∙ ap (covers c.args.class) (sym c.requires.hash)
    ∙ c.requires.covers

pub post_trace-requires-clause-legal : goal.post_trace-requires-clause-legal
post_trace-requires-clause-legal g c =
    let at = at_role g.K.PartialEq.eq (after g.V.PartialEq.eq g.F.Remap.remapped g.F.Remap.merged)
    (place_of (bins_of c.args.map.now) c.args.class) c.args.bin_slot.now.entries c.args.bin_slot.now.role
    c.take_role-role.result c.take_role-role.ensures.role c.requires.lies in
    IsLegalStep-made g.K.PartialEq.eq (key_tells g.met.K.Eq.laws g.met.K.HashKey.equal_is_same) g.K.HashKey.code
    g.V.PartialEq.eq g.F.Remap.remapped g.F.Remap.merged (as_bin c.args.bin_slot.now.entries) c.take_role-role.result
    c.in_ok-reply.trace at.agree c.lawful_entries.ensures refl c.in_ok-reply.ensures.made

pub returns-clause-done : goal.returns-clause-done
returns-clause-done g c =
    let own : c.map.inside.ledger ≡ c.args.map.now.ledger = ap (λ (m : MapView _ _). m.ledger) c.map.view_is in
    let ledger = c.args.map.now.ledger in
    let op = op_for {V = g.row.V.Denot} {F = g.row.F.Denot} c.args.self.seek in
    let call = call_on (g.Q.AsKey.stands_for c.args.self.query) op in
    let bin = as_bin c.args.bin_slot.now.entries in
    let after_is = after g.V.PartialEq.eq g.F.Remap.remapped g.F.Remap.merged in
    let p = place_of (bins_of c.args.map.now) c.args.class in
    let at = at_role g.K.PartialEq.eq after_is p c.args.bin_slot.now.entries c.args.bin_slot.now.role
    c.take_role-role.result c.take_role-role.ensures.role c.requires.lies in
    let posted = c.post_trace.ensures.posted in
    let called = IsCalledOn-agreed g.K.PartialEq.eq g.K.HashKey.code g.V.PartialEq.eq g.F.Remap.remapped
    g.F.Remap.merged (key_tells g.met.K.Eq.laws g.met.K.HashKey.equal_is_same) c.map.inside.ledger call
    c.args.pass.now c.post_trace.new.pass c.in_ok-reply.reply bin (as_bin c.make_on.new.entries)
    c.take_role-role.result c.in_ok-reply.trace c.client.result c.made.result posted.0 at.agree c.lawful_entries.ensures refl
    c.post_trace.ensures.of_role c.in_ok-reply.ensures.made c.client.ensures.value c.made.ensures.value posted.1 in
    let on = (λ i. covers (at.class i)
    (hash_of (own i).salt (g.K.HashKey.code (key-call_on (g.Q.AsKey.stands_for c.args.self.query) op i))))
    ∙ ap (covers c.args.class) (sym c.requires.hash)
    ∙ c.requires.covers in
    subst
    (λ (l : LedgerView _ _). IsCalled g.K.PartialEq.eq g.V.PartialEq.eq g.F.Remap.remapped g.F.Remap.merged l call
    c.args.pass.now c.post_trace.new.pass c.in_ok-reply.reply) own
    (IsCalled-met g.K.PartialEq.eq g.K.HashKey.code g.V.PartialEq.eq g.F.Remap.remapped g.F.Remap.merged
    c.map.inside.ledger call c.args.pass.now c.post_trace.new.pass c.in_ok-reply.reply bin
    (as_bin c.make_on.new.entries) called on)

pub returns-clause-lies : goal.returns-clause-lies
returns-clause-lies g c =
    let same = g.K.PartialEq.eq in
    let after_is = after g.V.PartialEq.eq g.F.Remap.remapped g.F.Remap.merged in
    let p = place_of (bins_of c.args.map.now) c.args.class in
    let at = at_role same after_is p c.args.bin_slot.now.entries c.args.bin_slot.now.role
    c.take_role-role.result c.take_role-role.ensures.role c.requires.lies in
    let left = c.put_role.new.self in
    same_at same after_is p left.entries c.make_on.new.entries left.role
    (c.put_role.ensures.entries ∙ c.take_role-role.ensures.entries)
    (role_at same after_is p c.make_on.new.entries left.role c.post_trace.new.role c.put_role.ensures.role (record {
      class = c.make_on.ensures.class ∙ at.class;
      form = at.form;
      salt = c.make_on.ensures.salt ∙ at.salt;
      ledger = ap (λ (r : RoleView _ _ _). r.ledger) c.post_trace.ensures.role ∙ at.ledger;
      agree = BinAgrees-gone_on same (key_tells g.met.K.Eq.laws g.met.K.HashKey.equal_is_same) g.K.HashKey.code
          after_is (as_bin c.args.bin_slot.now.entries) (as_bin c.make_on.new.entries) c.take_role-role.result
          c.post_trace.new.role (c.in_ok-reply.trace ∷ []) at.agree c.make_on.ensures.class c.make_on.ensures.salt
          c.in_ok-reply.ensures.made.history c.post_trace.ensures.role;
    }))

pub returns-in_err-reply-clause-lies : goal.returns-in_err-reply-clause-lies
returns-in_err-reply-clause-lies g c =
    same_at g.K.PartialEq.eq (after g.V.PartialEq.eq g.F.Remap.remapped g.F.Remap.merged)
    (place_of (bins_of c.args.map.now) c.args.class) c.make_on.new.entries c.args.bin_slot.now.entries
    c.args.bin_slot.now.role c.in_err-reply.ensures.refused c.requires.lies

pub returns-in_err-reply-clause-fails : goal.returns-in_err-reply-clause-fails
returns-in_err-reply-clause-fails g c =
    let P : Fault → Type 0 = λ fault. (fault ≡ NoMemory)
    × (c.args.map.now.ledger.form ≡ Lean → (c.args.self.seek ≡ Get → IsNeverRefused g.V.Clone.is_infallible) → ⊥) in
    IfErr-of P c.from_residual.result NoMemory c.from_residual.ensures.1
    (refl, λ lean never. false≢true (c.in_err-reply.ensures.spared never))
