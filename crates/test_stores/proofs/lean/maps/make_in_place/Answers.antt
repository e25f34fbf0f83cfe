use Rattle.std.proofs.Common.{◌≡◌, [], ◌∷◌, IsSomeAnd, refl, sym, ap, subst, ◌∙◌}
use Rattle.hashkeys.specs.Classes.{covers}
use Rattle.hashkeys.specs.Hashing.{hash_of}
use Rattle.bin_history.specs.Calls.{after, key_of}
use Rattle.bin_history.specs.Leans.{LeanView, as_bin}
use Rattle.bin_history.specs.Ops.{key_in}
use Rattle.bin_history.proofs.Changes.{key-call_on}
use Rattle.bin_history.proofs.Keys.{key_tells}
use Rattle.count_ledger.specs.Views.{RoleView}
use Rattle.count_ledger.proofs.Agreements.{BinAgrees-gone_on, IsLegalStep-made}
use Rattle.lean_bins.proofs.Halves.{salt_of_lying, class_of_lying, role_of_class, at_taken, lies}
use Rattle.bin_layout.specs.Places.{AreAt}
use Rattle.bin_layout.specs.Views.{place_of}
use Rattle.test_stores.proofs.lean.maps.make_in_place.Goals as goal

-- the entries of a bin, by their parts
entries_are : {K V : Type 0} (a b : LeanView K V) → a.salt ≡ b.salt → a.class ≡ b.class → a.entries ≡ b.entries → a ≡ b
entries_are a b salt class entries = λ i. record { salt = salt i; class = class i; entries = entries i }

pub make_on-requires-clause-hash : goal.make_on-requires-clause-hash
make_on-requires-clause-hash g c =
    let salt = salt_of_lying g.K.PartialEq.eq (after g.V.PartialEq.eq g.F.Remap.remapped g.F.Remap.merged)
    (place_of c.args.map.now c.args.class) c.args.bin_slot.now c.requires.lies in
    c.requires.hash ∙ (λ i. hash_of (sym salt i) (g.K.HashKey.code (key_in c.args.key)))

pub make_on-requires-clause-of_class : goal.make_on-requires-clause-of_class
make_on-requires-clause-of_class g c =
    let after_is = after g.V.PartialEq.eq g.F.Remap.remapped g.F.Remap.merged in
    let p = place_of c.args.map.now c.args.class in
    let salt = salt_of_lying g.K.PartialEq.eq after_is p c.args.bin_slot.now c.requires.lies in
    let class = class_of_lying g.K.PartialEq.eq after_is p c.args.bin_slot.now c.requires.lies in
    (λ i. covers (class i) (hash_of (salt i) (g.K.HashKey.code (key_in c.args.key))))
    ∙ ap (covers c.args.class) (sym c.requires.hash)
    ∙ c.requires.covers

pub take_role-role-requires : goal.take_role-role-requires
take_role-role-requires g c =
    role_of_class g.K.PartialEq.eq (after g.V.PartialEq.eq g.F.Remap.remapped g.F.Remap.merged)
    (place_of c.args.map.now c.args.class) c.args.bin_slot.now c.requires.lies

pub post_trace-requires-clause-role : goal.post_trace-requires-clause-role
post_trace-requires-clause-role g c =
    let at = at_taken g.K.PartialEq.eq (after g.V.PartialEq.eq g.F.Remap.remapped g.F.Remap.merged)
    (place_of c.args.map.now c.args.class) c.args.bin_slot.now c.requires.lies (as_bin c.args.bin_slot.now.entries)
    c.take_role-role.result refl c.take_role-role.ensures.role in
    at.ledger ∙ c.requires.ledger

pub post_trace-requires-clause-class : goal.post_trace-requires-clause-class
post_trace-requires-clause-class g c =
    let at = at_taken g.K.PartialEq.eq (after g.V.PartialEq.eq g.F.Remap.remapped g.F.Remap.merged)
    (place_of c.args.map.now c.args.class) c.args.bin_slot.now c.requires.lies (as_bin c.args.bin_slot.now.entries)
    c.take_role-role.result refl c.take_role-role.ensures.role in
    let class = sym at.agree.class ∙ at.class in
    let salt = sym at.agree.salt ∙ at.salt in
    let key = ap key_of c.in_ok-trace.ensures.made.call_is ∙ key-call_on (key_in c.args.key) c.args.op in
    (λ i. covers (class i) (hash_of (salt i) (g.K.HashKey.code (key i))))
    ∙ ap (covers c.args.class) (sym c.requires.hash)
    ∙ c.requires.covers

pub post_trace-requires-clause-legal : goal.post_trace-requires-clause-legal
post_trace-requires-clause-legal g c =
    let at = at_taken g.K.PartialEq.eq (after g.V.PartialEq.eq g.F.Remap.remapped g.F.Remap.merged)
    (place_of c.args.map.now c.args.class) c.args.bin_slot.now c.requires.lies (as_bin c.args.bin_slot.now.entries)
    c.take_role-role.result refl c.take_role-role.ensures.role in
    IsLegalStep-made g.K.PartialEq.eq (key_tells g.met.K.Eq.laws g.met.K.HashKey.equal_is_same) g.K.HashKey.code
    g.V.PartialEq.eq g.F.Remap.remapped g.F.Remap.merged (as_bin c.args.bin_slot.now.entries) c.take_role-role.result
    c.in_ok-trace.trace at.agree c.lawful_entries.ensures refl c.in_ok-trace.ensures.made

pub returns-clause-lies : goal.returns-clause-lies
returns-clause-lies g c =
    let same = g.K.PartialEq.eq in
    let after_is = after g.V.PartialEq.eq g.F.Remap.remapped g.F.Remap.merged in
    let p = place_of c.args.map.now c.args.class in
    let at = at_taken same after_is p c.args.bin_slot.now c.requires.lies (as_bin c.args.bin_slot.now.entries)
    c.take_role-role.result refl c.take_role-role.ensures.role in
    lies same after_is p (as_bin c.make_on.new.entries) c.post_trace.new.role c.put_role.new.self
    (record {
      class = c.make_on.ensures.class ∙ at.class;
      form = at.form;
      salt = c.make_on.ensures.salt ∙ at.salt;
      ledger = ap (λ (r : RoleView _ _ _). r.ledger) c.post_trace.ensures.role ∙ at.ledger;
      agree = BinAgrees-gone_on same (key_tells g.met.K.Eq.laws g.met.K.HashKey.equal_is_same) g.K.HashKey.code
          after_is (as_bin c.args.bin_slot.now.entries) (as_bin c.make_on.new.entries) c.take_role-role.result
          c.post_trace.new.role (c.in_ok-trace.trace ∷ []) at.agree c.make_on.ensures.class c.make_on.ensures.salt
          c.in_ok-trace.ensures.made.history c.post_trace.ensures.role;
    })
    c.put_role.ensures.role
    (ap (λ (e : LeanView _ _). as_bin e) (c.put_role.ensures.entries ∙ c.take_role-role.ensures.entries))

pub returns-in_err-trace-clause-lies : goal.returns-in_err-trace-clause-lies
returns-in_err-trace-clause-lies g c =
    let after_is = after g.V.PartialEq.eq g.F.Remap.remapped g.F.Remap.merged in
    let p = place_of c.args.map.now c.args.class in
    subst
    (λ (e : LeanView _ _). IsSomeAnd c.args.bin_slot.now.role (λ r. AreAt g.K.PartialEq.eq after_is p (as_bin e) r))
    (sym (entries_are c.make_on.new.entries c.args.bin_slot.now.entries c.make_on.ensures.salt c.make_on.ensures.class
    c.in_err-trace.ensures.refused))
    c.requires.lies
