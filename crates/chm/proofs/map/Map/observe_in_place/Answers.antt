use Rattle.std.proofs.Common.{◌≡◌, refl, sym, ap, subst, ◌∙◌}
use Rattle.bin_history.specs.Calls.{after}
use Rattle.bin_history.specs.Leans.{as_bin}
use Rattle.bin_history.proofs.Keys.{key_tells}
use Rattle.count_ledger.specs.Fronts.{HasSeen}
use Rattle.count_ledger.specs.Views.{LedgerView, RoleView}
use Rattle.bin_layout.specs.Places.{AreAt}
use Rattle.bin_layout.specs.Views.{place_of}
use Rattle.chm.specs.Histories.{IsMet}
use Rattle.chm.specs.Views.{MapView, bins_of}
use Rattle.chm.proofs.InPlace.{at_role, role_at, same_at, role_class}
use Rattle.chm.proofs.Meeting.{IsMet-front}
use Rattle.chm.proofs.map.Map.observe_in_place.Goals as goal

pub take_role-role-requires : goal.take_role-role-requires
take_role-role-requires g c =
    role_class g.K.PartialEq.eq (after g.V.PartialEq.eq g.F.Remap.remapped g.F.Remap.merged)
    (place_of (bins_of c.args.self.now) c.args.class) c.args.bin_slot.now.entries c.args.bin_slot.now.role
    c.requires.lies

pub meet-requires-clause-role : goal.meet-requires-clause-role
meet-requires-clause-role g c =
    let at = at_role g.K.PartialEq.eq (after g.V.PartialEq.eq g.F.Remap.remapped g.F.Remap.merged)
    (place_of (bins_of c.args.self.now) c.args.class) c.args.bin_slot.now.entries c.args.bin_slot.now.role
    c.take_role-role.result c.take_role-role.ensures.role c.requires.lies in
    at.ledger ∙ sym (ap (λ (m : MapView _ _). m.ledger.id) c.self.view_is)

pub returns-clause-seen : goal.returns-clause-seen
returns-clause-seen g c =
    let own : c.self.inside.ledger ≡ c.args.self.now.ledger = ap (λ (m : MapView _ _). m.ledger) c.self.view_is in
    let L : LedgerView _ _ → Type 0 = λ l. HasSeen g.K.PartialEq.eq
    (after g.V.PartialEq.eq g.F.Remap.remapped g.F.Remap.merged) l c.args.pass.now c.meet.new.pass in
    subst L own c.meet.ensures.seen

pub returns-clause-met : goal.returns-clause-met
returns-clause-met g c =
    let after_is = after g.V.PartialEq.eq g.F.Remap.remapped g.F.Remap.merged in
    let bin = as_bin c.args.bin_slot.now.entries in
    let at = at_role g.K.PartialEq.eq after_is
    (place_of (bins_of c.args.self.now) c.args.class) c.args.bin_slot.now.entries c.args.bin_slot.now.role
    c.take_role-role.result c.take_role-role.ensures.role c.requires.lies in
    let own : c.self.inside.ledger ≡ c.args.self.now.ledger = ap (λ (m : MapView _ _). m.ledger) c.self.view_is in
    let L : LedgerView _ _ → Type 0 = λ l. IsMet g.K.PartialEq.eq g.K.HashKey.code l c.meet.new.pass.seen bin in
    subst L own
    (IsMet-front g.K.PartialEq.eq (key_tells g.met.K.Eq.laws g.met.K.HashKey.equal_is_same) g.K.HashKey.code after_is
    bin c.take_role-role.result at.agree c.lawful_entries.ensures refl c.self.inside.ledger c.meet.ensures.of_role
    c.meet.new.pass.seen c.meet.ensures.kept)

pub returns-clause-lies : goal.returns-clause-lies
returns-clause-lies g c =
    let same = g.K.PartialEq.eq in
    let after_is = after g.V.PartialEq.eq g.F.Remap.remapped g.F.Remap.merged in
    let p = place_of (bins_of c.args.self.now) c.args.class in
    let at = at_role same after_is p c.args.bin_slot.now.entries c.args.bin_slot.now.role
    c.take_role-role.result c.take_role-role.ensures.role c.requires.lies in
    let left = c.put_role.new.self in
    same_at same after_is p left.entries c.args.bin_slot.now.entries left.role
    (c.put_role.ensures.entries ∙ c.take_role-role.ensures.entries)
    (role_at same after_is p c.args.bin_slot.now.entries left.role c.meet.new.role c.put_role.ensures.role
    (subst (λ (r : RoleView _ _ _). AreAt same after_is p (as_bin c.args.bin_slot.now.entries) r)
    (sym c.meet.ensures.same_role) at))
