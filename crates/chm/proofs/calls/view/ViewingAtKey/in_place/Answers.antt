use Rattle.std.proofs.Common.{◌≡◌, sym, ap, ◌∙◌}
use Rattle.hashkeys.specs.Classes.{covers}
use Rattle.hashkeys.specs.Hashing.{hash_of}
use Rattle.bin_history.specs.Calls.{after}
use Rattle.bin_layout.specs.Views.{place_of}
use Rattle.chm.specs.Views.{bins_of}
use Rattle.chm.proofs.InPlace.{class_at, salt_at}
use Rattle.chm.proofs.calls.view.ViewingAtKey.in_place.Goals as goal

pub get_as-requires : goal.get_as-requires
get_as-requires g c =
    let salt = salt_at g.K.PartialEq.eq (after g.V.PartialEq.eq g.F.Remap.remapped g.F.Remap.merged)
    (place_of (bins_of c.args.map.now) c.args.class) c.args.bin_slot.now.entries c.args.bin_slot.now.role
    c.requires.lies in
    record { hash = c.requires.hash ∙ (λ i. hash_of (sym salt i) (g.K.HashKey.code (g.Q.AsKey.stands_for c.args.self.query))) }

pub returns-clause-done : goal.returns-clause-done
returns-clause-done g c =
    let key = g.Q.AsKey.stands_for c.args.self.query in
    let class = class_at g.K.PartialEq.eq (after g.V.PartialEq.eq g.F.Remap.remapped g.F.Remap.merged)
    (place_of (bins_of c.args.map.now) c.args.class) c.args.bin_slot.now.entries c.args.bin_slot.now.role
    c.requires.lies in
    let on = (λ i. covers (class i) (hash_of c.args.map.now.ledger.salt (g.K.HashKey.code key)))
    ∙ ap (covers c.args.class) (sym c.requires.hash)
    ∙ c.requires.covers in
    (c.observe_in_place.ensures.seen, (c.get_as.result, c.get_as.ensures ∙ c.observe_in_place.ensures.met.same_map key on, c.f-answer.ensures))
