use Rattle.std.proofs.Common.{◌≡◌, ◌++◌, List, sym, ap, subst, ◌∙◌}
use Rattle.hashkeys.specs.Classes.{is_of}
use Rattle.hashkeys.specs.declared.hashing.Salt.{Salt}
use Rattle.bin_history.specs.Calls.{after}
use Rattle.bin_history.specs.Leans.{as_bin}
use Rattle.bin_history.specs.Part.{part_of_entries}
use Rattle.bin_history.proofs.Keys.{key_tells}
use Rattle.bin_layout.specs.Views.{place_of}
use Rattle.chm.specs.Views.{bins_of}
use Rattle.chm.proofs.InPlace.{class_at, salt_at}
use Rattle.chm.proofs.PartVisits.{IsVisit-met, all_of}
use Rattle.chm.proofs.map.Map.add_in_place.Goals as goal

pub show_entries-more-requires-clause-own : goal.show_entries-more-requires-clause-own
show_entries-more-requires-clause-own g c =
    let x = c.args.bin_slot.now in
    let after_is = after g.V.PartialEq.eq g.F.Remap.remapped g.F.Remap.merged in
    let p = place_of (bins_of c.args.self.now) c.args.own in
    let salt = salt_at g.K.PartialEq.eq after_is p x.entries x.role c.requires.lies in
    let class = class_at g.K.PartialEq.eq after_is p x.entries x.role c.requires.lies in
    all_of g.K.HashKey.code x.entries.entries c.walk-walk.result c.salt.result x.entries.salt c.args.own x.entries.class
    (c.salt.ensures ∙ sym salt) (sym class) c.walk-walk.ensures c.lawful_entries.ensures.of_class

pub returns-clause-shown : goal.returns-clause-shown
returns-clause-shown g c =
    let x = c.args.bin_slot.now in
    let code = g.K.HashKey.code in
    let ledger = c.args.self.now.ledger in
    let after_is = after g.V.PartialEq.eq g.F.Remap.remapped g.F.Remap.merged in
    let p = place_of (bins_of c.args.self.now) c.args.own in
    let own = class_at g.K.PartialEq.eq after_is p x.entries x.role c.requires.lies in
    let visit = IsVisit-met g.K.PartialEq.eq (key_tells g.met.K.Eq.laws g.met.K.HashKey.equal_is_same) code ledger
    c.observe_in_place.new.pass.seen c.args.own c.args.class (as_bin x.entries) own c.lawful_entries.ensures.distinct
    c.observe_in_place.ensures.met c.requires.within in
    let Comes : List (_ × _) → Salt → List (_ × _) → Type 0 = λ before s es. g.T.Taker.reached c.args.taker.now
    (before ++ part_of_entries (is_of code s c.args.class) es) c.show_entries-more.result in (
      part_of_entries (is_of code ledger.salt c.args.class) x.entries.entries,
      visit,
      λ before reached. subst (λ (s : Salt). Comes before s x.entries.entries) c.salt.ensures
          (subst (λ (es : List (_ × _)). Comes before c.salt.result es) c.walk-walk.ensures
          (c.show_entries-more.ensures before reached)),
    )
