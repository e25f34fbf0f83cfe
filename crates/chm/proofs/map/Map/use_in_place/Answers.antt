use Rattle.std.proofs.Common.{◌≡◌, List, sym, ap, subst, ◌∙◌}
use Rattle.std.specs.List.{FoldsTo}
use Rattle.hashkeys.specs.Classes.{is_of}
use Rattle.hashkeys.specs.declared.hashing.Salt.{Salt}
use Rattle.bin_history.specs.Calls.{after}
use Rattle.bin_history.specs.Leans.{as_bin}
use Rattle.bin_history.specs.Part.{part_of_entries}
use Rattle.bin_history.proofs.Keys.{key_tells}
use Rattle.bin_layout.specs.Views.{place_of}
use Rattle.chm.specs.Views.{bins_of}
use Rattle.chm.specs.Cursors.{IsUsedAt}
use Rattle.chm.proofs.InPlace.{class_at, salt_at}
use Rattle.chm.proofs.PartVisits.{IsVisit-met, all_of}
use Rattle.chm.proofs.map.Map.use_in_place.Goals as goal

pub use_at_class-requires-clause-own : goal.use_at_class-requires-clause-own
use_at_class-requires-clause-own g c =
    let x = c.args.bin_slot.now in
    let after_is = after g.V.PartialEq.eq g.F.Remap.remapped g.F.Remap.merged in
    let p = place_of (bins_of c.args.self.now) c.args.own in
    let salt = salt_at g.K.PartialEq.eq after_is p x.entries x.role c.requires.lies in
    let class = class_at g.K.PartialEq.eq after_is p x.entries x.role c.requires.lies in
    all_of g.K.HashKey.code x.entries.entries c.walk.result c.salt.result x.entries.salt c.args.own x.entries.class
    (c.salt.ensures ∙ sym salt) (sym class) c.walk.ensures c.lawful_entries.ensures.of_class

pub returns-clause-shown : goal.returns-clause-shown
returns-clause-shown g c =
    let x = c.args.bin_slot.now in
    let code = g.K.HashKey.code in
    let ledger = c.args.self.now.ledger in
    let after_is = after g.V.PartialEq.eq g.F.Remap.remapped g.F.Remap.merged in
    let p = place_of (bins_of c.args.self.now) c.args.own in
    let own = class_at g.K.PartialEq.eq after_is p x.entries x.role c.requires.lies in
    let visit = IsVisit-met g.K.PartialEq.eq (key_tells g.met.K.Eq.laws g.met.K.HashKey.equal_is_same) code ledger
    c.observe_in_place.new.pass.seen c.args.own c.args.class (as_bin x.entries) own c.lawful_entries.ensures.distinct
    c.observe_in_place.ensures.met c.requires.within in
    let Used : Salt → List (_ × _) → Type 0 = λ s es. FoldsTo (IsUsedAt (goal.G-step g)) c.args.f.now
    (part_of_entries (is_of code s c.args.class) es) c.use_at_class.new.f in (
      part_of_entries (is_of code ledger.salt c.args.class) x.entries.entries,
      visit,
      subst (λ (s : Salt). Used s x.entries.entries) c.salt.ensures
          (subst (λ (es : List (_ × _)). Used c.salt.result es) c.walk.ensures c.use_at_class.ensures.used),
    )
