use Rattle.std.proofs.Common.{List, subst}
use Rattle.std.specs.List.{FoldsTo}
use Rattle.hashkeys.specs.Classes.{is_of}
use Rattle.hashkeys.specs.declared.hashing.Salt.{Salt}
use Rattle.bin_history.specs.Part.{part_of_entries}
use Rattle.chm.specs.Cursors.{IsUsedAt}
use Rattle.chm.proofs.PartVisits.{all_of}
use Rattle.chm.proofs.walks.of_class.use_at_bin.Goals as goal

pub use_at_class-requires-clause-own : goal.use_at_class-requires-clause-own
use_at_class-requires-clause-own g c =
    let bin = c.args.bin.now in
    all_of g.K.HashKey.code bin.entries c.walk.result c.salt.result bin.salt c.class.result bin.class c.salt.ensures
    c.class.ensures c.walk.ensures c.lawful.ensures.lawful.of_class

pub returns-clause-used : goal.returns-clause-used
returns-clause-used g c =
    let Used : Salt → List (_ × _) → Type 0 = λ s es. FoldsTo (IsUsedAt (goal.G-step g)) c.args.f.now
    (part_of_entries (is_of g.K.HashKey.code s c.args.class) es) c.use_at_class.new.f in
    subst (λ (s : Salt). Used s c.args.bin.now.entries) c.salt.ensures
    (subst (λ (es : List (_ × _)). Used c.salt.result es) c.walk.ensures c.use_at_class.ensures.used)
