use Rattle.std.proofs.Common.{◌++◌, List, subst}
use Rattle.hashkeys.specs.Classes.{is_of}
use Rattle.hashkeys.specs.declared.hashing.Salt.{Salt}
use Rattle.bin_history.specs.Part.{part_of_entries}
use Rattle.chm.proofs.PartVisits.{all_of}
use Rattle.chm.proofs.walks.of_class.add_of_bin.Goals as goal

pub show_entries-requires-clause-own : goal.show_entries-requires-clause-own
show_entries-requires-clause-own g c =
    let bin = c.args.bin.now in
    all_of g.K.HashKey.code bin.entries c.walk.result c.salt.result bin.salt c.class.result bin.class c.salt.ensures
    c.class.ensures c.walk.ensures c.lawful.ensures.lawful.of_class

pub returns : goal.returns
returns g c = λ es reached.
    let Comes : Salt → List (_ × _) → Type 0 = λ s fs. g.T.Taker.reached c.args.taker.now
    (es ++ part_of_entries (is_of g.K.HashKey.code s c.args.class) fs) c.show_entries.result in
    subst (λ (s : Salt). Comes s c.args.bin.now.entries) c.salt.ensures
    (subst (λ (fs : List (_ × _)). Comes c.salt.result fs) c.walk.ensures (c.show_entries.ensures es reached))
