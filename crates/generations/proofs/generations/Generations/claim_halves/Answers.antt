use Rattle.std.proofs.Common.{rules, ◌≡◌, ◌*◌}
use Rattle.hashkeys.specs.Classes.{IsTableSize}
use Rattle.generations.proofs.Forms.{double_few}
use Rattle.generations.proofs.generations.Generations.claim_halves.Goals as goal

pub table_made-requires-clause-few : goal.table_made-requires-clause-few
table_made-requires-clause-few g c = λ recorded.
    let twice : c.n.result ≡ 2 * c.args.class.n = search rules in
    let size : IsTableSize c.n.result = search rules in
    double_few c.args.class.n c.n.result size twice (c.requires.few recorded)
