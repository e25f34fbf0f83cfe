use Rattle.std.proofs.Common.{◌≡◌, ℕ, ◌-◌, length, ap, bit_and, arith}
use Rattle.generations.proofs.Indexes.{place_covers}
use Rattle.generations.proofs.generations.place_in.Goals as goal

pub returns-clause-covers : goal.returns-clause-covers
returns-clause-covers g c =
    let (m, n, table) = c.requires in
    let len : c.len-n.result ≡ length c.args.places.now.items =
    omega (arith, c.len-n.ensures, c.args.places.now.ok.0) in
    place_covers m n c.args.places.now.items table c.args.hash (bit_and c.args.hash (c.len-n.result - 1))
    (ap (λ (x : ℕ). bit_and c.args.hash (x - 1)) len) c.index.result.now c.index.ensures
