use Rattle.std.proofs.Common.{ℕ, [], replicate}
use Rattle.std.proofs.lemmas.List.{length-replicate}
use Rattle.count_ledger.proofs.Openings.{Holds-first, zeros-index}
use Rattle.count_ledger.proofs.dealing.open_table.Goals as goal

pub of_words-requires : goal.of_words-requires
of_words-requires g c =
    Holds-first g.row.F.Denot g.K.HashKey.code c.args.terms.now c.requires.keys g.K.PartialEq.eq _ []
    (replicate 264 0) (zeros-index 264) (length-replicate {A = ℕ} 264 0)
