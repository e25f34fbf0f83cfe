use Rattle.std.proofs.Common.{◌≡◌, ◌+◌, ◌%◌, ◌^◌, ◌∙◌, ℕ, sym}
use Rattle.bin_history.specs.Deltas.{delta}
use Rattle.count_ledger.specs.Steps.{books_with_record}
use Rattle.count_ledger.specs.Words.{word_of}
use Rattle.count_ledger.proofs.Keeping.{Allows-told}
use Rattle.count_ledger.proofs.WordSums.{word_of-delta}
use Rattle.count_ledger.proofs.seats.add_delta.Goals as goal

pub fetch_add-requires : goal.fetch_add-requires
fetch_add-requires g c =
    let amount : c.cast_unsigned-delta.result ≡ word_of (delta c.args.entry.now) =
    rw c.delta.ensures at c.cast_unsigned-delta.ensures
    ∙ word_of-delta c.args.entry.now in (
      c.requires.seat,
      c.requires.word,
      rw (amount, c.requires.terms, c.requires.change)
          (Allows-told g.K.HashKey.code g.K.PartialEq.eq _ c.args.shared.now.key _ (books_with_record c.args.entry.now) _ c.args.word
          c.args.seat.now.me
          (λ n. (n + word_of (delta c.args.entry.now)) % 2 ^ 64) c.requires.rule),
    )

pub look-requires-clause-rule : goal.look-requires-clause-rule
look-requires-clause-rule g c =
    let amount : c.cast_unsigned-delta.result ≡ word_of (delta c.args.entry.now) =
    rw c.delta.ensures at c.cast_unsigned-delta.ensures
    ∙ word_of-delta c.args.entry.now in
    rw c.requires.change (c.requires.idle (sym amount ∙ c.if-delta-eq0.true))
