use Rattle.std.proofs.Common.{ℕ, List, refl, ap, ◌∙◌, arith, rules}
use Rattle.std.proofs.lemmas.List.Elements.{All-push}
use Rattle.transfer.specs.declared.book.Book.{Book}
use Rattle.transfer.specs.Books.{new_book, rest_of, without_next}
use Rattle.transfer.specs.Views.{StridesView, IsSpare}
use Rattle.transfer.proofs.Moves.{holds-first, holds-deals, next-spare, spare_book-spare}
use Rattle.transfer.proofs.strides.Strides.new.Goals as goal

pub of_words-requires : goal.of_words-requires
of_words-requires g c = (refl, holds-first c.args.bins c.requires.0)

pub split_seat-requires : goal.split_seat-requires
split_seat-requires g c =
    let l = c.loop-number in (
      l.invariant.table,
      (let two = c.in_ok-table.ensures.0 in omega arith),
      holds-deals _ _ _ _ _ (ap (λ (b : Book). b.spare) l.invariant.book
          ∙ next-spare l._number c.loop-number-test.true),
    )

pub loop-number-preserved : goal.loop-number-preserved
loop-number-preserved g c =
    let l = c.loop-number in
    let cut = c.split_seat.ensures in
    let move : StridesView = record { identity = c.in_ok-table.table.shared.table_id; bins = c.args.bins } in
    record {
      table = search rules;
      book =
          ap (λ m. m.0) cut.2 ∙ (ap without_next l.invariant.book
          ∙ ap (λ (ks : List ℕ). new_book c.args.bins 0 (rest_of ks)) (next-spare l._number c.loop-number-test.true));
      dealt = search rules;
      room = search rules;
      spare =
          rw c.push_reserved.ensures.items
          (All-push (λ p. IsSpare move p.value) l.spare.items c.new.result l.invariant.spare
          (rw (c.new.ensures, c.of-tag.ensures)
          (spare_book-spare move.identity _ move.bins l._number _ l.seat.me.0 _ (cut.3 ∙ l.invariant.table)
          (ap (λ (b : Book). b.bins) l.invariant.book)
          (ap (λ (b : Book). b.spare) l.invariant.book ∙ next-spare l._number c.loop-number-test.true)
          (let d = l.invariant.dealt in omega arith) c.loop-number-test.true (ap (λ m. m.0) cut.4))));
    }
