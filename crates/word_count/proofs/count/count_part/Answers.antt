use Rattle.std.proofs.Common.{◌≡◌, ℕ, ◌+◌, ◌++◌, List, [], ◌∷◌, length, take, slice_index_or, ap, sym, ◌∙◌, subst}
use Rattle.std.proofs.Common.{◌<◌, arith}
use Rattle.std.proofs.Math.Nat.{lt_of_not-le}
use Rattle.bin_history.specs.Limits.{most_calls}
use Rattle.chm.specs.Views.{MapView}
use Rattle.word_count.specs.Counted.{WordPass, HasCounted}
use Rattle.word_count.proofs.Worked.{HasCounted-push}
use Rattle.word_count.proofs.count.count_part.Goals as goal

pub loop-word-preserved : goal.loop-word-preserved
loop-word-preserved g c =
    let before : WordPass = c.loop-word.client.pass in
    let after : WordPass = c.merge.new.self.pass in
    let answered = c.in_ok-merge.ensures.answered in
    let (front, r, its, called, found) = answered.called in
    let made : after.made ≡ before.made ++ r ∷ [] = ap (λ (p : WordPass). p.made) called.pass in (
      ap (λ (p : WordPass). p.client) called.pass ∙ c.loop-word.invariant.0,
      c.in_ok-merge.ensures.map ∙ c.loop-word.invariant.1,
      λ fresh.
          let i : ℕ = c.loop-word.word-index in
          let w : List ℕ = c.word.inside.0.now in
          let e : w ≡ c.word-item.result = c.word.view_is in
          let is : slice_index_or c.args.part.now i w ≡ w =
          ap (λ (d : List ℕ). slice_index_or c.args.part.now i d) e ∙ sym c.word-item.is ∙ sym e in
          let most : MapView (List ℕ) ℕ → ℕ = λ m. most_calls m.ledger.form m.ledger.clients in
          let room : ℕ = most c.args.client.now.map in
          let same : most c.loop-word.client.map ≡ room = ap most c.loop-word.invariant.1 in
          let less = lt_of_not-le (λ all. absurd (let no = answered.full.1 all in cc)) in
          subst (HasCounted room (take (i + 1) c.args.part.now)) (sym made)
          (HasCounted-push room c.args.part.now i before.made r w _ (c.loop-word.invariant.2 fresh)
          (omega (arith, c.loop-word-test.true)) is called.call_is
          (subst (λ (n : ℕ). length before.made < n) same less)),
    )
