-- The number of keys as a word.
use Rattle.std.proofs.Common.{◌≡◌, ℕ, ◌+◌, ◌%◌, ◌^◌, ◌≤◌, ℤ, pos, ◌+ℤ◌, ◌≤ℤ◌, neg_ℤ, ap, ◌∙◌, sym, arith}
use Rattle.std.specs.Int.{w64, cast_signed}
use Rattle.std.specs.Prelude.{FitsSigned}
use Rattle.std.proofs.lemmas.Int.{ints}
use Rattle.count_ledger.specs.Words.{word_of}
use Rattle.count_ledger.proofs.WordSums.{word_of-add, word_of_natural, cast_signed-word_of}

-- the word of a count at the opening and of a sum of deltas is that of their sum
pub count_word : (opened word : ℕ) (total : ℤ) → opened ≤ 4294967295 → word ≡ word_of total →
    neg_ℤ (pos 4611686018427387904) ≤ℤ total
    → total ≤ℤ pos 4611686018427387904
    → cast_signed w64 ((opened + word) % 2 ^ 64) ≡ pos opened +ℤ total
count_word opened word total few is low high =
    let at : (opened + word) % 2 ^ 64 ≡ word_of (pos opened +ℤ total) =
    (λ i. (sym (word_of_natural opened (omega arith)) i + is i) % 2 ^ 64) ∙ sym (word_of-add (pos opened) total)
    in
    let fits : FitsSigned w64 (pos opened +ℤ total) = omega (arith, ints, low, high, few) in
    ap (cast_signed w64) at ∙ cast_signed-word_of (pos opened +ℤ total) fits
