-- From the mask of a load to the bytes under it.
use Rattle.std.proofs.Common.{◌≡◌, ◌≢◌, ℕ, ◌+◌, ◌<◌, ◌≤◌, eqb, Bool, true, false, not, List, map, length, slice_index}
use Rattle.std.proofs.Common.{sym, ap, ◌∙◌, arith}
use Rattle.std.specs.List.{prefix_len}
use Rattle.std.proofs.lemmas.Bool.Decides.{nat_tests}
use Rattle.std.proofs.lemmas.Simd.{length-chunk, none_from_empty_mask, trailing_mask_l, run_in_chunk_le}
use Rattle.std.proofs.lemmas.Simd.{run_in_chunk_fails, run_in_chunk_stops}
use lib.Count.{count_trailing_zeros}
use lib.Lanes.{chunk, mask_l}

is_other : (x byte : ℕ) → eqb x byte ≡ false → x ≢ byte
is_other x byte h e = grind (arith, nat_tests)

is_same : (x byte : ℕ) → eqb x byte ≡ true → x ≡ byte
is_same x byte h = grind (arith, nat_tests)

module _ (d : List ℕ) (i byte m : ℕ) (room : i + 32 ≤ length d)
    (is : m ≡ mask_l (map (λ x. eqb x byte) (chunk i 32 d))) where
  abbrev tested : ℕ → Bool
  tested x = eqb x byte

  pub none_before : m ≡ 0 → (k : ℕ) → i ≤ k → k < i + 32 → slice_index d k ≢ byte
  none_before none k from to = is_other _ byte (none_from_empty_mask tested d i 32 0 room (sym is ∙ none) k from to)

  module _ (some : m ≢ 0) where
    counted : count_trailing_zeros 64 m ≡ prefix_len (λ x. not (tested x)) (chunk i 32 d)
    counted = ap (count_trailing_zeros 64) is ∙ trailing_mask_l tested 64 (chunk i 32 d)
        (omega (arith, length-chunk i 32 d room)) (omega (arith, is, some))

    pub first_within : count_trailing_zeros 64 m ≤ 32
    first_within = run_in_chunk_le tested d i 32 _ 0 room counted

    pub first_before : (k : ℕ) → i ≤ k → k < i + count_trailing_zeros 64 m → slice_index d k ≢ byte
    first_before k from to = is_other _ byte (run_in_chunk_fails tested d i 32 _ 0 room counted k from to)

    pub first_place : count_trailing_zeros 64 m < 32 → slice_index d (i + count_trailing_zeros 64 m) ≡ byte
    first_place short = is_same _ byte (run_in_chunk_stops tested d i 32 _ 0 room counted short)
