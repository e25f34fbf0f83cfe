-- Rows of pass slots.
use Rattle.std.proofs.Common.{◌≡◌, ℕ, zero, suc, ◌+◌, ◌*◌, ◌-◌, ◌%◌, ◌^◌, ◌<◌, ◌≤◌, ◌⊎◌, inl, inr, ap, sym, subst}
use Rattle.std.proofs.Common.{◌∙◌, arith, List, [], ◌∷◌, ◌++◌, length, slice_index_or}
use Rattle.std.proofs.Math.Seq.{get_or-append_seam}
use Rattle.std.proofs.lemmas.List.{get_or_append_left}
use Rattle.std.proofs.lemmas.Nat.{pow_pos, shl_whole}
use Rattle.clients.specs.PassPools.{IsRow, RowView}

pub below-or-not : (i n : ℕ) → (i < n) ⊎ (n ≤ i)
below-or-not i zero = inr (omega arith)
below-or-not zero (suc n) = inl (omega arith)
below-or-not (suc i) (suc n) = elim (below-or-not i n) [
  | inl low ↦ inl (omega arith)
  | inr high ↦ inr (omega arith)
]

-- a row that was made with twice as many pass slots as the one before
pub row-made : (ledger : List ℕ) (i len : ℕ) (r : RowView) → i < 14 → len ≡ 8 * 2 ^ i % 2 ^ 32 →
    r.first ≡ len - 8 → r.len ≡ len → r.ledger ≡ ledger → IsRow ledger i r
row-made ledger i len r low is first long own =
    let whole : len ≡ 8 * 2 ^ i = is ∙ shl_whole 8 4 i 32 (omega arith) (omega arith) in
    let some = pow_pos i in
    record {
      first = omega (arith, first, whole, some);
      len = long ∙ whole;
      own = own;
    }

-- one row more
pub rows-push : (ledger : List ℕ) (rows : List RowView) (r : RowView) (n : ℕ) → length rows ≡ n → IsRow ledger n r →
    ((i : ℕ) (d : RowView) → i < n → IsRow ledger i (slice_index_or rows i d)) →
    (i : ℕ) (d : RowView) → i < n + 1 → IsRow ledger i (slice_index_or (rows ++ r ∷ []) i d)
rows-push ledger rows r n long last each i d low = elim (below-or-not i n) [
  | inl less ↦ subst (IsRow ledger i) (sym (get_or_append_left rows (r ∷ []) d i (omega arith))) (each i d less)
  | inr more ↦
      let same : i ≡ length rows = omega arith in
      let at : slice_index_or (rows ++ r ∷ []) i d ≡ r =
      ap (λ (k : ℕ). slice_index_or (rows ++ r ∷ []) k d) same ∙ get_or-append_seam rows r [] d in
      let here : IsRow ledger i r = subst (λ (k : ℕ). IsRow ledger k r) (sym (same ∙ long)) last in
      subst (IsRow ledger i) (sym at) here
]
