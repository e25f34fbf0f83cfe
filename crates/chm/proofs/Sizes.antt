-- Sizes of tables are powers of two.
use Rattle.std.proofs.Common.{◌≡◌, ℕ, ◌+◌, ◌*◌, ◌^◌, ◌<◌, ◌≤◌, inl, inr, lit≤, refl, arith}
use Rattle.std.proofs.lemmas.Bool.{cases_lt}
use lib.Pow.{pow_mono, pow-add}
use Rattle.hashkeys.specs.Classes.{IsTableSize}
use Rattle.hashkeys.specs.Limits.{most_bins}
use Rattle.bin_history.specs.Limits.{most_recorded_bins}
use Rattle.bin_history.specs.declared.form.Form.{Form}
use Rattle.bin_history.specs.declared.form.Form.TheVariants.{Recorded, Lean}
use Rattle.chm.specs.Refusals.{most_capacity}
use Rattle.chm.specs.Sizes.{IsSizeFor, IsSizeFrom, most_bins_of}

-- a wider table is at least twice as wide
pub IsTableSize-wider : (n m : ℕ) → IsTableSize n → IsTableSize m → n < m → 2 * n ≤ m
IsTableSize-wider n m (e, _, is) (f, _, at) lt =
    let below : (f ≤ e) → 2 ^ f ≤ 2 ^ e = λ g. pow_mono g in
    let more : e < f = elim (cases_lt e f) [ inl a ↦ a | inr b ↦ let k = below b in absurd (omega arith) ] in
    let double : 2 ^ (e + 1) ≡ 2 ^ e * 2 = pow-add 2 e 1 in
    let up : 2 ^ (e + 1) ≤ 2 ^ f = pow_mono (omega arith) in
    omega arith

-- no form has wider tables than hashes have classes
pub most_bins_few : (form : Form) → most_bins_of form ≤ most_bins
most_bins_few Recorded = lit≤ tt
most_bins_few Lean = lit≤ tt

-- a table that is opened for no more than a form may be is no wider than the form has
pub size_for-wide : (form : Form) (capacity n : ℕ) → capacity ≤ most_capacity form → IsSizeFor capacity n
    → n ≤ most_bins_of form
size_for-wide Recorded capacity n few size =
    let least : n ≤ 4096 = size.least 4096 (12, lit≤ tt, refl) few in
    omega arith
size_for-wide Lean capacity n few size = size.least most_bins (26, lit≤ tt, refl) few

-- nor is one that has room for keys, if it began with one that is not
pub size_from-wide : (form : Form) (n0 count n : ℕ) → n0 ≤ most_bins_of form → IsSizeFrom form n0 count n
    → n ≤ most_bins_of form
size_from-wide Recorded n0 count n few size =
    size.least most_recorded_bins (16, lit≤ tt, refl) few (inr (omega arith))
size_from-wide Lean n0 count n few size = size.least most_bins (26, lit≤ tt, refl) few (inr (omega arith))
