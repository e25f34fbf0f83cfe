-- Tables that are not too wide for a map's form.
use Rattle.std.proofs.Common.{◌≡◌, ℕ, ◌*◌, ◌^◌, ◌<◌, ◌≤◌, ◌++◌, ◌∷◌, [], inl, inr, List, All, subst, sym, arith}
use Rattle.std.proofs.lemmas.Bool.{cases_lt}
use Rattle.std.proofs.lemmas.List.Elements.{All-nil, All-push}
use lib.Pow.{pow_mono}
use Rattle.hashkeys.specs.Classes.{ClassView, IsTableSize}
use Rattle.bin_history.specs.Lawful.{BinView}
use Rattle.bin_history.specs.Limits.{most_recorded_bins}
use Rattle.bin_layout.specs.Views.{HomeView}
use Rattle.generations.specs.Generations.{FitsForm}

-- a table of less than the most places has one of twice as many
pub double_few : (n twice : ℕ) → IsTableSize twice → twice ≡ 2 * n → n < most_recorded_bins → twice ≤ most_recorded_bins
double_few n twice (e, le, is) double few =
    let below : (17 ≤ e) → 2 ^ 17 ≤ 2 ^ e = λ g. pow_mono g in
    let small : e < 17 = elim (cases_lt e 17) [ inl a ↦ a | inr b ↦ let k = below b in absurd (omega arith) ] in
    let up : 2 ^ e ≤ 2 ^ 16 = pow_mono {i = e} {j = 16} (omega (arith, small)) in
    omega arith

module _ {K V F : Type 0} (home : HomeView) where
  abbrev Fits : BinView K V F → Type 0
  Fits b = FitsForm home b.class.n

  -- so are the bins that are taken out, one by one
  pub fits-none : (bs : List (BinView K V F)) → bs ≡ [] → All (λ b. FitsForm home b.class.n) bs
  fits-none bs none = subst (All Fits) (sym none) (All-nil Fits)

  pub fits-more : (bs bs' : List (BinView K V F)) (b : BinView K V F) (class : ClassView)
      → All (λ b. FitsForm home b.class.n) bs → b.class ≡ class → FitsForm home class.n → bs' ≡ bs ++ b ∷ []
      → All (λ b. FitsForm home b.class.n) bs'
  fits-more bs bs' b class all is fits eb =
      subst (All Fits) (sym eb) (All-push Fits bs b all (subst (λ (c : ClassView). FitsForm home c.n) (sym is) fits))
