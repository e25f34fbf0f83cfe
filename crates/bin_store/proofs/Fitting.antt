-- Bins that are taken out of a map of either form.
use Rattle.std.proofs.Common.{◌≡◌, ◌∙◌, Option, Some, None, IfSome, List, All, sym}
use Rattle.bin_history.specs.Lawful.{BinView}
use Rattle.bin_history.specs.declared.form.Form.TheVariants.{Recorded, Lean}
use Rattle.bin_layout.specs.Views.{HomeView}
use Rattle.generations.specs.Generations.{FitsForm}

-- a table of a lean map is never too wide for its form
pub lean-fits : {K V F : Type 0} (home : HomeView) → home.form ≡ Lean → (bins : List (BinView K V F))
    → All (λ b. FitsForm home b.class.n) bins
lean-fits home lean bins = λ k d lt recorded. (let no : Lean ≡ Recorded = sym lean ∙ recorded in absurd cc)

pub if_some : {X : Type 0} (P : X → Type 0) (o : Option X) → ((x : X) → P x) → IfSome o P
if_some P None all = tt
if_some P (Some x) all = all x
