-- The bins of a map of either form, as contracts see them.
use Rattle.std.specs.Prelude.{◌≡◌}
use Rattle.bin_history.specs.declared.form.Form.TheVariants as form
use Rattle.bin_layout.specs.Views.{HomeView}
use Rattle.bin_store.specs.declared.store.StoreKind.{StoreKind}
use Rattle.bin_store.specs.declared.store.StoreKind.TheVariants.{Recorded, Lean}

abbrev pub view_of : {K V F A : Type 0} → StoreKind K V F A → HomeView
view_of (Recorded home) = home
view_of (Lean home) = home

-- the bins are of the form that they say
abbrev pub IsOfItsForm : {K V F A : Type 0} → StoreKind K V F A → Type 0
IsOfItsForm (Recorded home) = home.form ≡ form.Recorded
IsOfItsForm (Lean home) = home.form ≡ form.Lean
