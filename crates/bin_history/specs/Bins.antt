-- A bin of either form.
use Rattle.bin_history.specs.Lawful.{BinView}
use Rattle.bin_history.specs.Leans.{as_bin}
use Rattle.bin_history.specs.declared.bin.BinKind.{BinKind}
use Rattle.bin_history.specs.declared.bin.BinKind.TheVariants.{Lean, Recorded}
use Rattle.bin_history.specs.declared.form.Form.{Form}
use Rattle.bin_history.specs.declared.form.Form.TheVariants as form

abbrev pub bin_of : {K V F A : Type 0} → BinKind K V F A → BinView K V F
bin_of (Lean l) = as_bin l
bin_of (Recorded b) = b.value

abbrev pub form_of : {K V F A : Type 0} → BinKind K V F A → Form
form_of (Lean l) = form.Lean
form_of (Recorded b) = form.Recorded
