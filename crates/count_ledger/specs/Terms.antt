-- What a ledger is told once, when it is made.
use Rattle.std.specs.Prelude.{ℕ, List, flat_map}
use Rattle.bin_history.specs.declared.form.Form.{Form}
use Rattle.hashkeys.specs.declared.hashing.Salt.{Salt}

-- the form of its bins, the salt of their hashes, how many clients it has, and the pairs of each opening bin
pub record TermsView (K V : Type 0) : Type 0 where
  pub form : Form
  pub salt : Salt
  pub clients : ℕ
  pub bases : List (List (K × V))

-- the pairs that a ledger opened with
abbrev pub opening_of : {K V : Type 0} → TermsView K V → List (K × V)
opening_of t = flat_map (λ base. base) t.bases
