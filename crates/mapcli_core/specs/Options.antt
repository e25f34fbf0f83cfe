-- What a run may be told besides its script.
use Rattle.std.specs.Prelude.{ℕ}
use Rattle.hashkeys.specs.declared.hashing.Salt.{Salt}

pub record OptionsView : Type 0 where
  pub workers : ℕ
  pub capacity : ℕ
  pub salt : Salt
