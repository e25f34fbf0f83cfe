-- What some passes of a map show, where the map's caller does not name them.
use Rattle.std.proofs.Common.{Result, Ok, Err, IfOk}

module _ {T E P : Type 0} (between : P → P → Type 0) (shows : P → P → T → Type 0) where
  pub between-passes : (olds news : P) (result : Result T E) → between olds news → IfOk result (shows olds news) →
      IfOk result (λ value. (x : P) × (y : P) × between x y × shows x y value)
  between-passes olds news (Ok value) b h = (olds, news, b, h)
  between-passes olds news (Err fault) b h = tt

  -- between which moments they worked is not told
  pub some-passes : (result : Result T E) → IfOk result (λ value. (x : P) × (y : P) × between x y × shows x y value) →
      IfOk result (λ value. (x : P) × (y : P) × shows x y value)
  some-passes (Ok value) (x, y, b, h) = (x, y, h)
  some-passes (Err fault) h = tt
