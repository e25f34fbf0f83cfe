-- What a client does that puts many pairs.
use Rattle.std.specs.Prelude.{◌≡◌, Bool, Option, Some, List, [], ◌∷◌, Result, MatchResult}
use Rattle.std.specs.Iterator.{Drains, YieldsThen}
use Rattle.bin_history.specs.declared.call.Call.TheVariants.{Put}
use Rattle.bin_history.specs.declared.call.Reply.{Reply}
use Rattle.count_ledger.specs.Views.{LedgerView, PassView}
use Rattle.chm.specs.Headline.{IsCalled}

module _ {K V F : Type 0} (same_key : K → K → Bool) (same_value : V → V → Bool) (remapped : F → K → Option V → Option V)
    (merged : F → V → V → Option V) where
  -- the pass made a put of each pair, in order, and no other call
  abbrev pub ArePut : LedgerView K V → List (K × V) → PassView K V F → PassView K V F → Type 0
  ArePut ledger [] old new = new ≡ old
  ArePut ledger (e ∷ es) old new = (mid : PassView K V F) × (reply : Reply V)
      × IsCalled same_key same_value remapped merged ledger (Put e.0 e.1) old mid reply × ArePut ledger es mid new

  -- what the pairs became gave these first, and they were put: all that there were, or all before one whose put failed
  abbrev pub HasPut : {I T E : Type 0} → (I → T → Type 0) → (T → Option (K × V) → T → Type 0) → LedgerView K V → I →
      PassView K V F → PassView K V F → Result (Unit {0}) E → Type 0
  HasPut {I} {T} becomes steps ledger pairs old new result = (it : T) × (xs : List (K × V)) × becomes pairs it
      × ArePut ledger xs old new
      × MatchResult result (λ _. Drains steps it xs) (λ _. (x : K × V) × (rest : T) × YieldsThen steps it xs (Some x) rest)
