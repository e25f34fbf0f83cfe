-- What a search may answer.
use Rattle.std.specs.Prelude.{◌≡◌, Bool, IsTrue, Option, Some, None, List, All, Contains}
use Rattle.bulk_tasks.specs.declared.searching.Probed.{Probed}
use Rattle.bulk_tasks.specs.declared.searching.Probed.TheVariants.{Found, Nothing, GaveUp, Refused}

module _ {K V U : Type 0} (probe : K → V → Option U) where
  -- the probe gives it on some pair
  abbrev pub IsHit : List (K × V) → U → Type 0
  IsHit es u = (e : K × V) × Contains es e × (probe e.0 e.1 ≡ Some u)

  -- the probe gives none on every pair
  abbrev pub IsNowhere : List (K × V) → Type 0
  IsNowhere es = All (λ e. probe e.0 e.1 ≡ None) es

  -- something that the probe gives on some pair, or none where it gives none on every pair
  abbrev pub IsSearched : List (K × V) → Option U → Type 0
  IsSearched es (Some u) = IsHit es u
  IsSearched es None = IsNowhere es

  -- what a part of a search has come to, where a probe may refuse and a part may give up
  abbrev pub IsProbed : Bool → Type 0 → List (K × V) → Probed U → Type 0
  IsProbed never_refuses may_give_up es (Found u) = IsHit es u
  IsProbed never_refuses may_give_up es Nothing = IsNowhere es
  IsProbed never_refuses may_give_up es GaveUp = may_give_up
  IsProbed never_refuses may_give_up es Refused = ¬ IsTrue never_refuses
