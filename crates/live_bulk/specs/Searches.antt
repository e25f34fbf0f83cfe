-- What a search of a live map may come to.
use Rattle.std.specs.Prelude.{Bool, IsTrue, Option, List}
use Rattle.bulk_tasks.specs.Searches.{IsHit, IsNowhere}
use Rattle.live_bulk.specs.declared.searching.Probed.{Probed}
use Rattle.live_bulk.specs.declared.searching.Probed.TheVariants.{Found, Nothing, GaveUp, Refused}

-- what a worker has come to, where a probe may refuse and a worker may give up
abbrev pub IsProbed : {K V U : Type 0} → (K → V → Option U) → Bool → Type 0 → List (K × V) → Probed U → Type 0
IsProbed probe never_refuses may_give_up es (Found u) = IsHit probe es u
IsProbed probe never_refuses may_give_up es Nothing = IsNowhere probe es
IsProbed probe never_refuses may_give_up es GaveUp = may_give_up
IsProbed probe never_refuses may_give_up es Refused = ¬ IsTrue never_refuses

-- after which a worker leaves the rest out
abbrev pub IsMore : {U : Type 0} → Probed U → Type 0
IsMore (Found u) = Unit {0}
IsMore Nothing = ⊥
IsMore GaveUp = Unit {0}
IsMore Refused = Unit {0}
