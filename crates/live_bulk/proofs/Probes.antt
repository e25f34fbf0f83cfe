-- Searches of what workers are shown.
use Rattle.std.proofs.Common.{◌≡◌, ◌≢◌, Bool, List, ◌++◌, Option, None, refl}
use Rattle.std.proofs.lemmas.List.Elements.{All-append}
use Rattle.bulk_tasks.specs.Searches.{IsNowhere}
use Rattle.bulk_tasks.proofs.Probing.{found_left, found_right}
use Rattle.live_bulk.specs.Searches.{IsProbed}
use Rattle.live_bulk.specs.declared.searching.Probed.{Probed}
use Rattle.live_bulk.specs.declared.searching.Probed.TheVariants.{Found, Nothing, GaveUp, Refused}

module _ {K V U : Type 0} (probe : K → V → Option U) where
  -- what has come to more than nothing stays so
  pub settled : (never_refuses : Bool) (may_give_up : Type 0) (es fs : List (K × V)) (part : Probed U) → part ≢ Nothing
      → IsProbed probe never_refuses may_give_up es part → IsProbed probe never_refuses may_give_up (es ++ fs) part
  settled never may es fs (Found u) n h = found_left probe es fs u h
  settled never may es fs Nothing n h = absurd (n refl)
  settled never may es fs GaveUp n h = h
  settled never may es fs Refused n h = h

  -- after nothing, what the rest has come to
  pub after_nothing : (never_refuses : Bool) (may_give_up : Type 0) (es fs : List (K × V)) (part : Probed U) →
      IsNowhere probe es
      → IsProbed probe never_refuses may_give_up fs part → IsProbed probe never_refuses may_give_up (es ++ fs) part
  after_nothing never may es fs (Found u) n h = found_right probe es fs u h
  after_nothing never may es fs Nothing n h = All-append (λ e. probe e.0 e.1 ≡ None) es fs n h
  after_nothing never may es fs GaveUp n h = h
  after_nothing never may es fs Refused n h = h
