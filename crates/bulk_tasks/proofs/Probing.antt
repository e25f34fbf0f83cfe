-- Searches of lists that lie side by side.
use Rattle.std.proofs.Common.{◌≡◌, ◌≢◌, Bool, List, [], ◌∷◌, ◌++◌, Option, Some, None, refl, arith}
use Rattle.std.proofs.lemmas.List.Elements.{All-append, Contains-append_left, Contains-append_right}
use Rattle.bulk_tasks.specs.declared.searching.Probed.{Probed}
use Rattle.bulk_tasks.specs.declared.searching.Probed.TheVariants.{Found, Nothing, GaveUp, Refused}
use Rattle.bulk_tasks.specs.Searches.{IsHit, IsNowhere, IsProbed}

module _ {K V U : Type 0} (probe : K → V → Option U) where
  pub found_left : (es fs : List (K × V)) (u : U) → IsHit probe es u → IsHit probe (es ++ fs) u
  found_left es fs u h = (h.0, Contains-append_left es fs h.0 h.1, h.2)

  pub found_right : (es fs : List (K × V)) (u : U) → IsHit probe fs u → IsHit probe (es ++ fs) u
  found_right es fs u h = (h.0, Contains-append_right es fs h.0 h.1, h.2)

  pub found_last : (es : List (K × V)) (k : K) (v : V) (u : U) → probe k v ≡ Some u → IsHit probe (es ++ (k, v) ∷ []) u
  found_last es k v u h = ((k, v), Contains-append_right es ((k, v) ∷ []) (k, v) (0, omega arith, refl), h)

  -- what has come to more than nothing stays so
  pub settled : (never_refuses : Bool) (may_give_up : Type 0) (es fs : List (K × V)) (part : Probed U) → part ≢ Nothing
      → IsProbed probe never_refuses may_give_up es part → IsProbed probe never_refuses may_give_up (es ++ fs) part
  settled never may es fs (Found u) n h = found_left es fs u h
  settled never may es fs Nothing n h = absurd (n refl)
  settled never may es fs GaveUp n h = h
  settled never may es fs Refused n h = h

  -- after nothing, what the rest has come to
  pub after_nothing : (never_refuses : Bool) (may_give_up : Type 0) (es fs : List (K × V)) (part : Probed U) →
      IsNowhere probe es
      → IsProbed probe never_refuses may_give_up fs part → IsProbed probe never_refuses may_give_up (es ++ fs) part
  after_nothing never may es fs (Found u) n h = found_right es fs u h
  after_nothing never may es fs Nothing n h = All-append (λ e. probe e.0 e.1 ≡ None) es fs n h
  after_nothing never may es fs GaveUp n h = h
  after_nothing never may es fs Refused n h = h
