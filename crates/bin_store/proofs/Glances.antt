-- What a glance tells of a bin that was found.
use Rattle.std.proofs.Common.{◌≡◌, ℕ, Bool, true, Option, Some, None, IsSomeAnd, sym, ap, subst, ◌∙◌}
use Rattle.hashkeys.specs.Classes.{ClassView, covers}
use Rattle.bin_history.specs.Entries.{lookup}
use Rattle.bin_history.specs.Lawful.{BinView, IsLawful}
use Rattle.bin_history.specs.declared.call.Call.{Call}
use Rattle.count_ledger.specs.Views.{RoleView}
use Rattle.bin_layout.specs.BinsWithRoles.{IsBinWithRole}
use Rattle.bin_layout.proofs.Places.{IsBinWithRole-at}
use Rattle.bin_layout.specs.Places.{AreAt}
use Rattle.bin_layout.specs.Views.{HomeView, IsPlaceOf}
use Rattle.bin_layout.specs.declared.tag.PlaceTag.{PlaceTag}
use Rattle.lean_bins.proofs.Halves.{some_tells}
use Rattle.lean_bins.specs.BinSlot.{IsInSlot, bin_in}
use Rattle.lean_bins.specs.declared.slot.BinSlot.{BinSlot}
use Rattle.bin_store.specs.Glances.{IsGlanced}

pub IsGlanced-shown : {K V F : Type 0} (same : K → K → Bool) (code : K → ℕ) (after : Call K V F → Option V → Option V)
    (home : HomeView) (hash : ℕ) (key : K) (value : Option V) (b : BinView K V F) (o : Option (BinView K V F × RoleView K V F))
    → IsSomeAnd o (λ p. covers p.0.class hash ≡ true) → IsSomeAnd o (λ p. IsBinWithRole same code after home p.0 p.1)
    → IsSomeAnd o (λ p. b ≡ p.0) → value ≡ lookup same b.entries key
    → IsGlanced same code after home hash key value
IsGlanced-shown same code after home hash key value b (Some (c, r)) covered with_role is found =
    (c, r, with_role, covered, found ∙ ap (λ (x : BinView _ _ _). lookup same x.entries key) is)
IsGlanced-shown same code after home hash key value b None covered with_role is found = absurd covered

pub IsGlanced-bin_slot : {K V F A : Type 0} (same : K → K → Bool) (code : K → ℕ) (after : Call K V F → Option V → Option V)
    (home : HomeView) (hash : ℕ) (key : K) (value : Option V) (place : PlaceTag) (x : BinSlot K V F A)
    → IsInSlot same after place x → IsPlaceOf home place → IsLawful same code after (bin_in x)
    → covers place.class hash ≡ true → value ≡ lookup same x.entries.entries key
    → IsGlanced same code after home hash key value
IsGlanced-bin_slot same code after home hash key value place x there of_map lawful covered found =
    some_tells x.role (λ r. AreAt same after place (bin_in x) r) (IsGlanced same code after home hash key value)
    (λ r at. (
      bin_in x,
      r,
      IsBinWithRole-at same after code home place (bin_in x) r at of_map lawful,
      subst (λ (k : ClassView). covers k hash ≡ true) (sym at.class) covered,
      found,
    ))
    there
