-- Bins and their roles at places.
use Rattle.std.proofs.Common.{◌≡◌, ℕ, Bool, Option, Some, None, IsSomeAnd, Decides, sym, ap, subst, ◌∙◌}
use Rattle.hashkeys.specs.Classes.{ClassView}
use Rattle.bin_history.specs.BinPart.{IsPartOf}
use Rattle.bin_history.specs.Lawful.{BinView, IsLawful}
use Rattle.bin_history.specs.declared.call.Call.{Call}
use Rattle.count_ledger.specs.Agreement.{part_of_role}
use Rattle.count_ledger.specs.Views.{RoleView}
use Rattle.count_ledger.proofs.Agreements.{BinAgrees-divided}
use Rattle.bin_layout.specs.BinsWithRoles.{IsBinWithRole}
use Rattle.bin_layout.specs.Places.{AreAt}
use Rattle.bin_layout.specs.Views.{HomeView, IsPlaceOf, place_of}
use Rattle.bin_layout.specs.declared.tag.PlaceTag.{PlaceTag}

module _ {K V F : Type 0} (same : K → K → Bool) (after : Call K V F → Option V → Option V) where
  -- what holds of the class of a place holds of the bin's there
  pub AreAt-class : (P : ClassView → Type 0) (o : Option (BinView K V F × RoleView K V F)) (p : PlaceTag) →
      IsSomeAnd o (λ x. AreAt same after p x.0 x.1)
      → P p.class → IsSomeAnd o (λ x. P x.0.class)
  AreAt-class P (Some x) p at holds = subst P (sym at.class) holds
  AreAt-class P None p at holds = elim at [ ]

  pub IsBinWithRole-at : (code : K → ℕ) (map : HomeView) (p : PlaceTag) (b : BinView K V F) (r : RoleView K V F)
      → AreAt same after p b r
      → IsPlaceOf map p → IsLawful same code after b → IsBinWithRole same code after map b r
  IsBinWithRole-at code map p b r at of_map lawful = record {
    form = at.form ∙ of_map.form;
    salt = at.salt ∙ of_map.salt;
    ledger = at.ledger ∙ of_map.ledger;
    agree = at.agree;
    lawful = lawful;
  }

  -- a half of a bin and the half of its role are at the map's place for the half
  pub AreAt-half : (tells : (x y : K) → Decides (same x y) (x ≡ y)) (code : K → ℕ) (map : HomeView)
      (p q : PlaceTag) (b c : BinView K V F)
      (r s : RoleView K V F) (half : ClassView → ClassView)
      → AreAt same after p b r → IsPlaceOf map p → c.class ≡ half b.class → IsPartOf code b c →
      s ≡ part_of_role code (half r.class) r
      → q ≡ place_of map (half b.class) → AreAt same after q c s
  AreAt-half tells code map p q b c r s half at of_map class part is place = record {
    class = class ∙ sym (ap (λ (x : PlaceTag). x.class) place);
    form = part.form ∙ at.form ∙ of_map.form ∙ sym (ap (λ (x : PlaceTag). x.form) place);
    salt = part.salt ∙ at.salt ∙ of_map.salt ∙ sym (ap (λ (x : PlaceTag). x.salt) place);
    ledger = ap (λ (x : RoleView K V F). x.ledger) is ∙ at.ledger ∙ of_map.ledger
        ∙ sym (ap (λ (x : PlaceTag). x.ledger) place);
    agree = BinAgrees-divided same tells code after b c r s half at.agree class part is;
  }
