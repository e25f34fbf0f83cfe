-- What lies at a place of a lean bin.
use Rattle.std.proofs.Common.{◌≡◌, Bool, Option, Some, None, Result, Ok, Err, OnErr, sym, subst, refl, ◌∙◌}
use Rattle.std.specs.Option.{IsSomeAnd}
use Rattle.bin_history.specs.Leans.{LeanView, as_bin}
use Rattle.bin_history.specs.declared.call.Call.{Call}
use Rattle.count_ledger.specs.Views.{RoleView}
use Rattle.bin_layout.specs.Places.{AreAt}
use Rattle.bin_layout.specs.declared.tag.PlaceTag.{PlaceTag}

pub some_and : {R : Type 0} (P : R → Type 0) (o : Option R) → IsSomeAnd o P → (r : R) × (o ≡ Some r) × P r
some_and P None h = absurd h
some_and P (Some r) h = (r, refl, h)

-- what is so whatever a result is
pub OnErr-of : {T E P : Type 0} (result : Result T E) → P → OnErr result P
OnErr-of (Ok _) is = tt
OnErr-of (Err _) is = is

-- the entries of a bin, by their parts
pub entries_are : {K V : Type 0} (a b : LeanView K V) → a.salt ≡ b.salt → a.class ≡ b.class → a.entries ≡ b.entries →
    a ≡ b
entries_are a b salt class entries = λ i. record { salt = salt i; class = class i; entries = entries i }

module _ {K V F : Type 0} (same : K → K → Bool) (after : Call K V F → Option V → Option V) (p : PlaceTag) where
  -- entries and a role that are at a place
  abbrev pub RolesAt : LeanView K V → Option (RoleView K V F) → Type 0
  RolesAt entries role = IsSomeAnd role (λ r. AreAt same after p (as_bin entries) r)

  -- the role, where it is this one
  pub at_role : (entries : LeanView K V) (role : Option (RoleView K V F)) (r : RoleView K V F) → role ≡ Some r →
      RolesAt entries role → AreAt same after p (as_bin entries) r
  at_role entries role r is at = subst (RolesAt entries) is at

  -- a role that is laid there
  pub role_at : (entries : LeanView K V) (role : Option (RoleView K V F)) (r : RoleView K V F) → role ≡ Some r →
      AreAt same after p (as_bin entries) r → RolesAt entries role
  role_at entries role r is at = subst (RolesAt entries) (sym is) at

  -- other entries with the same parts
  pub same_at : (a b : LeanView K V) (role : Option (RoleView K V F)) → a ≡ b → RolesAt b role → RolesAt a role
  same_at a b role is at = subst (λ (e : LeanView K V). RolesAt e role) (sym is) at

  -- the class of the entries and of the role, and the salt of the entries
  pub class_at : (entries : LeanView K V) (role : Option (RoleView K V F)) → RolesAt entries role →
      entries.class ≡ p.class
  class_at entries role at = (some_and (λ r. AreAt same after p (as_bin entries) r) role at).2.class

  pub salt_at : (entries : LeanView K V) (role : Option (RoleView K V F)) → RolesAt entries role →
      entries.salt ≡ p.salt
  salt_at entries role at = (some_and (λ r. AreAt same after p (as_bin entries) r) role at).2.salt

  -- the role is of the place's class
  pub role_class : (entries : LeanView K V) (role : Option (RoleView K V F)) → RolesAt entries role →
      IsSomeAnd role (λ r. r.class ≡ p.class)
  role_class entries role at =
      let there = some_and (λ r. AreAt same after p (as_bin entries) r) role at in
      subst (λ (o : Option (RoleView K V F)). IsSomeAnd o (λ r. r.class ≡ p.class)) (sym there.1)
      (sym there.2.agree.class ∙ there.2.class)
