-- What an option says.
use Rattle.std.proofs.Common.{◌≡◌, ℕ, ◌<◌, ◌^◌, Option, Some, None, Result, Ok, Err, IfSome, IsSome, sym, refl, subst}
use Rattle.std.specs.Str.Parse.{ParsesUnsigned}
use Rattle.clap.specs.Words.{ReadsOne, Text}
use Rattle.mapcli_core.specs.CommandLine.{SaysNumber}

module _ {E : Type 0} (bits : ℕ) (gives : Text → Result ℕ E → Type 0) (parses : (t : Text) (r : Result ℕ E) →
    gives t r → ParsesUnsigned bits 10 t r) where
  pub says_number : (text : Option Text) (read : Option ℕ) → (text ≡ None → read ≡ None) →
      ((t : Text) → text ≡ Some t → ReadsOne gives t read)
      → IfSome read (SaysNumber text)
  says_number None read none value = subst (λ (o : Option ℕ). IfSome o (SaysNumber None)) (sym (none refl)) tt
  says_number (Some t) None none value = tt
  says_number (Some t) (Some n) none value =
      let p = parses t (Ok n) (value t refl) in
      (p.0.0, p.1)

  -- a text of a number that fits is read
  pub number_read : (text : Option Text) (read : Option ℕ) (n : ℕ) →
      ((t : Text) → text ≡ Some t → ReadsOne gives t read)
      → SaysNumber text n → n < 2 ^ bits → IsSome read
  number_read None read n value says fits = elim says [ ]
  number_read (Some t) (Some m) n value says fits = refl
  number_read (Some t) None n value says fits =
      let failed = value t refl in
      absurd (parses t (Err failed.0) failed.1 (says.0, subst (λ (m : ℕ). m < 2 ^ bits) says.1 fits))
