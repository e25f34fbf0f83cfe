-- A role is divided into those of the halves of its class.
use Rattle.std.proofs.Common.{◌≡◌, ℕ, ◌<◌, ◌&&◌, ◌||◌, Bool, true, false, List, [], ◌∷◌, refl, sym, ap, ◌∙◌}
use Rattle.std.proofs.lemmas.List.Elements.{All-filter}
use Rattle.hashkeys.specs.Classes.{ClassView, covers, is_of, AreApart, low_half, high_half}
use Rattle.hashkeys.specs.Hashing.{hash_of}
use Rattle.hashkeys.specs.declared.hashing.Salt.{Salt}
use Rattle.bin_history.specs.Calls.{key_of}
use Rattle.bin_history.specs.Part.{part_of_entries, part_of_records}
use Rattle.bin_history.specs.Records.{RecordView}
use Rattle.count_ledger.specs.declared.books.Book.{Book}
use Rattle.count_ledger.specs.declared.books.Book.TheVariants.{Moment, Pass, Role}
use Rattle.count_ledger.specs.Terms.{TermsView}
use Rattle.count_ledger.specs.Rule.{Among, Across, IsSound, AreTogether}
use Rattle.count_ledger.specs.Steps.{half_book, with_halves}
use Rattle.count_ledger.proofs.Together.{Each-weaker}
use Rattle.count_ledger.proofs.Filters.{filter_within}

in_low : (c l h : Bool) → c ≡ (l || h) → l ≡ true → c ≡ true
in_low c true h e t = e
in_low c false h e t = absurd cc

in_high : (c l h : Bool) → c ≡ (l || h) → h ≡ true → c ≡ true
in_high c true h e t = e
in_high c false h e t = e ∙ t

neither : (a b d : Bool) → (d ≡ true → a ≡ true) → (a && b) ≡ false → (d && b) ≡ false
neither a b false f e = refl
neither true b true f e = e
neither false b true f e = absurd (let x = f refl in cc)

module _ {K V F : Type 0} (code : K → ℕ) (t : TermsView K V) (calls : List (RecordView K V F))
    (salt : Salt) (class : ClassView)
    (pairs : List (K × V)) (kept : List (RecordView K V F)) where
  abbrev whole : Book K V F
  whole = Role salt class pairs kept

  module _ (half : ClassView) (within : (h : ℕ) → covers half h ≡ true → covers class h ≡ true) where
    half_sound : IsSound code t calls whole → IsSound code t calls (half_book code salt half pairs kept)
    half_sound f = (
      f.0,
      ap (part_of_entries (is_of code salt half)) f.1
          ∙ filter_within (λ (e : K × V). is_of code salt half e.0) (λ e. is_of code salt class e.0)
          (λ e. within (hash_of salt (code e.0))) _,
      All-filter (λ (r : RecordView K V F). is_of code salt half (key_of r.call)) (λ r. r.client < t.clients) kept f.2,
      sym (filter_within (λ (r : RecordView K V F). is_of code salt half (key_of r.call))
          (λ r. is_of code salt class (key_of r.call))
          (λ r. within (hash_of salt (code (key_of r.call)))) calls)
          ∙ ap (part_of_records (is_of code salt half)) f.3,
    )

    half_beside : (b : Book K V F) → AreTogether code whole b → AreTogether code (half_book code salt half pairs kept) b
    half_beside (Pass c made seen) a = tt
    half_beside (Moment seen) a = tt
    half_beside (Role s k o l) apart = λ h. neither (covers class h) (covers k h) (covers half h) (within h) (apart h)

  module _ (one : (h : ℕ) → covers class h ≡ (covers (low_half class) h || covers (high_half class) h))
      (apart : AreApart (low_half class) (high_half class)) where
    low : (h : ℕ) → covers (low_half class) h ≡ true → covers class h ≡ true
    low h = in_low _ _ _ (one h)

    high : (h : ℕ) → covers (high_half class) h ≡ true → covers class h ≡ true
    high h = in_high _ _ _ (one h)

    pub divided_fit : Among (IsSound code t calls) (AreTogether code) (whole ∷ [])
        → Among (IsSound code t calls) (AreTogether code) (with_halves code (whole ∷ []))
    divided_fit a = (half_sound (low_half class) low a.0, (apart, tt), (half_sound (high_half class) high a.0, tt, tt))

    pub divided_others : (u : List (Book K V F)) → Across (AreTogether code) (whole ∷ []) u →
        Across (AreTogether code) (with_halves code (whole ∷ [])) u
    divided_others u x = (
      Each-weaker (AreTogether code whole) (AreTogether code (half_book code salt (low_half class) pairs kept))
          (half_beside (low_half class) low) u x.0,
      (
        Each-weaker (AreTogether code whole) (AreTogether code (half_book code salt (high_half class) pairs kept))
            (half_beside (high_half class) high) u x.0,
        tt,
      ),
    )
