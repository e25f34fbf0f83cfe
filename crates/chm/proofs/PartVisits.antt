-- A visit of a part of a bin.
use Rattle.std.proofs.Common.{◌≡◌, ℕ, Bool, true, false, cond, Decides, List, [], ◌∷◌, All, filter, refl, sym, ap}
use Rattle.std.proofs.Common.{subst, ◌∙◌}
use Rattle.std.proofs.lemmas.Bool.{false≢true}
use Rattle.std.proofs.lemmas.List.Elements.{filter_passes}
use Rattle.hashkeys.specs.Classes.{ClassView, covers, is_of}
use Rattle.hashkeys.specs.Hashing.{hash_of}
use Rattle.hashkeys.specs.declared.hashing.Salt.{Salt}
use Rattle.bin_history.specs.Entries.{HasDistinctKeys, replay}
use Rattle.bin_history.specs.Lawful.{BinView}
use Rattle.bin_history.specs.Part.{part_of_entries}
use Rattle.bin_history.specs.Records.{RecordView}
use Rattle.bin_history.proofs.Parts.{HasDistinctKeys-part}
use Rattle.count_ledger.specs.Views.{LedgerView}
use Rattle.chm.specs.Histories.{IsMet}
use Rattle.chm.specs.Visits.{IsVisit}

module _ {X : Type 0} (p q : X → Bool) (narrow : (x : X) → p x ≡ true → q x ≡ true) where
  within-at : (x : X) (xs : List X) → filter p (filter q xs) ≡ filter p xs → (a b : Bool) → p x ≡ a → q x ≡ b →
      filter p (cond b (x ∷ filter q xs) (filter q xs)) ≡ cond a (x ∷ filter p xs) (filter p xs)
  within-at x xs rest true true e f =
      ap (λ (c : Bool). cond c (x ∷ filter p (filter q xs)) (filter p (filter q xs))) e
      ∙ ap (λ (ys : List X). x ∷ ys) rest
  within-at x xs rest true false e f = absurd (false≢true (sym f ∙ narrow x e))
  within-at x xs rest false true e f =
      ap (λ (c : Bool). cond c (x ∷ filter p (filter q xs)) (filter p (filter q xs))) e ∙ rest
  within-at x xs rest false false e f = rest

  -- what a test keeps of all, it keeps of what a wider one keeps
  filter-within : (xs : List X) → filter p (filter q xs) ≡ filter p xs
  filter-within [] = refl
  filter-within (x ∷ xs) = within-at x xs (filter-within xs) (p x) (q x) refl refl

-- of the part of some entries in a class, those of a class within it are those of all
pub part-of-part : {K V : Type 0} (code : K → ℕ) (ledger : LedgerView K V) (whole class : ClassView)
    (entries all : List (K × V)) → entries ≡ part_of_entries (is_of code ledger.salt whole) all →
    ((hash : ℕ) → covers class hash ≡ true → covers whole hash ≡ true) →
    part_of_entries (is_of code ledger.salt class) entries ≡ part_of_entries (is_of code ledger.salt class) all
part-of-part {K} {V} code ledger whole class entries all is narrow =
    let p : K × V → Bool = λ e. is_of code ledger.salt class e.0 in
    let q : K × V → Bool = λ e. is_of code ledger.salt whole e.0 in
    ap (λ (es : List (K × V)). filter p es) is
    ∙ filter-within p q (λ e of. narrow (hash_of ledger.salt (code e.0)) of) all

module _ {K V F : Type 0} (same : K → K → Bool) (tells : (x y : K) → Decides (same x y) (x ≡ y)) (code : K → ℕ)
    (ledger : LedgerView K V) (front : List (RecordView K V F)) where
  pub IsVisit-part : (whole class : ClassView) (entries : List (K × V)) → HasDistinctKeys same entries →
      entries ≡ part_of_entries (is_of code ledger.salt whole) (replay same ledger.opening front) →
      ((hash : ℕ) → covers class hash ≡ true → covers whole hash ≡ true) →
      IsVisit same code ledger front
      (record { class = class; entries = part_of_entries (is_of code ledger.salt class) entries })
  IsVisit-part whole class entries distinct is narrow =
      record {
        distinct = HasDistinctKeys-part same tells (is_of code ledger.salt class) entries distinct;
        of_class = filter_passes (λ (e : K × V). is_of code ledger.salt class e.0) entries;
        entries = part-of-part code ledger whole class entries (replay same ledger.opening front) is narrow;
      }

  -- a bin of a class of its own that was met shows its part in a class within that one
  pub IsVisit-met : (own class : ClassView) (b : BinView K V F) → b.class ≡ own → HasDistinctKeys same b.entries →
      IsMet same code ledger front b → ((hash : ℕ) → covers class hash ≡ true → covers own hash ≡ true) →
      IsVisit same code ledger front
      (record { class = class; entries = part_of_entries (is_of code ledger.salt class) b.entries })
  IsVisit-met own class b is distinct met narrow =
      IsVisit-part b.class class b.entries distinct met.entries
      (λ hash of. subst (λ (k : ClassView). covers k hash ≡ true) (sym is) (narrow hash of))

-- the same entries are of the same class
pub all_of : {K V : Type 0} (code : K → ℕ) (es fs : List (K × V)) (s t : Salt) (k l : ClassView) → s ≡ t → k ≡ l →
    fs ≡ es → All (λ e. is_of code t l e.0 ≡ true) es → All (λ e. is_of code s k e.0 ≡ true) fs
all_of {K} {V} code es fs s t k l salt class is all =
    subst (λ (xs : List (K × V)). All (λ e. is_of code s k e.0 ≡ true) xs) (sym is)
    (subst (λ (x : Salt). All (λ (e : K × V). is_of code x k e.0 ≡ true) es) (sym salt)
    (subst (λ (x : ClassView). All (λ (e : K × V). is_of code t x e.0 ≡ true) es) (sym class) all))
