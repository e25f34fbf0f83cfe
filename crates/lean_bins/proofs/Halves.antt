-- What lies at a place, given back there.
use Rattle.std.proofs.Common.{◌≡◌, ℕ, ◌+◌, ◌*◌, ◌^◌, ◌<◌, ◌≤◌, Bool, Option, Some, None, IsSomeAnd, List, sym, ap}
use Rattle.std.proofs.Common.{subst, ◌∙◌, arith}
use Rattle.std.proofs.lemmas.Grind.{pow_more}
use Rattle.std.proofs.Math.Pow.{pow_mono}
use Rattle.hashkeys.specs.Classes.{ClassView, IsClass, low_half, high_half}
use Rattle.hashkeys.specs.Limits.{most_bins}
use Rattle.bin_history.specs.Lawful.{BinView}
use Rattle.bin_history.specs.declared.call.Call.{Call}
use Rattle.lock_table.specs.Taken.{taken}
use Rattle.count_ledger.specs.Views.{RoleView}
use Rattle.bin_layout.specs.Places.{AreAt}
use Rattle.bin_layout.specs.Views.{HomeView, place_of}
use Rattle.bin_layout.specs.declared.tag.PlaceTag.{PlaceTag}
use Rattle.lean_bins.specs.Holding.{IsTakenFrom}
use Rattle.lean_bins.specs.BinSlot.{IsInSlot, IsInSlotFor, FitsWord, bin_in}
use Rattle.lean_bins.specs.Segments.{home_of, class_at}
use Rattle.lean_bins.specs.declared.slot.SegmentTag.{SegmentTag}
use Rattle.lean_bins.specs.declared.slot.BinSlot.{BinSlot}
use Rattle.lean_bins.proofs.SlotRefs.{exponent_few}

double : (e : ℕ) → 2 * 2 ^ e ≡ 2 ^ (e + 1)
double e = omega (arith, pow_more 2 e)

pub low_is : (class : ClassView) (e index : ℕ) → class.n ≡ 2 ^ e → class.index ≡ index → low_half class ≡ class_at index (e + 1)
low_is class e index size at i = record { n = (ap (λ (k : ℕ). 2 * k) size ∙ double e) i; index = at i }

pub high_is : (class : ClassView) (e index : ℕ) → class.n ≡ 2 ^ e → class.index + class.n ≡ index → high_half class ≡ class_at index (e + 1)
high_is class e index size at i = record { n = (ap (λ (k : ℕ). 2 * k) size ∙ double e) i; index = at i }

pub wider : (n m e : ℕ) → n ≤ m → m ≡ 2 ^ e → n ≤ 2 ^ (e + 1)
wider n m e le is = omega (arith, double e)

-- the index of a high half
pub half_index : (class : ClassView) → IsClass class → class.n < most_bins → class.index + class.n < most_bins
half_index class ((e, le, is), below) few =
    let less : e < 26 = exponent_few e class.n (omega (arith, is)) few in
    let twice : 2 ^ (e + 1) ≤ 2 ^ 26 = pow_mono {i = e + 1} {j = 26} (omega (arith, less)) in
    omega (arith, is, below, twice, double e)

-- the place that is taken, by its tag
pub place_taken : (home : HomeView) (class : ClassView) (e : ℕ) (tag : SegmentTag) (at : ℕ) → IsTakenFrom home class e tag at
    → place_of (home_of tag) (class_at (tag.first + at) e) ≡ place_of home class
place_taken home class e tag at t = λ i. place_of (t.of_map i) (record { n = sym t.size_is i; index = t.index_is i })

pub taken_wide : (home : HomeView) (class : ClassView) (e : ℕ) (tag : SegmentTag) (at : ℕ) → IsTakenFrom home class e tag at → tag.n ≤ 2 ^ e
taken_wide home class e tag at t = let n : tag.n ≡ home.n = ap (λ (h : HomeView). h.n) t.of_map in omega (arith, t.least, t.size_is)

-- the place for a half
pub half_place : (home : HomeView) (half : ClassView) (e : ℕ) (tag : SegmentTag) (at : ℕ) → home_of tag ≡ home → half ≡ class_at (tag.first + at) e
    → place_of (home_of tag) (class_at (tag.first + at) e) ≡ place_of home half
half_place home half e tag at of is = λ i. place_of (of i) (sym is i)

some_weaker : {X : Type 0} (o : Option X) (P Q : X → Type 0) → ((x : X) → P x → Q x) → IsSomeAnd o P → IsSomeAnd o Q
some_weaker (Some x) P Q f p = f x p
some_weaker None P Q f p = p

pub some_tells : {X : Type 0} (o : Option X) (P : X → Type 0) (Q : Type 0) → ((x : X) → P x → Q) → IsSomeAnd o P → Q
some_tells (Some x) P Q f p = f x p
some_tells None P Q f p = absurd p

module _ {K V F A : Type 0} (same : K → K → Bool) (after : Call K V F → Option V → Option V) where
  -- a bin and its role that are at a place lie there
  pub lies : (place : PlaceTag) (b : BinView K V F) (r : RoleView K V F) (x : BinSlot K V F A) → AreAt same after place b r
      → x.role ≡ Some r → bin_in x ≡ b → IsInSlot same after place x
  lies place b r x at role bin =
      subst (λ o. IsSomeAnd o (λ s. AreAt same after place (bin_in x) s)) (sym role)
      (subst (λ (q : BinView K V F). AreAt same after place q r) (sym bin) at)

  -- what is taken from a place fits its word where it lies for the class
  pub word_fits : (l : List (ℕ × BinSlot K V F A)) (x : BinSlot K V F A) (tag : SegmentTag) (at index e : ℕ) (home : HomeView)
      → taken l ≡ Some x → home_of tag ≡ home → tag.first + at ≡ index → IsInSlotFor same after home (class_at index e) x
      → IsSomeAnd (taken l) (FitsWord same after tag at e)
  word_fits l x tag at index e home is of at_is fits =
      subst (λ o. IsSomeAnd o (FitsWord same after tag at e)) (sym is)
      (subst (λ (h : HomeView). IsInSlotFor same after h (class_at (tag.first + at) e) x) (sym of)
      (subst (λ (k : ℕ). IsInSlotFor same after home (class_at k e) x) (sym at_is) fits))

  -- what lies at the place that is taken fits its word
  pub taken_fits : (l : List (ℕ × BinSlot K V F A)) (home : HomeView) (class : ClassView) (e : ℕ) (tag : SegmentTag) (at : ℕ)
      → IsTakenFrom home class e tag at → IsSomeAnd (taken l) (IsInSlot same after (place_of home class))
      → IsSomeAnd (taken l) (FitsWord same after tag at e)
  taken_fits l home class e tag at t =
      some_weaker (taken l) (IsInSlot same after (place_of home class)) (FitsWord same after tag at e)
      (λ x there. record {
        at = subst (λ p. IsInSlot same after p x) (sym (place_taken home class e tag at t)) there;
        least = taken_wide home class e tag at t;
      })

  -- what is taken where it fits its word lies for the class
  pub fits_taken : (l : List (ℕ × BinSlot K V F A)) (tag : SegmentTag) (at index e : ℕ) (home : HomeView) (class : ClassView)
      → IsSomeAnd (taken l) (FitsWord same after tag at e) → home_of tag ≡ home → tag.first + at ≡ index
      → class ≡ class_at index e → IsSomeAnd (taken l) (IsInSlotFor same after home class)
  fits_taken l tag at index e home class fits of at_is is =
      subst (λ (k : ClassView). IsSomeAnd (taken l) (IsInSlotFor same after home k)) (sym is)
      (subst (λ (k : ℕ). IsSomeAnd (taken l) (IsInSlotFor same after home (class_at k e))) at_is
      (subst (λ (h : HomeView). IsSomeAnd (taken l) (IsInSlotFor same after h (class_at (tag.first + at) e))) of fits))

  pub lies_there : (l : List (ℕ × BinSlot K V F A)) (home : HomeView) (class : ClassView)
      → IsSomeAnd (taken l) (IsInSlotFor same after home class) → IsSomeAnd (taken l) (IsInSlot same after (place_of home class))
  lies_there l home class =
      some_weaker (taken l) (IsInSlotFor same after home class) (IsInSlot same after (place_of home class)) (λ x fits. fits.at)

  pub least_there : (l : List (ℕ × BinSlot K V F A)) (home : HomeView) (class : ClassView)
      → IsSomeAnd (taken l) (IsInSlotFor same after home class) → home.n ≤ class.n
  least_there l home class =
      some_tells (taken l) (IsInSlotFor same after home class) (home.n ≤ class.n) (λ x fits. fits.least)

  -- what is taken lies there
  pub lies_taken : (l : List (ℕ × BinSlot K V F A)) (x : BinSlot K V F A) (place : PlaceTag)
      → IsSomeAnd (taken l) (IsInSlot same after place) → taken l ≡ Some x → IsInSlot same after place x
  lies_taken l x place there is = subst (λ o. IsSomeAnd o (IsInSlot same after place)) is there

  -- what lies at a place is of its salt and class, and so is the role
  module _ (place : PlaceTag) (x : BinSlot K V F A) (there : IsInSlot same after place x) where
    pub salt_of_lying : x.entries.salt ≡ place.salt
    salt_of_lying = some_tells x.role (λ r. AreAt same after place (bin_in x) r) (x.entries.salt ≡ place.salt) (λ r at. at.salt) there

    pub class_of_lying : x.entries.class ≡ place.class
    class_of_lying = some_tells x.role (λ r. AreAt same after place (bin_in x) r) (x.entries.class ≡ place.class) (λ r at. at.class) there

    pub role_of_class : IsSomeAnd x.role (λ r. r.class ≡ place.class)
    role_of_class = some_weaker x.role (λ r. AreAt same after place (bin_in x) r) (λ r. r.class ≡ place.class)
        (λ r at. sym at.agree.class ∙ at.class) there

    -- the bin and the role that lay there are at the place
    pub at_taken : (b : BinView K V F) (r : RoleView K V F) → b ≡ bin_in x → x.role ≡ Some r → AreAt same after place b r
    at_taken b r bin role =
        subst (λ (q : BinView K V F). AreAt same after place q r) (sym bin)
        (subst (λ o. IsSomeAnd o (λ s. AreAt same after place (bin_in x) s)) role there)
