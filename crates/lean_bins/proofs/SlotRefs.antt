-- Where the place of an index lies.
use Rattle.std.proofs.Common.{◌≡◌, true, ℕ, ◌+◌, ◌-◌, ◌*◌, ◌/◌, ◌%◌, ◌^◌, ◌<◌, ◌≤◌, min, List, length, get_or}
use Rattle.std.proofs.Common.{Option, Some, None, IfSome, inl, inr, [], ◌∷◌, ◌++◌, sym, ap, subst, ◌∙◌}
use Rattle.std.proofs.Common.{div-add-mod', arith}
use Rattle.std.proofs.Math.Nat.{mod-lt, mod-eq_of_lt, mod-eq-sub-mod}
use Rattle.std.proofs.Math.Pow.{pow_mono, mod-mod-pow}
use Rattle.std.proofs.lemmas.Bool.{eq-eqb, cases_lt}
use Rattle.std.proofs.lemmas.Nat.{pow_below, pow_pos}
use Rattle.std.proofs.lemmas.List.{get_or_append_left}
use Rattle.std.proofs.Math.Seq.{get_or-append_seam}
use Rattle.boxcar.specs.Slot.{Named}
use Rattle.hashkeys.specs.Classes.{ClassView, IsTableSize, covers}
use Rattle.hashkeys.specs.Limits.{most_bins}
use Rattle.bin_layout.specs.Names.{home_named}
use Rattle.bin_layout.specs.Views.{HomeView}
use Rattle.lean_bins.specs.Homes.{IsIndexOf, IsSlotRefOf}
use Rattle.lean_bins.specs.Segments.{IsSegment, IsSlotFrom, AreSegments, AreSlotsOfSegments, AreSlotsOfTables, first_named, class_at}
use Rattle.lean_bins.specs.declared.slot.SegmentTag.{SegmentTag}

pub segment_there : (home : HomeView) (first j : ℕ) (segments : List Named) (slot : Named) (tag : SegmentTag) (slots : ℕ)
    → AreSegments home first segments → j < length segments → slot ≡ get_or segments j slot
    → IsSegment (home_named slot.tag) (first_named slot.tag) (min (first_named slot.tag) 4096) tag slots
    → IsSegment home (first + j * 4096) (min (first + j * 4096) 4096) tag slots
segment_there home first j segments slot tag slots are lt is segment =
    let there : IsSlotFrom home (first + j * 4096) slot = subst (IsSlotFrom home (first + j * 4096)) (sym is) (are.each j slot lt) in
    record {
      of_map = segment.of_map ∙ there.of_map;
      from = segment.from ∙ there.from;
      count_is = segment.count_is
          ∙ ap (λ (x : ℕ). min x 4096) there.from;
    }

pub segment_into : (home : HomeView) (first j : ℕ) (segments : List Named) (slot : Named) (tag : SegmentTag) (slots : ℕ)
    → AreSegments home first segments → j < length segments → slot ≡ get_or segments j slot
    → IsSegment home (first + j * 4096) (min (first + j * 4096) 4096) tag slots
    → IsSegment (home_named slot.tag) (first_named slot.tag) (min (first_named slot.tag) 4096) tag slots
segment_into home first j segments slot tag slots are lt is segment =
    let there : IsSlotFrom home (first + j * 4096) slot = subst (IsSlotFrom home (first + j * 4096)) (sym is) (are.each j slot lt) in
    record {
      of_map = segment.of_map ∙ sym there.of_map;
      from = segment.from ∙ sym there.from;
      count_is = segment.count_is
          ∙ ap (λ (x : ℕ). min x 4096) (sym there.from);
    }

-- a power of two as a shift makes it
pub shifted : (e : ℕ) → e ≤ 26 → 1 * 2 ^ e % 4294967296 ≡ 2 ^ e
shifted e few =
    let small : 2 ^ e < 4294967296 = pow_below e 32 (omega arith) in
    omega (arith, mod-eq_of_lt {n = 2 ^ e} {m = 4294967296} small)

-- the exponent of an index
pub exponent_few : (e i : ℕ) → 2 ^ e ≤ i → i < most_bins → e < 26
exponent_few e i low high = elim (cases_lt e 26) [
  | inl l ↦ l
  | inr ge ↦ absurd (omega (arith, pow_mono {i = 26} {j = e} ge))
]

-- the exponent of a table's size
pub size_few : (e n : ℕ) → IsTableSize n → 2 ^ e ≤ n → e ≤ 26
size_few e n (k, few, is) low = elim (cases_lt 26 e) [
  | inl l ↦ absurd (omega (arith, is, few, pow_mono {i = k} {j = 26} few, pow_mono {i = 27} {j = e} l))
  | inr ge ↦ ge
]

pub index_few : (e i : ℕ) → e ≤ 26 → i < 2 ^ e → i < most_bins
index_few e i few low = omega (arith, pow_mono {i = e} {j = 26} few)

-- an index of a hash without its highest bit is another one
pub narrower : (hash index k : ℕ) → IsIndexOf hash index → 2 ^ k ≤ index → index < 2 * 2 ^ k → IsIndexOf hash (index - 2 ^ k)
narrower hash index k (e, few, is) low high =
    let below : index < 2 ^ e = subst (λ (i : ℕ). i < 2 ^ e) (sym is) (mod-lt hash (pow_pos e)) in
    elim (cases_lt k e) [
      | inl lt ↦ (let split : (e - k) + k ≡ e = omega (arith, lt) in
          let short : hash % 2 ^ e % 2 ^ k ≡ hash % 2 ^ k =
          ap (λ (x : ℕ). hash % 2 ^ x % 2 ^ k) (sym split) ∙ mod-mod-pow hash (e - k) k in
          let rest : index % 2 ^ k ≡ index - 2 ^ k =
          mod-eq-sub-mod {n = index} {m = 2 ^ k} low ∙ mod-eq_of_lt {n = index - 2 ^ k} {m = 2 ^ k} (omega (arith, low, high)) in
          (k, omega (arith, lt, few), sym rest ∙ ap (λ (i : ℕ). i % 2 ^ k) is ∙ short))
      | inr ge ↦ absurd (omega (arith, below, low, pow_mono {i = e} {j = k} ge))
    ]

pub slot_ref_there : (home : HomeView) (index power at : ℕ) (tag : SegmentTag) (slots : ℕ) → power ≤ index → index < 2 * power
    → at ≡ index - power
    → IsSegment home (power + at / 4096 * 4096) (min (power + at / 4096 * 4096) 4096) tag slots → IsSlotRefOf home index tag slots (at % 4096)
slot_ref_there home index power at tag slots low high is segment =
    let p : at / 4096 * 4096 + at % 4096 ≡ at = div-add-mod' at 4096 in
    let small : at % 4096 < 4096 = mod-lt at (omega arith) in
    record {
      of_map = segment.of_map;
      index_is = omega (arith, segment.from);
      within = omega (arith, segment.count_is);
    }

pub some_then : {X : Type 0} (o : Option X) (P Q : X → Type 0) → ((x : X) → P x → Q x) → IfSome o P → IfSome o Q
some_then (Some x) P Q f p = f x p
some_then None P Q f p = tt

-- a class at the remainder of a hash covers it
pub covers_at : (c : ClassView) (hash index exponent : ℕ) → c ≡ class_at index exponent → index ≡ hash % 2 ^ exponent → covers c hash ≡ true
covers_at c hash index exponent is at = subst (λ (x : ClassView). covers x hash ≡ true) (sym is) (eq-eqb _ _ (sym at))

-- one more slot
pub segments_push : (home : HomeView) (first : ℕ) (slots more : List Named) (slot : Named) → more ≡ slots ++ slot ∷ []
    → length more ≡ length slots + 1
    → IsSlotFrom home (first + length slots * 4096) slot → AreSlotsOfSegments home first slots → AreSlotsOfSegments home first more
segments_push home first slots more slot is long of all j d lt = subst (λ (l : List Named). IsSlotFrom home (first + j * 4096) (get_or l j d)) (sym is)
    (elim (cases_lt j (length slots)) [
      | inl l ↦ subst (IsSlotFrom home (first + j * 4096)) (sym (get_or_append_left slots (slot ∷ []) d j l)) (all j d l)
      | inr ge ↦ (let same : j ≡ length slots = omega arith in
          subst (λ (x : ℕ). IsSlotFrom home (first + x * 4096) (get_or (slots ++ slot ∷ []) x d)) (sym same)
          (subst (IsSlotFrom home (first + length slots * 4096)) (sym (get_or-append_seam slots slot [] d)) of))
    ])

pub tables_push : (home : HomeView) (slots more : List Named) (slot : Named) → more ≡ slots ++ slot ∷ [] → length more ≡ length slots + 1
    → IsSlotFrom home (2 ^ length slots) slot → AreSlotsOfTables home slots → AreSlotsOfTables home more
tables_push home slots more slot is long of all j d lt = subst (λ (l : List Named). IsSlotFrom home (2 ^ j) (get_or l j d)) (sym is)
    (elim (cases_lt j (length slots)) [
      | inl l ↦ subst (IsSlotFrom home (2 ^ j)) (sym (get_or_append_left slots (slot ∷ []) d j l)) (all j d l)
      | inr ge ↦ (let same : j ≡ length slots = omega arith in
          subst (λ (x : ℕ). IsSlotFrom home (2 ^ x) (get_or (slots ++ slot ∷ []) x d)) (sym same)
          (subst (IsSlotFrom home (2 ^ length slots)) (sym (get_or-append_seam slots slot [] d)) of))
    ])
