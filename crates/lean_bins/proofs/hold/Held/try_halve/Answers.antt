use Rattle.std.proofs.Common.{◌≡◌, ℕ, ◌+◌, ◌^◌, ◌<◌, ap, sym, refl, ◌∙◌, arith}
use Rattle.hashkeys.specs.Classes.{ClassView, low_half, high_half}
use Rattle.bin_history.specs.Calls.{after}
use Rattle.bin_history.proofs.Keys.{key_tells}
use Rattle.bin_layout.proofs.Places.{AreAt-half}
use Rattle.bin_layout.specs.Views.{HomeView, place_of}
use Rattle.lean_bins.specs.Segments.{home_of}
use Rattle.lean_bins.proofs.Halves.{low_is, high_is, half_place, wider, half_index}
use Rattle.lean_bins.proofs.SlotRefs.{exponent_few}
use Rattle.lean_bins.proofs.hold.Held.try_halve.Goals as goal

few : (e n : ℕ) → n ≡ 2 ^ e → n < 67108864 → e < 26
few e n is lt = exponent_few e n (omega arith) lt

size : (b p : ClassView) (e : ℕ) → b ≡ p → p.n ≡ 2 ^ e → b.n ≡ 2 ^ e
size b p e is at = ap (λ (c : ClassView). c.n) is ∙ at

pub try_slot_ref_for-requires : goal.try_slot_ref_for-requires
try_slot_ref_for-requires g c =
    let own : c.class-class.result ≡ c.args.self.bin.class = c.class-class.ensures in
    let below = half_index c.class-class.result c.n.ensures.class
    (omega (arith, c.requires.size, ap (λ (k : ClassView). k.n) own)) in
    omega (arith, below, c.index.ensures, c.n.ensures.value)

pub overflow_add-index : goal.overflow_add-index
overflow_add-index g c =
    let own : c.class-class.result ≡ c.args.self.bin.class = c.class-class.ensures in
    let below = half_index c.class-class.result c.n.ensures.class
    (omega (arith, c.requires.size, ap (λ (k : ClassView). k.n) own)) in
    omega (arith, below, c.index.ensures, c.n.ensures.value)

pub overflow_add-exponent : goal.overflow_add-exponent
overflow_add-exponent g c =
    let f = few c.args.self.place.exponent c.args.self.bin.class.n
    (size c.args.self.bin.class c.args.self.place.class c.args.self.place.exponent c.requires.at.class
    c.args.self.place.from.size_is) c.requires.size in
    omega (arith, f)

pub overflow_add-exponent-2 : goal.overflow_add-exponent-2
overflow_add-exponent-2 g c =
    let f = few c.args.self.place.exponent c.args.self.bin.class.n
    (size c.args.self.bin.class c.args.self.place.class c.args.self.place.exponent c.requires.at.class
    c.args.self.place.from.size_is) c.requires.size in
    omega (arith, f)

pub give_back-requires-clause-at : goal.give_back-requires-clause-at
give_back-requires-clause-at g c =
    let same = g.K.PartialEq.eq in
    let code = g.K.HashKey.code in
    let after_is = after g.V.PartialEq.eq g.F.Remap.remapped g.F.Remap.merged in
    let place = c.args.self.place in
    let home = place.home.now in
    let bin = c.args.self.bin in
    let wide : bin.class.n ≡ 2 ^ place.exponent =
    size bin.class place.class place.exponent c.requires.at.class place.from.size_is in
    let slot_ref = c.in-Ok.ensures in
    let tag = c.in-Some.other.rows.now.table.shared.key.tag in
    let at = c.in-Some.other.at in
    let of : home_of tag ≡ home =
    ap (λ now. home_of now.table.shared.key.tag) c.in-Some.ensures.rows ∙ slot_ref.of_map in
    let own : c.class-class.result ≡ bin.class = c.class-class.ensures in
    let index : bin.class.index + bin.class.n ≡ tag.first + at =
    omega (
      arith,
      ap (λ now. now.table.shared.key.tag.first) c.in-Some.ensures.rows,
      c.in-Some.ensures.at,
      slot_ref.index_is,
      c.index.ensures,
      c.n.ensures.value,
      ap (λ (k : ClassView). k.index) own,
      ap (λ (k : ClassView). k.n) own,
    ) in
    AreAt-half same after_is (key_tells g.met.K.Eq.laws g.met.K.HashKey.equal_is_same) code
    home (place_of home place.class) _ bin c.in-Ok-split.high c.args.self.role c.divide-low_role.result.1 high_half
    c.requires.at (record { form = refl; salt = refl; ledger = refl; least = place.from.least })
    c.in-Ok-split.ensures.high_class c.in-Ok-split.ensures.high c.divide-low_role.ensures.high
    (half_place home (high_half bin.class) (place.exponent + 1) tag at of
    (high_is bin.class place.exponent (tag.first + at) wide index))

pub give_back-requires-2-clause-at : goal.give_back-requires-2-clause-at
give_back-requires-2-clause-at g c =
    let same = g.K.PartialEq.eq in
    let code = g.K.HashKey.code in
    let after_is = after g.V.PartialEq.eq g.F.Remap.remapped g.F.Remap.merged in
    let place = c.args.self.place in
    let home = place.home.now in
    let bin = c.args.self.bin in
    let wide : bin.class.n ≡ 2 ^ place.exponent =
    size bin.class place.class place.exponent c.requires.at.class place.from.size_is in
    let tag = place.inner.rows.now.table.shared.key.tag in
    let at = place.inner.at in
    let index : bin.class.index ≡ tag.first + at =
    ap (λ (k : ClassView). k.index) c.requires.at.class ∙ sym place.from.index_is in
    AreAt-half same after_is (key_tells g.met.K.Eq.laws g.met.K.HashKey.equal_is_same) code
    home (place_of home place.class) _ bin c.in-Ok-split.low c.args.self.role c.divide-low_role.result.0 low_half
    c.requires.at (record { form = refl; salt = refl; ledger = refl; least = place.from.least })
    c.in-Ok-split.ensures.low_class c.in-Ok-split.ensures.low c.divide-low_role.ensures.low
    (half_place home (low_half bin.class) (place.exponent + 1) tag at place.from.of_map
    (low_is bin.class place.exponent (tag.first + at) wide index))

pub give_back-requires-clause-least : goal.give_back-requires-clause-least
give_back-requires-clause-least g c =
    let place = c.args.self.place in
    omega (
      arith,
      ap (λ now. now.table.shared.key.tag.n) c.in-Some.ensures.rows,
      ap (λ (h : HomeView). h.n) c.in-Ok.ensures.of_map,
      wider place.home.now.n place.class.n place.exponent place.from.least place.from.size_is,
    )

pub give_back-requires-2-clause-least : goal.give_back-requires-2-clause-least
give_back-requires-2-clause-least g c =
    let place = c.args.self.place in
    omega (
      arith,
      ap (λ (h : HomeView). h.n) place.from.of_map,
      wider place.home.now.n place.class.n place.exponent place.from.least place.from.size_is,
    )
