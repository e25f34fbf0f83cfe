use Rattle.std.proofs.Common.{◌≡◌, ℕ, ◌^◌, ◌∙◌, List, length, slice_index_or, ap, sym, subst, arith}
use Rattle.boxcar.specs.Slot.{Named}
use Rattle.bin_layout.specs.Names.{home_named}
use Rattle.bin_layout.specs.Views.{HomeView}
use Rattle.generations.specs.Generations.{IsTable, size_named}
use Rattle.generations.proofs.generations.Generations.keep_table.Goals as goal

pub set_written-requires : goal.set_written-requires
set_written-requires g c =
    let slots : List Named = c.self.inside.tables.items in
    let slot : Named = c.in-Some.slot.now in
    let (found, at, some, below, holds) = c.in-Some.ensures.lookup in
    let seen : c.deref.result.now ≡ slots = c.deref.ensures.value in
    let named : slot ≡ slice_index_or slots c.args.exponent slot =
    at ∙ ap (λ (l : List Named). slice_index_or l c.args.exponent slot) seen in
    let many = ap (λ (l : List Named). length l) seen in
    let of = c.self.invariant.slots_are.by_exponent c.args.exponent slot
    (omega (arith, below, c.self.invariant.slots_are.count, many)) in
    let of_map : home_named slot.tag ≡ c.args.self.now =
    ap (λ (s : Named). home_named s.tag) named ∙ of.of_map ∙ c.self.view_is in
    let of_size : size_named slot.tag ≡ 2 ^ c.args.exponent =
    ap (λ (s : Named). size_named s.tag) named ∙ of.of_size in
    subst (λ (home : HomeView). IsTable home (size_named slot.tag) c.args.places.items) (sym of_map)
    (subst (λ (n : ℕ). IsTable c.args.self.now n c.args.places.items) (sym of_size) c.requires)
