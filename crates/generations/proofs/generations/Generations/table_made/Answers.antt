use Rattle.std.proofs.Common.{◌≡◌, ◌^◌, ℕ, subst, sym}
use Rattle.generations.specs.Generations.{IsTable}
use Rattle.bin_layout.proofs.Sizes.{exponent_is, size_pos}
use Rattle.generations.proofs.generations.Generations.table_made.Goals as goal

pub ilog2-exponent-requires : goal.ilog2-exponent-requires
ilog2-exponent-requires g c = size_pos c.args.size c.requires.size

pub keep_table-requires : goal.keep_table-requires
keep_table-requires g c =
    let is : 2 ^ c.ilog2-exponent.result ≡ c.args.size = exponent_is c.args.size c.ilog2-exponent.result c.requires.size
    c.ilog2-exponent.ensures.power_le c.ilog2-exponent.ensures.next_power_gt in
    subst (λ (n : ℕ). IsTable c.args.self.now n c.in_ok-places.places.items) (sym is) c.in_ok-places.ensures

pub returns-in-Some : goal.returns-in-Some
returns-in-Some g c =
    let is : 2 ^ c.ilog2-exponent.result ≡ c.args.size = exponent_is c.args.size c.ilog2-exponent.result c.requires.size
    c.ilog2-exponent.ensures.power_le c.ilog2-exponent.ensures.next_power_gt in
    subst (λ (n : ℕ). IsTable c.args.self.now n c.in-Some.places.now.items) is c.in-Some.ensures

pub returns-in-Some-table : goal.returns-in-Some-table
returns-in-Some-table g c =
    let is : 2 ^ c.ilog2-exponent.result ≡ c.args.size = exponent_is c.args.size c.ilog2-exponent.result c.requires.size
    c.ilog2-exponent.ensures.power_le c.ilog2-exponent.ensures.next_power_gt in
    subst (λ (n : ℕ). IsTable c.args.self.now n c.in-Some-table.places.now.items) is c.in-Some-table.ensures
