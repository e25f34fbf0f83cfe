use Rattle.std.proofs.Common.{◌*◌, ◌%◌, ℕ, sym, ap, ◌∙◌, rules}
use Rattle.std.specs.Int.Bits.{bit_xor}
use Rattle.seeded_keys.specs.Mixing.{unmixed}
use Rattle.seeded_keys.proofs.Back.{back}
use Rattle.seeded_keys.proofs.number_seed.NumberSeed.unmix.Goals as goal

pub returns-clause-back : goal.returns-clause-back
returns-clause-back c number small mixed_is =
    let seed = c.args.self.now in
    ap (λ (x : ℕ). bit_xor (x * seed.inverse % 18446744073709551616) seed.offset) c.folded.ensures
    ∙ ap (unmixed seed) (sym mixed_is)
    ∙ back seed (search rules) (search rules) number small
