use Rattle.bin_history.proofs.Keys.{key_tells}
use Rattle.bin_entries.proofs.Leans.{low_part, high_part, IsLeanChain-part}
use Rattle.bin_history.proofs.lean.LeanBin.split.Goals as goal

pub of_chain-requires : goal.of_chain-requires
of_chain-requires g c =
    let tells = key_tells g.met.K.Eq.laws g.met.K.HashKey.equal_is_same in
    let is = rw (c.self.invariant.0, c.self.invariant.1) at c.into_chain.ensures.chain in
    let low = low_part g.K.PartialEq.eq tells g.K.HashKey.code _ _ _ _ is _ c.split-first.ensures.first in
    IsLeanChain-part g.K.PartialEq.eq tells g.K.HashKey.code _ _ _ _ is _ low c.split-first.ensures.first_hashed

pub of_chain-requires-2 : goal.of_chain-requires-2
of_chain-requires-2 g c =
    let tells = key_tells g.met.K.Eq.laws g.met.K.HashKey.equal_is_same in
    let is = rw (c.self.invariant.0, c.self.invariant.1) at c.into_chain.ensures.chain in
    let high = high_part g.K.PartialEq.eq tells g.K.HashKey.code _ _ _ _ is _ _ c.halves-low.ensures.one c.halves-low.ensures.apart
    c.split-first.ensures.second in
    IsLeanChain-part g.K.PartialEq.eq tells g.K.HashKey.code _ _ _ _ is _ high c.split-first.ensures.second_hashed

pub returns-clause-low : goal.returns-clause-low
returns-clause-low g c =
    let tells = key_tells g.met.K.Eq.laws g.met.K.HashKey.equal_is_same in
    let is = rw (c.self.invariant.0, c.self.invariant.1) at c.into_chain.ensures.chain in
    let low = low_part g.K.PartialEq.eq tells g.K.HashKey.code _ _ _ _ is _ c.split-first.ensures.first in
    rw (c.of_chain.ensures, ← c.self.view_is, c.self.invariant.0, ← c.into_chain.ensures.entries) low

pub returns-clause-high : goal.returns-clause-high
returns-clause-high g c =
    let tells = key_tells g.met.K.Eq.laws g.met.K.HashKey.equal_is_same in
    let is = rw (c.self.invariant.0, c.self.invariant.1) at c.into_chain.ensures.chain in
    let high = high_part g.K.PartialEq.eq tells g.K.HashKey.code _ _ _ _ is _ _ c.halves-low.ensures.one c.halves-low.ensures.apart
    c.split-first.ensures.second in
    rw (c.of_chain-2.ensures, ← c.self.view_is, c.self.invariant.0, ← c.into_chain.ensures.entries) high
