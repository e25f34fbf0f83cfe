use Rattle.std.proofs.Common.{◌≡◌, true, List, get_or, ap, sym, subst, ◌∙◌}
use Rattle.hashkeys.specs.Classes.{covers}
use Rattle.hashkeys.specs.Hashing.{hash_of}
use Rattle.hashkeys.specs.declared.hashing.Salt.{Salt}
use Rattle.bin_history.specs.Calls.{after}
use Rattle.bin_history.specs.Entries.{lookup}
use Rattle.bin_history.specs.Lawful.{BinView}
use Rattle.bin_history.proofs.Keys.{key_tells}
use Rattle.chm.specs.Headline.{entries_of}
use Rattle.chm.specs.Views.{bins_of}
use Rattle.chm.proofs.Closing.{salts_of_bins}
use Rattle.chm.proofs.Homes.{value_at}
use Rattle.chm.proofs.Searching.{told}
use Rattle.chm.proofs.closed.quiet.Quiet.get_as.Goals as goal

pub get_as-requires : goal.get_as-requires
get_as-requires g c =
    let q = c.args.self.now in
    let place = c.place_of-place.result in
    let bin = c.index-bins-place.result in
    let at : bin ≡ get_or q.bins place bin =
    c.index-bins-place.is ∙ ap (λ (l : List (BinView _ _ _)). get_or l place bin) c.bins.ensures in
    let salts = salts_of_bins g.K.PartialEq.eq (key_tells g.met.K.Eq.laws g.met.K.HashKey.equal_is_same)
    g.K.HashKey.code (after g.V.PartialEq.eq g.F.Remap.remapped g.F.Remap.merged)
    (bins_of (record { ledger = q.ledger; n = q.n })) q.bins q.roles c.lawful.ensures.with_roles in
    let own : bin.salt ≡ q.ledger.salt = ap (λ (b : BinView _ _ _). b.salt) at
    ∙ salts place bin c.place_of-place.ensures.within in
    record {
      hash = c.hash_of_as-hash.ensures.hash
          ∙ ap (λ (s : Salt). hash_of s (g.K.HashKey.code (g.Q.AsKey.stands_for c.args.query))) (c.salt.ensures ∙ sym own);
    }

pub returns : goal.returns
returns g c =
    let q = c.args.self.now in
    let key = g.Q.AsKey.stands_for c.args.query in
    let code = g.K.HashKey.code in
    let place = c.place_of-place.result in
    let bin = c.index-bins-place.result in
    let at : bin ≡ get_or q.bins place bin =
    c.index-bins-place.is ∙ ap (λ (l : List (BinView _ _ _)). get_or l place bin) c.bins.ensures in
    let hash : c.hash_of_as-hash.result ≡ hash_of q.ledger.salt (code key) =
    c.hash_of_as-hash.ensures.hash ∙ ap (λ (s : Salt). hash_of s (code key)) c.salt.ensures in
    let its : covers (get_or q.bins place bin).class (hash_of q.ledger.salt (code key)) ≡ true =
    subst (λ h. covers (get_or q.bins place bin).class h ≡ true) hash (c.place_of-place.ensures.covers bin) in
    let there : lookup g.K.PartialEq.eq (entries_of q.bins) key ≡ lookup g.K.PartialEq.eq
    (get_or q.bins place bin).entries key =
    value_at g.K.PartialEq.eq (key_tells g.met.K.Eq.laws g.met.K.HashKey.equal_is_same) code
    (after g.V.PartialEq.eq g.F.Remap.remapped g.F.Remap.merged)
    (bins_of (record { ledger = q.ledger; n = q.n })) q.bins q.roles place bin key c.lawful.ensures.with_roles
    c.place_of-place.ensures.within its (c.lawful.ensures.walk.each_hash (hash_of q.ledger.salt (code key))) in
    told c.get_as.result (lookup g.K.PartialEq.eq (entries_of q.bins) key)
    (c.get_as.ensures ∙ ap (λ (b : BinView _ _ _). lookup g.K.PartialEq.eq b.entries key) at ∙ sym there)
