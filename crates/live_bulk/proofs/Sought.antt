-- What a search by all clients has come to.
use Rattle.std.proofs.Common.{ℕ, inl, inr, Bool, IfOk, List, Option, Some, None, Result, Ok, Err, refl}
use Rattle.bin_history.specs.declared.call.Call.{Call}
use Rattle.count_ledger.specs.Views.{LedgerView, PassView}
use Rattle.live_bulk.specs.Searches.{IsMore, IsProbed}
use Rattle.live_bulk.specs.Shared.{HaveGathered, IsFound, IsSought}
use Rattle.live_bulk.specs.declared.fault.LiveFault.{LiveFault}
use Rattle.live_bulk.specs.declared.searching.Probed.{Probed}
use Rattle.live_bulk.specs.declared.searching.Probed.TheVariants.{Found, Nothing}
use Rattle.live_bulk.proofs.Seen.{seen-as-before}

module _ {K V F U : Type 0} (same : K → K → Bool) (code : K → ℕ) (after : Call K V F → Option V → Option V)
    (probe : K → V → Option U) (ledger : LedgerView K V) where
  module _ (never : Bool) (may : Type 0) (olds news : List (PassView K V F)) where
    abbrev Gathered : Probed U → Type 0
    Gathered part = HaveGathered same code after (IsProbed probe never may) IsMore ledger olds news part

    pub sought-something : (u : U) → Gathered (Found u) → IsSought same code after probe ledger olds news (Some u)
    sought-something u g = (g.parts, g.visited, g.collected)

    pub sought-nothing : Gathered Nothing → IsSought same code after probe ledger olds news None
    sought-nothing g = (g.parts, elim g.whole [ inl e ↦ absurd e | inr shared ↦ shared ], g.collected)

    pub found-something : (u : U) → Gathered (Found u) → IsFound same code after probe ledger olds news (Some u)
    found-something u g = (olds, seen-as-before olds olds refl, sought-something u g)

    pub found-nothing : Gathered Nothing → IsFound same code after probe ledger olds news None
    found-nothing g = (olds, seen-as-before olds olds refl, sought-nothing g)

    -- a second search after one that was given up
    pub found-later : (part : Probed U) (last : List (PassView K V F)) (found : Option U) → Gathered part →
        IsSought same code after probe ledger news last found → IsFound same code after probe ledger olds last found
    found-later part last found g sought = (news, g.seen, sought)

    -- the same of what it returned
    pub found-later-ok : (part : Probed U) (last : List (PassView K V F)) (result : Result (Option U) LiveFault) →
        Gathered part → IfOk result (IsSought same code after probe ledger news last) →
        IfOk result (IsFound same code after probe ledger olds last)
    found-later-ok part last (Ok found) g sought = found-later part last found g sought
    found-later-ok part last (Err fault) g sought = tt
