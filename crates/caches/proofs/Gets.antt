-- A get puts nothing.
use Rattle.std.proofs.Common.{◌≡◌, ℕ, Bool, true, false, Option, Some, None, refl, sym, ap, subst}
use Rattle.bin_history.specs.declared.call.Call.TheVariants.{Put}
use Rattle.bin_history.specs.declared.call.Reply.TheVariants.{Value}
use Rattle.caches.proofs.Evicted.{in_reply, made_one, stays}
use Rattle.caches.specs.Caches.{HasPutNothing, IsAlike, IsCalledOn, IsFound, IsNotCopied, LeavesOrTakes, reply_of, use_of}
use Rattle.caches.specs.Entries.{is_live, same_entry, used_at, used_if}
use Rattle.caches.specs.declared.entry.CacheEntry.{CacheEntry}
use Rattle.count_ledger.specs.Views.{LedgerView, PassView}
use Rattle.functions.specs.declared.nothing.NoFunction.{NoFunction}

module _ {V : Type 0} where
  alike_if : (is_used : Bool) (e : CacheEntry V) → IsAlike e (used_if is_used e)
  alike_if true e = (refl, refl)
  alike_if false e = (refl, refl)

module _ {K V : Type 0} (same_key : K → K → Bool) (same_value : V → V → Bool) (ledger : LedgerView K (CacheEntry V)) (key : K)
    (old new : PassView K (CacheEntry V) NoFunction) where
  -- a put of an entry like the one that it found
  put_alike : (e put : CacheEntry V) → IsAlike e put
      → IsCalledOn same_key same_value ledger (Put key put) old new (Value (Some e)) → HasPutNothing old new
  put_alike e put alike (front, r, is_front, made, found) =
      let before_is : r.before ≡ Some e = sym (ap in_reply made.reply_is) in
      let after_is : r.after ≡ Some put = made.left in (
        r,
        made_one (same_entry same_value) (Put key put) old new (Value (Some e)) front r made is_front.seen,
        subst (λ (o : Option (CacheEntry V)). LeavesOrTakes o r.after) (sym before_is)
            (subst (λ (o : Option (CacheEntry V)). LeavesOrTakes (Some e) o) (sym after_is) alike),
      )

  pub found_nothing_put : (time : ℕ) (answer : Option V) → IsFound same_key same_value ledger key time old new answer
      → HasPutNothing old new
  found_nothing_put time answer (None, (front, r, is_front, made, found), is) = (
    r,
    made_one (same_entry same_value) (use_of time key None) old new (reply_of None) front r made is_front.seen,
    subst (λ (o : Option (CacheEntry V)). LeavesOrTakes r.before o) (sym made.left) (stays r.before),
  )
  found_nothing_put time answer (Some e, called, is) = put_alike e (used_at time e) (alike_if (is_live time e) e) called

  pub not_copied_nothing_put : IsNotCopied same_key same_value ledger key old new → HasPutNothing old new
  not_copied_nothing_put (e, called) = put_alike e e (refl, refl) called
