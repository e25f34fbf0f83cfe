-- Calls, one after the other, with each entry that they took away counted.
use Rattle.std.proofs.Common.{◌≡◌, ℕ, Bool, true, false, Option, Some, None, is_some, List, [], ◌∷◌, ◌++◌, refl, sym, ap, subst}
use Rattle.std.proofs.Common.{All, ◌∙◌}
use Rattle.std.proofs.lemmas.List.Elements.{All-append, All-cons, All-nil}
use Rattle.bin_history.specs.Calls.{after, key_of}
use Rattle.bin_history.specs.Readiness.{call_to}
use Rattle.bin_history.specs.Records.{RecordView}
use Rattle.bin_history.specs.declared.call.Call.TheVariants.{Contains, Put}
use Rattle.bin_history.specs.declared.call.Reply.{Reply}
use Rattle.bin_history.specs.declared.call.Reply.TheVariants.{Value}
use Rattle.caches.specs.Caches.{HasCounted, IsAny, IsCalledOn, IsOfEnded, LeavesLive, gone_of, no_value, taken_by, taken_from}
use Rattle.caches.specs.Counted.{if_gone, with_eviction, with_evictions}
use Rattle.caches.specs.Entries.{same_entry}
use Rattle.caches.specs.declared.counts.CacheCounts.{CacheCounts}
use Rattle.caches.specs.declared.entry.CacheEntry.{CacheEntry}
use Rattle.caches.proofs.Evicted.{evicted_more, evicted_none, evicted_seen, in_reply, made_one, taken_append}
use Rattle.chm.proofs.Clearing.{made_more, made_none, made_seen}
use Rattle.chm.proofs.Giving.{reply_to}
use Rattle.count_ledger.specs.Fronts.{HasSeenMore}
use Rattle.count_ledger.specs.Views.{LedgerView, PassView}
use Rattle.functions.specs.declared.nothing.NoFunction.{NoFunction}

with_evictions_append : {E : Type 0} (xs ys : List E) (counts : CacheCounts)
    → with_evictions (xs ++ ys) counts ≡ with_evictions ys (with_evictions xs counts)
with_evictions_append [] ys counts = refl
with_evictions_append (x ∷ xs) ys counts = with_evictions_append xs ys (with_eviction counts)

-- an entry that a call took away, or none, as one that is gone
counts_gone : {K V : Type 0} (key : K) (before left : Option (CacheEntry V)) (counts : CacheCounts)
    → with_evictions (taken_from key before left []) counts ≡ if_gone (is_some (gone_of before left)) counts
counts_gone key None None counts = refl
counts_gone key None (Some y) counts = refl
counts_gone key (Some x) None counts = refl
counts_gone key (Some x) (Some y) counts = refl

counts_stays : {K V : Type 0} (key : K) (before : Option (CacheEntry V)) (counts : CacheCounts)
    → with_evictions (taken_from key before before []) counts ≡ counts
counts_stays key None counts = refl
counts_stays key (Some x) counts = refl

none_gone : {V : Type 0} (before : Option (CacheEntry V)) (put : CacheEntry V) (counts : CacheCounts)
    → if_gone (is_some (gone_of before (Some put))) counts ≡ counts
none_gone None put counts = refl
none_gone (Some x) put counts = refl

after_to : {K V : Type 0} (same_value : V → V → Bool) (key : K) (left before : Option (CacheEntry V))
    → after (same_entry same_value) no_value no_value (call_to {F = NoFunction} key left) before ≡ left
after_to same_value key None before = refl
after_to same_value key (Some x) before = refl

module _ {K V : Type 0} (Is : RecordView K (CacheEntry V) NoFunction → Type 0) where
  -- no call was made
  pub counted_none : (counts : CacheCounts) (p : PassView K (CacheEntry V) NoFunction) → HasCounted Is counts counts p p
  counted_none counts p = record { calls = []; each = All-nil Is; made = made_none p p refl; counted = refl }

  pub counted_same : (counts then : CacheCounts) (p q : PassView K (CacheEntry V) NoFunction) → then ≡ counts → q ≡ p
      → HasCounted Is counts then p q
  counted_same counts then p q is same = subst (λ (x : CacheCounts). HasCounted Is counts x p q) (sym is)
      (subst (λ (x : PassView K (CacheEntry V) NoFunction). HasCounted Is counts counts p x) (sym same) (counted_none counts p))

  pub counted_more : (a b c : CacheCounts) (p q r : PassView K (CacheEntry V) NoFunction) → HasCounted Is a b p q
      → HasCounted Is b c q r → HasCounted Is a c p r
  counted_more a b c p q r x y = record {
    calls = x.calls ++ y.calls;
    each = All-append Is x.calls y.calls x.each y.each;
    made = made_more x.calls y.calls p q r x.made y.made;
    counted = y.counted ∙ ap (with_evictions (taken_by y.calls)) x.counted
        ∙ sym (with_evictions_append (taken_by x.calls) (taken_by y.calls) a)
        ∙ ap (λ (l : List (K × V)). with_evictions l a) (sym (taken_append x.calls y.calls));
  }

  -- and then more was seen
  pub counted_seen : (a b : CacheCounts) (p q r : PassView K (CacheEntry V) NoFunction) → HasCounted Is a b p q
      → HasSeenMore q r → HasCounted Is a b p r
  counted_seen a b p q r x seen = record {
    calls = x.calls;
    each = x.each;
    made = made_seen x.calls p q r x.made seen;
    counted = x.counted;
  }

  all_any : (rs : List (RecordView K (CacheEntry V) NoFunction)) → All IsAny rs
  all_any [] = All-nil IsAny
  all_any (r ∷ rs) = All-cons IsAny r rs tt (all_any rs)

  -- whatever the calls were
  pub counted_any : (a b : CacheCounts) (p q : PassView K (CacheEntry V) NoFunction) → HasCounted Is a b p q
      → HasCounted IsAny a b p q
  counted_any a b p q x = record { calls = x.calls; each = all_any x.calls; made = x.made; counted = x.counted }

  module _ (same_key : K → K → Bool) (same_value : V → V → Bool) (ledger : LedgerView K (CacheEntry V)) (key : K)
      (old new : PassView K (CacheEntry V) NoFunction) (counts : CacheCounts) where
    -- a call that left this value, or none, at its key
    pub counted_call : (before left : Option (CacheEntry V))
        → IsCalledOn same_key same_value ledger (call_to key left) old new (Value before)
        → ((r : RecordView K (CacheEntry V) NoFunction) → r.before ≡ before → r.after ≡ left → Is r)
        → HasCounted Is counts (if_gone (is_some (gone_of before left)) counts) old new
    counted_call before left (front, r, is_front, made, found) is =
        let before_is : r.before ≡ before =
        sym (ap in_reply (made.reply_is ∙ reply_to NoFunction (same_entry same_value) key left r.before r.after)) in
        let after_is : r.after ≡ left = made.left ∙ after_to same_value key left r.before in
        record {
          calls = r ∷ [];
          each = All-cons Is r [] (is r before_is after_is) (All-nil Is);
          made = made_one (same_entry same_value) (call_to key left) old new (Value before) front r made is_front.seen;
          counted = sym (ap (λ (o : Option (CacheEntry V)). with_evictions (taken_from (key_of r.call) o r.after []) counts) before_is
              ∙ ap (λ (o : Option (CacheEntry V)). with_evictions (taken_from (key_of r.call) before o []) counts) after_is
              ∙ counts_gone (key_of r.call) before left counts);
        }

    -- a put
    pub counted_put : (before : Option (CacheEntry V)) (put : CacheEntry V)
        → IsCalledOn same_key same_value ledger (Put key put) old new (Value before)
        → ((r : RecordView K (CacheEntry V) NoFunction) → Is r) → HasCounted Is counts counts old new
    counted_put before put called is = subst (λ (c : CacheCounts). HasCounted Is counts c old new) (none_gone before put counts)
        (counted_call before (Some put) called (λ r _ _. is r))

    -- a look whether the key is there
    pub counted_look : (answer : Reply (CacheEntry V))
        → IsCalledOn same_key same_value ledger (Contains key) old new answer
        → ((r : RecordView K (CacheEntry V) NoFunction) → Is r) → HasCounted Is counts counts old new
    counted_look answer (front, r, is_front, made, found) is = record {
      calls = r ∷ [];
      each = All-cons Is r [] (is r) (All-nil Is);
      made = made_one (same_entry same_value) (Contains key) old new answer front r made is_front.seen;
      counted = sym (ap (λ (o : Option (CacheEntry V)). with_evictions (taken_from (key_of r.call) r.before o []) counts) made.left
          ∙ counts_stays (key_of r.call) r.before counts);
    }

-- a pass over an entry, by what it returned: what is gone, or none
pub pass_counted : {K V : Type 0} (Is : RecordView K (CacheEntry V) NoFunction → Type 0) (same_key : K → K → Bool)
    (same_value : V → V → Bool) (ledger : LedgerView K (CacheEntry V)) (key : K)
    (old new : PassView K (CacheEntry V) NoFunction) (counts then : CacheCounts) (before left : Option (CacheEntry V))
    (answer told : Option V) → answer ≡ gone_of before left → answer ≡ told → then ≡ if_gone (is_some told) counts
    → IsCalledOn same_key same_value ledger (call_to key left) old new (Value before)
    → ((r : RecordView K (CacheEntry V) NoFunction) → r.before ≡ before → r.after ≡ left → Is r)
    → HasCounted Is counts then old new
pass_counted Is same_key same_value ledger key old new counts then before left answer told gone is so called each =
    let same : if_gone (is_some (gone_of before left)) counts ≡ then =
    ap (λ (o : Option _). if_gone (is_some o) counts) (sym gone ∙ is) ∙ sym so in
    subst (λ (c : CacheCounts). HasCounted Is counts c old new) same
    (counted_call Is same_key same_value ledger key old new counts before left called each)

-- what is so of the values before and after a call, as it is of these
pub of_ended : {K V : Type 0} (time : ℕ) (before left : Option (CacheEntry V)) → LeavesLive time before left
    → (r : RecordView K (CacheEntry V) NoFunction) → r.before ≡ before → r.after ≡ left → IsOfEnded time r
of_ended time before left live r before_is after_is =
    subst (λ (o : Option (CacheEntry _)). LeavesLive time o r.after) (sym before_is)
    (subst (λ (o : Option (CacheEntry _)). LeavesLive time before o) (sym after_is) live)

module _ {K V : Type 0} (Is : RecordView K (CacheEntry V) NoFunction → Type 0) where
  -- more was seen, and nothing was counted
  pub counted_still : (a b c : CacheCounts) (p q r : PassView K (CacheEntry V) NoFunction) → HasCounted Is a b p q → c ≡ b
      → HasSeenMore q r → HasCounted Is a c p r
  counted_still a b c p q r x is seen = subst (λ (z : CacheCounts). HasCounted Is a z p r) (sym is)
      (counted_seen Is a b p q r x seen)

  -- and then calls were made
  pub counted_then : (a b c d : CacheCounts) (p q r s : PassView K (CacheEntry V) NoFunction) → HasCounted Is a b p q → c ≡ b
      → HasSeenMore q r → HasCounted Is c d r s → HasCounted Is a d p s
  counted_then a b c d p q r s x is seen y = counted_more Is a c d p r s (counted_still a b c p q r x is seen) y

  -- and then a call was made, which is told
  pub counted_told : (a b n : CacheCounts) (is_gone : Bool) (p q r : PassView K (CacheEntry V) NoFunction) → HasCounted Is a b p q
      → n ≡ if_gone is_gone b → HasCounted Is b (if_gone is_gone b) q r → HasCounted Is a n p r
  counted_told a b n is_gone p q r x is y = subst (λ (z : CacheCounts). HasCounted Is a z p r) (sym is)
      (counted_more Is a b (if_gone is_gone b) p q r x y)

-- calls after calls, and what they took away
pub ruleset counts = (counted_none, counted_more, counted_seen, evicted_none, evicted_more, evicted_seen)
