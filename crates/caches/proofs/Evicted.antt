-- Calls that put nothing, one after the other, and what was handed over.
use Rattle.std.proofs.Common.{◌≡◌, Bool, Option, Some, None, List, [], ◌∷◌, ◌++◌, refl, sym, ap, subst, ◌∙◌}
use Rattle.std.proofs.lemmas.List.Elements.{All-append, All-cons, All-nil}
use Rattle.std.specs.List.{FoldsTo}
use Rattle.bin_history.specs.Calls.{key_of}
use Rattle.bin_history.specs.Records.{RecordView}
use Rattle.bin_history.specs.declared.call.Call.{Call}
use Rattle.bin_history.specs.declared.call.Call.TheVariants.{Contains}
use Rattle.bin_history.specs.declared.call.Reply.{Reply}
use Rattle.bin_history.specs.declared.call.Reply.TheVariants.{Truth, Value}
use Rattle.caches.specs.Caches.{HasEvicted, IsCalledOn, IsHanded, LeavesOrTakes, PutsNothing, no_value, taken_by}
use Rattle.caches.specs.Caches.{taken_from}
use Rattle.caches.specs.Entries.{same_entry}
use Rattle.caches.specs.declared.entry.CacheEntry.{CacheEntry}
use Rattle.chm.proofs.Clearing.{made_more, made_none, made_seen}
use Rattle.chm.specs.Cleared.{HasMade}
use Rattle.chm.specs.Headline.{IsMade}
use Rattle.count_ledger.proofs.Fronts.{BeginsWith-push}
use Rattle.count_ledger.specs.Fronts.{BeginsWith, HasSeenMore}
use Rattle.count_ledger.specs.Views.{LedgerView, PassView}
use Rattle.functions.specs.declared.nothing.NoFunction.{NoFunction}

module _ {V : Type 0} where
  -- what is left as it is
  pub stays : (before : Option (CacheEntry V)) → LeavesOrTakes before before
  stays None = tt
  stays (Some x) = (refl, refl)

  -- the value of a reply
  abbrev pub in_reply : Reply (CacheEntry V) → Option (CacheEntry V)
  in_reply (Value value) = value
  in_reply (Truth truth) = None

module _ {K V : Type 0} where
  taken_from_append : (key : K) (before after : Option (CacheEntry V)) (xs ys : List (K × V))
      → taken_from key before after (xs ++ ys) ≡ taken_from key before after xs ++ ys
  taken_from_append key (Some x) None xs ys = refl
  taken_from_append key None None xs ys = refl
  taken_from_append key None (Some y) xs ys = refl
  taken_from_append key (Some x) (Some y) xs ys = refl

  pub taken_append : (rs ss : List (RecordView K (CacheEntry V) NoFunction)) → taken_by (rs ++ ss) ≡ taken_by rs ++ taken_by ss
  taken_append [] ss = refl
  taken_append (r ∷ rs) ss = ap (λ (l : List (K × V)). taken_from (key_of r.call) r.before r.after l) (taken_append rs ss)
      ∙ taken_from_append (key_of r.call) r.before r.after (taken_by rs) (taken_by ss)

  takes_none : (key : K) (before : Option (CacheEntry V)) → taken_from key before before [] ≡ []
  takes_none key None = refl
  takes_none key (Some x) = refl

  -- a pass that made one call, as calls that it made
  pub made_one : (same_value : CacheEntry V → CacheEntry V → Bool) (call : Call K (CacheEntry V) NoFunction)
      (old new : PassView K (CacheEntry V) NoFunction) (answer : Reply (CacheEntry V))
      (front : List (RecordView K (CacheEntry V) NoFunction)) (r : RecordView K (CacheEntry V) NoFunction)
      → IsMade same_value no_value no_value call old new answer front r → BeginsWith front old.seen
      → HasMade (r ∷ []) old new
  made_one same_value call old new answer front r made begins = record {
    seen = subst (λ (p : PassView K (CacheEntry V) NoFunction). BeginsWith p.seen old.seen) (sym made.pass)
        (BeginsWith-push front old.seen r begins);
    pass = made.pass
        ∙ ap (λ (s : List (RecordView K (CacheEntry V) NoFunction)). record old { made = old.made ++ r ∷ []; seen = s })
        (sym (ap (λ (p : PassView K (CacheEntry V) NoFunction). p.seen) made.pass));
  }

module _ {G K V : Type 0} (step : G → K → V → Unit {0} → G → Type 0) where
  folds_more : (f g h : G) (xs ys : List (K × V)) → FoldsTo (IsHanded step) f xs g → FoldsTo (IsHanded step) g ys h
      → FoldsTo (IsHanded step) f (xs ++ ys) h
  folds_more f g h [] ys a b = subst (λ (x : G). FoldsTo (IsHanded step) x ys h) (sym a) b
  folds_more f g h (x ∷ xs) ys a b = (a.0, a.1, folds_more a.0 g h xs ys a.2 b)

  -- no call was made
  pub evicted_none : (f : G) (p : PassView K (CacheEntry V) NoFunction) → HasEvicted step f f p p
  evicted_none f p = record { calls = []; nothing = All-nil PutsNothing; made = made_none p p refl; handed = refl }

  pub evicted_same : (f g : G) (p q : PassView K (CacheEntry V) NoFunction) → g ≡ f → q ≡ p → HasEvicted step f g p q
  evicted_same f g p q f_is p_is = subst (λ (x : G). HasEvicted step f x p q) (sym f_is)
      (subst (λ (x : PassView K (CacheEntry V) NoFunction). HasEvicted step f f p x) (sym p_is) (evicted_none f p))

  pub evicted_more : (f g h : G) (p q r : PassView K (CacheEntry V) NoFunction) → HasEvicted step f g p q
      → HasEvicted step g h q r → HasEvicted step f h p r
  evicted_more f g h p q r a b = record {
    calls = a.calls ++ b.calls;
    nothing = All-append PutsNothing a.calls b.calls a.nothing b.nothing;
    made = made_more a.calls b.calls p q r a.made b.made;
    handed = subst (λ (l : List (K × V)). FoldsTo (IsHanded step) f l h) (sym (taken_append a.calls b.calls))
        (folds_more f g h (taken_by a.calls) (taken_by b.calls) a.handed b.handed);
  }

  -- and then more was seen
  pub evicted_seen : (f g : G) (p q r : PassView K (CacheEntry V) NoFunction) → HasEvicted step f g p q → HasSeenMore q r
      → HasEvicted step f g p r
  evicted_seen f g p q r a seen = record {
    calls = a.calls;
    nothing = a.nothing;
    made = made_seen a.calls p q r a.made seen;
    handed = a.handed;
  }

  -- more was seen, and then calls were made
  pub evicted_then : (f g h : G) (p q r s : PassView K (CacheEntry V) NoFunction) → HasEvicted step f g p q
      → HasSeenMore q r → HasEvicted step g h r s → HasEvicted step f h p s
  evicted_then f g h p q r s a seen b = evicted_more f g h p r s (evicted_seen f g p q r a seen) b

  module _ (same_key : K → K → Bool) (same_value : V → V → Bool) (ledger : LedgerView K (CacheEntry V)) (key : K)
      (old new : PassView K (CacheEntry V) NoFunction) where
    -- a look whether the key is there
    pub evicted_look : (f : G) (answer : Reply (CacheEntry V))
        → IsCalledOn same_key same_value ledger (Contains key) old new answer → HasEvicted step f f old new
    evicted_look f answer (front, r, is_front, made, found) =
        let left : r.after ≡ r.before = made.left in
        let taken : taken_by (r ∷ []) ≡ [] =
        ap (λ (o : Option (CacheEntry V)). taken_from (key_of r.call) r.before o []) left
        ∙ takes_none (key_of r.call) r.before in
        record {
          calls = r ∷ [];
          nothing = All-cons PutsNothing r []
              (subst (λ (o : Option (CacheEntry V)). LeavesOrTakes r.before o) (sym left) (stays r.before)) (All-nil PutsNothing);
          made = made_one (same_entry same_value) (Contains key) old new answer front r made is_front.seen;
          handed = subst (λ (l : List (K × V)). FoldsTo (IsHanded step) f l f) (sym taken) refl;
        }

-- calls after calls
pub ruleset evictions = (evicted_none, evicted_more, evicted_seen)
