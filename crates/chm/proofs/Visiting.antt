-- What the visits of a walk show.
use Rattle.std.proofs.Common.{◌≡◌, ℕ, ◌<◌, ◌==◌, Bool, true, Option, List, [], ◌∷◌}
use Rattle.std.proofs.Common.{◌++◌, map, All, refl, sym, ap, subst, ◌∙◌}
use Rattle.std.proofs.Common.{arith}
use Rattle.std.proofs.Common.{Decides}
use Rattle.std.proofs.lemmas.Bool.Decides.{nat_tests}
use Rattle.std.proofs.lemmas.List.{map-append}
use Rattle.std.proofs.lemmas.List.Elements.{All-head, All-tail, All-nil, All-cons}
use Rattle.hashkeys.specs.Classes.{covers, is_of}
use Rattle.hashkeys.specs.Hashing.{hash_of}
use Rattle.bin_history.specs.Clients.{by_client}
use Rattle.bin_history.specs.Entries.{HasDistinctKeys, replay}
use Rattle.bin_history.specs.Part.{part_of_entries}
use Rattle.bin_history.specs.declared.call.Call.{Call}
use Rattle.bin_history.specs.Records.{RecordView}
use Rattle.bin_history.proofs.Parts.{replay-part}
use Rattle.count_ledger.specs.Fronts.{IsFront, HasSeen, HasSeenMore}
use Rattle.count_ledger.specs.Views.{LedgerView, PassView}
use Rattle.count_ledger.proofs.Fronts.{BeginsWith-all, BeginsWith-more}
use Rattle.bin_layout.specs.BinsWithRoles.{IsBinWithRole}
use Rattle.bin_layout.specs.Views.{HomeView}
use Rattle.chm.specs.Views.{MapView, bins_of}
use Rattle.bin_store.specs.Glances.{IsGlanced}
use Rattle.chm.specs.Visits.{VisitView, classes_of_visits, shown_by, AreVisited, AreVisits, IsVisit, IsOwn, IsShown}
use Rattle.chm.proofs.Homes.{OwnsItsKeys, distinct_all}

-- all records are the only client's
only_client : {K V F : Type 0} (c : ℕ) (rs : List (RecordView K V F)) → c < 1 → All (λ r. r.client < 1) rs →
    by_client c rs ≡ rs
only_client c [] l h = refl
only_client {K} {V} {F} c (r ∷ rs) l h =
    let P : RecordView K V F → Type 0 = λ x. x.client < 1 in
    let its : (r.client == c) ≡ true = let first = All-head P r rs h in grind (arith, nat_tests) in
    rw its (ap (λ (xs : List (RecordView K V F)). r ∷ xs) (only_client c rs l (All-tail P r rs h)))

-- the pass has seen more and more
pub HasSeenMore-same : {K V F : Type 0} (old new : PassView K V F) → new ≡ old → HasSeenMore old new
HasSeenMore-same old new is = subst (λ (p : PassView _ _ _). HasSeenMore old p) (sym is)
    (record { seen = BeginsWith-all old.seen; pass = refl })

pub HasSeenMore-more : {K V F : Type 0} (old mid new : PassView K V F) → HasSeenMore old mid → HasSeenMore mid new →
    HasSeenMore old new
HasSeenMore-more {K} {V} {F} old mid new a b = record {
  seen = BeginsWith-more new.seen mid.seen old.seen b.seen a.seen;
  pass = b.pass ∙ ap (λ (p : PassView K V F). record p { seen = new.seen }) a.pass;
}

module _ {K V F : Type 0} (same : K → K → Bool) (after : Call K V F → Option V → Option V) (ledger : LedgerView K V)
  where
    pub HasSeenMore-seen : (old new : PassView K V F) → HasSeen same after ledger old new → HasSeenMore old new
    HasSeenMore-seen old new s = record { seen = s.front.seen; pass = s.pass }

    -- with one client a front has the client's own calls and no others
    own_front : (pass : PassView K V F) (front : List (RecordView K V F)) → ledger.clients ≡ 1 →
        IsFront same after ledger pass front → front ≡ pass.made
    own_front pass front one f =
        let few : All (λ r. r.client < 1) front = rw (← one) f.clients in
        let mine : pass.client < 1 = (let l = f.client in omega arith) in
        sym (only_client pass.client front mine few) ∙ f.own

    module _ (tells : (x y : K) → Decides (same x y) (x ≡ y)) (code : K → ℕ) where
      pub IsOwn-visit : (pass : PassView K V F) (front : List (RecordView K V F)) (v : VisitView K V) →
          ledger.clients ≡ 1 → IsFront same after ledger pass front → IsVisit same code ledger front v →
          IsOwn same code ledger pass v
      IsOwn-visit pass front v one f visit =
          visit.entries
          ∙ ap (λ (rs : List (RecordView K V F)).
          part_of_entries (is_of code ledger.salt v.class) (replay same ledger.opening rs)) (own_front pass front one f)
          ∙ sym (replay-part same tells (is_of code ledger.salt v.class) ledger.opening pass.made)

      -- one visit more
      pub AreVisited-push : (old mid new : PassView K V F) (vs : List (VisitView K V)) (v : VisitView K V) →
          AreVisited same code after ledger old vs mid → HasSeen same after ledger mid new →
          IsVisit same code ledger new.seen v → AreVisited same code after ledger old (vs ++ v ∷ []) new
      AreVisited-push old mid new [] v are seen visit =
          (new, subst (λ (p : PassView K V F). HasSeen same after ledger p new) are seen, visit, refl)
      AreVisited-push old mid new (w ∷ ws) v (m, s, i, rest) seen visit =
          (m, s, i, AreVisited-push m mid new ws v rest seen visit)

      -- after visits the pass has seen more
      pub AreVisited-seen : (old new : PassView K V F) (vs : List (VisitView K V)) →
          AreVisited same code after ledger old vs new → HasSeenMore old new
      AreVisited-seen old new [] are = HasSeenMore-same old new are
      AreVisited-seen old new (w ∷ ws) (m, s, i, rest) =
          HasSeenMore-more old m new (HasSeenMore-seen old m s) (AreVisited-seen m new ws rest)

      -- with one client visits show the client's own calls
      pub visits_own : (old new : PassView K V F) (vs : List (VisitView K V)) → ledger.clients ≡ 1 →
          AreVisited same code after ledger old vs new → All (IsOwn same code ledger old) vs
      visits_own old new [] one are = All-nil (IsOwn same code ledger old)
      visits_own old new (w ∷ ws) one (m, s, i, rest) =
          All-cons (IsOwn same code ledger old) w ws (IsOwn-visit old m.seen w one s.front i)
          (subst (λ (p : PassView K V F). All (IsOwn same code ledger p) ws) s.pass (visits_own m new ws one rest))

      abbrev Own : VisitView K V → Type 0
      Own = OwnsItsKeys same tells (λ k. hash_of ledger.salt (code k)) (λ (v : VisitView K V). v.class) (λ v. v.entries)

      each_own : (old new : PassView K V F) (vs : List (VisitView K V)) → AreVisited same code after ledger old vs new →
          All Own vs
      each_own old new [] are = All-nil Own
      each_own old new (w ∷ ws) (m, s, i, rest) = All-cons Own w ws (i.distinct, i.of_class) (each_own m new ws rest)

      -- no key comes twice in the visits of a walk
      pub distinct_visits : (n : ℕ) (old new : PassView K V F) (visits : List (VisitView K V))
          → AreVisits same code after n ledger old visits new → HasDistinctKeys same (shown_by visits)
      distinct_visits n old new visits are =
          distinct_all same tells (λ k. hash_of ledger.salt (code k)) (λ (v : VisitView K V). v.class)
          (λ v. v.entries) visits (each_own old new visits are.visited)
          (λ k. let once = are.walk.each_hash (hash_of ledger.salt (code k)) in omega arith)

pub classes-push : {K V : Type 0} (vs : List (VisitView K V)) (v : VisitView K V) → classes_of_visits (vs ++ v ∷ [])
    ≡ classes_of_visits vs ++ v.class ∷ []
classes-push vs v = map-append (λ (x : VisitView _ _). x.class) vs (v ∷ [])

-- what a reader of a bin for the key's hash looks up
pub IsShown-glanced : {K V F : Type 0} (same : K → K → Bool) (code : K → ℕ) (after : Call K V F → Option V → Option V)
    (map : MapView K V) (home : HomeView) (key : K) (value : Option V) (hash : ℕ)
    → home ≡ bins_of map → hash ≡ hash_of map.ledger.salt (code key)
    → IsGlanced same code after home hash key value → IsShown same code after map key value
IsShown-glanced same code after map home key value hash home_is hashed (b, r, with_role, covered, found) = (
  b,
  r,
  subst (λ h. IsBinWithRole same code after h b r) home_is with_role,
  ap (covers b.class) (sym hashed) ∙ covered,
  found,
)
