-- The passes of a new map, and passes in order.
use Rattle.std.proofs.Common.{◌≡◌, ℕ, ◌+◌, ◌<◌, ◌≤◌, inl, inr, Bool, Option, List, [], ◌∷◌, ◌++◌, All, length}
use Rattle.std.proofs.Common.{None, Some, IfSome, slice_index_or, drop, take, sym, ap, subst, ◌∙◌, arith}
use Rattle.std.specs.List.{AllZip, range_with_len}
use Rattle.std.proofs.Math.Nat.{eq-or-lt_of_le}
use Rattle.std.proofs.Math.Seq.{get_or-append_seam, take-append_seam}
use Rattle.std.proofs.lemmas.List.{get_or_append_left, get_or-map, length-append}
use Rattle.std.proofs.lemmas.List.Elements.{AllZip-get_or}
use Rattle.std.proofs.lemmas.List.FromFn.{get_or-range_with_len, length-map-range_with_len, length-range_with_len}
use Rattle.std.proofs.lemmas.Slice.Zip.{AllZip-long}
use Rattle.bin_history.specs.declared.call.Call.{Call}
use Rattle.count_ledger.specs.Fronts.{HasSeen}
use Rattle.count_ledger.specs.Names.{id_of, numbers_of}
use Rattle.count_ledger.specs.Opening.{new_pass, new_passes}
use Rattle.count_ledger.specs.Views.{LedgerId, LedgerView, PassView, RosterView}
use Rattle.chm.specs.Shares.{AreSameClients}
use Rattle.chm.specs.Views.{MapView}
use Rattle.clients.specs.PassPools.{IsUnshared}
use Rattle.clients.specs.Teams.{AreInOrder, IsTeam}

module _ {K V F : Type 0} (id : LedgerId) (n : ℕ) (passes : List (PassView K V F))
    (new : passes ≡ new_passes id n) where
  pub length-new_passes : length passes ≡ n
  length-new_passes = ap length new ∙ length-map-range_with_len (new_pass id) 0 n

  pub in-order-new : AreInOrder passes
  in-order-new = λ i p low.
      let less : i < n = let l = length-new_passes in omega arith in
      ap (λ (ps : List (PassView K V F)). (slice_index_or ps i p).client) new
      ∙ ap (λ (q : PassView K V F). q.client)
      (get_or-map (new_pass id) (range_with_len 0 n) i i p (let l = length-range_with_len 0 n in omega arith))
      ∙ get_or-range_with_len 0 n i i less
      ∙ (let zero : 0 + i ≡ i = omega arith in zero)

module _ {K V F : Type 0} where
  -- the next client's pass comes behind
  pub in-order-push : (passes : List (PassView K V F)) (p : PassView K V F) (n : ℕ) → AreInOrder passes →
      length passes ≡ n → p.client ≡ n → AreInOrder (passes ++ p ∷ [])
  in-order-push passes p n order long is = λ i d low.
      let le : i ≤ n = let l = length-append passes (p ∷ []) in omega arith in
      elim (eq-or-lt_of_le le) [
        | inl same ↦ here i d same
        | inr less ↦ ap (λ (q : PassView K V F). q.client)
            (get_or_append_left passes (p ∷ []) d i (omega arith)) ∙ order i d (omega arith)
      ] where
        here : (i : ℕ) (d : PassView K V F) → i ≡ n → (slice_index_or (passes ++ p ∷ []) i d).client ≡ i
        here i d same = ap (λ (k : ℕ). (slice_index_or (passes ++ p ∷ []) k d).client) (same ∙ sym long)
            ∙ ap (λ (q : PassView K V F). q.client) (get_or-append_seam passes p [] d)
            ∙ is ∙ sym same

  pub in-order-same : (old new : List (PassView K V F)) → AreInOrder old → length new ≡ length old →
      AreSameClients old new → AreInOrder new
  in-order-same old new order long same = λ i p low. same i p (omega arith) ∙ order i p (omega arith)

-- passes that have seen more are of the same map and clients
module _ {K V F : Type 0} (same_key : K → K → Bool) (after : Call K V F → Option V → Option V) (ledger : LedgerView K V)
    (old new : List (PassView K V F)) (seen : AllZip (HasSeen same_key after ledger) old new) where
  seen-at : (i : ℕ) (p : PassView K V F) → i < length old →
      HasSeen same_key after ledger (slice_index_or old i p) (slice_index_or new i p)
  seen-at i p low = AllZip-get_or (HasSeen same_key after ledger) old new i p p seen low

  pub as-many-seen : length new ≡ length old
  as-many-seen = AllZip-long (HasSeen same_key after ledger) old new seen

  pub same-clients-seen : AreSameClients old new
  same-clients-seen = λ i p low. ap (λ (q : PassView K V F). q.client) (seen-at i p low).pass

  pub same-made-seen : (i : ℕ) (p : PassView K V F) → i < length old →
      (slice_index_or new i p).made ≡ (slice_index_or old i p).made
  same-made-seen i p low = ap (λ (q : PassView K V F). q.made) (seen-at i p low).pass

  pub own-seen : (id : LedgerId) → All (λ p. p.ledger ≡ id) old → All (λ p. p.ledger ≡ id) new
  own-seen id own = λ i p low.
      let less : i < length old = let l = as-many-seen in omega arith in
      ap (λ (q : PassView K V F). q.ledger) (seen-at i p less).pass ∙ own i p less

-- the numbers of a thing, its own first, tell its ledger
pub same_ledger : (n m : ℕ) (a b : LedgerId) → n ∷ numbers_of a ≡ m ∷ numbers_of b → a ≡ b
same_ledger n m a b is = ap (λ (ns : List ℕ). id_of (drop 1 ns)) is

-- what came out of a pass slot is of the pass slot's ledger
pub some-ledger : {K V F : Type 0} (result : Option (PassView K V F)) (client : ℕ) (ns : List ℕ) (id : LedgerId) →
    ns ≡ client ∷ numbers_of id → IfSome result (λ p. p.client ∷ numbers_of p.ledger ≡ ns) →
    IfSome result (λ p. p.ledger ≡ id)
some-ledger None client ns id pass_slot is = tt
some-ledger (Some p) client ns id pass_slot is = same_ledger p.client client p.ledger id (is ∙ pass_slot)

-- a list that was lent and has its length again
pub restored : {X : Type 0} (xs rest : List X) (n : ℕ) → length xs ≡ n → take n (xs ++ rest) ≡ xs
restored xs rest n is = ap (λ (m : ℕ). take m (xs ++ rest)) (sym is) ∙ take-append_seam xs rest

-- the team of a map that came back with its passes
pub team-again : {K V F : Type 0} (map : Option (MapView K V)) (passes inside : List (PassView K V F)) (m : MapView K V) →
    map ≡ Some m → passes ≡ inside → IfSome map (λ x. All (λ p. p.ledger ≡ x.ledger.id) passes) →
    IfSome map (λ x. length passes ≡ x.ledger.clients) → AreInOrder passes → IsTeam m inside
team-again {K} {V} {F} map passes inside m is same own all order =
    subst (λ (ps : List (PassView K V F)). IsTeam m ps) same
    (record {
      own = subst (λ (o : Option (MapView K V)). IfSome o (λ x. All (λ p. p.ledger ≡ x.ledger.id) passes)) is own;
      all = subst (λ (o : Option (MapView K V)). IfSome o (λ x. length passes ≡ x.ledger.clients)) is all;
      in_order = order;
    })

-- an unshared map that came back with its passes and its roster
pub unshared-again : {K V F : Type 0} (map : Option (MapView K V)) (passes inside : List (PassView K V F))
    (roster its : RosterView) (m : MapView K V) → map ≡ Some m → passes ≡ inside → roster ≡ its →
    IfSome map (λ x. All (λ p. p.ledger ≡ x.ledger.id) passes × (roster.ledger ≡ x.ledger.id)
    × (roster.clients ≡ x.ledger.clients)) → AreInOrder passes → length passes ≡ roster.next → IsUnshared m inside its
unshared-again {K} {V} {F} map passes inside roster its m is same same_roster given order taken =
    let (own, ledger, clients) = subst (λ (o : Option (MapView K V)).
    IfSome o (λ x. All (λ p. p.ledger ≡ x.ledger.id) passes × (roster.ledger ≡ x.ledger.id)
    × (roster.clients ≡ x.ledger.clients))) is given in
    subst (λ (ps : List (PassView K V F)). IsUnshared m ps its) same
    (subst (λ (r : RosterView). IsUnshared m passes r) same_roster
    (record { own = own; in_order = order; taken = taken; ledger = ledger; clients = clients }))

-- a team whose clients worked, and then learned what all had seen
module _ {K V F : Type 0} (same_key : K → K → Bool) (after : Call K V F → Option V → Option V) (map : MapView K V)
    (old worked met : List (PassView K V F)) (team : IsTeam map old) (own : All (λ p. p.ledger ≡ map.ledger.id) worked)
    (long : length worked ≡ length old) (clients : AreSameClients old worked)
    (seen : AllZip (HasSeen same_key after map.ledger) worked met) where
  pub team-met : IsTeam map met
  team-met =
      let many = as-many-seen same_key after map.ledger worked met seen in
      record {
        own = own-seen same_key after map.ledger worked met seen map.ledger.id own;
        all = many ∙ long ∙ team.all;
        in_order = in-order-same worked met (in-order-same old worked team.in_order long clients) many
            (same-clients-seen same_key after map.ledger worked met seen);
      }
