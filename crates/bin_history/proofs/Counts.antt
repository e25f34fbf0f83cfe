-- How many keys a legal list leaves: its deltas add up to the change, and no more come than are born.
use Rattle.std.proofs.Common.{◌≡◌, ℕ, ◌+◌, ◌<◌, ◌≤◌, Bool, true, cond, Option, Some, None, Decides, List, [], ◌∷◌}
use Rattle.std.proofs.Common.{◌++◌, length, refl, sym, ap, subst}
use Rattle.std.proofs.Common.{arith, pos, ◌+ℤ◌}
use Rattle.std.proofs.lemmas.Grind.{common_steps}
use Rattle.std.proofs.lemmas.Int.{ints}
use Rattle.std.proofs.lemmas.List.Sums.{sum_by-cons}
use Rattle.bin_history.specs.Births.{is_birth, births_in}
use Rattle.bin_history.specs.Calls.{key_of}
use Rattle.bin_history.specs.Deltas.{change_of_count, sum_of_deltas}
use Rattle.bin_history.specs.Entries.{lookup, HasDistinctKeys, put, remove, store, replay}
use Rattle.bin_history.specs.Plain.{IsLegal}
use Rattle.bin_history.specs.declared.call.Call.{Call}
use Rattle.bin_history.specs.Records.{RecordView}
use Rattle.bin_entries.proofs.Entries.{lookup-store, HasDistinctKeys-store}

module _ {K V : Type 0} (same : K → K → Bool) where
  length-put_new : (es : List (K × V)) (k : K) (v : V) → lookup same es k ≡ None →
      length (put same es k v) ≡ length es + 1
  length-put_new [] k v a = refl
  length-put_new (e ∷ es) k v a = let ih = length-put_new es k v in grind (arith, common_steps)

  length-put_there : (es : List (K × V)) (k : K) (v w : V) → lookup same es k ≡ Some w →
      length (put same es k v) ≡ length es
  length-put_there [] k v w a = absurd cc
  length-put_there (e ∷ es) k v w a = let ih = length-put_there es k v w in grind (arith, common_steps)

  length-remove_none : (es : List (K × V)) (k : K) → lookup same es k ≡ None → length (remove same es k) ≡ length es
  length-remove_none [] k a = refl
  length-remove_none (e ∷ es) k a = let ih = length-remove_none es k in grind (arith, common_steps)

  length-remove_there : (es : List (K × V)) (k : K) (w : V) → lookup same es k ≡ Some w →
      length (remove same es k) + 1 ≡ length es
  length-remove_there [] k w a = absurd cc
  length-remove_there (e ∷ es) k w a = let ih = length-remove_there es k w in grind (arith, common_steps)

  length-store : (es : List (K × V)) (k : K) (before after : Option V) → before ≡ lookup same es k
      → pos (length (store same es k after)) ≡ pos (length es) +ℤ change_of_count before after
  length-store es k None None b = let l = length-remove_none es k (sym b) in omega (arith, ints)
  length-store es k None (Some v) b = let l = length-put_new es k v (sym b) in omega (arith, ints)
  length-store es k (Some w) None b = let l = length-remove_there es k w (sym b) in omega (arith, ints)
  length-store es k (Some w) (Some v) b = let l = length-put_there es k v w (sym b) in omega (arith, ints)

  length-store-le : (es : List (K × V)) (k : K) (before after : Option V) → before ≡ lookup same es k
      → length (store same es k after) ≤ cond (is_birth before after) 1 0 + length es
  length-store-le es k None None b = let l = length-remove_none es k (sym b) in omega arith
  length-store-le es k None (Some v) b = let l = length-put_new es k v (sym b) in omega arith
  length-store-le es k (Some w) None b = let l = length-remove_there es k w (sym b) in omega arith
  length-store-le es k (Some w) (Some v) b = let l = length-put_there es k v w (sym b) in omega arith

module _ {K V F : Type 0} (same : K → K → Bool) (tells : (x y : K) → Decides (same x y) (x ≡ y)) (after : Call K V F →
    Option V → Option V) where
  pub length-replay : (es : List (K × V)) (rs : List (RecordView K V F)) → HasDistinctKeys same es →
      IsLegal same after (lookup same es) rs
      → pos (length (replay same es rs)) ≡ pos (length es) +ℤ sum_of_deltas rs
  length-replay es [] d l = omega (arith, ints)
  length-replay es (r ∷ rs) d l =
      let P : (K → Option V) → Type 0 = λ m. IsLegal same after m rs in
      let here = length-store same es (key_of r.call) r.before r.after l.0.0 in
      let rest = length-replay (store same es (key_of r.call) r.after) rs
      (HasDistinctKeys-store same tells es (key_of r.call) r.after d)
      (subst P (λ i q. sym (lookup-store same tells es (key_of r.call) r.after d q) i) l.1) in
      omega (arith, ints)

  -- where there is room for all births, there is room for each when its turn comes
  pub room_for_birth : (es : List (K × V)) (ys rs : List (RecordView K V F)) (r : RecordView K V F) (room : ℕ) →
      HasDistinctKeys same es
      → IsLegal same after (lookup same es) (ys ++ r ∷ rs) → length es + births_in (ys ++ r ∷ rs) ≤ room →
      is_birth (lookup same (replay same es ys) (key_of r.call)) r.after ≡ true
      → length (replay same es ys) < room
  room_for_birth es [] rs r room d l fits birth =
      let born : is_birth r.before r.after ≡ true = rw l.0.0 birth in
      let one : cond {A = ℕ} (is_birth r.before r.after) 1 0 ≡ 1 = ap (λ (b : Bool). cond {A = ℕ} b 1 0) born in
      let all = sum_by-cons (λ (x : RecordView K V F). cond (is_birth x.before x.after) 1 0) r rs in
      omega arith
  room_for_birth es (y ∷ ys) rs r room d l fits birth =
      let P : (K → Option V) → Type 0 = λ m. IsLegal same after m (ys ++ r ∷ rs) in
      let here = length-store-le same es (key_of y.call) y.before y.after l.0.0 in
      let all = sum_by-cons (λ (x : RecordView K V F). cond (is_birth x.before x.after) 1 0) y (ys ++ r ∷ rs) in
      room_for_birth (store same es (key_of y.call) y.after) ys rs r room
      (HasDistinctKeys-store same tells es (key_of y.call) y.after d)
      (subst P (λ i q. sym (lookup-store same tells es (key_of y.call) y.after d q) i) l.1) (omega arith) birth
