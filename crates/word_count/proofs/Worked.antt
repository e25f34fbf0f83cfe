-- What the clients of a new map made of the parts.
use Rattle.std.proofs.Common.{◌≡◌, ℕ, ◌+◌, ◌<◌, ◌≤◌, ◌++◌, List, [], ◌∷◌, Vec, length, map, take, slice_index_or}
use Rattle.std.proofs.Common.{sym, ap, subst, ◌∙◌, arith, All, Option, Result, Ok, Err, IsOk, OnOk}
use Rattle.std.specs.List.{AllZip}
use Rattle.std.proofs.lemmas.List.{map-append, length_push, take_more, get_or-map, length-map}
use Rattle.std.proofs.lemmas.List.Elements.{All-push}
use Rattle.std.proofs.lemmas.List.FromFn.{get_or-map-range_with_len}
use Rattle.bin_history.specs.Calls.{key_of}
use Rattle.bin_history.specs.declared.call.Call.{Call}
use Rattle.bin_history.specs.declared.call.Call.TheVariants.{Merge}
use Rattle.count_ledger.specs.Opening.{new_pass, new_passes}
use Rattle.count_ledger.specs.Fronts.{HasSeen}
use Rattle.count_ledger.specs.Views.{LedgerId, LedgerView}
use Rattle.chm.specs.Shares.{HaveWorked}
use Rattle.chm.specs.declared.fault.Fault.{Fault}
use Rattle.clients.proofs.Passes.{length-new_passes, same-clients-seen, same-made-seen}
use Rattle.functions.specs.declared.numbers.Add.{Add}
use Rattle.clients.specs.Tallies.{AddsOne, AllCounted}
use Rattle.word_count.specs.Counted.{WordPass, WordRecord, HasCounted, HasWorked, most_words, same_word}

-- one word more was counted
pub HasCounted-push : (most : ℕ) (words : List (List ℕ)) (i : ℕ) (made : List WordRecord) (r : WordRecord) (w : List ℕ) (f : Add) →
    HasCounted most (take i words) made
    → i < length words → slice_index_or words i w ≡ w → r.call ≡ Merge w 1 f → length made < most →
    HasCounted most (take (i + 1) words) (made ++ r ∷ [])
HasCounted-push most words i made r w f counted more is call room =
    let key : key_of r.call ≡ w = ap key_of call in
    let keys : map (λ x. key_of x.call) (made ++ r ∷ []) ≡ take (i + 1) words =
    map-append (λ (x : WordRecord). key_of x.call) made (r ∷ [])
    ∙ ap (λ (ks : List (List ℕ)). ks ++ key_of r.call ∷ []) counted.keys
    ∙ ap (λ (k : List ℕ). take i words ++ k ∷ []) (key ∙ sym is)
    ∙ sym (take_more words i w more) in
    record {
      keys = keys;
      ones = All-push AddsOne made r counted.ones (f, call ∙ ap (λ (k : List ℕ). Merge k 1 f) (sym key));
      few =
          let l = ap length keys in
          let m = length-map (made ++ r ∷ []) (λ (x : WordRecord). key_of x.call) in
          let n = length_push made r in
          omega (arith, room);
    }

-- an element of a list that has some
some_of : {X : Type 0} (xs : List X) → 0 < length xs → X
some_of [] some = absurd (omega arith)
some_of (x ∷ xs) some = x

-- what is so where there is an answer
told : {T E : Type 0} (r : Result T E) (P : Type 0) → IsOk r → OnOk r P → P
told (Ok x) P ok p = p
told (Err e) P ok p = absurd cc

module _ (id : LedgerId) (n : ℕ) (passes : List WordPass) (new : passes ≡ new_passes id n) where
  new-at : (c : ℕ) (p : WordPass) → c < n → slice_index_or passes c p ≡ new_pass id c
  new-at c p lt = ap (λ (ps : List WordPass). slice_index_or ps c p) new ∙ get_or-map-range_with_len
      (new_pass id) 0 n c c p lt (omega arith)

  -- each client counted its part
  counted-at : {A : Type 0} (parts : List (Vec (List ℕ) A)) → length parts ≡ n → (after : List WordPass)
      (answers : List (Result (Unit {0}) Fault)) → HaveWorked (HasWorked parts) passes after answers
      → All IsOk answers → (c : ℕ) (p : WordPass) (v : Vec (List ℕ) A) → c < length parts
      → ((slice_index_or after c p).client ≡ c)
      × HasCounted (most_words parts) (slice_index_or parts c v).items (slice_index_or after c p).made
  counted-at {A} parts as_many after answers worked ok c p v lt =
      let m = length-new_passes id n passes new in
      let done = worked.each c p (Ok tt) (omega arith) in
      let it = new-at c p (omega arith) in
      let own : (slice_index_or passes c p).client ≡ c = ap (λ (x : WordPass). x.client) it in
      let all = worked.as_many in (
        done.client ∙ own,
        subst (λ (k : ℕ). HasCounted (most_words parts) (slice_index_or parts k v).items (slice_index_or after c p).made) own
            (told (slice_index_or answers c (Ok tt)) _ (ok c (Ok tt) (omega arith)) done.counted
            (ap (λ (x : WordPass). x.made) it) v (omega arith)),
      )

  pub all-counted : {A : Type 0} (parts : List (Vec (List ℕ) A)) → length parts ≡ n → (after : List WordPass)
      (answers : List (Result (Unit {0}) Fault)) → HaveWorked (HasWorked parts) passes after answers
      → All IsOk answers → AllCounted (map (λ part. part.items) parts) after
  all-counted {A} parts as_many after answers worked ok = λ c p lt.
      let l = length-map parts (λ (x : Vec (List ℕ) A). x.items) in
      let few : c < length parts = omega arith in
      let v : Vec (List ℕ) A = some_of parts (omega arith) in
      let (own, counted) = counted-at parts as_many after answers worked ok c p v few in (
        own,
        counted.keys ∙ sym (get_or-map (λ (x : Vec (List ℕ) A). x.items) parts c v [] few),
        counted.ones,
      )

  pub all-few : {A : Type 0} (parts : List (Vec (List ℕ) A)) → length parts ≡ n → (after : List WordPass)
      (answers : List (Result (Unit {0}) Fault)) → HaveWorked (HasWorked parts) passes after answers
      → All IsOk answers → All (λ v. length v.items ≤ most_words parts) parts
  all-few {A} parts as_many after answers worked ok = λ c v lt.
      (counted-at parts as_many after answers worked ok c (new_pass id c) v lt).1.few

-- what clients counted stays counted as they learn of each other
pub all-met : (lists : List (List (List ℕ))) (ledger : LedgerView (List ℕ) ℕ)
    (after_calls : Call (List ℕ) ℕ Add → Option ℕ → Option ℕ) (worked met : List WordPass) →
    AllZip (HasSeen same_word after_calls ledger) worked met → length lists ≤ length worked → AllCounted lists worked →
    AllCounted lists met
all-met lists ledger after_calls worked met seen long counted = λ c p lt.
    let (own, keys, ones) = counted c p lt in
    let low : c < length worked = omega arith in
    let made = same-made-seen same_word after_calls ledger worked met seen c p low in (
      same-clients-seen same_word after_calls ledger worked met seen c p low ∙ own,
      ap (map (λ (r : WordRecord). key_of r.call)) made ∙ keys,
      subst (λ (rs : List WordRecord). All AddsOne rs) (sym made) ones,
    )
