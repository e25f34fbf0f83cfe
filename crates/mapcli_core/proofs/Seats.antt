-- Clients, their passes, and what they made.
use Rattle.std.proofs.Common.{◌≡◌, ℕ, ℤ, ◌<◌, ◌≤◌, List, [], ◌∷◌, Result, Ok, Err, IfErr, MatchResult, Vec, All, length}
use Rattle.std.proofs.Common.{map, slice_index_or, refl, sym, ap, subst, ◌∙◌, arith}
use Rattle.std.proofs.lemmas.List.{get_or-map, length-map, ext_get_or}
use Rattle.std.proofs.lemmas.List.FromFn.{get_or-map-range_with_len, length-map-range_with_len}
use Rattle.bin_history.specs.declared.call.Reply.{Reply}
use Rattle.chm.specs.Shares.{HaveWorked}
use Rattle.chm.specs.declared.fault.Fault.{Fault}
use Rattle.chm.specs.declared.fault.Fault.TheVariants.{NoMemory}
use Rattle.count_ledger.specs.Opening.{lists_of, new_pass, new_passes}
use Rattle.count_ledger.specs.Views.{LedgerId}
use Rattle.script.specs.Grammar.{ScriptCall}
use Rattle.mapcli_core.specs.Played.{ScriptPass, AreShort, HasMade, HasPlayed, IsAnswerOfClient, ArePlayed}

-- an element of a list that has some
some_of : {X : Type 0} (xs : List X) → 0 < length xs → X
some_of [] some = absurd (omega arith)
some_of (x ∷ xs) some = x

-- each of some short blocks is short
pub IsShort-at : {X Y : Type 0} (blocks : Vec (Vec ScriptCall X) Y) → AreShort blocks → (c : ℕ)
    (b : Vec ScriptCall X) → c < length blocks.items → length (slice_index_or blocks.items c b).items ≤ 1000000
IsShort-at {X} blocks short c b lt =
    subst (λ (calls : List ScriptCall). length calls ≤ 1000000)
    (get_or-map (λ (x : Vec ScriptCall X). x.items) blocks.items c b [] lt)
    (short c [] (let n = length-map blocks.items (λ (x : Vec ScriptCall X). x.items) in omega arith))

answered-somehow : {T E : Type 0} (P : T → Type 0) (Q : E → Type 0) (r : Result T E) → MatchResult r P Q → IfErr r Q
answered-somehow P Q (Ok x) a = tt
answered-somehow P Q (Err e) a = a

-- new passes are client after client's
module _ (id : LedgerId) (n : ℕ) (passes : List ScriptPass) (new : passes ≡ new_passes id n) where
  pub new-length : length passes ≡ n
  new-length = ap length new ∙ length-map-range_with_len (new_pass id) 0 n

  new-at : (c : ℕ) (p : ScriptPass) → c < n → slice_index_or passes c p ≡ new_pass id c
  new-at c p lt = ap (λ (ps : List ScriptPass). slice_index_or ps c p) new ∙ get_or-map-range_with_len
      (new_pass id) 0 n c c p lt (omega arith)

  pub new-ledger : All (λ p. p.ledger ≡ id) passes
  new-ledger = λ c p lt. ap (λ (x : ScriptPass). x.ledger) (new-at c p (let m = new-length in omega arith))

-- the clients of these blocks, which were lent their passes
module _ {X Y : Type 0} (id : LedgerId) (blocks : Vec (Vec ScriptCall X) Y) (old new : List ScriptPass)
    (answers : List (Result (Vec (Reply ℤ) X) Fault)) (fresh : old ≡ new_passes id (length blocks.items))
    (long : length new ≡ length old) (worked : HaveWorked (HasPlayed blocks) old new answers) where
  abbrev Answer : Type 0
  Answer = Result (Vec (Reply ℤ) X) Fault

  played-at : (c : ℕ) (p : ScriptPass) (a : Answer) → c < length blocks.items
      → HasPlayed blocks (new_pass id c) (slice_index_or new c p) (slice_index_or answers c a)
  played-at c p a lt = subst (λ (o : ScriptPass). HasPlayed blocks o (slice_index_or new c p) (slice_index_or answers c a))
      (new-at id (length blocks.items) old fresh c p lt)
      (worked.each c p a (let n = new-length id (length blocks.items) old fresh in omega arith))

  pub AreAnswers-worked : All IsAnswerOfClient answers
  AreAnswers-worked = λ c a lt.
      let n = new-length id (length blocks.items) old fresh in
      let m = worked.as_many in
      let many : c < length blocks.items = omega arith in
      answered-somehow (λ (r : Vec (Reply ℤ) X). HasMade (slice_index_or (lists_of blocks) c []) r.items
      (slice_index_or new c (new_pass id 0)).made)
      (λ (fault : Fault). fault ≡ NoMemory) (slice_index_or answers c a)
      ((played-at c (new_pass id 0) a many).made refl many)

  module _ (replies : List (Vec (Reply ℤ) X)) (gathered : map Ok replies ≡ answers) where
    abbrev answer : Vec (Reply ℤ) X → Answer
    answer r = Ok r

    as_many_replies : length replies ≡ length blocks.items
    as_many_replies = sym (length-map replies answer) ∙ ap length gathered
        ∙ worked.as_many
        ∙ new-length id (length blocks.items) old fresh

    made-at : (c : ℕ) (p : ScriptPass) → c < length blocks.items → HasMade (slice_index_or (lists_of blocks) c [])
        (slice_index_or (map (λ r. r.items) replies) c []) (slice_index_or new c p).made
    made-at c p lt =
        let m = as_many_replies in
        let r : Vec (Reply ℤ) X = some_of replies (omega arith) in
        let there : c < length replies = omega arith in
        let answer_is : slice_index_or answers c (Ok r) ≡ Ok (slice_index_or replies c r) =
        ap (λ (rs : List Answer). slice_index_or rs c (Ok r)) (sym gathered)
        ∙ get_or-map answer replies c r (Ok r) there in
        let made = subst (λ (a : Answer). MatchResult a
        (λ (rs : Vec (Reply ℤ) X). HasMade (slice_index_or (lists_of blocks) c []) rs.items (slice_index_or new c p).made)
        (λ (fault : Fault). fault ≡ NoMemory))
        answer_is ((played-at c p (Ok r) lt).made refl lt) in
        rw (get_or-map (λ (x : Vec (Reply ℤ) X). x.items) replies c r [] there) made

    pub ArePlayed-gathered : ArePlayed (lists_of blocks) (map (λ r. r.items) replies) new
    ArePlayed-gathered =
        let n = new-length id (length blocks.items) old fresh in
        let m = as_many_replies in
        let bs : List (List ScriptCall) = lists_of blocks in
        let rs : List (List (Reply ℤ)) = map (λ r. r.items) replies in
        let blocks_long : length bs ≡ length blocks.items = length-map blocks.items (λ (x : Vec ScriptCall X). x.items) in
        let replies_long : length rs ≡ length replies = length-map replies (λ (x : Vec (Reply ℤ) X). x.items) in
        let some_pass : ScriptPass = new_pass id 0 in
        record {
          as_many = long ∙ n ∙ sym blocks_long;
          answered = ext_get_or 0 (map length rs) (map length bs)
              (length-map rs length ∙ replies_long ∙ m ∙ sym blocks_long ∙ sym (length-map bs length))
              (λ c lt.
              let few : c < length rs = let l = length-map rs length in omega arith in
              get_or-map length rs c [] 0 few ∙ (made-at c some_pass (omega arith)).1
              ∙ sym (get_or-map length bs c [] 0 (omega arith)));
          clients = λ c p lt.
              let many : c < length blocks.items = omega arith in
              let a : Answer = some_of answers (let k = worked.as_many in omega arith) in
              (played-at c p a many).client;
          made = λ c p lt. made-at c p (omega arith);
        }
