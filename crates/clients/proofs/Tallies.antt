-- A key to which clients only added 1 has as its value how often they did.
use Rattle.std.proofs.Common.{◌≡◌, ℕ, zero, suc, ◌+◌, ◌*◌, ◌^◌, ◌<◌, ◌≤◌, Bool, true, false, cond, ◌⊎◌, inl, inr, ◌==◌}
use Rattle.std.proofs.Common.{Option, Some, None, List, [], ◌∷◌, Vec}
use Rattle.std.proofs.Common.{length, map, take, count_by, sum_by, All, slice_index_or, refl, sym, ap, ◌∙◌, subst}
use Rattle.std.proofs.Common.{arith}
use Rattle.std.proofs.lemmas.List.{take_all}
use Rattle.std.proofs.lemmas.List.Elements.{All-nil, All-cons, All-head, All-tail, All-filter}
use Rattle.std.proofs.lemmas.Bool.{cases_eq, eq-eqb, ne_eqb}
use Rattle.std.proofs.lemmas.List.Sums.{length-filter, sum_by_more, sum_by-cons}
use Rattle.bin_history.specs.Calls.{key_of}
use Rattle.bin_history.specs.Cells.{records_on, cell_after, IsCellHistory}
use Rattle.bin_history.specs.Clients.{by_client}
use Rattle.bin_history.specs.Entries.{lookup}
use Rattle.bin_history.specs.declared.call.Call.{Call}
use Rattle.bin_history.specs.declared.call.Call.TheVariants.{Merge}
use Rattle.chm.specs.Headline.{IsHistoryOfKey, QuietView, entries_of}
use Rattle.functions.specs.declared.numbers.Add.{Add}
use Rattle.bin_history.specs.Records.{RecordView}
use Rattle.count_ledger.specs.Views.{PassView}
use Rattle.clients.specs.Tallies.{AddsOne, AllCounted, stored_count, times, times_in_all}

abbrev amount : Option ℕ → ℕ
amount None = 0
amount (Some n) = n

abbrev added : Option ℕ → ℕ → Option ℕ
added cell zero = cell
added None (suc n) = Some (suc n)
added (Some m) (suc n) = Some (m + suc n)

added-some : (m n : ℕ) → added (Some m) n ≡ Some (m + n)
added-some m zero = ap Some (omega arith)
added-some m (suc n) = refl

added-none : (n : ℕ) → added None n ≡ stored_count n
added-none zero = refl
added-none (suc n) = refl

-- a cell that is only added 1 to
module _ {K : Type 0} (after : Call K ℕ Add → Option ℕ → Option ℕ) (none : (k : K) (f : Add) →
    after (Merge k 1 f) None ≡ Some 1)
    (some : (k : K) (f : Add) (n : ℕ) → n + 1 < 2 ^ 64 → after (Merge k 1 f) (Some n) ≡ Some (n + 1)) where
  step : (r : RecordView K ℕ Add) (cell : Option ℕ) → amount cell + 1 < 2 ^ 64 → AddsOne r → r.before ≡ cell →
      r.after ≡ after r.call r.before
      → r.after ≡ added cell 1
  step r None room (f, is) before left = left ∙ (λ i. after (is i) (before i)) ∙ none (key_of r.call) f
  step r (Some n) room (f, is) before left = left ∙ (λ i. after (is i) (before i)) ∙ some (key_of r.call) f n room

  counts-up : (cell : Option ℕ) (rs : List (RecordView K ℕ Add)) → amount cell + length rs < 2 ^ 64 → All AddsOne rs →
      IsCellHistory after cell rs
      → cell_after cell rs ≡ added cell (length rs)
  counts-up cell [] room ones legal = refl
  counts-up cell (r ∷ rs) room ones (before, left, rest) =
      let next = step r cell (omega arith) (All-head AddsOne r rs ones) before left in
      counts-up r.after rs (let more = ap amount next ∙ amount_added cell in
      omega arith) (All-tail AddsOne r rs ones) rest
      ∙ ap (λ (c : Option ℕ). added c (length rs)) next
      ∙ more cell
    where
      amount_added : (c : Option ℕ) → amount (added c 1) ≡ amount c + 1
      amount_added None = refl
      amount_added (Some n) = refl

      more : (c : Option ℕ) → added (added c 1) (length rs) ≡ added c (length (r ∷ rs))
      more None = added-some 1 (length rs) ∙ ap Some (omega arith)
      more (Some n) = added-some (n + 1) (length rs) ∙ ap Some (omega arith)

-- sums over the numbers below n
abbrev total : (ℕ → ℕ) → ℕ → ℕ
total f zero = 0
total f (suc n) = total f n + f n

total-zero : (n : ℕ) → total (λ c. 0) n ≡ 0
total-zero zero = refl
total-zero (suc n) = let ih = total-zero n in omega arith

total-same : (f g : ℕ → ℕ) (n : ℕ) → ((c : ℕ) → c < n → f c ≡ g c) → total f n ≡ total g n
total-same f g zero same = refl
total-same f g (suc n) same = let ih = total-same f g n (λ c lt. same c (omega arith)) in
    let here = same n (omega arith) in omega arith

abbrev weight : Bool → ℕ
weight b = cond b 1 0

-- one more at x
total-above : (f g : ℕ → ℕ) (x n : ℕ) → ((c : ℕ) → g c ≡ f c + weight (x == c)) → n ≤ x → total g n ≡ total f n
total-above f g x n more le = total-same g f n one where
  one : (c : ℕ) → c < n → g c ≡ f c
  one c lt =
      let here = more c in
      let no : weight (x == c) ≡ 0 = ap weight (ne_eqb x c (λ e. omega arith)) in
      omega arith

total-bump : (f g : ℕ → ℕ) (x n : ℕ) → ((c : ℕ) → g c ≡ f c + weight (x == c)) → x < n → total g n ≡ total f n + 1
total-bump f g x zero more lt = absurd (omega arith)
total-bump f g x (suc n) more lt = go (λ lower. total-bump f g x n more lower) (cases_eq x n) where
  go : (x < n → total g n ≡ total f n + 1) → (x ≡ n) ⊎ (x ≡ n → ⊥) → total g (suc n) ≡ total f (suc n) + 1
  go rest (inl e) =
      let here = more n in
      let yes : weight (x == n) ≡ 1 = ap weight (eq-eqb x n e) in
      let below = total-above f g x n more (omega arith) in
      omega arith
  go rest (inr ne) =
      let here = more n in
      let no : weight (x == n) ≡ 0 = ap weight (ne_eqb x n ne) in
      let below = rest (omega arith) in
      omega arith

length-cond : {X : Type 0} (b : Bool) (x : X) (xs : List X) → length (cond b (x ∷ xs) xs) ≡ length xs + weight b
length-cond true x xs = omega arith
length-cond false x xs = omega arith

module _ {K : Type 0} where
  -- each record is some client's
  length-clients : (n : ℕ) (rs : List (RecordView K ℕ Add)) → All (λ r. r.client < n) rs →
      total (λ c. length (by_client c rs)) n ≡ length rs
  length-clients n [] known = total-zero n
  length-clients n (r ∷ rs) known =
      let rest = length-clients n rs (All-tail (λ (x : RecordView K ℕ Add). x.client < n) r rs known) in
      let bump = total-bump (λ c. length (by_client c rs)) (λ c. length (by_client c (r ∷ rs))) r.client n
      (λ c. length-cond (r.client == c) r (by_client c rs))
      (All-head (λ (x : RecordView K ℕ Add). x.client < n) r rs known) in
      omega arith

  -- what holds of each client's records holds of all
  all-clients : (P : RecordView K ℕ Add → Type 0) (n : ℕ) (rs : List (RecordView K ℕ Add)) → All (λ r. r.client < n) rs
      → ((c : ℕ) → c < n → All P (by_client c rs)) → All P rs
  all-clients P n [] known each = All-nil P
  all-clients P n (r ∷ rs) known each =
      All-cons P r rs
      (All-head P r (by_client r.client rs)
      (subst (λ (b : Bool). All P (cond b (r ∷ by_client r.client rs) (by_client r.client rs)))
      (eq-eqb r.client r.client refl) (each r.client (All-head (λ (x : RecordView K ℕ Add). x.client < n) r rs known))))
      (all-clients P n rs (All-tail (λ (x : RecordView K ℕ Add). x.client < n) r rs known)
      (λ c lt. go c (r.client == c) (each c lt)))
    where
      go : (c : ℕ) (b : Bool) → All P (cond b (r ∷ by_client c rs) (by_client c rs)) → All P (by_client c rs)
      go c true all = All-tail P r (by_client c rs) all
      go c false all = all

-- a sum over a list, by places
total-list : {X : Type 0} (f : X → ℕ) (d : X) (xs : List X) (n : ℕ) → n ≤ length xs →
    total (λ c. f (slice_index_or xs c d)) n ≡ sum_by f (take n xs)
total-list f d xs zero le = refl
total-list f d xs (suc n) le =
    let rest = total-list f d xs n (omega arith) in
    let more = sum_by_more f xs n d (omega arith) in
    let e : suc n ≡ n + 1 = omega arith in
    let same : sum_by f (take (suc n) xs) ≡ sum_by f (take (n + 1) xs) = ap (λ (m : ℕ). sum_by f (take m xs)) e in
    omega arith

count-map : {X Y : Type 0} (f : X → Y) (p : Y → Bool) (xs : List X) → count_by p (map f xs) ≡ count_by (λ x. p (f x)) xs
count-map f p [] = refl
count-map f p (x ∷ xs) =
    sum_by-cons (λ y. cond (p y) 1 0) (f x) (map f xs)
    ∙ ap (λ (n : ℕ). cond (p (f x)) 1 0 + n) (count-map f p xs)
    ∙ sym (sum_by-cons (λ x. cond (p (f x)) 1 0) x xs)

module _ {K : Type 0} (same : K → K → Bool) where
  -- a key stands in lists no more often than they are long
  times-le : (w : K) (ws : List K) → times same w ws ≤ length ws
  times-le w [] = omega arith
  times-le w (x ∷ ws) = go (same x w) (times-le w ws) (sum_by-cons (λ y. cond (same y w) 1 0) x ws) where
    go : (b : Bool) → times same w ws ≤ length ws → times same w (x ∷ ws) ≡ cond b 1 0 + times same w ws →
        times same w (x ∷ ws) ≤ length (x ∷ ws)
    go true ih e = omega arith
    go false ih e = omega arith

  module _ (after : Call K ℕ Add → Option ℕ → Option ℕ) (none : (k : K) (f : Add) → after (Merge k 1 f) None ≡ Some 1)
      (some : (k : K) (f : Add) (n : ℕ) → n + 1 < 2 ^ 64 → after (Merge k 1 f) (Some n) ≡ Some (n + 1))
      (q : QuietView K ℕ Add) (lists : List (List K)) (clients : q.ledger.clients ≡ length lists)
      (as_many : length q.passes ≡ length lists)
      (opening : q.ledger.opening ≡ []) (counted : AllCounted lists q.passes) where
    module _ (w : K) (rs : List (RecordView K ℕ Add)) (room : times_in_all same w lists < 2 ^ 64)
        (h : IsHistoryOfKey same after q w rs) where
      some_pass : PassView K ℕ Add
      some_pass = record { ledger = q.ledger.id; client = 0; made = []; seen = [] }

      abbrev pass : ℕ → PassView K ℕ Add
      pass c = slice_index_or q.passes c some_pass

      own : (c : ℕ) → c < length lists → by_client c rs ≡ records_on same w (pass c).made
      own c lt = ap (λ (n : ℕ). by_client n rs) (sym (counted c some_pass lt).0) ∙ h.own c some_pass (omega arith)

      known : All (λ r. r.client < length lists) rs
      known = subst (λ (n : ℕ). All (λ (r : RecordView K ℕ Add). r.client < n) rs) clients h.clients

      ones : All AddsOne rs
      ones = all-clients AddsOne (length lists) rs known
          (λ c lt. subst (All AddsOne) (sym (own c lt))
          (All-filter (λ (r : RecordView K ℕ Add). same (key_of r.call) w) AddsOne (pass c).made
          (counted c some_pass lt).2))

      each_list : (c : ℕ) → c < length lists → length (by_client c rs) ≡ times same w (slice_index_or lists c [])
      each_list c lt =
          ap length (own c lt)
          ∙ length-filter (λ (r : RecordView K ℕ Add). same (key_of r.call) w) (pass c).made
          ∙ sym (count-map (λ (r : RecordView K ℕ Add). key_of r.call) (λ x. same x w) (pass c).made)
          ∙ ap (times same w) (counted c some_pass lt).1

      as_often : length rs ≡ times_in_all same w lists
      as_often =
          sym (length-clients (length lists) rs known)
          ∙ total-same (λ c. length (by_client c rs)) (λ c. times same w (slice_index_or lists c []))
          (length lists) each_list
          ∙ total-list (times same w) [] lists (length lists) (omega arith)
          ∙ ap (sum_by (times same w)) (take_all (length lists) lists (omega arith))

      empty : lookup same q.ledger.opening w ≡ None
      empty = ap (λ (es : List (K × ℕ)). lookup same es w) opening

      stored_count-as-often : lookup same (entries_of q.bins) w ≡ stored_count (times_in_all same w lists)
      stored_count-as-often = h.final ∙ ap (λ (cell : Option ℕ). cell_after cell rs) empty
          ∙ counts-up after none some None rs (let n = as_often in omega arith)
          ones (subst (λ (cell : Option ℕ). IsCellHistory after cell rs) empty h.legal) ∙ added-none (length rs)
          ∙ ap stored_count as_often

    pub stored_count-of-key : ((k : K) → (rs : List (RecordView K ℕ Add)) × IsHistoryOfKey same after q k rs) →
        (w : K) → times_in_all same w lists < 2 ^ 64
        → lookup same (entries_of q.bins) w ≡ stored_count (times_in_all same w lists)
    stored_count-of-key histories w room = let (rs, h) = histories w in stored_count-as-often w rs room h

  pub times-few : {A : Type 0} (w : K) (n : ℕ) (vs : List (Vec K A)) → All (λ v. length v.items ≤ n) vs
      → times_in_all same w (map (λ v. v.items) vs) ≤ length vs * n
  times-few w n [] few = omega arith
  times-few {A} w n (v ∷ vs) few =
      let P : Vec K A → Type 0 = λ x. length x.items ≤ n in
      let ih = times-few w n vs (All-tail P v vs few) in
      let here = times-le w v.items in
      let short = All-head P v vs few in
      let both = sum_by-cons (times same w) v.items (map (λ (x : Vec K A). x.items) vs) in
      omega arith
