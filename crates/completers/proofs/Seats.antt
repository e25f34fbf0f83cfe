-- What a token's seat has.
use Rattle.std.proofs.Common.{◌≡◌, ℕ, zero, suc, ◌+◌, ◌-◌, ◌*◌, ◌/◌, ◌^◌, ◌<◌, ◌≤◌, List, [], ◌∷◌, ◌++◌, length}
use Rattle.std.proofs.Common.{take}
use Rattle.std.proofs.Common.{drop, refl, sym, ap, ◌∙◌, arith}
use Rattle.std.proofs.Common.{take-append-drop}
use Rattle.std.proofs.Math.Nat.{pow-succ'}
use Rattle.atomic_table.specs.Table.{rest, turned}
use Rattle.completers.proofs.Weights.{total_append}
use Rattle.completers.specs.Rights.{nodes, head, tail, lower_half, upper_half}
use Rattle.completers.specs.Rule.{total}
use Rattle.completers.specs.declared.rule.Right.{Right}
use Rattle.completers.specs.declared.rule.Right.TheVariants.{Unopened}

-- a supply that isn't empty
pub nodes_step : (m n : ℕ) → 0 < n → nodes m n ≡ Unopened m ∷ nodes (m + 1) (n - 1)
nodes_step m zero pos = absurd (omega arith)
nodes_step m (suc n) pos = let z : n ≡ suc n - 1 = omega arith in ap (λ (k : ℕ). Unopened m ∷ nodes (m + 1) k) z

pub nodes_take : (k m n : ℕ) → k ≤ n → take k (nodes m n) ≡ nodes m k
nodes_take zero m n less = refl
nodes_take (suc k) m zero less = absurd (omega arith)
nodes_take (suc k) m (suc n) less = ap (λ (l : List Right). Unopened m ∷ l) (nodes_take k (m + 1) n (omega arith))

pub nodes_drop : (k m n : ℕ) → k ≤ n → drop k (nodes m n) ≡ nodes (m + k) (n - k)
nodes_drop zero m n less = let a : m ≡ m + 0 = omega arith in let b : n ≡ n - 0 = omega arith in λ t. nodes (a t) (b t)
nodes_drop (suc k) m zero less = absurd (omega arith)
nodes_drop (suc k) m (suc n) less = nodes_drop k (m + 1) n (omega arith)
    ∙ (let a : m + 1 + k ≡ m + suc k = omega arith in let b : n - k ≡ suc n - suc k = omega arith in
    λ t. nodes (a t) (b t))

-- what a fork leaves to the node, and what it gives away
pub keeps_first : (o : Right) (k m n : ℕ) → 0 < k → k ≤ n + 1 → take k (o ∷ nodes m n) ≡ o ∷ nodes m (k - 1)
keeps_first o zero m n pos less = absurd (omega arith)
keeps_first o (suc k) m n pos less = let z : k ≡ suc k - 1 = omega arith in
    ap (λ (l : List Right). o ∷ l) (nodes_take k m n (omega arith) ∙ ap (nodes m) z)

pub gives_rest : (o : Right) (k m n : ℕ) → 0 < k → k ≤ n + 1 →
    drop k (o ∷ nodes m n) ≡ nodes (m + (k - 1)) (n - (k - 1))
gives_rest o zero m n pos less = absurd (omega arith)
gives_rest o (suc k) m n pos less = nodes_drop k m n (omega arith) ∙ (let z : k ≡ suc k - 1 = omega arith in
    λ t. nodes (m + z t) (n - z t))

-- of 2 ^ level nodes, the halves
pub some_nodes : (level : ℕ) → 0 < 2 ^ level
some_nodes zero = let q : 0 < 1 = omega arith in q
some_nodes (suc level) = let e = pow-succ' 2 level in let p = some_nodes level in let n : ℕ = 2 ^ level in
    let m : ℕ = 2 ^ suc level in
    let p' : 0 < n = p in let e' : m ≡ 2 * n = e in let q : 0 < m = omega arith in q

pub two_halves : (level : ℕ) → 0 < level → 2 ^ level ≡ 2 * 2 ^ (level - 1)
two_halves zero some = absurd (omega arith)
two_halves (suc level) some = let z : level ≡ suc level - 1 = omega arith in
    pow-succ' 2 level ∙ ap (λ (k : ℕ). 2 * 2 ^ k) z

length_nodes : (m n : ℕ) → length (nodes m n) ≡ n
length_nodes m zero = refl
length_nodes m (suc n) = ap suc (length_nodes (m + 1) n)

half_long : (o : Right) (m level : ℕ) → 0 < level → length (o ∷ nodes (m + 1) (2 ^ level - 1)) / 2 ≡ 2 ^ (level - 1)
half_long o m level some = let e = two_halves level some in let p = some_nodes (level - 1) in let c : ℕ = 2 ^ level in
    let h : ℕ = 2 ^ (level - 1) in let e' : c ≡ 2 * h = e in let p' : 0 < h = p in
    let l : ℕ = length (nodes (m + 1) (c - 1)) in let l' : l ≡ c - 1 = length_nodes (m + 1) (c - 1) in
    let q : suc l / 2 ≡ h = omega arith in q

pub lower : (o : Right) (m level : ℕ) → 0 < level → lower_half (o ∷ nodes (m + 1) (2 ^ level - 1)) ≡ o ∷ nodes (m + 1)
    (2 ^ (level - 1) - 1)
lower o m level some = let e = two_halves level some in let p = some_nodes (level - 1) in let c : ℕ = 2 ^ level in
    let h : ℕ = 2 ^ (level - 1) in let e' : c ≡ 2 * h = e in let p' : 0 < h = p in
    ap (λ (k : ℕ). take k (o ∷ nodes (m + 1) (c - 1))) (half_long o m level some)
    ∙ keeps_first o h (m + 1) (c - 1) p' (let q : h ≤ c - 1 + 1 = omega arith in q)

pub upper : (o : Right) (m level : ℕ) → 0 < level
    → upper_half (o ∷ nodes (m + 1) (2 ^ level - 1)) ≡ nodes (m + 2 ^ (level - 1)) (2 ^ (level - 1))
upper o m level some = let e = two_halves level some in let p = some_nodes (level - 1) in let c : ℕ = 2 ^ level in
    let h : ℕ = 2 ^ (level - 1) in let e' : c ≡ 2 * h = e in let p' : 0 < h = p in
    let a : m + 1 + (h - 1) ≡ m + h = omega arith in let b : c - 1 - (h - 1) ≡ h = omega arith in
    ap (λ (k : ℕ). drop k (o ∷ nodes (m + 1) (c - 1))) (half_long o m level some)
    ∙ (gives_rest o h (m + 1) (c - 1) p' (let q : h ≤ c - 1 + 1 = omega arith in q) ∙ (λ t. nodes (a t) (b t)))

-- a node among them has its eight slots
pub has_slots : (m level slots : ℕ) → 8 * (m + 2 ^ level) ≤ slots → 8 * m + 8 ≤ slots
has_slots m level slots inside = let p = some_nodes level in let c : ℕ = 2 ^ level in let p' : 0 < c = p in
    let i : 8 * (m + c) ≤ slots = inside in let q : 8 * m + 8 ≤ slots = omega arith in q

-- the weights of what a split and a join leave
pub first_weight : (h : Right → ℕ) (rs : List Right) → total h (tail rs) + total h (head rs) ≤ total h rs
first_weight h [] = omega arith
first_weight h (r ∷ rs) = let a : ℕ = h r in let b : ℕ = total h rs in let q : b + (a + 0) ≤ a + b = omega arith in q

pub rest_weight : (h : Right → ℕ) (k : ℕ) (rs : List Right) → total h (take k rs) + total h (drop k rs) ≤ total h rs
rest_weight h k rs = let a : ℕ = total h (take k rs) in let b : ℕ = total h (drop k rs) in let c : ℕ = total h rs in
    let e : total h (take k rs ++ drop k rs) ≡ a + b = total_append h (take k rs) (drop k rs) in
    let f : total h (take k rs ++ drop k rs) ≡ c = ap (total h) (take-append-drop k rs) in
    let d : ℕ = total h (take k rs ++ drop k rs) in
    let e' : d ≡ a + b = e in let f' : d ≡ c = f in let q : a + b ≤ c = omega arith in q

pub join_weight : (h : Right → ℕ) (rs qs : List Right) → total h (rs ++ qs) ≤ total h rs + total h qs
join_weight h rs qs = let e : total h (rs ++ qs) ≡ total h rs + total h qs = total_append h rs qs in
    let a : ℕ = total h (rs ++ qs) in
    let b : ℕ = total h rs in let c : ℕ = total h qs in let e' : a ≡ b + c = e in let q : a ≤ b + c = omega arith in q

-- a list of slots that is worked off from the front
module _ {S : Type 0} where
  abbrev pub value_of : S → List (ℕ × S) → S
  value_of d [] = d
  value_of d (x ∷ xs) = x.1

  -- the one in front, whatever it holds
  pub ahead : {x : ℕ × S} {l r : List (ℕ × S)} → l ≡ x ∷ r → (v : S) × (l ≡ (x.0, v) ∷ rest l)
  ahead {x = x} e = (x.1, e ∙ ap (λ (m : List (ℕ × S)). x ∷ rest m) (sym e))

  -- it has gone behind the others
  pub next : (n : S) {x : ℕ × S} {l l' r : List (ℕ × S)} → l ≡ x ∷ r → l' ≡ turned ((x.0, n) ∷ rest l) →
      l' ≡ r ++ (x.0, n) ∷ []
  next n {x = x} e f = f ∙ ap (λ (m : List (ℕ × S)). turned ((x.0, n) ∷ rest m)) e

  pub found : (l : List (ℕ × S)) (s t : ℕ) (v w : S) (r : List (ℕ × S)) → l ≡ (s, v) ∷ r → l ≡ (t, w) ∷ rest l → w ≡ v
  found l s t v w r e f = sym (ap (value_of v) f) ∙ ap (value_of v) e
