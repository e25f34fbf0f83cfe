-- Two clients that each miss the other's put have no one order.
use Rattle.std.proofs.Common.{◌≡◌, ◌≢◌, ℕ, zero, suc, ℤ, Bool, true, false, cond, ◌<◌, ◌==◌, Option, Some, None, List}
use Rattle.std.proofs.Common.{[], ◌∷◌, map, filter, drop, All, ◌⊎◌}
use Rattle.std.proofs.Common.{⊎_elim, inl, inr, slice_index_or, refl, sym, ap, ◌∙◌, subst, arith}
use Rattle.std.specs.Ordering.{int_eq}
use Rattle.std.proofs.lemmas.Bool.{eq-eqb, ne_eqb}
use Rattle.std.proofs.lemmas.List.Elements.{All-filter, All-head, All-tail, All-weaker}
use Rattle.std.specs.Cmp.Lexicographic.{bytes_decides}
use Rattle.bin_history.specs.Calls.{key_of, reply}
use Rattle.bin_history.specs.Cells.{records_on, IsCellHistory}
use Rattle.bin_history.specs.Clients.{by_client}
use Rattle.bin_history.specs.Plain.{step, IsLegal}
use Rattle.bin_history.specs.declared.call.Call.TheVariants.{Get, Put}
use Rattle.bin_history.specs.declared.call.Reply.{Reply}
use Rattle.bin_history.specs.declared.call.Reply.TheVariants.{Value}
use Rattle.bin_history.proofs.Cells.{IsLegal-cell}
use Rattle.count_ledger.proofs.Filters.{filter_turn}
use Rattle.script.specs.Grammar.{ScriptCall}
use Rattle.mapcli_core.specs.Played.{ScriptRecord}
use Rattle.mapcli_core.specs.Outcomes.{Outcome, same_key, value_after, call_and_reply, nothing, IsAllowed}
use Rattle.mapcli_core.proofs.EachKey.{map-filter}

abbrev Told : Type 0
Told = ScriptCall × Reply ℤ

abbrev missed : ScriptCall → Told
missed c = (c, Value None)

-- the first of a list, and the others
first_told : (t u : Told) (ts us : List Told) → (t ∷ ts) ≡ (u ∷ us) → (t ≡ u) × (ts ≡ us)
first_told t u ts us e = (ap (λ (l : List Told). slice_index_or l 0 t) e, ap (drop 1) e)

abbrev IsBy : ℕ → ℕ → ScriptRecord → Type 0
IsBy c d r = (r.client ≡ c) ⊎ (r.client ≡ d)

-- a key that has a value is not missed by a get, where nothing else is called on it
late : (c d : ℕ) (k : List ℕ) (v : ℤ) (rs : List ScriptRecord) → IsCellHistory value_after (Some v) rs →
    All (IsBy c d) rs
    → map call_and_reply (by_client c rs) ≡ [] → map call_and_reply (by_client d rs) ≡ missed (Get k) ∷ [] → ⊥
late c d k v [] h who none one = absurd cc
late c d k v (r ∷ rs) h who none one =
    ⊎_elim
    (λ is_c. let t : (r.client == c) ≡ true = eq-eqb r.client c is_c in
    let bad : call_and_reply r ∷ map call_and_reply (by_client c rs) ≡ [] = rw t at none in
    absurd (cc bad))
    (λ is_d.
    let t : (r.client == d) ≡ true = eq-eqb r.client d is_d in
    let both : call_and_reply r ∷ map call_and_reply (by_client d rs) ≡ missed (Get k) ∷ [] = rw t at one in
    let is : call_and_reply r ≡ missed (Get k) =
    (first_told (call_and_reply r) (missed (Get k)) (map call_and_reply (by_client d rs)) [] both).0 in
    let call : r.call ≡ Get k = ap (λ (t : Told). t.0) is in
    let found : Value r.before ≡ Value None = ap (λ (c : ScriptCall). reply int_eq c r.before r.after) (sym call)
    ∙ ap (λ (t : Told). t.1) is in
    let bad : Value (Some v) ≡ Value None = ap Value (sym h.0) ∙ found in
    absurd (cc bad))
    (All-head (IsBy c d) r rs who)

module _ (c d : ℕ) (ne : c ≢ d) (x y : List ℕ) (a b : ℤ) (apart : same_key y x ≡ false) where
  -- once the one client has put x, the other's get of x finds it
  after_first : (m : List ℕ → Option ℤ) (rs : List ScriptRecord) → m x ≡ Some a → IsLegal same_key value_after m rs →
      All (IsBy c d) rs
      → map call_and_reply (by_client c rs) ≡ missed (Get y) ∷ [] → map call_and_reply (by_client d rs)
      ≡ missed (Put y b) ∷ missed (Get x) ∷ [] → ⊥
  after_first m rs there legal who mine theirs =
      let on : ScriptRecord → Bool = λ r. same_key (key_of r.call) x in
      let on_told : Told → Bool = λ t. same_key (key_of t.0) x in
      let own : same_key x x ≡ true = (bytes_decides x x).1 refl in
      late c d x a (records_on same_key x rs)
      (subst (λ (v : Option ℤ). IsCellHistory value_after v (records_on same_key x rs)) there
      (IsLegal-cell same_key bytes_decides value_after m rs x legal))
      (All-filter on (IsBy c d) rs who)
      (ap (map call_and_reply) (filter_turn (λ (r : ScriptRecord). r.client == c) on rs)
      ∙ map-filter call_and_reply on_told (by_client c rs)
      ∙ ap (filter on_told) mine ∙ ap (λ (t : Bool). cond t (missed (Get y) ∷ []) []) apart)
      (ap (map call_and_reply) (filter_turn (λ (r : ScriptRecord). r.client == d) on rs)
      ∙ map-filter call_and_reply on_told (by_client d rs)
      ∙ ap (filter on_told) theirs
      ∙ ap (λ (t : Bool). cond t (missed (Put y b) ∷ cond (same_key x x) (missed (Get x) ∷ []) [])
      (cond (same_key x x) (missed (Get x) ∷ []) [])) apart
      ∙ ap (λ (t : Bool). cond t (missed (Get x) ∷ []) []) own)

  first_call : (r : ScriptRecord) (rs : List ScriptRecord) → r.client ≡ c →
      IsLegal same_key value_after nothing (r ∷ rs) → All (IsBy c d) (r ∷ rs)
      → map call_and_reply (by_client c (r ∷ rs)) ≡ missed (Put x a) ∷ missed (Get y) ∷ []
      → map call_and_reply (by_client d (r ∷ rs)) ≡ missed (Put y b) ∷ missed (Get x) ∷ [] → ⊥
  first_call r rs by legal who mine theirs =
      let t : (r.client == c) ≡ true = eq-eqb r.client c by in
      let f : (r.client == d) ≡ false = ne_eqb r.client d (λ e. ne (sym by ∙ e)) in
      let both : call_and_reply r ∷ map call_and_reply (by_client c rs) ≡ missed (Put x a) ∷ missed (Get y) ∷ [] =
      rw t at mine in
      let first = first_told (call_and_reply r) (missed (Put x a)) (map call_and_reply (by_client c rs))
      (missed (Get y) ∷ []) both in
      let call : r.call ≡ Put x a = ap (λ (t : Told). t.0) first.0 in
      let left : r.after ≡ Some a = legal.0.1 ∙ ap (λ (c : ScriptCall). value_after c r.before) call in
      let on : same_key (key_of r.call) x ≡ true =
      (bytes_decides (key_of r.call) x).1 (ap (λ (c : ScriptCall). key_of c) call) in
      let there : step same_key nothing r x ≡ Some a = ap (λ (b : Bool). cond b r.after None) on ∙ left in
      after_first (step same_key nothing r) rs there legal.1 (All-tail (IsBy c d) r rs who) first.1 (rw f at theirs)

apart_keys : (x y : List ℕ) → x ≢ y → same_key x y ≡ false
apart_keys x y ne = go (same_key x y) refl where
  go : (b : Bool) → same_key x y ≡ b → same_key x y ≡ false
  go true is = absurd (ne ((bytes_decides x y).0 is))
  go false is = is

client_is : (n : ℕ) → n < 2 → (n ≡ 0) ⊎ (n ≡ 1)
client_is zero lt = inl refl
client_is (suc zero) lt = inr refl
client_is (suc (suc n)) lt = absurd (omega arith)

turned : {A B : Type 0} → A ⊎ B → B ⊎ A
turned (inl a) = inr a
turned (inr b) = inl b

pub crossed-never : (x y : List ℕ) (a b : ℤ) (o : Outcome) → x ≢ y →
    o.replies ≡ (Value None ∷ Value None ∷ []) ∷ (Value None ∷ Value None ∷ []) ∷ []
    → IsAllowed ((Put x a ∷ Get y ∷ []) ∷ (Put y b ∷ Get x ∷ []) ∷ []) o → ⊥
crossed-never x y a b o ne replies allowed =
    let (calls, order) = allowed.order in
    let blocks : List (List ScriptCall) = (Put x a ∷ Get y ∷ []) ∷ (Put y b ∷ Get x ∷ []) ∷ [] in
    let mine : map call_and_reply (by_client 0 calls) ≡ missed (Put x a) ∷ missed (Get y) ∷ [] =
    rw replies at (order.made 0 (omega arith)) in
    let theirs : map call_and_reply (by_client 1 calls) ≡ missed (Put y b) ∷ missed (Get x) ∷ [] =
    rw replies at (order.made 1 (omega arith)) in
    let who : All (IsBy 0 1) calls = All-weaker (λ (r : ScriptRecord). r.client < 2) (IsBy 0 1)
    (λ r lt. client_is r.client lt) calls order.clients in
    go calls order.legal who mine theirs where
      go : (calls : List ScriptRecord) → IsLegal same_key value_after nothing calls → All (IsBy 0 1) calls
          → map call_and_reply (by_client 0 calls) ≡ missed (Put x a) ∷ missed (Get y) ∷ []
          → map call_and_reply (by_client 1 calls) ≡ missed (Put y b) ∷ missed (Get x) ∷ [] → ⊥
      go [] legal who mine theirs = absurd cc
      go (r ∷ rs) legal who mine theirs =
          ⊎_elim
          (λ is. first_call 0 1 (λ e. absurd (omega (arith, e))) x y a b (apart_keys y x (λ e. ne (sym e))) r rs is
          legal who mine theirs)
          (λ is. first_call 1 0 (λ e. absurd (omega (arith, e))) y x b a (apart_keys x y ne) r rs is legal
          (All-weaker (IsBy 0 1) (IsBy 1 0) (λ r w. turned w) (r ∷ rs) who) theirs mine)
          (All-head (IsBy 0 1) r rs who)
