-- What is at a key was left by the last put there.
use Rattle.std.proofs.Common.{◌≡◌, inl, inr, Bool, true, false, cond, Decides, Option, Some, None, List, [], ◌∷◌, ◌++◌}
use Rattle.std.proofs.Common.{All, refl, sym, ap, subst, ◌∙◌}
use Rattle.std.proofs.lemmas.Bool.{true≢false}
use Rattle.std.proofs.lemmas.List.{append_assoc, append-nil}
use Rattle.std.proofs.lemmas.List.Elements.{All-append, All-cons, All-head, All-nil, All-tail}
use Rattle.std.proofs.lemmas.Option.{none-some, same_Some}
use Rattle.bin_history.specs.Calls.{after, key_of}
use Rattle.bin_history.specs.Plain.{IsLegal, IsLegalStep, run, step}
use Rattle.bin_history.specs.Records.{RecordView}
use Rattle.bin_history.specs.declared.call.Call.{Call}
use Rattle.caches.specs.Caches.{IsAlike, IsOfLastPut, IsPutOrNothing, LeavesOrTakes, PutsNothing, no_value}
use Rattle.caches.specs.Entries.{same_entry}
use Rattle.caches.specs.declared.entry.CacheEntry.{CacheEntry}
use Rattle.functions.specs.declared.nothing.NoFunction.{NoFunction}

module _ {V : Type 0} where
  -- what a call that puts nothing left was there before
  was_there : (before after : Option (CacheEntry V)) (e : CacheEntry V) → after ≡ Some e → LeavesOrTakes before after
      → (x : CacheEntry V) × (before ≡ Some x) × IsAlike x e
  was_there before None e is leaves = absurd (none-some e is)
  was_there None (Some y) e is leaves = absurd leaves
  was_there (Some x) (Some y) e is leaves = (
    x,
    refl,
    (leaves.0 ∙ ap (λ (z : CacheEntry V). z.value) (same_Some y e is), leaves.1 ∙ ap (λ (z : CacheEntry V). z.deadline) (same_Some y e is)),
  )

module _ {K V : Type 0} (same_key : K → K → Bool) (tells : (x y : K) → Decides (same_key x y) (x ≡ y))
    (same_value : V → V → Bool) (is_put : RecordView K (CacheEntry V) NoFunction → Bool) where
  -- one call more, which puts nothing at the key
  later : (calls : List (RecordView K (CacheEntry V) NoFunction)) (r : RecordView K (CacheEntry V) NoFunction) (key : K)
      (x e : CacheEntry V) → (same_key (key_of r.call) key ≡ true → PutsNothing r) → IsAlike x e
      → IsOfLastPut same_key is_put calls key x → IsOfLastPut same_key is_put (calls ++ r ∷ []) key e
  later calls r key x e nothing alike (front, rest, s, put, whole, is, call, own, was, none) = (
    front,
    rest ++ r ∷ [],
    s,
    put,
    ap (λ (l : List (RecordView K (CacheEntry V) NoFunction)). l ++ r ∷ []) whole ∙ append_assoc front (s ∷ rest) (r ∷ []),
    is,
    call,
    own,
    (was.0 ∙ alike.0, was.1 ∙ alike.1),
    All-append (λ (t : RecordView K (CacheEntry V) NoFunction). same_key (key_of t.call) key ≡ true → PutsNothing t) rest (r ∷ [])
        none
        (All-cons (λ (t : RecordView K (CacheEntry V) NoFunction). same_key (key_of t.call) key ≡ true → PutsNothing t) r [] nothing
        (All-nil (λ (t : RecordView K (CacheEntry V) NoFunction). same_key (key_of t.call) key ≡ true → PutsNothing t))),
  )

  -- of a call at the key
  by_call : (map : K → Option (CacheEntry V)) (calls : List (RecordView K (CacheEntry V) NoFunction))
      (r : RecordView K (CacheEntry V) NoFunction) (key : K) (e : CacheEntry V)
      → ((x : CacheEntry V) → map key ≡ Some x → IsOfLastPut same_key is_put calls key x)
      → IsLegalStep same_key (after (same_entry same_value) no_value no_value) map r
      → IsPutOrNothing is_put r → same_key (key_of r.call) key ≡ true → r.after ≡ Some e
      → IsOfLastPut same_key is_put (calls ++ r ∷ []) key e
  by_call map calls r key e known legal (inl (is, put, call)) own left =
      let made : Some put ≡ Some e =
      sym (ap (λ (c : Call K (CacheEntry V) NoFunction). after (same_entry same_value) no_value no_value c r.before) call)
      ∙ sym legal.1 ∙ left in
      let same : put ≡ e = same_Some put e made in (
        calls,
        [],
        r,
        put,
        refl,
        is,
        call,
        own,
        (ap (λ (z : CacheEntry V). z.value) same, ap (λ (z : CacheEntry V). z.deadline) same),
        All-nil (λ (t : RecordView K (CacheEntry V) NoFunction). same_key (key_of t.call) key ≡ true → PutsNothing t),
      )
  by_call map calls r key e known legal (inr nothing) own left =
      let (x, before, alike) = was_there r.before r.after e left nothing in
      let at_key : map (key_of r.call) ≡ map key = ap map ((tells (key_of r.call) key).0 own) in
      later calls r key x e (λ same. nothing) alike (known x (sym at_key ∙ sym legal.0 ∙ before))

  -- of a call at the key, or at another
  at_call : (map : K → Option (CacheEntry V)) (calls : List (RecordView K (CacheEntry V) NoFunction))
      (r : RecordView K (CacheEntry V) NoFunction) (key : K) (e : CacheEntry V)
      → ((x : CacheEntry V) → map key ≡ Some x → IsOfLastPut same_key is_put calls key x)
      → IsLegalStep same_key (after (same_entry same_value) no_value no_value) map r
      → IsPutOrNothing is_put r → (is_own : Bool) → same_key (key_of r.call) key ≡ is_own
      → cond is_own r.after (map key) ≡ Some e → IsOfLastPut same_key is_put (calls ++ r ∷ []) key e
  at_call map calls r key e known legal kind true own left = by_call map calls r key e known legal kind own left
  at_call map calls r key e known legal kind false own left =
      later calls r key e e (λ same. absurd (true≢false (sym same ∙ own))) (refl, refl) (known e left)

  after_calls : (map : K → Option (CacheEntry V)) (done calls : List (RecordView K (CacheEntry V) NoFunction))
      → ((k : K) (x : CacheEntry V) → map k ≡ Some x → IsOfLastPut same_key is_put done k x)
      → IsLegal same_key (after (same_entry same_value) no_value no_value) map calls → All (IsPutOrNothing is_put) calls
      → (key : K) (e : CacheEntry V) → run same_key map calls key ≡ Some e → IsOfLastPut same_key is_put (done ++ calls) key e
  after_calls map done [] known legal kinds key e left =
      subst (λ (l : List (RecordView K (CacheEntry V) NoFunction)). IsOfLastPut same_key is_put l key e)
      (sym (append-nil done)) (known key e left)
  after_calls map done (r ∷ rs) known legal kinds key e left =
      subst (λ (l : List (RecordView K (CacheEntry V) NoFunction)). IsOfLastPut same_key is_put l key e)
      (append_assoc done (r ∷ []) rs)
      (after_calls (step same_key map r) (done ++ r ∷ []) rs
      (λ k x was. at_call map done r k x (known k) legal.0 (All-head (IsPutOrNothing is_put) r rs kinds)
      (same_key (key_of r.call) k) refl was)
      legal.1 (All-tail (IsPutOrNothing is_put) r rs kinds) key e left)

  pub last_put : (map : K → Option (CacheEntry V)) (calls : List (RecordView K (CacheEntry V) NoFunction)) (key : K) (e : CacheEntry V)
      → ((k : K) → map k ≡ None) → IsLegal same_key (after (same_entry same_value) no_value no_value) map calls
      → All (IsPutOrNothing is_put) calls → run same_key map calls key ≡ Some e
      → IsOfLastPut same_key is_put calls key e
  last_put map calls key e none legal kinds left =
      after_calls map [] calls (λ k x was. absurd (none-some x (sym (none k) ∙ was))) legal kinds key e left
