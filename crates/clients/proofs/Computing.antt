-- Whether a call asked its function, by its answer and by whether the number of keys changed.
use Rattle.std.proofs.Common.{◌≡◌, ℕ, ◌+◌, ◌%◌, ◌^◌, ◌<◌, Bool, true, false, not, ◌||◌, ◌==◌, Option, Some, None}
use Rattle.std.proofs.Common.{is_none, is_some, List, [], ◌∷◌, ◌++◌, refl, sym, ap}
use Rattle.std.proofs.Common.{◌∙◌, arith}
use Rattle.std.proofs.lemmas.Bool.{eq-eqb, ne_eqb}
use Rattle.bin_history.specs.Calls.{after}
use Rattle.bin_history.specs.Deltas.{change_of_count, delta, sum_of_deltas}
use Rattle.bin_history.specs.Records.{RecordView}
use Rattle.bin_history.specs.Sure.{asks, op_of}
use Rattle.bin_history.specs.declared.call.Call.{Call}
use Rattle.bin_history.specs.declared.call.Call.TheVariants.{ComputeIfAbsent, ComputeIfPresent, Merge}
use Rattle.bin_history.specs.declared.call.Reply.{Reply}
use Rattle.bin_history.specs.declared.call.Reply.TheVariants.{Value, Truth}
use Rattle.chm.specs.Headline.{IsMade}
use Rattle.clients.specs.Computed.{changes, IsTold, IsToldChange}
use Rattle.count_ledger.specs.Views.{PassView}
use Rattle.count_ledger.specs.Words.{word_of}
use Rattle.count_ledger.proofs.WordSums.{word_of-add, sum_of_deltas-push}

same_word : (a b : ℕ) → a < 2 ^ 64 → b ≡ (a + 0) % 2 ^ 64 → not (b == a) ≡ false
same_word a b small is = ap not (eq-eqb b a (omega (arith, is)))

word_up : (a b : ℕ) → a < 2 ^ 64 → b ≡ (a + 1) % 2 ^ 64 → not (b == a) ≡ true
word_up a b small is = ap not (ne_eqb b a (λ e. omega (arith, e, is)))

word_down : (a b : ℕ) → a < 2 ^ 64 → b ≡ (a + 18446744073709551615) % 2 ^ 64 → not (b == a) ≡ true
word_down a b small is = ap not (ne_eqb b a (λ e. omega (arith, e, is)))

changed_word : {V : Type 0} (before after : Option V) (a b : ℕ) → a < 2 ^ 64 →
    b ≡ (a + word_of (change_of_count before after)) % 2 ^ 64
    → not (b == a) ≡ changes before after
changed_word None None = same_word
changed_word None (Some y) = word_up
changed_word (Some x) None = word_down
changed_word (Some x) (Some y) = same_word

module _ {K V F : Type 0} (made : List (RecordView K V F)) (r : RecordView K V F) where
  changed_balance : (a b : ℕ) → a < 2 ^ 64 → a ≡ word_of (sum_of_deltas made) →
      b ≡ word_of (sum_of_deltas (made ++ r ∷ []))
      → not (b == a) ≡ changes r.before r.after
  changed_balance a b small a_is b_is =
      changed_word r.before r.after a b small
      (b_is ∙ ap word_of (sum_of_deltas-push made r) ∙ word_of-add (sum_of_deltas made) (delta r)
      ∙ ap (λ (n : ℕ). (n + word_of (delta r)) % 2 ^ 64) (sym a_is))

-- the answers
module _ {V : Type 0} where
  asked_on_absent : (before after : Option V) → ((x : V) → before ≡ Some x → after ≡ Some x)
      → not (is_some after) || changes before after ≡ is_none before
  asked_on_absent None None keeps = refl
  asked_on_absent None (Some y) keeps = refl
  asked_on_absent (Some x) None keeps = (let kept = keeps x refl in absurd cc)
  asked_on_absent (Some x) (Some y) keeps = refl

  asked_on_present : (before after : Option V) → (before ≡ None → after ≡ None) → is_some after || changes before after
      ≡ is_some before
  asked_on_present None None keeps = refl
  asked_on_present None (Some y) keeps = (let kept = keeps refl in absurd cc)
  asked_on_present (Some x) None keeps = refl
  asked_on_present (Some x) (Some y) keeps = refl

  asked_on_merge : (given : V) (before after : Option V) → (before ≡ None → after ≡ Some given)
      → not (is_some after) || not (changes before after) ≡ is_some before
  asked_on_merge given None None keeps = (let kept = keeps refl in absurd cc)
  asked_on_merge given None (Some y) keeps = refl
  asked_on_merge given (Some x) None keeps = refl
  asked_on_merge given (Some x) (Some y) keeps = refl

abbrev value_of : {V : Type 0} → Reply V → Option V
value_of (Value v) = v
value_of (Truth _) = None

other : (b n : Bool) → b ≡ not n → n ≡ not b
other b true e = ap not (sym e)
other b false e = ap not (sym e)

-- the balance before the call and the balance after it differ where the call changed the number of keys
pub told-change : {K V F : Type 0} (old mid made new : PassView K V F) (a b : ℕ) → mid ≡ old → new ≡ made → a < 2 ^ 64
    → a ≡ word_of (sum_of_deltas old.made) → b ≡ word_of (sum_of_deltas made.made)
    → IsToldChange old new (not (b == a))
told-change {K} {V} {F} old mid made new a b mid_is new_is small a_is b_is r is =
    changed_balance old.made r a b small a_is
    (b_is ∙ ap (λ (p : PassView K V F). word_of (sum_of_deltas p.made)) (sym new_is)
    ∙ ap (λ (rs : List (RecordView K V F)). word_of (sum_of_deltas rs)) is)

module _ {K V F : Type 0} (same_value : V → V → Bool) (remapped : F → K → Option V → Option V)
    (merged : F → V → V → Option V)
    (old new : PassView K V F) (changed : Bool) (value : Option V) (front : List (RecordView K V F))
    (is_told : IsToldChange old new changed) where
  told : (call : Call K V F) (r : RecordView K V F) (test : Bool → Bool) →
      IsMade same_value remapped merged call old new (Value value) front r
      → test (changes r.before r.after) ≡ asks (op_of call) r.before → IsTold call old new (test changed)
  told call r test is asked =
      let made_is : new.made ≡ old.made ++ r ∷ [] = ap (λ (p : PassView K V F). p.made) is.pass in
      (r, made_is, is.call_is, ap test (is_told r made_is) ∙ asked)

  pub told-absent : (k : K) (f : F) (r : RecordView K V F) (none : Bool) → is_some value ≡ not none
      → IsMade same_value remapped merged (ComputeIfAbsent k f) old new (Value value) front r
      → IsTold (ComputeIfAbsent k f) old new (none || changed)
  told-absent k f r none none_is is =
      told (ComputeIfAbsent k f) r (λ c. none || c) is
      (ap (λ (n : Bool). n || changes r.before r.after)
      (other (is_some value) none none_is
      ∙ ap (λ (v : Option V). not (is_some v)) (ap value_of is.reply_is))
      ∙ asked_on_absent r.before r.after
      (λ x e. is.left ∙ ap (after same_value remapped merged (ComputeIfAbsent k f)) e))

  pub told-present : (k : K) (f : F) (r : RecordView K V F) (some : Bool) → some ≡ is_some value
      → IsMade same_value remapped merged (ComputeIfPresent k f) old new (Value value) front r
      → IsTold (ComputeIfPresent k f) old new (some || changed)
  told-present k f r some some_is is =
      told (ComputeIfPresent k f) r (λ c. some || c) is
      (ap (λ (n : Bool). n || changes r.before r.after)
      (some_is ∙ ap (λ (v : Option V). is_some v) (ap value_of is.reply_is))
      ∙ asked_on_present r.before r.after
      (λ e. is.left ∙ ap (after same_value remapped merged (ComputeIfPresent k f)) e))

  pub told-merge : (k : K) (v : V) (f : F) (r : RecordView K V F) (none : Bool) → is_some value ≡ not none
      → IsMade same_value remapped merged (Merge k v f) old new (Value value) front r
      → IsTold (Merge k v f) old new (none || not changed)
  told-merge k v f r none none_is is =
      told (Merge k v f) r (λ c. none || not c) is
      (ap (λ (n : Bool). n || not (changes r.before r.after))
      (other (is_some value) none none_is
      ∙ ap (λ (w : Option V). not (is_some w)) (ap value_of is.reply_is))
      ∙ asked_on_merge v r.before r.after (λ e. is.left ∙ ap (after same_value remapped merged (Merge k v f)) e))
