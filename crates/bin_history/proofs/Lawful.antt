-- What a bin keeps, through a call, a fold and a split.
use Rattle.std.proofs.Common.{◌≡◌, ℕ, ◌<◌, ◌≤◌, Bool, true, false, cond, Option, Decides, inl, inr, List}
use Rattle.std.proofs.Common.{[], ◌∷◌, ◌++◌, length, refl, sym, ap, ◌∙◌}
use Rattle.std.proofs.Common.{subst, arith, All, take, drop, filter}
use Rattle.std.proofs.lemmas.Grind.{common_steps}
use Rattle.std.proofs.lemmas.List.{length_push, take-append-drop, length-drop}
use Rattle.std.proofs.lemmas.List.Elements.{All-cons, All-nil, All-push, All-take, All-drop}
use Rattle.hashkeys.specs.Classes.{ClassView, is_of}
use Rattle.hashkeys.specs.declared.hashing.Salt.{Salt}
use Rattle.bin_history.specs.Entries.{lookup, HasDistinctKeys, store, replay}
use Rattle.bin_history.specs.Calls.{key_of}
use Rattle.bin_history.specs.Plain.{run, IsLegal}
use Rattle.bin_history.specs.Part.{part_of_entries, part_of_records}
use Rattle.bin_history.specs.Readiness.{KeepsOrFolds}
use Rattle.bin_history.specs.Lawful.{BinView, IsReplayed, IsLawful, StoresByForm}
use Rattle.bin_history.specs.Logs.{IsKeptOrFolded}
use Rattle.bin_history.specs.declared.form.Form.{Form}
use Rattle.bin_history.specs.declared.form.Form.TheVariants.{Recorded, Lean}
use Rattle.bin_history.specs.declared.call.Call.{Call}
use Rattle.bin_history.specs.Records.{RecordView}
use Rattle.bin_history.proofs.Runs.{replay-append, HasDistinctKeys-replay, All-replay, lookup-replay, IsLegal-append}
use Rattle.bin_history.proofs.Runs.{IsLegal-rest}
use Rattle.bin_history.proofs.Orders.{in_order_replay}
use Rattle.bin_history.proofs.Parts.{lookup-part, HasDistinctKeys-part, replay-part, IsLegal-part}

pub All-passed : {X : Type 0} (p : X → Bool) (xs : List X) → All (λ x. p x ≡ true) (filter p xs)
All-passed {X} p [] = All-nil (λ (x : X). p x ≡ true)
All-passed {X} p (x ∷ xs) = go (All-passed p xs) (p x) refl where
  go : All (λ y. p y ≡ true) (filter p xs) → (b : Bool) → p x ≡ b →
      All (λ y. p y ≡ true) (cond b (x ∷ filter p xs) (filter p xs))
  go rest true e = All-cons (λ (y : X). p y ≡ true) x (filter p xs) e rest
  go rest false e = rest

length-filter-le : {X : Type 0} (p : X → Bool) (xs : List X) → length (filter p xs) ≤ length xs
length-filter-le p [] = omega arith
length-filter-le p (x ∷ xs) = let ih = length-filter-le p xs in grind (arith, common_steps)

module _ {K V F : Type 0} (same : K → K → Bool) (tells : (x y : K) → Decides (same x y) (x ≡ y)) (code : K → ℕ)
    (after : Call K V F → Option V → Option V) where
  pub IsReplayed-new : (salt : Salt) (class : ClassView) (base : List (K × V)) (records : List (RecordView K V F))
      (entries : List (K × V)) → HasDistinctKeys
      same base → All (λ e. is_of code salt class e.0 ≡ true) base → records ≡ [] → entries ≡ base →
      IsReplayed same code after salt class base records entries
  IsReplayed-new salt class base records entries d c r e =
      let P : List (RecordView K V F) → Type 0 = λ rs. IsReplayed same code after salt class base rs entries in
      subst P (sym r) (record {
        base_distinct = d;
        base_of_class = c;
        records_of_class = All-nil (λ (x : RecordView K V F). is_of code salt class (key_of x.call) ≡ true);
        legal = tt;
        at_most = omega arith;
        replayed = e;
      })

  pub IsReplayed-applied : (salt : Salt) (class : ClassView) (base : List (K × V)) (records : List (RecordView K V F))
      (entries : List (K × V))
      (r : RecordView K V F) → IsReplayed same code after salt class base records entries →
      is_of code salt class (key_of r.call) ≡ true
      → r.before ≡ lookup same entries (key_of r.call) → r.after ≡ after r.call r.before → length records < 1024
      → IsReplayed same code after salt class base (records ++ r ∷ []) (store same entries (key_of r.call) r.after)
  IsReplayed-applied salt class base records entries r k of_class before_is after_is few =
      let now : lookup same entries ≡ run same (lookup same base) records = ap (lookup same) k.replayed
      ∙ lookup-replay same tells base records k.base_distinct in
      let at_key : lookup same entries (key_of r.call) ≡ run same (lookup same base) records (key_of r.call) =
      ap (λ (m : K → Option V). m (key_of r.call)) now in
      record {
        base_distinct = k.base_distinct;
        base_of_class = k.base_of_class;
        records_of_class = All-push (λ (x : RecordView K V F). is_of code salt class (key_of x.call) ≡ true) records r
            k.records_of_class of_class;
        legal = IsLegal-append same tells after (lookup same base) records (r ∷ []) k.legal
            ((before_is ∙ at_key, after_is), tt);
        at_most = let l = length_push records r in omega arith;
        replayed = ap (λ es. store same es (key_of r.call) r.after) k.replayed
            ∙ sym (replay-append same tells base records (r ∷ []));
      }

  pub IsReplayed-folded : (salt : Salt) (class : ClassView) (base : List (K × V)) (records : List (RecordView K V F))
      (entries : List (K × V)) (n : ℕ)
      → IsReplayed same code after salt class base records entries
      → IsReplayed same code after salt class (replay same base (take n records)) (drop n records) entries
  IsReplayed-folded salt class base records entries n k =
      let whole : take n records ++ drop n records ≡ records = take-append-drop n records in
      let legal : IsLegal same after (lookup same base) (take n records ++ drop n records) = rw whole k.legal in
      let Q : RecordView K V F → Type 0 = λ x. is_of code salt class (key_of x.call) ≡ true in
      let now : run same (lookup same base) (take n records) ≡ lookup same (replay same base (take n records)) =
      sym (lookup-replay same tells base (take n records) k.base_distinct) in
      let L : (K → Option V) → Type 0 = λ m. IsLegal same after m (drop n records) in
      record {
        base_distinct = HasDistinctKeys-replay same tells base (take n records) k.base_distinct;
        base_of_class = All-replay same tells (λ q. is_of code salt class q ≡ true) base
            (take n records) k.base_of_class
            (All-take Q n records k.records_of_class);
        records_of_class = All-drop Q n records k.records_of_class;
        legal = subst L now (IsLegal-rest same tells after (lookup same base) (take n records) (drop n records) legal);
        at_most = let l = length-drop n records in let m = k.at_most in omega arith;
        replayed = k.replayed ∙ ap (replay same base) (sym whole) ∙ replay-append same tells base (take n records)
            (drop n records);
      }

  pub IsReplayed-part : (salt : Salt) (class half : ClassView) (base : List (K × V)) (records : List (RecordView K V F))
      (entries : List (K × V))
      → IsReplayed same code after salt class base records entries →
      IsReplayed same code after salt half (part_of_entries (is_of code salt half) base)
      (part_of_records (is_of code salt half) records) (part_of_entries (is_of code salt half) entries)
  IsReplayed-part salt class half base records entries k =
      let test : K → Bool = is_of code salt half in
      let L : (K → Option V) → Type 0 = λ m. IsLegal same after m (part_of_records test records) in
      record {
        base_distinct = HasDistinctKeys-part same tells test base k.base_distinct;
        base_of_class = All-passed (λ (e : K × V). test e.0) base;
        records_of_class = All-passed (λ (r : RecordView K V F). test (key_of r.call)) records;
        legal = subst L (λ i q. sym (lookup-part same tells test base q) i)
            (IsLegal-part same tells test after (lookup same base) records k.legal);
        at_most = let l = length-filter-le (λ (r : RecordView K V F). test (key_of r.call)) records in
            let m = k.at_most in omega arith;
        replayed = ap (part_of_entries test) k.replayed ∙ sym (replay-part same tells test base records);
      }

  pub IsLawful-from_replayed : (b : BinView K V F) →
      IsReplayed same code after b.salt b.class b.base b.records b.entries → StoresByForm b
      → IsLawful same code after b
  IsLawful-from_replayed b k stored =
      let es = replay same b.base b.records in
      record {
        base_distinct = k.base_distinct;
        distinct = rw k.replayed (HasDistinctKeys-replay same tells b.base b.records k.base_distinct);
        base_of_class = k.base_of_class;
        records_of_class = k.records_of_class;
        of_class =
            rw k.replayed
            (All-replay same tells (λ q. is_of code b.salt b.class q ≡ true) b.base b.records k.base_of_class
            k.records_of_class);
        legal = k.legal;
        at_most = k.at_most;
        stored = stored;
        same_map = λ q. ap (λ es. lookup same es q) k.replayed ∙ ap (λ (m : K → Option V). m q)
            (lookup-replay same tells b.base b.records k.base_distinct);
        in_order = rw k.replayed (in_order_replay same tells after b.base b.records k.base_distinct k.legal);
      }

  -- a bin without records, whose base is its entries
  pub IsReplayed-lean : (salt : Salt) (class : ClassView) (entries : List (K × V)) → HasDistinctKeys same entries
      → All (λ e. is_of code salt class e.0 ≡ true) entries → IsReplayed same code after salt class entries [] entries
  IsReplayed-lean salt class entries d c = IsReplayed-new salt class entries [] entries d c refl refl

  -- base and records as they were, or the oldest records folded
  pub IsReplayed-kept : (salt : Salt) (class : ClassView) (base : List (K × V)) (records : List (RecordView K V F))
      (base' : List (K × V))
      (records' : List (RecordView K V F)) (entries : List (K × V))
      → IsReplayed same code after salt class base records entries → IsKeptOrFolded same base records base' records'
      → IsReplayed same code after salt class base' records' entries
  IsReplayed-kept salt class base records base' records' entries k (inl (b, r)) = rw (b, r) k
  IsReplayed-kept salt class base records base' records' entries k (inr (full, b, r)) =
      rw (b, r) (IsReplayed-folded salt class base records entries 512 k)

abbrev is_recorded : Form → Type 0
is_recorded Recorded = Unit {0}
is_recorded Lean = ⊥

pub recorded_is_not_lean : Recorded ≡ Lean → ⊥
recorded_is_not_lean e = subst is_recorded e tt

pub KeepsOrFolds-of : {K V F : Type 0} (same_key : K → K → Bool) (b c : BinView K V F) →
    IsKeptOrFolded same_key b.base b.records c.base c.records
    → KeepsOrFolds same_key b c
KeepsOrFolds-of same_key b c (inl (base, records)) = inl (record { base = base; records = records })
KeepsOrFolds-of same_key b c (inr (full, base, records)) = inr (record { full = full; base = base; records = records })
