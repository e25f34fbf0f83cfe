-- What a clear takes away, and what its visits show at the end.
use Rattle.std.proofs.Common.{◌≡◌, ℕ, ◌<◌, ◌≤◌, Bool, true, false, Decides, cond, Option, Some, None, List, []}
use Rattle.std.proofs.Common.{◌∷◌, ◌++◌, length, All}
use Rattle.std.proofs.Common.{refl, sym, ap, subst, ◌∙◌, arith}
use Rattle.std.proofs.lemmas.List.{append_assoc, append-nil}
use Rattle.std.proofs.lemmas.Option.{none-some, same_Some}
use Rattle.std.proofs.lemmas.List.Elements.{All-nil, All-cons, All-head, All-append, All-weaker}
use Rattle.std.proofs.lemmas.List.Elements.{filter-append}
use Rattle.std.proofs.lemmas.List.Sums.{sum_by-cons}
use Rattle.hashkeys.specs.Classes.{ClassView, covers, covering, is_of}
use Rattle.hashkeys.specs.Hashing.{hash_of}
use Rattle.hashkeys.specs.declared.hashing.Salt.{Salt}
use Rattle.bin_history.specs.Calls.{key_of}
use Rattle.bin_history.specs.Deltas.{change_of_count}
use Rattle.bin_history.specs.Entries.{first_in, lookup, remove, replay, store}
use Rattle.bin_history.specs.Part.{part_of_records}
use Rattle.bin_history.specs.declared.call.Call.{Call}
use Rattle.bin_history.specs.declared.call.Call.TheVariants.{Remove}
use Rattle.bin_history.specs.Records.{RecordView}
use Rattle.bin_history.specs.declared.call.Reply.{Reply}
use Rattle.count_ledger.specs.Views.{LedgerView, PassView}
use Rattle.count_ledger.proofs.Filters.{filter_none}
use Rattle.count_ledger.specs.Fronts.{BeginsWith, IsFront, HasSeen, HasSeenMore}
use Rattle.count_ledger.proofs.Fronts.{BeginsWith-all, BeginsWith-push, BeginsWith-more}
use Rattle.chm.specs.Cleared.{AreCleared, HasLeft, HasMade, HasOwnLeft, HasRemoved, HasRemovedIn, IsEmptyIn, IsRemoval}
use Rattle.chm.specs.Headline.{IsMade}
use Rattle.chm.specs.Views.{opening_in}
use Rattle.chm.proofs.Visiting.{IsOwn-visit}

module _ {K V F : Type 0} (same : K → K → Bool) (tells : (x y : K) → Decides (same x y) (x ≡ y)) (code : K → ℕ)
    (same_value : V → V → Bool)
    (remapped : F → K → Option V → Option V) (merged : F → V → V → Option V) where
  removed_here : (e : K × V) (es : List (K × V)) → remove same (e ∷ es) e.0 ≡ es
  removed_here e es = ap (λ b. cond b es (e ∷ remove same es e.0)) ((tells e.0 e.0).1 refl)

  pub found_here : (e : K × V) (es : List (K × V)) → lookup same (e ∷ es) e.0 ≡ Some e.1
  found_here e es = ap (λ b. cond b (Some e.1) (lookup same es e.0)) ((tells e.0 e.0).1 refl)

  pub first_of : (P : K × V → Type 0) (entries : List (K × V)) (first : K × V) → Some first ≡ first_in entries →
      All P entries → P first
  first_of P [] first is each = absurd (none-some first (sym is))
  first_of P (e ∷ es) first is each = subst P (sym (same_Some first e is)) (All-head P e es each)

  -- a remove of the first entry takes it away
  pub removed-first : (entries others : List (K × V)) (first : K × V) (key : K) (salt : Salt)
      (class : ClassView) (old new : PassView K V F)
      (answer : Reply V) (front : List (RecordView K V F)) (r : RecordView K V F)
      → Some first ≡ first_in entries → key ≡ first.0 → is_of code salt class key ≡ true
      → BeginsWith front old.seen → IsMade same_value remapped merged (Remove key) old new answer front r
      → r.before ≡ lookup same entries key → others ≡ store same entries key r.after
      → HasRemovedIn code salt class old new × (length others < length entries)
  removed-first [] others first key salt class old new answer front r at is of begins made before stored =
      absurd (none-some first (sym at))
  removed-first (e ∷ es) others first key salt class old new answer front r at is of begins made before stored =
      let same_key : key ≡ e.0 = is ∙ ap (λ (x : K × V). x.0) (same_Some first e at) in
      let found : r.before ≡ Some e.1 = before ∙ ap (lookup same (e ∷ es)) same_key ∙ found_here e es in
      let none : r.after ≡ None = made.left in
      let its_key : key_of r.call ≡ key = ap key_of made.call_is in
      let left : others ≡ es = stored ∙ (λ i. store same (e ∷ es) (same_key i) (none i)) ∙ removed_here e es in
      let removal : IsRemoval r = record {
        call_is = made.call_is ∙ ap (λ (k : K). Remove k) (sym its_key);
        took =
            λ i. change_of_count (found i) (none i);
      } in
      let its_class : is_of code salt class (key_of r.call) ≡ true = ap (is_of code salt class) its_key ∙ of in
      let R : RecordView K V F → Type 0 = IsRemoval in
      let C : RecordView K V F → Type 0 = λ x. is_of code salt class (key_of x.call) ≡ true in
      let shorter : length others ≡ length es = ap (λ (l : List (K × V)). length l) left in
      let has : HasMade (r ∷ []) old new = record {
        seen = subst (λ (p : PassView K V F). BeginsWith p.seen old.seen) (sym made.pass)
            (BeginsWith-push front old.seen r begins);
        pass = made.pass
            ∙ ap (λ (s : List (RecordView K V F)). record old { made = old.made ++ r ∷ []; seen = s })
            (sym (ap (λ (p : PassView K V F). p.seen) made.pass));
      } in
      ((r ∷ [], All-cons R r [] removal (All-nil R), All-cons C r [] its_class (All-nil C), has), omega arith)

module _ {K V F : Type 0} where
  pub made_none : (old new : PassView K V F) → new ≡ old → HasMade [] old new
  made_none old new is = subst (λ (p : PassView K V F). HasMade [] old p) (sym is) (record {
    seen = BeginsWith-all old.seen;
    pass = ap (λ (l : List (RecordView K V F)). record old { made = l }) (sym (append-nil old.made));
  })

  pub made_more : (rs ss : List (RecordView K V F)) (old mid new : PassView K V F) → HasMade rs old mid →
      HasMade ss mid new → HasMade (rs ++ ss) old new
  made_more rs ss old mid new a b = record {
    seen = BeginsWith-more new.seen mid.seen old.seen b.seen a.seen;
    pass = b.pass
        ∙ ap (λ (p : PassView K V F). record p { made = p.made ++ ss; seen = new.seen }) a.pass
        ∙ ap (λ (l : List (RecordView K V F)). record old { made = l; seen = new.seen })
        (append_assoc old.made rs ss);
  }

  pub made_seen : (rs : List (RecordView K V F)) (old mid new : PassView K V F) → HasMade rs old mid →
      HasSeenMore mid new → HasMade rs old new
  made_seen rs old mid new a b = record {
    seen = BeginsWith-more new.seen mid.seen old.seen b.seen a.seen;
    pass = b.pass ∙ ap (λ (p : PassView K V F). record p { seen = new.seen }) a.pass;
  }

  pub unchanged : (old new : PassView K V F) → new ≡ old → HasRemoved old new
  unchanged old new is = ([], All-nil IsRemoval, made_none old new is)

  pub removed-more : (old mid new : PassView K V F) → HasRemoved old mid → HasRemoved mid new → HasRemoved old new
  removed-more old mid new (rs, each, is) (ss, each', is') =
      (rs ++ ss, All-append IsRemoval rs ss each each', made_more rs ss old mid new is is')

  module _ (code : K → ℕ) (salt : Salt) (class : ClassView) where
    pub unchanged_in : (old new : PassView K V F) → new ≡ old → HasRemovedIn code salt class old new
    unchanged_in old new is = (
      [],
      All-nil IsRemoval,
      All-nil (λ (r : RecordView K V F). is_of code salt class (key_of r.call) ≡ true),
      made_none old new is,
    )

    pub removed_in-more : (old mid new : PassView K V F) → HasRemovedIn code salt class old mid →
        HasRemovedIn code salt class mid new
        → HasRemovedIn code salt class old new
    removed_in-more old mid new (rs, each, of, is) (ss, each', of', is') = (
      rs ++ ss,
      All-append IsRemoval rs ss each each',
      All-append (λ (r : RecordView K V F). is_of code salt class (key_of r.call) ≡ true) rs ss of of',
      made_more rs ss old mid new is is',
    )

    pub removed_in-seen : (old mid new : PassView K V F) → HasRemovedIn code salt class old mid →
        HasSeenMore mid new → HasRemovedIn code salt class old new
    removed_in-seen old mid new (rs, each, of, is) seen = (rs, each, of, made_seen rs old mid new is seen)

    pub removed_in : (old new : PassView K V F) → HasRemovedIn code salt class old new → HasRemoved old new
    removed_in old new (rs, each, of, is) = (rs, each, is)

-- classes with each hash at most once
pub without_first : (c : ClassView) (cs : List ClassView) (hash : ℕ) → covering (c ∷ cs) hash ≤ 1 → covering cs hash ≤ 1
without_first c cs hash once =
    let all = sum_by-cons (λ (x : ClassView). cond (covers x hash) 1 0) c cs in omega arith

without_second : (c d : ClassView) (ds : List ClassView) (hash : ℕ) → covering (c ∷ d ∷ ds) hash ≤ 1 →
    covering (c ∷ ds) hash ≤ 1
without_second c d ds hash once =
    let one = sum_by-cons (λ (x : ClassView). cond (covers x hash) 1 0) c (d ∷ ds) in
    let two = sum_by-cons (λ (x : ClassView). cond (covers x hash) 1 0) d ds in
    let three = sum_by-cons (λ (x : ClassView). cond (covers x hash) 1 0) c ds in omega arith

first_alone : (c d : ClassView) (ds : List ClassView) (hash : ℕ) → covering (c ∷ d ∷ ds) hash ≤ 1 →
    covers d hash ≡ true → covers c hash ≡ false
first_alone c d ds hash once its = go (covers c hash) refl where
  go : (b : Bool) → covers c hash ≡ b → covers c hash ≡ false
  go true is =
      (let one = sum_by-cons (λ (x : ClassView). cond (covers x hash) 1 0) c (d ∷ ds) in
      let two = sum_by-cons (λ (x : ClassView). cond (covers x hash) 1 0) d ds in
      let here : ◌≡◌ {A = ℕ} (cond (covers c hash) 1 0) 1 = ap (λ (b : Bool). cond b 1 0) is in
      let there : ◌≡◌ {A = ℕ} (cond (covers d hash) 1 0) 1 = ap (λ (b : Bool). cond b 1 0) its in
      absurd (omega arith))
  go false is = is

module _ {K V F : Type 0} (same : K → K → Bool) (after : Call K V F → Option V → Option V) (ledger : LedgerView K V)
  where
    -- what a pass has seen is a front for it
    pub IsFront-seen : (old new : PassView K V F) → HasSeen same after ledger old new →
        IsFront same after ledger new new.seen
    IsFront-seen old new s = subst (λ (p : PassView K V F). IsFront same after ledger p new.seen) (sym s.pass) (record {
      client = s.front.client;
      seen = BeginsWith-all new.seen;
      own = s.front.own;
      legal = s.front.legal;
      clients = s.front.clients;
    })

    module _ (code : K → ℕ) where
      -- one bin more
      pub AreCleared-push : (old mid new : PassView K V F) (cs : List ClassView) (c : ClassView) →
          AreCleared same code after ledger old cs mid → HasRemovedIn code ledger.salt c mid new →
          IsEmptyIn same code after ledger new c → AreCleared same code after ledger old (cs ++ c ∷ []) new
      AreCleared-push old mid new [] c are removed empty =
          (new, subst (λ (p : PassView K V F). HasRemovedIn code ledger.salt c p new) are removed, empty, refl)
      AreCleared-push old mid new (d ∷ ds) c (m, r, e, rest) removed empty =
          (m, r, e, AreCleared-push m mid new ds c rest removed empty)

      -- of the calls on keys of a class there are no more after removals in classes that have none of its hashes
      pub kept-part : (old new : PassView K V F) (class : ClassView) (cs : List ClassView) →
          ((hash : ℕ) → covering (class ∷ cs) hash ≤ 1) → AreCleared same code after ledger old cs new
          → part_of_records (is_of code ledger.salt class) new.made
          ≡ part_of_records (is_of code ledger.salt class) old.made
      kept-part old new class [] once are =
          ap (λ (p : PassView K V F). part_of_records (is_of code ledger.salt class) p.made) are
      kept-part old new class (d ∷ ds) once (m, (rs, each, of, is), e, rest) =
          let In : RecordView K V F → Type 0 = λ r. is_of code ledger.salt d (key_of r.call) ≡ true in
          let Out : RecordView K V F → Type 0 = λ r. is_of code ledger.salt class (key_of r.call) ≡ false in
          let none : part_of_records (is_of code ledger.salt class) rs ≡ [] =
          filter_none (λ (r : RecordView K V F). is_of code ledger.salt class (key_of r.call)) rs
          (All-weaker In Out (λ r i. first_alone class d ds (hash_of ledger.salt (code (key_of r.call)))
          (once (hash_of ledger.salt (code (key_of r.call)))) i) rs of) in
          kept-part m new class ds (λ hash. without_second class d ds hash (once hash)) rest
          ∙ ap (λ (p : PassView K V F). part_of_records (is_of code ledger.salt class) p.made) is.pass
          ∙ filter-append (λ (r : RecordView K V F). is_of code ledger.salt class (key_of r.call)) old.made rs
          ∙ ap (λ (l : List (RecordView K V F)). part_of_records (is_of code ledger.salt class) old.made ++ l) none
          ∙ append-nil (part_of_records (is_of code ledger.salt class) old.made)

      module _ (tells : (x y : K) → Decides (same x y) (x ≡ y)) where
        -- with one client, a class that was seen empty has no pair by its own calls
        own_empty : (pass : PassView K V F) (class : ClassView) → ledger.clients ≡ 1 →
            IsEmptyIn same code after ledger pass class
            → replay same (opening_in code ledger class) (part_of_records (is_of code ledger.salt class) pass.made) ≡ []
        own_empty pass class one empty =
            sym (IsOwn-visit same after ledger tells code pass pass.seen (record { class = class; entries = [] }) one
            empty.front (record {
              distinct = tt;
              of_class = All-nil (λ (e : K × V). is_of code ledger.salt class e.0 ≡ true);
              entries = sym empty.empty;
            }))

        -- with one client, no class that was cleared has a pair by its own calls
        pub emptied : (old new : PassView K V F) (cs : List ClassView) → ledger.clients ≡ 1 →
            ((hash : ℕ) → covering cs hash ≤ 1) → AreCleared same code after ledger old cs new
            → All (λ c. replay same (opening_in code ledger c) (part_of_records (is_of code ledger.salt c) new.made) ≡ [])
            cs
        emptied old new [] one once are =
            All-nil (λ c. replay same (opening_in code ledger c) (part_of_records (is_of code ledger.salt c) new.made)
            ≡ [])
        emptied old new (c ∷ cs) one once (m, r, e, rest) =
            All-cons (λ c. replay same (opening_in code ledger c) (part_of_records (is_of code ledger.salt c) new.made)
            ≡ []) c cs
            (ap (λ (l : List (RecordView K V F)). replay same (opening_in code ledger c) l)
            (kept-part m new c cs once rest) ∙ own_empty m c one e)
            (emptied m new cs one (λ hash. without_first c cs hash (once hash)) rest)

        -- with one client, a bin that has entries left has them by its own calls
        pub own_left : (pass : PassView K V F) → ledger.clients ≡ 1 → HasLeft same code after ledger pass →
            HasOwnLeft same code ledger pass
        own_left pass one (v, front, visit, some) =
            (v.class, λ none. some (IsOwn-visit same after ledger tells code pass pass.seen v one front visit ∙ none))
