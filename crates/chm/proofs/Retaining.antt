-- What a retain asks, what it removes, and what it keeps.
use Rattle.std.proofs.Common.{◌≡◌, ◌≢◌, ℕ, suc, ◌+◌, ◌<◌, ◌≤◌, Bool, true, false, cond, filter, Option, List, []}
use Rattle.std.proofs.Common.{◌∷◌, ◌++◌, ◌↔◌, inl, inr, length, drop, take, refl, sym, ap, subst, ◌∙◌}
use Rattle.std.proofs.Common.{arith, append_assoc, length-append}
use Rattle.std.specs.Borrow.{Bor}
use Rattle.std.specs.List.{AllZip, FoldsTo}
use Rattle.std.proofs.lemmas.Bool.{false≢true}
use Rattle.std.proofs.lemmas.Fn.{FoldsTo-push}
use Rattle.std.proofs.lemmas.List.{append-nil, take_at}
use Rattle.std.proofs.lemmas.List.Elements.{All-nil, All-cons, All-append, filter-append}
use Rattle.hashkeys.specs.Classes.{ClassView, is_of}
use Rattle.bin_history.specs.Calls.{key_of}
use Rattle.bin_history.specs.Entries.{replay}
use Rattle.bin_history.specs.Part.{part_of_entries}
use Rattle.bin_history.specs.declared.call.Call.{Call}
use Rattle.bin_history.specs.Records.{RecordView}
use Rattle.count_ledger.specs.Fronts.{HasSeenMore}
use Rattle.count_ledger.specs.Limits.{most_calls}
use Rattle.count_ledger.specs.Views.{LedgerView, PassView}
use Rattle.chm.specs.Cleared.{AreCleared, HasLeft, HasMade, HasRemovedIn, IsRemoval}
use Rattle.chm.specs.Refusals.{IsOfCall}
use Rattle.chm.specs.Retained.{AreRetained, HasAsked, HasKept, HasKeptAll, HasStopped, IsAsked}
use Rattle.chm.specs.Retained.{IsFoundBehind, IsRemovalOf, IsRetainedIn, IsSettled, IsStoppedBy, SaysAt}
use Rattle.chm.specs.Retained.{kept_of, removed_of}
use Rattle.chm.specs.declared.fault.Fault.{Fault}
use Rattle.chm.specs.declared.fault.Fault.TheVariants.{NoMemory, BadCapacity, BadClients, PassFull, NoClient, PassMissing, BinMissing}
use Rattle.chm.proofs.Clearing.{made_more, made_none, made_seen}
use Rattle.chm.proofs.Asking.{AllZip-append, AllZip-each, FoldsTo-append, behind, kept-append, kept-stays, parted, removed-append, removed-stays, stays}

not_nil : {X : Type 0} (fore rest : List X) (e : X) → fore ++ e ∷ rest ≢ []
not_nil {X} [] rest e is =
    let none : ◌≡◌ {A = ℕ} (length (e ∷ rest)) 0 = ap (λ (xs : List X). length xs) is in absurd (omega arith)
not_nil {X} (f ∷ fs) rest e is =
    let none : ◌≡◌ {A = ℕ} (length (f ∷ (fs ++ e ∷ rest))) 0 = ap (λ (xs : List X). length xs) is in
    absurd (omega arith)

abbrev is_full : Fault → Bool
is_full PassFull = true
is_full NoMemory = false
is_full BadCapacity = false
is_full BadClients = false
is_full NoClient = false
is_full PassMissing = false
is_full BinMissing = false

full≢memory : PassFull ≡ NoMemory → ⊥
full≢memory is = false≢true (sym (ap is_full is))

memory≢full : NoMemory ≡ PassFull → ⊥
memory≢full is = false≢true (ap is_full is)

-- what stops a retain or a clear is told as a full pass where the pass is full, and only there
pub full_if_full : {Q R : Type 0} (fault : Fault) (most made : ℕ) → IsOfCall fault
    → (fault ≡ PassFull → Q × (most ≤ made)) → (fault ≡ NoMemory → (made < most) × R)
    → (fault ≡ PassFull) ↔ (most ≤ made)
full_if_full fault most made (inl memory) full within =
    (λ is. (full is).1, λ le. (let less = (within memory).0 in absurd (omega (arith, le, less))))
full_if_full fault most made (inr so) full within = (λ is. (full is).1, λ le. so)

module _ {G K V : Type 0} (step : G → Bor K → Bor V → Bool → G → Type 0) where
  asked-stays : (most n : ℕ) → n < most → (p q : G) (es : List (K × V)) → HasKeptAll step p es q →
      FoldsTo (IsAsked step most) (p, n) (stays es) (q, n)
  asked-stays most n less p q [] is = λ i. (is i, n)
  asked-stays most n less p q (e ∷ es) (j, said, rest) =
      ((j, n), (less, said, refl), asked-stays most n less j q es rest)

  module _ {F : Type 0} (code : K → ℕ) (ledger : LedgerView K V) (class : ClassView) where
    pub settled_none : (p : G) (old : PassView K V F) (entries : List (K × V)) →
        IsSettled step code ledger class p old p old 0 entries
    settled_none p old entries = record {
      turns = [];
      asked = record {
        asked = refl;
        removals = [];
        removed = tt;
        of_class = All-nil (λ (r : RecordView K V F). is_of code ledger.salt class (key_of r.call) ≡ true);
        made = made_none old old refl;
      };
      front = [];
      rest = entries;
      parts = refl;
      place = refl;
      kept = refl;
    }

    -- some more that stay
    asked_kept : (turns : List ((K × V) × Bool)) (p : G) (old : PassView K V F) (q s : G) (new : PassView K V F)
        (es : List (K × V)) → HasAsked step code ledger class turns p old q new →
        length new.made < most_calls ledger.form ledger.clients → HasKeptAll step q es s →
        HasAsked step code ledger class (turns ++ stays es) p old s new
    asked_kept turns p old q s new es a less kept =
        let most = most_calls ledger.form ledger.clients in
        let n = length new.made in
        let same : removed_of (turns ++ stays es) ≡ removed_of turns =
        removed-append turns (stays es) ∙ ap (λ (l : List (K × V)). removed_of turns ++ l) (removed-stays es)
        ∙ append-nil (removed_of turns) in
        record {
          asked = FoldsTo-append (IsAsked step most) (p, length old.made) turns (q, n) (stays es) (s, n) a.asked
              (asked-stays most n less q s es kept);
          removals = a.removals;
          removed = subst (λ (l : List (K × V)). AllZip IsRemovalOf l a.removals) (sym same) a.removed;
          of_class = a.of_class;
          made = a.made;
        }

    one_more : (mid new : PassView K V F) (r : RecordView K V F) → HasMade (r ∷ []) mid new →
        length new.made ≡ suc (length mid.made)
    one_more mid new r made =
        let its : length new.made ≡ length (mid.made ++ r ∷ []) =
        ap (λ (p : PassView K V F). length p.made) made.pass in
        let sum = length-append mid.made (r ∷ []) in omega (arith, its, sum)

    -- one that goes
    asked_removed : (turns : List ((K × V) × Bool)) (p : G) (old : PassView K V F) (q s : G) (mid new : PassView K V F)
        (e : K × V) (r : RecordView K V F) → HasAsked step code ledger class turns p old q mid →
        length mid.made < most_calls ledger.form ledger.clients → SaysAt step q e false s → IsRemovalOf e r →
        is_of code ledger.salt class (key_of r.call) ≡ true → HasMade (r ∷ []) mid new →
        HasAsked step code ledger class (turns ++ (e, false) ∷ []) p old s new
    asked_removed turns p old q s mid new e r a less said its in_class made =
        let In : RecordView K V F → Type 0 = λ x. is_of code ledger.salt class (key_of x.call) ≡ true in
        record {
          asked = FoldsTo-push (IsAsked step (most_calls ledger.form ledger.clients)) (p, length old.made) turns
              (q, length mid.made) (e, false) (s, length new.made) a.asked (less, said, one_more mid new r made);
          removals = a.removals ++ r ∷ [];
          removed = subst (λ (l : List (K × V)). AllZip IsRemovalOf l (a.removals ++ r ∷ []))
              (sym (removed-append turns ((e, false) ∷ [])))
              (AllZip-append IsRemovalOf (removed_of turns) a.removals e r a.removed its);
          of_class = All-append In a.removals (r ∷ []) a.of_class (All-cons In r [] in_class (All-nil In));
          made = made_more a.removals (r ∷ []) old mid new a.made made;
        }

    asked-seen : (turns : List ((K × V) × Bool)) (p : G) (old : PassView K V F) (q : G) (mid new : PassView K V F) →
        HasAsked step code ledger class turns p old q mid → HasSeenMore mid new →
        HasAsked step code ledger class turns p old q new
    asked-seen turns p old q mid new a seen =
        let same : mid.made ≡ new.made = sym (ap (λ (x : PassView K V F). x.made) seen.pass) in
        record {
          asked = subst (λ (l : List (RecordView K V F)). FoldsTo
              (IsAsked step (most_calls ledger.form ledger.clients)) (p, length old.made) turns (q, length l))
              same a.asked;
          removals = a.removals;
          removed = a.removed;
          of_class = a.of_class;
          made = made_seen a.removals old mid new a.made seen;
        }

    -- the rest stays
    pub kept_rest : (p : G) (old : PassView K V F) (q s : G) (new : PassView K V F) (past : ℕ) (entries : List (K × V)) →
        IsSettled step code ledger class p old q new past entries →
        length new.made < most_calls ledger.form ledger.clients →
        HasKeptAll step q (part_of_entries (is_of code ledger.salt class) (drop past entries)) s →
        HasKept step code ledger class p old s new entries
    kept_rest p old q s new past entries x less kept =
        let es = part_of_entries (is_of code ledger.salt class) (drop past entries) in
        record {
          turns = x.turns ++ stays es;
          asked = asked_kept x.turns p old q s new es x.asked less kept;
          kept = parted code ledger class x.turns past entries x.front x.rest x.parts x.place x.kept
              ∙ ap (λ (l : List (K × V)). kept_of x.turns ++ l) (sym (kept-stays es))
              ∙ sym (kept-append x.turns (stays es));
        }

    -- there is none of the class behind the place
    pub kept_none : (p : G) (old : PassView K V F) (q : G) (new : PassView K V F) (past : ℕ) (entries : List (K × V)) →
        IsSettled step code ledger class p old q new past entries →
        part_of_entries (is_of code ledger.salt class) (drop past entries) ≡ [] →
        HasKept step code ledger class p old q new entries
    kept_none p old q new past entries x none = record {
      turns = x.turns;
      asked = x.asked;
      kept = parted code ledger class x.turns past entries x.front x.rest x.parts x.place x.kept
          ∙ ap (λ (l : List (K × V)). kept_of x.turns ++ l) none ∙ append-nil (kept_of x.turns);
    }

    -- the pass is full before the next
    pub stopped_full : (p : G) (old : PassView K V F) (q : G) (new : PassView K V F) (past : ℕ) (entries : List (K × V))
        (e : K × V) (rest : List (K × V)) → IsSettled step code ledger class p old q new past entries →
        most_calls ledger.form ledger.clients ≤ length new.made →
        part_of_entries (is_of code ledger.salt class) (drop past entries) ≡ e ∷ rest →
        HasStopped step code ledger class PassFull p old q new entries
    stopped_full p old q new past entries e rest x full some = record {
      turns = x.turns;
      last = q;
      asked = x.asked;
      next = e;
      rest = rest;
      left = parted code ledger class x.turns past entries x.front x.rest x.parts x.place x.kept
          ∙ ap (λ (l : List (K × V)). kept_of x.turns ++ l) some;
      full = λ _. (refl, full);
      memory = λ is. absurd (full≢memory is);
    }

    -- what was gone over up to an entry for which the function returned false
    module _ (p : G) (old : PassView K V F) (q s : G) (new : PassView K V F) (past place : ℕ) (entries : List (K × V))
        (e : K × V) (x : IsSettled step code ledger class p old q new past entries)
        (less : length new.made < most_calls ledger.form ledger.clients)
        (found : IsFoundBehind step (is_of code ledger.salt class) q s past place (drop past entries) e) where
      abbrev over : List ((K × V) × Bool)
      over = x.turns ++ stays (part_of_entries (is_of code ledger.salt class) found.mid)

      over_asked : HasAsked step code ledger class over p old found.asked_at new
      over_asked = asked_kept x.turns p old q found.asked_at new
          (part_of_entries (is_of code ledger.salt class) found.mid) x.asked less found.kept

      over_parts : entries ≡ (x.front ++ found.mid) ++ e ∷ found.rest
      over_parts = x.parts
          ∙ ap (λ (l : List (K × V)). x.front ++ l)
          (sym (behind code ledger class past entries x.front x.rest x.parts x.place) ∙ found.parts)
          ∙ sym (append_assoc x.front found.mid (e ∷ found.rest))

      over_kept : part_of_entries (is_of code ledger.salt class) (x.front ++ found.mid) ≡ kept_of over
      over_kept =
          let t : K × V → Bool = λ d. is_of code ledger.salt class d.0 in
          filter-append t x.front found.mid
          ∙ ap (λ (l : List (K × V)). l ++ filter t found.mid) x.kept
          ∙ ap (λ (l : List (K × V)). kept_of x.turns ++ l) (sym (kept-stays (filter t found.mid)))
          ∙ sym (kept-append x.turns (stays (filter t found.mid)))

      -- there was no memory for the remove
      pub stopped_memory : HasStopped step code ledger class NoMemory p old s new entries
      stopped_memory =
          let t : K × V → Bool = λ d. is_of code ledger.salt class d.0 in
          record {
            turns = over;
            last = found.asked_at;
            asked = over_asked;
            next = e;
            rest = filter t found.rest;
            left = ap (λ (l : List (K × V)). filter t l) over_parts
                ∙ filter-append t (x.front ++ found.mid) (e ∷ found.rest)
                ∙ ap (λ (l : List (K × V)). l ++ filter t (e ∷ found.rest)) over_kept
                ∙ ap (λ (b : Bool). kept_of over ++ cond b (e ∷ filter t found.rest) (filter t found.rest)) found.of;
            full = λ is. absurd (memory≢full is);
            memory = λ _. (less, found.said);
          }

      -- it was removed
      pub settled_more : (after : PassView K V F) (r : RecordView K V F) (others : List (K × V)) → IsRemovalOf e r →
          HasMade (r ∷ []) new after → others ≡ (take past entries ++ found.mid) ++ found.rest →
          IsSettled step code ledger class p old s after place others
      settled_more after r others its made left =
          let in_class : is_of code ledger.salt class (key_of r.call) ≡ true =
          ap (is_of code ledger.salt class) its.key ∙ found.of in
          let first : take past entries ≡ x.front =
          ap (λ (l : List (K × V)). take past l) x.parts ∙ take_at x.front x.rest past x.place in
          let sum = length-append x.front found.mid in
          let here = x.place in
          let there = found.place_is in
          record {
            turns = over ++ (e, false) ∷ [];
            asked = asked_removed over p old found.asked_at s new after e r over_asked less found.said its in_class made;
            front = x.front ++ found.mid;
            rest = found.rest;
            parts = left ∙ ap (λ (l : List (K × V)). (l ++ found.mid) ++ found.rest) first;
            place = omega (arith, sum, here, there);
            kept = over_kept
                ∙ sym (kept-append over ((e, false) ∷ []) ∙ append-nil (kept_of over));
          }

    -- the pass has then seen more, and the entries of the class are those of others
    pub kept-seen : (p : G) (old : PassView K V F) (q : G) (mid new : PassView K V F) (entries others : List (K × V)) →
        HasKept step code ledger class p old q mid entries → HasSeenMore mid new →
        part_of_entries (is_of code ledger.salt class) entries ≡ part_of_entries (is_of code ledger.salt class) others →
        HasKept step code ledger class p old q new others
    kept-seen p old q mid new entries others x seen same = record {
      turns = x.turns;
      asked = asked-seen x.turns p old q mid new x.asked seen;
      kept = sym same ∙ x.kept;
    }

    pub stopped-seen : (fault : Fault) (p : G) (old : PassView K V F) (q : G) (mid new : PassView K V F)
        (entries others : List (K × V)) → HasStopped step code ledger class fault p old q mid entries →
        HasSeenMore mid new →
        part_of_entries (is_of code ledger.salt class) entries ≡ part_of_entries (is_of code ledger.salt class) others →
        HasStopped step code ledger class fault p old q new others
    stopped-seen fault p old q mid new entries others x seen same =
        let made : mid.made ≡ new.made = sym (ap (λ (y : PassView K V F). y.made) seen.pass) in
        let most = most_calls ledger.form ledger.clients in
        record {
          turns = x.turns;
          last = x.last;
          asked = asked-seen x.turns p old x.last mid new x.asked seen;
          next = x.next;
          rest = x.rest;
          left = sym same ∙ x.left;
          full = λ is. ((x.full is).0, subst (λ (l : List (RecordView K V F)). most ≤ length l) made (x.full is).1);
          memory = λ is. (subst (λ (l : List (RecordView K V F)). length l < most) made (x.memory is).0, (x.memory is).1);
        }

    -- what was asked removed what went
    pub removed_in_of : (turns : List ((K × V) × Bool)) (p : G) (old : PassView K V F) (q : G) (new : PassView K V F) →
        HasAsked step code ledger class turns p old q new → HasRemovedIn code ledger.salt class old new
    removed_in_of turns p old q new a = (
      a.removals,
      AllZip-each IsRemovalOf IsRemoval (λ e r its. its.removal) (removed_of turns) a.removals a.removed,
      a.of_class,
      a.made,
    )

  module _ {F : Type 0} (same : K → K → Bool) (code : K → ℕ) (after : Call K V F → Option V → Option V)
      (ledger : LedgerView K V) where
    -- one bin more
    pub AreRetained-push : (p : G) (old : PassView K V F) (cs : List ClassView) (q : G) (mid : PassView K V F)
        (c : ClassView) (s : G) (new : PassView K V F) → AreRetained step same code after ledger p old cs q mid →
        IsRetainedIn step same code after ledger c q mid s new →
        AreRetained step same code after ledger p old (cs ++ c ∷ []) s new
    AreRetained-push p old [] q mid c s new are here = (
      s,
      new,
      subst (λ (j : G). IsRetainedIn step same code after ledger c j old s new) are.0
          (subst (λ (x : PassView K V F). IsRetainedIn step same code after ledger c q x s new) are.1 here),
      (refl, refl),
    )
    AreRetained-push p old (d ∷ ds) q mid c s new (j, m, first, rest) here =
        (j, m, first, AreRetained-push j m ds q mid c s new rest here)

    -- a bin that was met has an entry left
    pub left_of : (n : ℕ) (fault : Fault) (p : G) (old : PassView K V F) (q : G) (new : PassView K V F) →
        IsStoppedBy step same code after ledger n fault p old q new → HasLeft same code after ledger new
    left_of n fault p old q new (cs, next, come, j, mid, are, (class, first, stopped)) = (
      record {
        class = class;
        entries = part_of_entries (is_of code ledger.salt class) (replay same ledger.opening new.seen);
      },
      stopped.front,
      stopped.visit,
      λ none. not_nil (kept_of stopped.stopped.turns) stopped.stopped.rest stopped.stopped.next
          (sym stopped.stopped.left ∙ none),
    )

    -- where the function returns true for no entry, nothing is kept
    module _ (never : (p : G) (e : K × V) (q : G) → SaysAt step p e true q → ⊥) where
      none_kept : (most : ℕ) (turns : List ((K × V) × Bool)) (p q : G × ℕ) → FoldsTo (IsAsked step most) p turns q →
          kept_of turns ≡ []
      none_kept most [] p q asked = refl
      none_kept most (t ∷ ts) p q (j, here, rest) = go (none_kept most ts j q rest) t.1 refl where
        go : kept_of ts ≡ [] → (b : Bool) → t.1 ≡ b → kept_of (t ∷ ts) ≡ []
        go none true is = absurd (never p.0 t.0 j.0 (subst (λ (b : Bool). SaysAt step p.0 t.0 b j.0) is here.1))
        go none false is = ap (λ (b : Bool). cond b (t.0 ∷ kept_of ts) (kept_of ts)) is ∙ none

      pub cleared_of : (p : G) (old : PassView K V F) (q : G) (new : PassView K V F) (cs : List ClassView) →
          AreRetained step same code after ledger p old cs q new → AreCleared same code after ledger old cs new
      cleared_of p old q new [] are = are.1
      cleared_of p old q new (c ∷ cs) (j, m, first, rest) = (
        m,
        removed_in_of code ledger c first.kept.turns p old j m first.kept.asked,
        record {
          front = first.front;
          empty = first.kept.kept
              ∙ none_kept (most_calls ledger.form ledger.clients) first.kept.turns (p, length old.made)
              (j, length m.made) first.kept.asked.asked;
        },
        cleared_of j m q new cs rest,
      )

    -- the same, where the function is known by what it was called for
    pub cleared_by : (p : G) (old : PassView K V F) (q : G) (new : PassView K V F) (cs : List ClassView) →
        AreRetained step same code after ledger p old cs q new →
        ((i : G) (e : K × V) (j : G) → SaysAt step i e true j → ⊥) → AreCleared same code after ledger old cs new
    cleared_by p old q new cs are never = cleared_of never p old q new cs are
