-- An entry that a retain removes.
use Rattle.std.proofs.Common.{◌≡◌, ℕ, ◌+◌, ◌<◌, ◌≤◌, Bool, true, false, Decides, cond, Option, Some, None, List, []}
use Rattle.std.proofs.Common.{◌∷◌, ◌++◌, length, drop, take, All, refl, sym, ap, subst, ◌∙◌}
use Rattle.std.proofs.Common.{arith, append_assoc, length-append}
use Rattle.std.specs.Borrow.{Bor}
use Rattle.std.proofs.lemmas.List.{take-append-drop}
use Rattle.std.proofs.lemmas.Option.{none-some}
use Rattle.std.proofs.lemmas.List.Elements.{All-nil, All-cons, All-head, All-tail}
use Rattle.hashkeys.specs.Classes.{ClassView, is_of}
use Rattle.hashkeys.specs.declared.hashing.Salt.{Salt}
use Rattle.bin_history.specs.Calls.{key_of}
use Rattle.bin_history.specs.Deltas.{change_of_count}
use Rattle.bin_history.specs.Entries.{HasDistinctKeys, lookup, remove, store}
use Rattle.bin_history.specs.Lawful.{BinView}
use Rattle.bin_history.specs.Part.{part_of_entries}
use Rattle.bin_history.specs.declared.call.Call.TheVariants.{Remove}
use Rattle.bin_history.specs.declared.call.Reply.{Reply}
use Rattle.bin_history.specs.Records.{RecordView}
use Rattle.count_ledger.specs.Fronts.{BeginsWith}
use Rattle.count_ledger.specs.Views.{LedgerView, PassView}
use Rattle.count_ledger.proofs.Fronts.{BeginsWith-push}
use Rattle.chm.specs.Cleared.{HasMade, HasRemoved, IsRemoval}
use Rattle.chm.specs.Headline.{IsMade}
use Rattle.chm.specs.Histories.{IsCalledOn}
use Rattle.chm.specs.Retained.{HasEntry, HasKeptAll}
use Rattle.chm.specs.Retained.{IsFoundBehind, IsRemovalOf}
use Rattle.chm.proofs.Clearing.{found_here}

module _ {K V F : Type 0} (same : K → K → Bool) (tells : (x y : K) → Decides (same x y) (x ≡ y)) (code : K → ℕ)
    (same_value : V → V → Bool)
    (remapped : F → K → Option V → Option V) (merged : F → V → V → Option V) where
  -- the value of an entry among others of distinct keys
  found_there : (front rest : List (K × V)) (e : K × V) → HasDistinctKeys same (front ++ e ∷ rest) →
      lookup same (front ++ e ∷ rest) e.0 ≡ Some e.1
  found_there [] rest e distinct = found_here same tells code same_value remapped merged e rest
  found_there (d ∷ ds) rest e distinct = go (found_there ds rest e distinct.1) (same d.0 e.0) refl where
    go : lookup same (ds ++ e ∷ rest) e.0 ≡ Some e.1 → (b : Bool) → same d.0 e.0 ≡ b →
        lookup same (d ∷ ds ++ e ∷ rest) e.0 ≡ Some e.1
    go there true is =
        let its : d.0 ≡ e.0 = (tells d.0 e.0).0 is in
        absurd (none-some e.1 (sym distinct.0 ∙ ap (lookup same (ds ++ e ∷ rest)) its ∙ there))
    go there false is = ap (λ b. cond b (Some d.1) (lookup same (ds ++ e ∷ rest) e.0)) is ∙ there

  -- a remove of its key leaves the others
  removed_there : (front rest : List (K × V)) (e : K × V) → HasDistinctKeys same (front ++ e ∷ rest) →
      remove same (front ++ e ∷ rest) e.0 ≡ front ++ rest
  removed_there [] rest e distinct =
      ap (λ (b : Bool). cond b rest (e ∷ remove same rest e.0)) ((tells e.0 e.0).1 refl)
  removed_there (d ∷ ds) rest e distinct =
      go (found_there ds rest e distinct.1) (removed_there ds rest e distinct.1) (same d.0 e.0) refl where
        go : lookup same (ds ++ e ∷ rest) e.0 ≡ Some e.1 → remove same (ds ++ e ∷ rest) e.0 ≡ ds ++ rest → (b : Bool) →
            same d.0 e.0 ≡ b → remove same (d ∷ ds ++ e ∷ rest) e.0 ≡ d ∷ ds ++ rest
        go there gone true is =
            let its : d.0 ≡ e.0 = (tells d.0 e.0).0 is in
            absurd (none-some e.1 (sym distinct.0 ∙ ap (lookup same (ds ++ e ∷ rest)) its ∙ there))
        go there gone false is =
            ap (λ (b : Bool). cond b (ds ++ e ∷ rest) (d ∷ remove same (ds ++ e ∷ rest) e.0)) is
            ∙ ap (λ (l : List (K × V)). d ∷ l) gone

  -- a remove of an entry of a bin
  pub removed_one : (entries others front rest : List (K × V)) (e : K × V) (key : K) (old new : PassView K V F)
      (answer : Reply V) (calls : List (RecordView K V F)) (r : RecordView K V F)
      → HasDistinctKeys same entries → entries ≡ front ++ e ∷ rest → key ≡ e.0 → BeginsWith calls old.seen
      → IsMade same_value remapped merged (Remove key) old new answer calls r
      → r.before ≡ lookup same entries key → others ≡ store same entries key r.after
      → IsRemovalOf e r × HasMade (r ∷ []) old new × (others ≡ front ++ rest)
  removed_one entries others front rest e key old new answer calls r distinct parts is begins made before stored =
      let apart : HasDistinctKeys same (front ++ e ∷ rest) =
      subst (λ (es : List (K × V)). HasDistinctKeys same es) parts distinct in
      let there : lookup same entries e.0 ≡ Some e.1 =
      subst (λ (es : List (K × V)). lookup same es e.0 ≡ Some e.1) (sym parts) (found_there front rest e apart) in
      let found : r.before ≡ Some e.1 = before ∙ ap (lookup same entries) is ∙ there in
      let none : r.after ≡ None = made.left in
      let its_key : key_of r.call ≡ key = ap key_of made.call_is in (
        record {
          removal = record {
            call_is = made.call_is ∙ ap (λ (k : K). Remove k) (sym its_key);
            took = λ i. change_of_count (found i) (none i);
          };
          key = its_key ∙ is;
          before = found;
        },
        record {
          seen = subst (λ (p : PassView K V F). BeginsWith p.seen old.seen) (sym made.pass)
              (BeginsWith-push calls old.seen r begins);
          pass = made.pass
              ∙ ap (λ (s : List (RecordView K V F)). record old { made = old.made ++ r ∷ []; seen = s })
              (sym (ap (λ (p : PassView K V F). p.seen) made.pass));
        },
        stored ∙ (λ i. store same entries key (none i)) ∙ ap (remove same entries) is
            ∙ ap (λ (es : List (K × V)). remove same es e.0) parts ∙ removed_there front rest e apart,
      )

  -- the entry that was found behind a place was removed
  pub gone : {G : Type 0} (step : G → Bor K → Bor V → Bool → G → Type 0) (test : K → Bool) (p q : G) (past place : ℕ)
      (entries others : List (K × V)) (e : K × V) (key : K) (old new : PassView K V F) (answer : Reply V)
      (calls : List (RecordView K V F)) (r : RecordView K V F)
      (found : IsFoundBehind step test p q past place (drop past entries) e)
      → HasDistinctKeys same entries → key ≡ e.0 → BeginsWith calls old.seen
      → IsMade same_value remapped merged (Remove key) old new answer calls r
      → r.before ≡ lookup same entries key → others ≡ store same entries key r.after
      → IsRemovalOf e r × HasMade (r ∷ []) old new × (others ≡ (take past entries ++ found.mid) ++ found.rest)
      × (length others < length entries)
  gone step test p q past place entries others e key old new answer calls r found distinct is begins made before stored =
      let front = take past entries ++ found.mid in
      let parts : entries ≡ front ++ e ∷ found.rest =
      sym (take-append-drop past entries) ∙ ap (λ (l : List (K × V)). take past entries ++ l) found.parts
      ∙ sym (append_assoc (take past entries) found.mid (e ∷ found.rest)) in
      let (its, has, left) = removed_one entries others front found.rest e key old new answer calls r distinct parts is
      begins made before stored in
      let one = ap (λ (l : List (K × V)). length l) parts in
      let two = ap (λ (l : List (K × V)). length l) left in
      let three = length-append front (e ∷ found.rest) in
      let four = length-append front found.rest in
      (its, has, left, omega (arith, one, two, three, four))

  -- the same of a call that was made on a bin
  pub gone_by : {G : Type 0} (step : G → Bor K → Bor V → Bool → G → Type 0) (test : K → Bool) (p q : G) (past place : ℕ)
      (ledger : LedgerView K V) (b c : BinView K V F) (e : K × V) (key : K) (old new : PassView K V F) (answer : Reply V)
      (found : IsFoundBehind step test p q past place (drop past b.entries) e)
      → HasDistinctKeys same b.entries → key ≡ e.0
      → IsCalledOn same code same_value remapped merged ledger b c (Remove key) old new answer
      → (r : RecordView K V F) × IsRemovalOf e r × HasMade (r ∷ []) old new
      × (c.entries ≡ (take past b.entries ++ found.mid) ++ found.rest) × (length c.entries < length b.entries)
  gone_by step test p q past place ledger b c e key old new answer found distinct is
      (front, r, is_front, made, met, before, stored) =
      let (its, has, left, less) = gone step test p q past place b.entries c.entries e key old new answer front r found
      distinct is is_front.seen made before stored in
      (r, its, has, left, less)

-- one call that removed an entry
pub removed_by : {K V F : Type 0} (e : K × V) (r : RecordView K V F) (old new : PassView K V F) → IsRemovalOf e r →
    HasMade (r ∷ []) old new → HasRemoved old new
removed_by e r old new its has = (r ∷ [], All-cons IsRemoval r [] its.removal (All-nil IsRemoval), has)

-- the pass has made no fewer calls
pub HasRemoved-grows : {K V F : Type 0} (old new : PassView K V F) → HasRemoved old new → length old.made ≤ length new.made
HasRemoved-grows old new (rs, each, is) =
    let its : length new.made ≡ length (old.made ++ rs) = ap (λ (p : PassView _ _ _). length p.made) is.pass in
    let sum = length-append old.made rs in omega (arith, its, sum)

module _ {G K V : Type 0} (step : G → Bor K → Bor V → Bool → G → Type 0) where
  -- the entry that was found is one of all
  pub entry_behind : (test : K → Bool) (p q : G) (past place : ℕ) (entries : List (K × V)) (e : K × V) →
      IsFoundBehind step test p q past place (drop past entries) e → HasEntry entries e
  entry_behind test p q past place entries e found = (
    take past entries ++ found.mid,
    found.rest,
    sym (take-append-drop past entries) ∙ ap (λ (l : List (K × V)). take past entries ++ l) found.parts
        ∙ sym (append_assoc (take past entries) found.mid (e ∷ found.rest)),
  )

  -- the same by another name of the salt and of the entries
  pub found_as : (code : K → ℕ) (class : ClassView) (p q : G) (past place : ℕ) (e : K × V) (s t : Salt)
      (xs ys : List (K × V)) → s ≡ t → xs ≡ ys →
      IsFoundBehind step (is_of code s class) p q past place (drop past xs) e →
      IsFoundBehind step (is_of code t class) p q past place (drop past ys) e
  found_as code class p q past place e s t xs ys salt is found =
      subst (λ (z : Salt). IsFoundBehind step (is_of code z class) p q past place (drop past ys) e) salt
      (subst (λ (zs : List (K × V)). IsFoundBehind step (is_of code s class) p q past place (drop past zs) e) is found)

  pub kept_as : (code : K → ℕ) (class : ClassView) (p q : G) (past : ℕ) (s t : Salt) (xs ys : List (K × V)) → s ≡ t →
      xs ≡ ys → HasKeptAll step p (part_of_entries (is_of code s class) (drop past xs)) q →
      HasKeptAll step p (part_of_entries (is_of code t class) (drop past ys)) q
  kept_as code class p q past s t xs ys salt is kept =
      subst (λ (z : Salt). HasKeptAll step p (part_of_entries (is_of code z class) (drop past ys)) q) salt
      (subst (λ (zs : List (K × V)). HasKeptAll step p (part_of_entries (is_of code s class) (drop past zs)) q) is kept)

pub part_as : {K V : Type 0} (code : K → ℕ) (class : ClassView) (past : ℕ) (s t : Salt) (xs ys left : List (K × V)) →
    s ≡ t → xs ≡ ys → part_of_entries (is_of code s class) (drop past xs) ≡ left →
    part_of_entries (is_of code t class) (drop past ys) ≡ left
part_as {K} {V} code class past s t xs ys left salt is part =
    subst (λ (z : Salt). part_of_entries (is_of code z class) (drop past ys) ≡ left) salt
    (subst (λ (zs : List (K × V)). part_of_entries (is_of code s class) (drop past zs) ≡ left) is part)

-- what holds of all entries holds of one of them
pub entry_of : {E : Type 0} (P : E → Type 0) (es : List E) (e : E) → HasEntry es e → All P es → P e
entry_of {E} P es e (fore, rest, parts) each = go fore (subst (λ (xs : List E). All P xs) parts each) where
  go : (fs : List E) → All P (fs ++ e ∷ rest) → P e
  go [] all = All-head P e rest all
  go (f ∷ fs) all = go fs (All-tail P f (fs ++ e ∷ rest) all)
