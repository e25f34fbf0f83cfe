-- The calls of a closed map in one order are those of a one-thread map.
use Rattle.std.proofs.Common.{◌≡◌, ℕ, ◌<◌, ◌==◌, Bool, true, cond, Option, None, Decides, List, All, sym, ap, ◌∙◌}
use Rattle.std.proofs.Common.{[], ◌∷◌, ◌++◌, append_assoc, subst, arith}
use Rattle.std.proofs.lemmas.List.Elements.{All-filter, All-get_or, All-weaker}
use Rattle.hashkeys.specs.Classes.{covers, is_of}
use Rattle.hashkeys.specs.Hashing.{hash_of}
use Rattle.bin_history.specs.Calls.{key_of}
use Rattle.bin_history.specs.Cells.{records_on, cell_after, IsCellHistory}
use Rattle.bin_history.specs.Clients.{by_client}
use Rattle.bin_history.specs.Entries.{lookup, replay, HasDistinctKeys}
use Rattle.bin_history.specs.Lawful.{BinView}
use Rattle.bin_history.specs.Part.{part_of_records}
use Rattle.bin_history.specs.Plain.{run, IsLegal}
use Rattle.bin_history.specs.declared.call.Call.{Call}
use Rattle.bin_history.specs.Records.{RecordView}
use Rattle.bin_history.proofs.Cells.{run-cell, IsLegal-cell, IsLegal-cells}
use Rattle.bin_history.proofs.Histories.{HasHistory-replay}
use Rattle.bin_history.proofs.Parts.{lookup-part}
use Rattle.bin_history.proofs.Runs.{lookup-replay}
use Rattle.count_ledger.specs.Books.{IsRoleOf}
use Rattle.count_ledger.specs.Fronts.{BeginsWith}
use Rattle.count_ledger.specs.Views.{PassView, RoleView}
use Rattle.count_ledger.proofs.Filters.{filter_within, filter_turn}
use Rattle.count_ledger.proofs.Fronts.{BeginsWith-more}
use Rattle.bin_layout.specs.Views.{HomeView}
use Rattle.chm.specs.Headline.{QuietView, IsQuiet, entries_of, IsOneOrder, IsHistoryOfKey, IsToldInOrder}
use Rattle.chm.specs.Views.{bins_of}
use Rattle.count_ledger.specs.Settled.{IsOrder}
use Rattle.chm.proofs.Homes.{IsHome, home, distinct}

module _ {K V F : Type 0} (same : K → K → Bool) (tells : (x y : K) → Decides (same x y) (x ≡ y)) (code : K → ℕ)
    (after : Call K V F → Option V → Option V)
    (q : QuietView K V F) (calls : List (RecordView K V F)) (quiet : IsQuiet same code after q)
    (order : IsOrder code q.ledger q.passes q.roles calls) where
  abbrev g : HomeView
  g = bins_of (record { ledger = q.ledger; n = q.n })

  -- what the books tell of the role of a bin
  record IsKept (r : RoleView K V F) : Type 0 where
    role : IsRoleOf code q.ledger r
    part : part_of_records (is_of code r.salt r.class) calls ≡ r.kept

  kept : All IsKept q.roles
  kept = λ i d lt. record {
    role = All-get_or (IsRoleOf code q.ledger) q.roles i d lt quiet.books.each_role;
    part = All-get_or (λ r. part_of_records (is_of code r.salt r.class) calls ≡ r.kept) q.roles i d lt order.kept;
  }

  module _ (k : K) (b : BinView K V F) (r : RoleView K V F) (is_kept : IsKept r)
      (at_home : IsHome same tells code after g (entries_of q.bins) k b r) where
    of_class : is_of code r.salt r.class k ≡ true
    of_class = (λ i. covers (sym at_home.with_role.agree.class i) (hash_of (is_kept.role.salt i) (code k)))
        ∙ at_home.covered

    -- the calls on the key are those of the role that are on it
    on_key : records_on same k r.kept ≡ records_on same k calls
    on_key =
        ap (records_on same k) (sym is_kept.part)
        ∙ filter_within (λ (x : RecordView K V F). same (key_of x.call) k)
        (λ x. is_of code r.salt r.class (key_of x.call))
        (λ x is. ap (is_of code r.salt r.class) ((tells (key_of x.call) k).0 is) ∙ of_class) calls

    opened : lookup same r.opening k ≡ lookup same q.ledger.opening k
    opened =
        ap (λ (es : List (K × V)). lookup same es k) is_kept.role.opening
        ∙ lookup-part same tells (is_of code r.salt r.class) q.ledger.opening k
        ∙ ap (λ (c : Bool). cond c (lookup same q.ledger.opening k) None) of_class

    -- a bin with the base and the records, and their replay
    abbrev b_replayed : BinView K V F
    b_replayed = record b { entries = replay same b.base b.records }

    history : IsLegal same after (lookup same r.opening) r.kept
        × (replay same b.base b.records ≡ replay same r.opening r.kept)
    history =
        let (front, h) = at_home.with_role.agree.history in
        HasHistory-replay same tells code after r.opening r.kept b_replayed (
          front,
          record { distinct = h.distinct; kept_is = h.kept_is; legal = h.legal; base_is = h.base_is },
        ) at_home.with_role.lawful.legal refl_replay where
          refl_replay : b_replayed.entries ≡ replay same b.base b.records
          refl_replay = λ i. replay same b.base b.records

    cell : IsCellHistory after (lookup same q.ledger.opening k) (records_on same k calls)
    cell =
        subst (λ (v : Option V). IsCellHistory after v (records_on same k calls)) opened
        (subst (IsCellHistory after (lookup same r.opening k)) on_key
        (IsLegal-cell same tells after (lookup same r.opening) r.kept k history.0))

    value : lookup same (entries_of q.bins) k ≡ run same (lookup same q.ledger.opening) calls k
    value =
        at_home.value
        ∙ at_home.with_role.lawful.same_map k
        ∙ sym (ap (λ (m : K → Option V). m k)
        (lookup-replay same tells b.base b.records at_home.with_role.lawful.base_distinct))
        ∙ ap (λ (es : List (K × V)). lookup same es k) history.1
        ∙ ap (λ (m : K → Option V). m k)
        (lookup-replay same tells r.opening r.kept (at_home.with_role.agree.history).1.distinct)
        ∙ run-cell same tells (lookup same r.opening) r.kept k
        ∙ (λ i. cell_after (opened i) (on_key i))
        ∙ sym (run-cell same tells (lookup same q.ledger.opening) calls k)

  home_of : (k : K) → (b : BinView K V F) × (r : RoleView K V F) × IsKept r × IsHome same tells code after g
      (entries_of q.bins) k b r
  home_of k = home same tells code after g IsKept q.bins q.roles k quiet.with_roles kept
      (quiet.walk.each_hash (hash_of q.ledger.salt (code k)))

  pub IsOneOrder-closed : IsOneOrder same code after q calls
  IsOneOrder-closed = record {
    books = order;
    legal = IsLegal-cells same tells after (lookup same q.ledger.opening) calls (λ k. let (b, r, is_kept, at_home) =
        home_of k in cell k b r is_kept at_home);
    final = λ k. let (b, r, is_kept, at_home) = home_of k in value k b r is_kept at_home;
  }

  -- each call stands behind those that its client had seen
  pub AreToldInOrder-closed : All (IsToldInOrder calls) q.passes
  AreToldInOrder-closed =
      All-weaker (λ (p : PassView K V F). BeginsWith calls p.seen) (IsToldInOrder calls) (λ p seen. told p seen)
      q.passes order.seen where
        told : (p : PassView K V F) → BeginsWith calls p.seen → IsToldInOrder calls p
        told p seen front known first second knew had =
            let (rest, is) = BeginsWith-more calls p.seen (known ++ second ∷ []) seen knew in
            let (between, its) = had in (
              between,
              rest,
              is ∙ ap (λ (l : List (RecordView K V F)). (l ++ second ∷ []) ++ rest) its
                  ∙ append_assoc ((front ++ first ∷ []) ++ between) (second ∷ []) rest
                  ∙ append_assoc (front ++ first ∷ []) between (second ∷ rest)
                  ∙ append_assoc front (first ∷ []) (between ++ second ∷ rest),
            )

  -- the calls on one key, in that order, are the key's history
  pub IsHistoryOfKey-ordered : (k : K) → IsHistoryOfKey same after q k (records_on same k calls)
  IsHistoryOfKey-ordered k =
      let on : RecordView K V F → Bool = λ x. same (key_of x.call) k in
      let one = IsOneOrder-closed in
      record {
        clients = All-filter on (λ (x : RecordView K V F). x.client < q.ledger.clients) calls order.clients;
        own = All-weaker (λ (p : PassView K V F). by_client p.client calls ≡ p.made)
            (λ p. by_client p.client (records_on same k calls) ≡ records_on same k p.made)
            (λ p made. filter_turn (λ (x : RecordView K V F). x.client == p.client) on calls
            ∙ ap (records_on same k) made) q.passes order.made;
        legal = IsLegal-cell same tells after (lookup same q.ledger.opening) calls k one.legal;
        final = one.final k ∙ run-cell same tells (lookup same q.ledger.opening) calls k;
      }

  -- no key stands twice
  pub distinct-closed : HasDistinctKeys same (entries_of q.bins)
  distinct-closed = distinct same tells code after g q.bins q.roles quiet.with_roles
      (λ k. let one = quiet.walk.each_hash (hash_of q.ledger.salt (code k)) in omega arith)
