-- What is known of a map when its bins and all its books are back.
use Rattle.std.proofs.Common.{◌≡◌, ℕ, zero, suc, ◌+◌, ◌%◌, ◌^◌, ◌<◌, ◌≤◌, ◌==◌, Bool, Decides, cond, Option, Some, None}
use Rattle.std.proofs.Common.{inl, inr, pos, ◌+ℤ◌, List, [], ◌∷◌}
use Rattle.std.proofs.Common.{length, count_by, refl, sym, ap, subst, ◌∙◌, arith, All}
use Rattle.std.proofs.lemmas.Bool.{eq-eqb}
use Rattle.std.proofs.lemmas.Int.{ints}
use Rattle.std.proofs.lemmas.List.{length-append}
use Rattle.std.proofs.lemmas.List.Elements.{All-nil, All-cons, All-head, All-tail, All-weaker}
use Rattle.hashkeys.specs.Classes.{ClassView, IsClass, IsTableSize}
use Rattle.hashkeys.specs.Limits.{most_bins}
use Rattle.bin_history.specs.Deltas.{sum_of_deltas}
use Rattle.bin_history.specs.Entries.{replay}
use Rattle.bin_history.specs.Lawful.{BinView}
use Rattle.bin_history.specs.Limits.{most_recorded_bins}
use Rattle.bin_history.specs.declared.call.Call.{Call}
use Rattle.bin_history.specs.declared.form.Form.{Form}
use Rattle.bin_history.specs.declared.form.Form.TheVariants.{Recorded, Lean}
use Rattle.count_ledger.specs.Books.{IsPassOf}
use Rattle.count_ledger.specs.Settled.{AreReconciled}
use Rattle.count_ledger.specs.Views.{LedgerView, PassView, RoleView}
use Rattle.count_ledger.specs.Words.{word_of, total_of, total_made}
use Rattle.count_ledger.proofs.Agreements.{BinAgrees-count}
use Rattle.count_ledger.proofs.Filters.{eqb_turn, length_is_sum}
use Rattle.count_ledger.proofs.Tallies.{upto, upto-none, upto-same, upto-more, upto-one, upto-count}
use Rattle.count_ledger.proofs.Totals.{count-settled}
use Rattle.count_ledger.proofs.WordSums.{total_made_all, word_of-add, word_of_natural}
use Rattle.bin_layout.specs.BinsWithRoles.{AreBinsWithRoles, classes_of_bins}
use Rattle.bin_layout.specs.Views.{HomeView}
use Rattle.bin_layout.specs.Walks.{IsWalk}
use Rattle.bin_layout.proofs.Sizes.{size_few}
use Rattle.generations.specs.Generations.{FitsForm}
use Rattle.chm.specs.Closing.{IsNotClosedFor, passes_with}
use Rattle.chm.specs.declared.closed.close.Rest.{Rest}
use Rattle.chm.proofs.Passes.{total_made-left}
use Rattle.chm.specs.Headline.{QuietView, entries_of, IsQuiet}
use Rattle.chm.specs.Sizes.{most_bins_of}
use Rattle.chm.specs.Views.{MapView, bins_of}
use Rattle.chm.specs.declared.fault.Fault.TheVariants.{NoMemory, PassMissing, BinMissing}

module _ {K V F : Type 0} where
  lean_few : (bins : List (BinView K V F)) → All IsClass (classes_of_bins bins) → All (λ b. b.class.n ≤ most_bins) bins
  lean_few [] classes = All-nil (λ (b : BinView K V F). b.class.n ≤ most_bins)
  lean_few (b ∷ bs) classes =
      All-cons (λ (b : BinView K V F). b.class.n ≤ most_bins) b bs
      (size_few b.class.n (All-head IsClass b.class (classes_of_bins bs) classes).0)
      (lean_few bs (All-tail IsClass b.class (classes_of_bins bs) classes))

  -- no bin is of a table wider than the map's form has
  pub few_bins : (home : HomeView) (form : Form) (n : ℕ) (bins : List (BinView K V F)) → home.form ≡ form
      → home.n ≤ most_bins_of form → IsWalk n (classes_of_bins bins) → All (λ b. FitsForm home b.class.n) bins
      → All (λ b. b.class.n ≤ most_bins_of form) bins
  few_bins home Recorded n bins is wide walk fits =
      All-weaker (λ (b : BinView K V F). FitsForm home b.class.n)
      (λ (b : BinView K V F). b.class.n ≤ most_recorded_bins)
      (λ b fit. elim (fit is) [ inl opening ↦ omega (arith, opening, wide) | inr few ↦ few ]) bins fits
  few_bins home Lean n bins is wide walk fits = lean_few bins walk.each_class

  -- so the map did not open with a wider one
  pub opening_few : (n most : ℕ) (bins : List (BinView K V F)) → IsWalk n (classes_of_bins bins)
      → All (λ b. b.class.n ≤ most) bins → n ≤ most
  opening_few n most [] walk few = absurd (let none : ◌≡◌ {A = ℕ} 0 1 = walk.each_hash 0 in omega arith)
  opening_few n most (b ∷ bs) walk few =
      let least = All-head (λ (c : ClassView). n ≤ c.n) b.class (classes_of_bins bs) walk.least in
      let most = All-head (λ (b : BinView K V F). b.class.n ≤ most) b bs few in
      omega (arith, least, most)

module _ {K V F : Type 0} (same : K → K → Bool) (tells : (x y : K) → Decides (same x y) (x ≡ y)) (code : K → ℕ)
    (after : Call K V F → Option V → Option V)
    (g : HomeView) where
  -- the roles of a map's bins are of its ledger
  pub ledgers_of_roles : (bins : List (BinView K V F)) (roles : List (RoleView K V F)) →
      AreBinsWithRoles same code after g bins roles
      → All (λ r. r.ledger ≡ g.ledger) roles
  ledgers_of_roles [] [] with_roles = All-nil (λ (r : RoleView K V F). r.ledger ≡ g.ledger)
  ledgers_of_roles [] (r ∷ rs) with_roles = absurd with_roles
  ledgers_of_roles (b ∷ bs) [] with_roles = absurd with_roles
  ledgers_of_roles (b ∷ bs) (r ∷ rs) (with_role, with_roles) =
      All-cons (λ (r : RoleView K V F). r.ledger ≡ g.ledger) r rs with_role.ledger (ledgers_of_roles bs rs with_roles)

  -- the bins of a map are of its salt
  pub salts_of_bins : (bins : List (BinView K V F)) (roles : List (RoleView K V F)) →
      AreBinsWithRoles same code after g bins roles
      → All (λ b. b.salt ≡ g.salt) bins
  salts_of_bins [] [] with_roles = All-nil (λ (b : BinView K V F). b.salt ≡ g.salt)
  salts_of_bins [] (r ∷ rs) with_roles = absurd with_roles
  salts_of_bins (b ∷ bs) [] with_roles = absurd with_roles
  salts_of_bins (b ∷ bs) (r ∷ rs) (with_role, with_roles) =
      All-cons (λ (b : BinView K V F). b.salt ≡ g.salt) b bs with_role.salt (salts_of_bins bs rs with_roles)

  -- there are as many pairs as the roles' opening pairs and deltas say
  pub count_of_bins : (bins : List (BinView K V F)) (roles : List (RoleView K V F)) →
      AreBinsWithRoles same code after g bins roles
      → All (λ b. b.entries ≡ replay same b.base b.records) bins
      → total_of (λ r. pos (length r.opening) +ℤ sum_of_deltas r.kept) roles ≡ pos (length (entries_of bins))
  count_of_bins [] [] with_roles replayed = refl
  count_of_bins [] (r ∷ rs) with_roles replayed = absurd with_roles
  count_of_bins (b ∷ bs) [] with_roles replayed = absurd with_roles
  count_of_bins (b ∷ bs) (r ∷ rs) (with_role, with_roles) replayed =
      let R : BinView K V F → Type 0 = λ b. b.entries ≡ replay same b.base b.records in
      let here = BinAgrees-count same tells code after b r with_role.agree with_role.lawful
      (All-head R b bs replayed) in
      let rest = count_of_bins bs rs with_roles (All-tail R b bs replayed) in
      let both = length-append b.entries (entries_of bs) in
      omega (arith, ints)

  -- so the map is closed, whatever its books are now called
  pub IsQuiet-closed : (n : ℕ) (l ledger : LedgerView K V) (bins : List (BinView K V F))
      (rs roles : List (RoleView K V F)) (ps passes : List (PassView K V F))
      → l ≡ ledger → rs ≡ roles → ps ≡ passes → n ≡ g.n → g ≡ bins_of (record { ledger = ledger; n = g.n })
      → IsTableSize g.n → IsWalk g.n (classes_of_bins bins) → g.n ≤ most_bins_of ledger.form
      → All (λ b. FitsForm g b.class.n) bins → AreBinsWithRoles same code after g bins roles →
      AreReconciled code ledger passes roles
      → IsQuiet same code after (record { ledger = l; n = n; bins = bins; roles = rs; passes = ps })
  IsQuiet-closed n l ledger bins rs roles ps passes is_l is_rs is_ps is_n home size walk wide fits with_roles books =
      let Whole : QuietView K V F → Type 0 = IsQuiet same code after in
      let called : ◌≡◌ {A = QuietView K V F}
      (record { ledger = ledger; n = g.n; bins = bins; roles = roles; passes = passes })
      (record { ledger = l; n = n; bins = bins; roles = rs; passes = ps }) =
      λ i. record { ledger = sym is_l i; n = sym is_n i; bins = bins; roles = sym is_rs i; passes = sym is_ps i } in
      subst Whole called (record {
        size = size;
        walk = walk;
        few = few_bins g ledger.form g.n bins (ap (λ (h : HomeView). h.form) home) wide walk fits;
        with_roles = subst (λ h. AreBinsWithRoles same code after h bins roles) home with_roles;
        books = books;
      })

upto_ones : (n : ℕ) → upto (λ _. 1) n ≡ n
upto_ones zero = upto-none (λ _. 1)
upto_ones (suc n) =
    let next : suc n ≡ n + 1 = omega arith in
    let one : upto (λ _. 1) 1 ≡ 1 =
    upto-same (λ _. 1) (λ r. cond (r == 0) 1 0) 1
    (λ r lt. sym (ap (λ (b : Bool). cond b 1 0) (eq-eqb r 0 (omega arith))))
    ∙ upto-one 0 1 (omega arith) in
    ap (upto (λ _. 1)) next ∙ upto-more (λ _. 1) n 1 ∙ (let rest = upto_ones n in omega arith)

module _ {K V F : Type 0} (code : K → ℕ) (ledger : LedgerView K V) (passes : List (PassView K V F))
    (roles : List (RoleView K V F))
    (all : AreReconciled code ledger passes roles) where
  -- there are as many passes as clients
  pub as_many_passes : length passes ≡ ledger.clients
  as_many_passes =
      let n = ledger.clients in
      let Once : PassView K V F → Type 0 = λ p. upto (λ h. cond (p.client == h) 1 0) n ≡ 1 in
      let once : All Once passes =
      All-weaker (IsPassOf ledger) Once
      (λ p is. upto-same (λ h. cond (p.client == h) 1 0) (λ h. cond (h == p.client) 1 0) n
      (λ h lt. ap (λ (b : Bool). cond b 1 0) (eqb_turn p.client h)) ∙ upto-one p.client n is.client) passes
      all.each_pass in
      sym (length_is_sum passes)
      ∙ sym (upto-count (λ (p : PassView K V F) h. p.client == h) (λ _. 1) n passes once)
      ∙ upto-same (λ h. count_by (λ (p : PassView K V F). p.client == h) passes) (λ _. 1) n all.each_client
      ∙ upto_ones n

  -- the word of what all clients changed, added to the number of opening pairs, is the number of pairs that there are
  pub word_of_count : (opened word count : ℕ) → ledger.clients ≤ 65536 → opened ≡ length ledger.opening →
      opened ≤ 4294967295 → word ≡ word_of (total_made passes)
      → total_of (λ r. pos (length r.opening) +ℤ sum_of_deltas r.kept) roles ≡ pos count →
      (opened + word) % 2 ^ 64 ≡ count
  word_of_count opened word count few_clients opened_is few word_is counted =
      let many = as_many_passes in
      let bounds = total_made_all ledger passes all.each_pass few_clients (omega (arith, many)) in
      let sum : pos opened +ℤ total_made passes ≡ pos count = ap (λ (n : ℕ). pos n +ℤ total_made passes) opened_is
      ∙ count-settled code ledger passes roles all
      ∙ counted in
      let low : count < 2 ^ 64 = omega (arith, ints, bounds.0, bounds.1) in
      (λ i. (sym (word_of_natural opened (omega arith)) i + word_is i) % 2 ^ 64)
      ∙ sym (word_of-add (pos opened) (total_made passes)) ∙ ap word_of sum
      ∙ word_of_natural count low

module _ {K V F : Type 0} where
  -- what was made by passes that were taken was made by all
  pub total_made-with : (rest : Option (Rest K V F)) (passes : List (PassView K V F)) →
      total_made (passes_with rest passes) ≡ total_made passes
  total_made-with None passes = refl
  total_made-with (Some rest) passes = total_made-left passes rest.roster

-- the refusals of a close
module _ {K V F : Type 0} (taken : ℕ) (map : MapView K V) (passes : List (PassView K V F)) where
  pub NotClosed-missing : length passes < taken →
      IsNotClosedFor taken map passes (record { fault = PassMissing; map = Some map; passes = passes })
  NotClosed-missing few =
      record {
        passes_are = refl;
        missing = ((λ _. few), (λ _. refl));
        kept = inr ((λ e. absurd cc), refl);
        faults =
            inr (inl refl);
      }

  pub NotClosed-memory : taken ≤ length passes →
      IsNotClosedFor taken map passes (record { fault = NoMemory; map = Some map; passes = passes })
  NotClosed-memory all =
      record {
        passes_are = refl;
        missing = ((λ e. absurd cc), (λ few. absurd (omega arith)));
        kept = inr ((λ e. absurd cc), refl);
        faults = inl refl;
      }

  pub NotClosed-bins : taken ≤ length passes →
      IsNotClosedFor taken map passes (record { fault = BinMissing; map = None; passes = passes })
  NotClosed-bins all =
      record {
        passes_are = refl;
        missing = ((λ e. absurd cc), (λ few. absurd (omega arith)));
        kept = inl (refl, refl);
        faults = inr (inr refl);
      }
