use Rattle.std.proofs.Common.{◌≡◌, ◌≢◌, ◌⊎◌, inl, inr, ℕ, ◌+◌, ◌*◌, ◌%◌, ◌^◌, ◌<◌, ap, subst, sym, ◌∙◌, arith}
use Rattle.std.proofs.lemmas.Bool.{cases_lt, le-leb, leb-true}
use Rattle.std.proofs.lemmas.Nat.{pow-add}
use Rattle.chm.proofs.Searching.{grows, passed-by}
use Rattle.bin_layout.proofs.Walks.{doubled}
use Rattle.chm.proofs.closed.single.has_passed.Goals as goal
use Rattle.chm.proofs.closed.single.has_passed.Goals.{then-loop-size-test+else-hash-size, else-loop-size-test}

pub loop-size-init : goal.loop-size-init
loop-size-init c =
    let (k, is) = doubled c.args.n c.args.class.n c.requires.size c.n-widest.ensures.class.0 c.requires.least in
    (0, k, omega arith, is, omega arith, (let w = c.n-widest.ensures.value in let l = c.requires.least in omega arith), λ j lt. absurd (omega arith))

pub loop-size-preserved : goal.loop-size-preserved
loop-size-preserved c =
    let n = c.args.n in
    let (e, k, size, widest, le, fits, same) = c.loop-size.invariant in
    let less = c.loop-size-test.true in
    let own = c.n-widest.ensures.value in
    let low : e < k = elim (cases_lt e k) [
      | inl l ↦ l
      | inr ge ↦ let is : e ≡ k = omega arith in
          let at : n * 2 ^ e ≡ n * 2 ^ k = ap (λ (x : ℕ). n * 2 ^ x) is in absurd (omega arith)
    ] in
    let p : 2 ^ (e + 1) ≡ 2 ^ e * 2 = pow-add 2 e 1 in
    let double : c.loop-size.size * 2 ≡ n * 2 ^ (e + 1) = rw p (omega arith) in
    let up = grows n (e + 1) k (omega arith) in (
      e + 1,
      k,
      double,
      widest,
      omega arith,
      omega arith,
      λ j lt. elim (cases_lt j e) [
        | inl l ↦ same j l
        | inr ge ↦
            let is : j ≡ e = omega arith in
            let index = c.index-index.ensures in
            let here : c.args.hash % c.loop-size.size ≡ c.args.class.index % c.loop-size.size =
            c.if-hash-size.true ∙ ap (λ (x : ℕ). x % c.loop-size.size) index in
            subst (λ (x : ℕ). c.args.hash % (n * 2 ^ x) ≡ c.args.class.index % (n * 2 ^ x)) (sym is)
            (subst (λ (x : ℕ). c.args.hash % x ≡ c.args.class.index % x) size here)
      ],
    )

pub returns : goal.returns
returns c =
    let n = c.args.n in
    let h = c.args.hash in
    let class = c.args.class in
    let (e, k, size, widest, le, fits, same) = c.loop-size.invariant in
    let own = c.n-widest.ensures.value in
    let index = c.index-index.ensures in
    let last : (class.n ≡ n * 2 ^ e) ⊎ (h % (n * 2 ^ e) ≢ class.index % (n * 2 ^ e)) =
    elim c.loop-size-test.branch [
      | then-loop-size-test+else-hash-size w ↦ inr (λ at. w.if-hash-size.false
          (subst (λ (x : ℕ). h % x ≡ c.index-index.result % x) (sym size)
          (at ∙ ap (λ (x : ℕ). x % (n * 2 ^ e)) (sym index))))
      | else-loop-size-test w ↦ (let done = w.loop-size-test.false in inl (omega arith))
    ] in
    let test = passed-by n e k h class widest le c.n-widest.ensures.class.1 same last in
    let low : h % (n * 2 ^ e) ≡ h % c.loop-size.size = ap (λ (x : ℕ). h % x) (sym size) in
    let high : class.index % (n * 2 ^ e) ≡ c.index-index.result % c.loop-size.size =
    λ i. sym index i % sym size i in (
      (λ yes. let l = leb-true _ _ yes in test.0 (omega arith)),
      (λ passed. let l = test.1 passed in le-leb _ _ (omega arith)),
    )
