use Rattle.std.proofs.Common.{◌≡◌, ℕ, ◌+◌, ◌-◌, ◌/◌, ◌<◌, ◌≤◌, List, length, get_or, sym, ap, subst, ◌∙◌, arith}
use Rattle.std.proofs.lemmas.List.{get_or_default}
use Rattle.hashkeys.specs.Classes.{ClassView}
use Rattle.bin_history.specs.Lawful.{BinView}
use Rattle.bin_layout.specs.Walks.{HasPassed}
use Rattle.chm.specs.Headline.{QuietView}
use Rattle.chm.proofs.Searching.{least_at, from_place, up_to_place, first-bin, some_bin}
use Rattle.chm.proofs.closed.quiet.Quiet.place_of.Goals as goal

pub has_passed-requires-clause-least : goal.has_passed-requires-clause-least
has_passed-requires-clause-least g c =
    let q = c.args.self.now in
    let middle = c.loop-low.low + (c.loop-low.high - c.loop-low.low) / 2 in
    let bin = c.index-bins-middle.result in
    let in' : middle < length q.bins = (let l = c.loop-low-test.true in let h = c.loop-low.invariant.1 in
    omega arith) in
    let at : bin ≡ get_or q.bins middle bin =
    c.index-bins-middle.is ∙ ap (λ (l : List (BinView _ _ _)). get_or l middle bin) c.bins-bins.ensures in
    let class : c.class.result ≡ (get_or q.bins middle bin).class =
    c.class.ensures ∙ ap (λ (b : BinView _ _ _). b.class) at in
    let own : c.self.inside.n ≡ q.n = ap (λ (x : QuietView _ _ _). x.n) c.self.view_is in
    let least = least_at q.n c.lawful.ensures.size q.bins c.lawful.ensures.walk c.args.hash middle bin in' in
    subst (λ (x : ℕ). x ≤ c.class.result.n) (sym own) (subst (λ (k : ClassView). q.n ≤ k.n) (sym class) least)

pub loop-low-preserved-then-has_passed : goal.loop-low-preserved-then-has_passed
loop-low-preserved-then-has_passed g c =
    let q = c.args.self.now in
    let (ordered, fits, before, behind) = c.loop-low.invariant in
    let less = c.loop-low-test.true in
    let middle = c.loop-low.low + (c.loop-low.high - c.loop-low.low) / 2 in
    let bin = c.index-bins-middle.result in
    let in' : middle < length q.bins = omega arith in
    let at : bin ≡ get_or q.bins middle bin =
    c.index-bins-middle.is ∙ ap (λ (l : List (BinView _ _ _)). get_or l middle bin) c.bins-bins.ensures in
    let class : c.class.result ≡ (get_or q.bins middle bin).class =
    c.class.ensures ∙ ap (λ (b : BinView _ _ _). b.class) at in
    let own : c.self.inside.n ≡ q.n = ap (λ (x : QuietView _ _ _). x.n) c.self.view_is in
    let passed : HasPassed q.n (get_or q.bins middle bin).class c.args.hash =
    subst (λ (x : ℕ). HasPassed x (get_or q.bins middle bin).class c.args.hash) own
    (subst (λ (k : ClassView). HasPassed c.self.inside.n k c.args.hash) class
    (c.has_passed.ensures.0 c.if-has_passed.true)) in (
      omega arith,
      omega arith,
      before,
      (λ d. from_place q.n c.lawful.ensures.size q.bins c.lawful.ensures.walk c.args.hash middle d in'
          (subst (λ (b : BinView _ _ _). HasPassed q.n b.class c.args.hash)
          (get_or_default q.bins middle bin d in') passed)),
    )

pub loop-low-preserved : goal.loop-low-preserved
loop-low-preserved g c =
    let q = c.args.self.now in
    let (ordered, fits, before, behind) = c.loop-low.invariant in
    let less = c.loop-low-test.true in
    let middle = c.loop-low.low + (c.loop-low.high - c.loop-low.low) / 2 in
    let bin = c.index-bins-middle.result in
    let in' : middle < length q.bins = omega arith in
    let at : bin ≡ get_or q.bins middle bin =
    c.index-bins-middle.is ∙ ap (λ (l : List (BinView _ _ _)). get_or l middle bin) c.bins-bins.ensures in
    let class : c.class.result ≡ (get_or q.bins middle bin).class =
    c.class.ensures ∙ ap (λ (b : BinView _ _ _). b.class) at in
    let own : c.self.inside.n ≡ q.n = ap (λ (x : QuietView _ _ _). x.n) c.self.view_is in
    let fails : HasPassed q.n (get_or q.bins middle bin).class c.args.hash → ⊥ =
    λ passed. let yes = c.has_passed.ensures.1
    (subst (λ (k : ClassView). HasPassed c.self.inside.n k c.args.hash) (sym class)
    (subst (λ (x : ℕ). HasPassed x (get_or q.bins middle bin).class c.args.hash) (sym own) passed)) in
    let no = c.if-has_passed.false in cc in (
      omega arith,
      fits,
      (λ d. up_to_place q.n c.lawful.ensures.size q.bins c.lawful.ensures.walk c.args.hash middle d in'
          (λ passed. fails (subst (λ (b : BinView _ _ _). HasPassed q.n b.class c.args.hash)
          (get_or_default q.bins middle d bin in') passed))),
      behind,
    )

pub returns-clause-within : goal.returns-clause-within
returns-clause-within g c =
    let q = c.args.self.now in
    let (ordered, fits, before, behind) = c.loop-low.invariant in
    let done = c.loop-low-test.false in
    let d = some_bin q.n q.bins c.lawful.ensures.walk in
    (first-bin q.n c.lawful.ensures.size q.bins c.lawful.ensures.walk c.args.hash c.loop-low.low d (omega arith)
    (before d) (λ j ge lt. behind d j (omega arith) lt)).0

pub returns-clause-covers : goal.returns-clause-covers
returns-clause-covers g c = λ d.
    let q = c.args.self.now in
    let (ordered, fits, before, behind) = c.loop-low.invariant in
    let done = c.loop-low-test.false in
    (first-bin q.n c.lawful.ensures.size q.bins c.lawful.ensures.walk c.args.hash c.loop-low.low d (omega arith)
    (before d) (λ j ge lt. behind d j (omega arith) lt)).1
