use Rattle.std.proofs.Common.{◌≡◌, ℕ, List, [], length, sym, ap, subst, ◌∙◌, arith}
use Rattle.std.proofs.lemmas.List.{nil_from_length}
use Rattle.hashkeys.specs.Classes.{covering}
use Rattle.bin_history.specs.Lawful.{BinView}
use Rattle.bin_layout.specs.BinsWithRoles.{classes_of_bins}
use Rattle.chm.proofs.closed.quiet.Quiet.entries.Goals as goal

pub unreachable-requires : goal.unreachable-requires
unreachable-requires g c =
    let bins : List (BinView _ _ _) = c.args.self.now.bins in
    let none : bins ≡ [] = nil_from_length bins
    (ap (λ (l : List (BinView _ _ _)). length l) (sym c.bins.ensures) ∙ c.in_default.ensures.cases) in
    let once : ◌≡◌ {A = ℕ} 0 1 =
    subst (λ (l : List (BinView _ _ _)). covering (classes_of_bins l) 0 ≡ 1) none
    (c.lawful.ensures.walk.each_hash 0) in
    absurd (omega arith)
