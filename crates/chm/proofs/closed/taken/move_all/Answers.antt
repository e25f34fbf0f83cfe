use Rattle.std.proofs.Common.{◌≡◌, ℕ, ◌+◌, ◌≤◌, List, [], ◌∷◌, ◌++◌, length, sym, ap, ◌∙◌, arith}
use Rattle.std.proofs.lemmas.List.{append-nil, length-append}
use Rattle.std.proofs.lemmas.List.Concat.{flat_map-cons}
use Rattle.std.specs.Vec.Iter.{into_iter_items}
use Rattle.bin_history.specs.Lawful.{BinView}
use Rattle.chm.specs.Headline.{entries_of}
use Rattle.chm.proofs.closed.taken.move_all.Goals as goal

-- behind the pairs that were moved there is room for those of the next bin
fits : {K V F : Type 0} (done all : List (K × V)) (b : BinView K V F) (left rest : List (BinView K V F)) (room : ℕ) →
    done ++ entries_of left ≡ all → left ≡ b ∷ rest → length all ≤ room → length done + length b.entries ≤ room
fits {K} {V} {F} done all b left rest room whole first enough =
    let parts : length (done ++ entries_of left) ≡ length (done ++ (b.entries ++ entries_of rest)) =
    ap (λ (l : List (K × V)). length (done ++ l))
    (ap (λ (bs : List (BinView K V F)). entries_of bs) first ∙ flat_map-cons (λ (x : BinView K V F). x.entries) b rest)
    in
    let total : length (done ++ entries_of left) ≡ length all = ap (λ (l : List (K × V)). length l) whole in
    omega (
      arith,
      parts,
      total,
      length-append done (b.entries ++ entries_of rest),
      length-append b.entries (entries_of rest),
      enough,
    )

-- once no bin is left, all pairs were moved
ended : {K V F : Type 0} (done all : List (K × V)) (left : List (BinView K V F)) → length left ≡ 0 →
    done ++ entries_of left ≡ all → done ≡ all
ended done all [] none whole = sym (append-nil done) ∙ whole
ended done all (b ∷ bs) none whole = absurd (omega (arith, none))

pub pour-room-requires : goal.pour-room-requires
pour-room-requires g c =
    let (can, finite, kept) = c.loop-bin.invariant in
    let (whole, counted, enough) = kept in
    let room = fits c.loop-bin.room.items (entries_of c.args.bins.items) c.in-Some.bin
    (into_iter_items c.loop-bin.bin-iterator) (into_iter_items c.next.new.self) _ whole c.in-Some.ensures.steps.0
    enough in
    record { room = omega (arith, room, c.loop-bin.room.ok.0) }

pub returns : goal.returns
returns g c =
    let (can, finite, kept) = c.loop-bin.invariant in
    let (whole, counted, enough) = kept in
    let none = c.in-None.ensures.steps.0 in
    ended c.loop-bin.room.items (entries_of c.args.bins.items) (into_iter_items c.loop-bin.bin-iterator)
    (omega (arith, counted, none)) whole
