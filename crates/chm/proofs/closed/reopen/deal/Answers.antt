use Rattle.std.proofs.Common.{◌≡◌, ℕ, ◌%◌, ◌<◌, ◌++◌, ◌∷◌, [], List, length, flat_map, sym, ap, ◌∙◌, arith, get_or, set}
use Rattle.std.proofs.Common.{◌+◌}
use Rattle.std.proofs.Math.Nat.{mod-lt}
use Rattle.std.specs.Vec.{with_item}
use Rattle.std.specs.declared.vec.Vec.{Vec}
use Rattle.hashkeys.specs.Hashing.{hash_of}
use Rattle.std.proofs.lemmas.List.{append_assoc, get_or-map, length-append, length-map, map-set}
use Rattle.count_ledger.specs.Opening.{lists_of}
use Rattle.chm.proofs.Dealing.{parts_by_class-none, parts_by_class-push, length-parts_by_class, length-set_push}
use Rattle.chm.proofs.Dealing.{positive}
use Rattle.chm.proofs.Empty.{flat_map-empty}
use Rattle.chm.proofs.closed.reopen.deal.Goals as goal

pub loop-key-init : goal.loop-key-init
loop-key-init g c = (
  tt,
  tt,
  (
    [],
    c.into_iter-key-iterator.ensures.into_iter_gives,
    c.in_ok-bases.ensures ∙ parts_by_class-none g.K.HashKey.code c.args.salt c.args.n,
    ap (λ (ls : List (List _)). length (flat_map (λ l. l) ls)) c.in_ok-bases.ensures ∙ ap (λ (l : List _). length l)
        (flat_map-empty c.args.n),
  ),
)

pub index_mut-requires : goal.index_mut-requires
index_mut-requires g c =
    let (can, finite, kept) = c.loop-key.invariant in
    let (done, cut, dealt_is, total) = kept in
    let len : length c.loop-key.bases.items ≡ c.args.n = sym (length-map c.loop-key.bases.items (λ b. b.items))
    ∙ ap (λ (l : List (List _)). length l) dealt_is
    ∙ length-parts_by_class g.K.HashKey.code c.args.salt c.args.n done in
    let small : c.hash_of.result % c.args.n < c.args.n =
    mod-lt (c.hash_of.result) (positive c.args.n c.requires.size) in
    omega arith

pub loop-key-preserved : goal.loop-key-preserved
loop-key-preserved g c =
    let (can, finite, kept) = c.loop-key.invariant in
    let (done, cut, dealt_is, total) = kept in
    let i = c.hash_of.result % c.args.n in
    let e = c.in-Some.field-0.now in
    let len : length c.loop-key.bases.items ≡ c.args.n = sym (length-map c.loop-key.bases.items (λ b. b.items))
    ∙ ap (λ (l : List (List _)). length l) dealt_is
    ∙ length-parts_by_class g.K.HashKey.code c.args.salt c.args.n done in
    let small : i < c.args.n = mod-lt c.hash_of.result (positive c.args.n c.requires.size) in
    let its : hash_of c.args.salt (g.K.HashKey.code e.0) % c.args.n ≡ i =
    ap (λ (h : ℕ). h % c.args.n) (sym c.hash_of.ensures.hash) in
    let key : c.in_ok-clone.field-0 ≡ e.0 = g.met.K.Exact.copies_exactly e.0 c.in_ok-clone.field-0 c.in_ok-clone.ensures.cases in
    let value : c.in_ok-clone-2.field-0 ≡ e.1 =
    g.met.V.Exact.copies_exactly e.1 c.in_ok-clone-2.field-0 c.in_ok-clone-2.ensures.cases in
    let its_list : c.index_mut.result.now.items ≡ get_or (lists_of c.loop-key.bases) i [] =
    ap (λ (v : Vec _ _). v.items) c.index_mut.ensures.value
    ∙ sym (get_or-map (λ (v : Vec _ _). v.items) c.loop-key.bases.items i c.index_mut.result.now [] (omega arith)) in
    let pushed : c.push.new.self.items ≡ get_or (lists_of c.loop-key.bases) i [] ++ e ∷ [] = c.in_ok-push.ensures.items
    ∙ (λ j. its_list j ++ (key j, value j) ∷ []) in
    let now : lists_of (with_item c.loop-key.bases i c.push.new.self) ≡ set (lists_of c.loop-key.bases) i
    (get_or (lists_of c.loop-key.bases) i [] ++ e ∷ []) =
    map-set (λ (v : Vec _ _). v.items) c.loop-key.bases.items i c.push.new.self
    ∙ ap (λ (l : List _). set (lists_of c.loop-key.bases) i l) pushed in
    let more : length
    (flat_map (λ base. base) (set (lists_of c.loop-key.bases) i (get_or (lists_of c.loop-key.bases) i [] ++ e ∷ [])))
    ≡ length
    (flat_map (λ base. base) (lists_of c.loop-key.bases)) + 1 =
    length-set_push (lists_of c.loop-key.bases) i e (let all = length-map c.loop-key.bases.items (λ b. b.items) in
    omega arith) in (
      tt,
      tt,
      (
        done ++ e ∷ [],
        append_assoc done (e ∷ []) c.next.new.self ∙ ap (λ (l : List _). done ++ l) (sym c.in-Some.ensures.steps) ∙ cut,
        now ∙ ap (λ (ls : List (List _)). set ls i (get_or ls i [] ++ e ∷ [])) dealt_is
            ∙ parts_by_class-push g.K.HashKey.code c.args.salt c.args.n done e i its small,
        ap (λ (ls : List (List _)). length (flat_map (λ base. base) ls)) now ∙ more
            ∙ (let longer = length-append done (e ∷ []) in omega arith),
      ),
    )
