use Rattle.std.proofs.Common.{◌≡◌, ℕ, ◌++◌, [], ◌∷◌, inr, map, ap, sym, ◌∙◌, arith}
use Rattle.std.specs.List.{range_with_len}
use Rattle.std.proofs.lemmas.List.FromFn.{map-range_with_len_more}
use Rattle.hashkeys.specs.Classes.{ClassView}
use Rattle.bin_layout.specs.Views.{place_of}
use Rattle.generations.proofs.Indexes.{tag_at, IsTable-all}
use Rattle.generations.proofs.generations.Generations.new_table.Goals as goal

pub loop-index-preserved : goal.loop-index-preserved
loop-index-preserved g c =
    let kept = c.loop-index.invariant in
    let place : c.new-in-loop-index.result ≡ tag_at c.args.self.now c.args.size c.loop-index.index =
    c.new-in-loop-index.ensures ∙ c.tag_for-tag.ensures
    ∙ ap (λ (x : ClassView). place_of c.args.self.now x) c.new.ensures in
    record {
      places = c.push_reserved.ensures.items ∙ (λ x. kept.places x ++ place x ∷ [])
          ∙ sym (map-range_with_len_more (tag_at c.args.self.now c.args.size) 0 c.loop-index.index c.loop-index.index
          (omega arith));
      len = omega (arith, c.push_reserved.ensures.len, kept.len);
      room = omega (arith, c.push_reserved.ensures.capacity, kept.room);
    }

pub returns : goal.returns
returns g c =
    let kept = c.loop-index.invariant in
    let all : c.loop-index.index ≡ c.args.size = omega (arith, c.loop-index-test.false, c.loop-index.auto.index-end) in
    IsTable-all c.args.self.now c.args.size c.loop-index.places.items c.requires.size c.requires.least
    (λ recorded. inr (c.requires.few recorded))
    (omega (arith, c.loop-index.places.ok.0, kept.len, all))
    (kept.places ∙ ap (λ (m : ℕ). map (tag_at c.args.self.now c.args.size) (range_with_len 0 m)) all)
