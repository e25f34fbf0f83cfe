use Rattle.std.proofs.Common.{◌≡◌, ◌+◌, ◌≤◌, ◌++◌, ◌∷◌, [], List, length, sym, ap, ◌∙◌, subst, arith, take, drop}
use Rattle.std.proofs.Common.{vec_capacity, append_assoc}
use Rattle.std.proofs.lemmas.List.{take-append-drop}
use Rattle.std.specs.Vec.Iter.{drain_items}
use Rattle.bin_history.specs.Births.{births_in}
use Rattle.bin_history.specs.Entries.{lookup, replay}
use Rattle.bin_history.specs.Plain.{IsLegal}
use Rattle.bin_history.specs.Records.{RecordView}
use Rattle.bin_history.proofs.Counts.{room_for_birth}
use Rattle.bin_history.proofs.Keys.{key_tells}
use Rattle.bin_history.proofs.Runs.{replay_push, IsLegal-front}
use Rattle.bin_history.proofs.fold.fold_front.Goals as goal

pub store_record-requires : goal.store_record-requires
store_record-requires g c =
    let tells = key_tells g.met.K.Eq.laws g.met.K.HashKey.equal_is_same in
    let calls = c.requires.calls in
    let es = c.args.base.now.items in
    let rs = c.args.records.now.items in
    let yielded : List (RecordView _ _ _) = c.loop-record.yielded in
    let left : List (RecordView _ _ _) = drain_items c.next.new.self in
    let all : List (RecordView _ _ _) = drain_items c.into_iter-record-iterator.result in
    let first : yielded ++ c.in-Some.record ∷ left ≡ all =
    subst (λ rest. yielded ++ rest ≡ all) c.in-Some.ensures.steps.0 c.loop-record.invariant.3 in
    let whole : all ≡ take 512 rs = rw c.into_iter-record-iterator.ensures.into_iter_gives
    c.drain-record-items.ensures.rest in
    let front : yielded ++ c.in-Some.record ∷ left ≡ take 512 rs = first ∙ whole in
    let L : List _ → Type 0 = λ front. IsLegal g.K.PartialEq.eq calls.rules (lookup g.K.PartialEq.eq es) front in
    let legal : L (take 512 rs) = IsLegal-front g.K.PartialEq.eq tells calls.rules _ (take 512 rs) (drop 512 rs)
    (rw (take-append-drop 512 rs) calls.legal) in
    let M : List _ → Type 0 = λ front. length es + births_in front ≤ vec_capacity c.args.base.now in
    record {
      room = λ birth.
          let more = room_for_birth g.K.PartialEq.eq tells calls.rules es yielded left c.in-Some.record
          (vec_capacity c.args.base.now) calls.distinct
          (subst L (sym front) legal) (subst M (sym front) (let room = c.requires.room in omega arith))
          (rw c.loop-record.invariant.2 at birth) in
          let here : length c.loop-record.base.items ≡ length (replay g.K.PartialEq.eq es c.loop-record.yielded) =
          ap length c.loop-record.invariant.2 in
          omega arith;
    }

pub loop-record-preserved : goal.loop-record-preserved
loop-record-preserved g c =
    let tells = key_tells g.met.K.Eq.laws g.met.K.HashKey.equal_is_same in (
      tt,
      tt,
      rw (c.store_record.ensures.items, c.loop-record.invariant.2)
          (sym (replay_push g.K.PartialEq.eq tells _ c.loop-record.yielded c.in-Some.record)),
      append_assoc c.loop-record.yielded (c.in-Some.record ∷ []) (drain_items c.next.new.self)
          ∙ ap (λ rest. c.loop-record.yielded ++ rest) (sym c.in-Some.ensures.steps.0) ∙ c.loop-record.invariant.3,
      omega arith,
    )
