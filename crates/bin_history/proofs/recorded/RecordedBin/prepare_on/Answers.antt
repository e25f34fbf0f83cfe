use Rattle.std.proofs.Common.{◌-◌, ℕ, Option, vec_len, vec_capacity, subst, sym, arith}
use Rattle.std.proofs.lemmas.Bool.{true≢false}
use Rattle.bin_history.specs.Calls.{after}
use Rattle.bin_history.specs.Logs.{IsKeptOrFolded}
use Rattle.bin_history.specs.Ops.{key_in}
use Rattle.bin_history.specs.Changes.{IsIndexOf}
use Rattle.bin_history.proofs.Changes.{key-call_on, lookup_absent}
use Rattle.bin_history.proofs.Keys.{key_tells}
use Rattle.bin_history.proofs.Lawful.{IsReplayed-kept, KeepsOrFolds-of}
use Rattle.bin_history.proofs.recorded.RecordedBin.prepare_on.Goals as goal

kept : (g : _) (c : goal.After-fold g) → IsKeptOrFolded g.K.PartialEq.eq c.self.inside.log.base c.self.inside.log.records
    c.fold.new.self.base c.fold.new.self.records
kept g c =
    let base = c.in_ok-reserve.ensures.base in
    let records = c.in_ok-reserve.ensures.records in
    subst (λ (X : Type 0). X) (λ i. IsKeptOrFolded g.K.PartialEq.eq (base i) (records i) c.fold.new.self.base c.fold.new.self.records)
    c.fold.ensures.kept

-- room for what the call may add was in hand
pub returns-in_err-make_room_for-clause-succeeds : goal.returns-in_err-make_room_for-clause-succeeds
returns-in_err-make_room_for-clause-succeeds g c sure =
    let tells = key_tells g.met.K.Eq.laws g.met.K.HashKey.equal_is_same in
    let has = rw (← c.self.view_is) at sure in
    let es = c.self.inside.entries.items in
    let k = key_in c.args.key in
    let Found : Option ℕ → Type 0 = IsIndexOf g.K.PartialEq.eq es k in
    let found : Found c.find-found.result = rw (c.deref.ensures.value, c.get.ensures) at c.find-found.ensures in
    absurd (true≢false (sym (c.in_err-make_room_for.ensures.succeeds
    (λ none adds. let more = has.entry_room (lookup_absent g.K.PartialEq.eq tells es k (subst Found none found)) adds in
    omega arith))))

pub invariant_of-self-in_err-reserve : goal.invariant_of-self-in_err-reserve
invariant_of-self-in_err-reserve g c =
    rw (c.in_err-reserve.ensures.base, c.in_err-reserve.ensures.records, c.in_ok-make_room_for.ensures.items) c.self.invariant

pub invariant_of-self-in_err-ready : goal.invariant_of-self-in_err-ready
invariant_of-self-in_err-ready g c =
    rw (c.in_ok-reserve.ensures.base, c.in_ok-reserve.ensures.records, c.in_ok-make_room_for.ensures.items) c.self.invariant

pub invariant_of-self-2 : goal.invariant_of-self-2
invariant_of-self-2 g c =
    let tells = key_tells g.met.K.Eq.laws g.met.K.HashKey.equal_is_same in
    rw c.in_ok-make_room_for.ensures.items
    (IsReplayed-kept g.K.PartialEq.eq tells _ _ _ _ _ _ _ _ _ c.self.invariant (kept g c))

pub returns-clause-ready : goal.returns-clause-ready
returns-clause-ready g c =
    let roomy = c.in_ok-make_room_for.ensures.room in
    let entries = c.make_room_for.new.entries in
    record {
      worked_out = rw c.deref-2.ensures.value at c.in_ok-ready.ensures.ready;
      room = record {
        record_room = c.fold.ensures.room;
        entry_room = c.in_ok-ready.ensures.fits (vec_capacity entries - vec_len entries) (λ none adds. let more =
            roomy none adds in omega arith);
        few = c.fold.ensures.fewer;
      };
      kept = c.in_ok-ready.ensures.kept;
      of_class = rw (c.in_ok-ready.ensures.call, key-call_on (key_in c.args.key) c.args.op)
          (rw (← c.self.view_is) at c.requires.of_class);
    }

pub returns-clause-ok : goal.returns-clause-ok
returns-clause-ok g c = rw (← c.self.view_is) (KeepsOrFolds-of g.K.PartialEq.eq _ _ (kept g c))

-- the records are of calls on the base, by the rules of the twelve
pub fold-requires-clause-calls : goal.fold-requires-clause-calls
fold-requires-clause-calls g c = rw (c.in_ok-reserve.ensures.base, c.in_ok-reserve.ensures.records) (record {
  distinct = c.self.invariant.base_distinct;
  rules = after g.V.PartialEq.eq g.F.Remap.remapped g.F.Remap.merged;
  legal = c.self.invariant.legal;
})
