use Rattle.std.proofs.Common.{◌≡◌, ℕ, Option, option_copied, ap, subst, ◌∙◌}
use Rattle.bin_history.specs.Calls.{after}
use Rattle.bin_history.specs.Changes.{IsIndexOf, IsWork, left_by}
use Rattle.bin_history.specs.Entries.{lookup}
use Rattle.bin_history.specs.Ops.{call_on, key_in, may_add}
use Rattle.bin_history.proofs.Keys.{key_tells}
use Rattle.bin_history.proofs.Changes.{entries_after-by, taken-by, HasIndex-change_by, Fits-change_by, after_of_none}
use Rattle.bin_history.proofs.Changes.{key-call_on, lookup_absent}
use Rattle.bin_history.proofs.ready.work_out.Goals as goal

-- the value before the call is the one at its key
found_before : (g : _) (c : goal.In_ok-change g) → option_copied c.value_at-before.result
    ≡ lookup g.K.PartialEq.eq c.args.entries.now (key_in c.args.key)
found_before g c = rw c.get.ensures at c.value_at-before.ensures

work_is : (g : _) (c : goal.In_ok-change g) → IsWork g.V.PartialEq.eq g.F.Remap.remapped g.F.Remap.merged
    (key_in c.args.key) c.args.op
    (lookup g.K.PartialEq.eq c.args.entries.now (key_in c.args.key)) c.in_ok-work.work
work_is g c = rw (c.get-2.ensures, found_before g c) at c.in_ok-work.ensures.work

pub returns-clause-ready : goal.returns-clause-ready
returns-clause-ready g c =
    let tells = key_tells g.met.K.Eq.laws g.met.K.HashKey.equal_is_same in
    let es = c.args.entries.now in
    let k = key_in c.args.key in
    let op = c.args.op in
    let effect = c.in_ok-work.work.effect in
    let (value, given, change) = c.in_ok-change.ensures.change in
    let called = c.of-seen.ensures.call ∙ ap (λ key. call_on key op) c.get-3.ensures in
    let before = c.of-seen.ensures.before ∙ found_before g c in
    let left = c.of-seen.ensures.after ∙ c.left-after.ensures ∙ ap (left_by op effect) (found_before g c) in
    let work = work_is g c in
    record {
      before_is = rw (called, key-call_on k op) before;
      after_is = rw (called, before) (left ∙ work.effect);
      reply_is =
          rw (
            called,
            before,
            left,
            change,
            taken-by g.K.PartialEq.eq tells es k c.args.found effect value c.requires.found,
          ) work.answer;
      has_index = rw change (HasIndex-change_by g.K.PartialEq.eq tells es k c.args.found effect value c.requires.found);
      change_is = rw (called, key-call_on k op, left, change)
          (entries_after-by g.K.PartialEq.eq tells es k c.args.found op effect value given c.requires.found);
    }

pub returns-clause-fits : goal.returns-clause-fits
returns-clause-fits g c room has =
    let tells = key_tells g.met.K.Eq.laws g.met.K.HashKey.equal_is_same in
    let es = c.args.entries.now in
    let k = key_in c.args.key in
    let op = c.args.op in
    let made = after g.V.PartialEq.eq g.F.Remap.remapped g.F.Remap.merged in
    let Found : Option ℕ → Type 0 = IsIndexOf g.K.PartialEq.eq es k in
    let (value, given, change) = c.in_ok-change.ensures.change in
    rw change
    (Fits-change_by c.args.found k op c.in_ok-work.work.effect value (lookup g.K.PartialEq.eq es k)
    (may_add op) room given
    (λ none never.
    let absent = lookup_absent g.K.PartialEq.eq tells es k (subst Found none c.requires.found) in
    (work_is g c).effect ∙ ap (made (call_on k op)) absent ∙ after_of_none g.V.PartialEq.eq g.F.Remap.remapped
    g.F.Remap.merged k op never)
    has)
