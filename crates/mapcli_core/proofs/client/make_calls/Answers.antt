use Rattle.std.proofs.Common.{◌≡◌, ℕ, ℤ, ◌+◌, ◌++◌, List, [], ◌∷◌, length, take, get_or, sym, ap, subst, ◌∙◌, arith}
use Rattle.std.proofs.lemmas.List.{length_push, take_more}
use Rattle.std.specs.Ordering.{int_eq}
use Rattle.bin_history.specs.Calls.{reply}
use Rattle.bin_history.specs.declared.call.Reply.{Reply}
use Rattle.script.specs.Grammar.{ScriptCall}
use Rattle.mapcli_core.specs.Played.{ScriptPass, ScriptRecord, HasMade}
use Rattle.mapcli_core.proofs.Made.{HasMade-push}
use Rattle.mapcli_core.proofs.client.make_calls.Goals as goal

pub loop-call-preserved : goal.loop-call-preserved
loop-call-preserved g c =
    let (ledger, client, made, count, replied, room) = c.loop-call.invariant in
    let (front, r, is_front, called, found) = c.in_ok-reply.ensures.answered.called in
    let calls : List ScriptCall = c.args.calls.now.items in
    let before : List ScriptCall = take c.loop-call.call-index calls in
    let records : c.call-in-loop-call.new.pass.made ≡ c.loop-call.pass.made ++ r ∷ [] =
    ap (λ (p : ScriptPass). p.made) called.pass in
    let copy_is = ap (λ (xs : List ScriptCall). get_or xs c.loop-call.call-index c.call-item.result)
    (sym c.deref-call-items.ensures.value) ∙ sym c.call-item.is ∙ sym c.in_ok-copy.ensures in
    let more : take (c.loop-call.call-index + 1) calls ≡ before ++ c.in_ok-copy.copy ∷ [] =
    take_more calls c.loop-call.call-index c.call-item.result (omega arith)
    ∙ ap (λ (x : ScriptCall). before ++ x ∷ []) copy_is in
    let next = HasMade-push before c.loop-call.replies.items c.loop-call.pass.made c.in_ok-copy.copy
    c.in_ok-reply.reply r made
    (λ i. (
      called.call_is i,
      (ap (λ (x : _). reply int_eq x r.before r.after) called.call_is ∙ sym called.reply_is) i,
    )) in (
      ap (λ (p : ScriptPass). p.ledger) called.pass ∙ ledger,
      ap (λ (p : ScriptPass). p.client) called.pass ∙ client,
      subst (λ (cs : List ScriptCall). HasMade cs c.push_reserved.new.self.items c.call-in-loop-call.new.pass.made)
          (sym more)
          (subst (λ (rs : List (Reply ℤ)). HasMade (before ++ c.in_ok-copy.copy ∷ []) rs
          c.call-in-loop-call.new.pass.made)
          (sym c.push_reserved.ensures.items)
          (subst (λ (rs : List ScriptRecord). HasMade (before ++ c.in_ok-copy.copy ∷ [])
          (c.loop-call.replies.items ++ c.in_ok-reply.reply ∷ []) rs)
          (sym records) next)),
      ap length records ∙ length_push c.loop-call.pass.made r ∙ ap (λ (n : ℕ). n + 1) count,
      omega (arith, replied, c.push_reserved.ensures),
      omega (arith, room, c.push_reserved.ensures),
    )
