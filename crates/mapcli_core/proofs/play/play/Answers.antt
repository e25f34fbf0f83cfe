use Rattle.std.proofs.Common.{◌≡◌, ◌≤◌, ℕ, Vec, ap, refl, subst, sym, ◌∙◌, arith, inl, inr}
use Rattle.std.proofs.lemmas.List.{length-map}
use Rattle.bin_history.specs.Limits.{most_calls, most_recorded_calls}
use Rattle.bin_history.specs.declared.form.Form.{Form}
use Rattle.bin_history.specs.declared.form.Form.TheVariants.{Lean}
use Rattle.count_ledger.specs.Opening.{lists_of}
use Rattle.mapcli_core.specs.Played.{ArePlayed}
use Rattle.mapcli_core.proofs.Allowed.{IsAllowed-closed}
use Rattle.mapcli_core.proofs.Limits.{blocks-fit}
use Rattle.mapcli_core.proofs.play.play.Goals as goal

pub play_blocks-requires-clause-limit : goal.play_blocks-requires-clause-limit
play_blocks-requires-clause-limit g c = λ κs within.
    let new = c.in_ok-map.ensures.new in
    let (some, few) = (c.in_ok-map.ensures.limits.ok refl).1 in
    subst (λ (f : Form). most_recorded_calls ≤ most_calls f c.in_ok-map.map.ledger.clients) (sym new.form)
    (subst (λ (n : ℕ). most_recorded_calls ≤ most_calls Lean n) (sym new.clients)
    (blocks-fit _ some few))

pub returns-in-Ok-close-clause-ok : goal.returns-in-Ok-close-clause-ok
returns-in-Ok-close-clause-ok g c =
    let ledger = c.in-Ok-close.ensures.ledger in
    IsAllowed-closed (lists_of c.args.blocks) (lists_of c.in-Ok.replies) c.in-Ok-close.map c.lawful.ensures
    (ap (λ l. l.opening) ledger ∙ c.in_ok-map.ensures.new.opening)
    (let clients : c.in-Ok-close.map.ledger.clients ≡ c.len.result = ap (λ l. l.clients) ledger
    ∙ c.in_ok-map.ensures.new.clients in
    omega (arith, c.len.ensures, length-map c.args.blocks.items (λ (b : Vec _ _). b.items)))
    (subst (ArePlayed (lists_of c.args.blocks) (lists_of c.in-Ok.replies)) (sym c.in-Ok-close.ensures.passes)
    c.in-Ok.ensures.played)

pub returns-in-Err-close-clause-fault : goal.returns-in-Err-close-clause-fault
returns-in-Err-close-clause-fault g c =
    let refused = c.in-Err-close.ensures.refused in
    let same = c.give_up.ensures in
    elim refused.faults [
      | inl memory ↦ inl (same ∙ memory)
      | inr others ↦
          elim others [
            | inl missing ↦
                let few = refused.missing.0 missing in
                let clients = c.in_ok-map.ensures.new.clients in
                let many = c.in-Ok.ensures.played.as_many in
                absurd (omega (arith, c.len.ensures, length-map c.args.blocks.items (λ (b : Vec _ _). b.items)))
            | inr bins ↦ inr (same ∙ bins)
          ]
    ]
