use Rattle.std.proofs.Common.{◌≡◌, ◌∙◌, ap₂, codes, rules}
use Rattle.std.proofs.lemmas.Result.{IfOk-weaker}
use Rattle.clap.specs.Words.{app_of, with_rule}
use Rattle.mapcli_core.specs.CommandLine.{versioned}
use Rattle.mapcli_core.proofs.command.command.Goals as goal

pub returns : goal.returns
returns c =
    let bare : app_of c.after_help.result ≡ versioned (codes "mapcli") = search rules in
    let first = c.in_ok-arg.ensures.shape c.workers.ensures.local ∙ ap₂ with_rule bare c.workers.ensures.rule in
    let second = c.in_ok-arg-2.ensures.shape c.capacity.ensures.local ∙ ap₂ with_rule first c.capacity.ensures.rule in
    let third = c.in_ok-arg-3.ensures.shape c.salt.ensures.local ∙ ap₂ with_rule second c.salt.ensures.rule in
    IfOk-weaker c.arg-4.result _ _ (λ command added. added.shape c.file.ensures.local
    ∙ ap₂ with_rule third c.file.ensures.rule) c.arg-4.ensures
