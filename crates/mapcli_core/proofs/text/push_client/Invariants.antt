use Rattle.std.proofs.Common.{◌≡◌, ◌++◌, take}
use Rattle.std.specs.List.{flat_map}
use Rattle.mapcli_core.specs.Texts.{output_line, reply_text}
use Rattle.mapcli_core.proofs.text.push_client.Given as goal

abbrev pub invariant-loop-reply : goal.invariant-loop-reply
invariant-loop-reply g l = l.text.items ≡ l.initial.text.items ++ flat_map (λ r. output_line (reply_text r))
    (take l.reply-index l.replies)
