use Rattle.std.proofs.Common.{refl}
use Rattle.std.proofs.KnownBytes.{Consumes-nil}
use Rattle.mapcli_core.proofs.whole.read_all.Goals as goal

pub loop-init : goal.loop-init
loop-init g c = (c.in_ok-piece.ensures, rw c.new-text.ensures.items (Consumes-nil _), refl)
