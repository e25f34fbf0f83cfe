use Rattle.std.proofs.Common.{◌≡◌, length}
use Rattle.std.specs.Io.KnownBytes.{Keeps}
use Rattle.mapcli_core.proofs.device.ReaderInput.read.Given as goal

abbrev pub invariant-loop : goal.invariant-loop
invariant-loop g l =
    (length l.buffer ≡ length l.initial.buffer) × Keeps (g.R.Read.remaining l.initial.self.inner)
    (g.R.Read.remaining l.self.inner)
    × (l.self.failures ≡ l.initial.self.failures)
