-- An interrupted read takes nothing, and only the last step counts a fault.
use Rattle.std.proofs.Common.{◌≡◌}
use Rattle.std.specs.Io.KnownBytes.{Keeps}
use Rattle.jb_io.proofs.source.ReaderSourceSource.read.Given as goal

abbrev pub invariant-loop : goal.invariant-loop
invariant-loop g l =
    Keeps (g.R.Read.remaining l.initial.self.reader) (g.R.Read.remaining l.self.reader) × (l.self.faults ≡ l.initial.self.faults)
