use Rattle.bin_history.specs.Calls.{after}
use Rattle.lean_bins.proofs.Halves.{taken_fits}
use Rattle.lean_bins.proofs.hold.BinGuard.release.Goals as goal

pub release-requires : goal.release-requires
release-requires g c =
    let place = c.args.self in
    taken_fits g.K.PartialEq.eq (after g.V.PartialEq.eq g.F.Remap.remapped g.F.Remap.merged) place.inner.seat.me.1
    place.home.now place.class place.exponent place.inner.rows.now.table.shared.key.tag place.inner.at place.from
    c.requires
