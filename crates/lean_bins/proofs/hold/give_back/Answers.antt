use Rattle.std.proofs.Common.{◌+◌, ap, arith}
use Rattle.bin_history.specs.Calls.{after}
use Rattle.bin_layout.specs.Views.{place_of}
use Rattle.lean_bins.specs.Segments.{class_at, home_of}
use Rattle.lean_bins.proofs.Halves.{lies, word_fits}
use Rattle.lean_bins.proofs.hold.give_back.Goals as goal

pub release-requires : goal.release-requires
release-requires g c =
    let same = g.K.PartialEq.eq in
    let after_is = after g.V.PartialEq.eq g.F.Remap.remapped g.F.Remap.merged in
    let tag = c.args.inner.rows.now.table.shared.key.tag in
    let at = c.args.inner.at in
    let e = c.args.exponent in
    word_fits same after_is _ c.of.result _ _ (tag.first + at) e (home_of tag) c.replace.ensures.left
    (ap (λ rows. home_of rows.now.table.shared.key.tag) c.replace.ensures.rows)
    (omega (
      arith,
      ap (λ rows. rows.now.table.shared.key.tag.first) c.replace.ensures.rows,
      c.replace.ensures.at,
    ))
    (record {
      at = lies same after_is (place_of (home_of tag) (class_at (tag.first + at) e)) c.args.bin c.args.role
          c.of.result c.requires.at c.of.ensures.role c.of.ensures.bin;
      least = c.requires.least;
    })
