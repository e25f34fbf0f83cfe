use Rattle.map_bench.proofs.run.measure.Goals as goal

pub time_passes-taken-requires-clause-passes : goal.time_passes-taken-requires-clause-passes
time_passes-taken-requires-clause-passes g c κs within = c.in_ok-map.ensures
