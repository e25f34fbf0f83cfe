use Rattle.test_bins.proofs.moments.a_moment_is_learned_in_another_thread.Goals as goal

-- what each thread is given is of the ledger
pub join_mut-requires-after_bounds : goal.join_mut-requires-after_bounds
join_mut-requires-after_bounds g c =
    λ κs within. (
      λ _ _ _ _ _ _ _ _. (c.open_for_two-ledger.ensures.other_pass, (c.moment_of-moment.ensures.moment, c.call.ensures.role)),
      λ _ _ _ _ _ _ _ _ _. (c.moment_of-moment.ensures.pass, c.take_bin-bin.ensures.bin),
    )
