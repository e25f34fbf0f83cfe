use Rattle.test_bins.proofs.ledgers.two_threads_post_to_two_roles.Goals as goal

-- what each thread is given is of the ledger
pub join_mut-requires-after_bounds : goal.join_mut-requires-after_bounds
join_mut-requires-after_bounds g c =
    λ κs within. (
      λ _ _ _ _ _ _ _ _ _. (c.open_for_two-ledger.ensures.pass, c.take_bin-bin.ensures.bin),
      λ _ _ _ _ _ _ _ _ _. (c.open_for_two-ledger.ensures.other_pass, c.take_bin-other_bin.ensures.bin),
    )
