-- What a call does for the table, by the map's form.
use Rattle.std.specs.Prelude.{◌≡◌, ℕ, ◌%◌, ◌<◌, ◌⊎◌, Bool, true}
use Rattle.bin_history.specs.declared.form.Form.{Form}
use Rattle.bin_history.specs.declared.form.Form.TheVariants.{Recorded, Lean}
use Rattle.chm.specs.Limits.{keys_per_look, wide_bins}

-- a call that made its key present looks whether the table of n bins is full, where its client has this balance, by
-- whether the key's bin is crowded
abbrev pub IsDue : Form → ℕ → ℕ → Bool → Type 0
IsDue Recorded n balance crowded = Unit {0}
IsDue Lean n balance crowded = (n < wide_bins) ⊎ (crowded ≡ true) ⊎ (balance % keys_per_look ≡ 0)

-- whether a call helps a move that is open, by whether it met a bin that was moved
abbrev pub helps : Form → Bool → Bool
helps Recorded met_moved = met_moved
helps Lean met_moved = true
