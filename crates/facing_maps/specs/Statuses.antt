-- The statuses of the C library, by the names of its header in small letters: facing_done is FACING_DONE.
use Rattle.std.specs.Prelude.{ℕ}

abbrev pub facing_done : ℕ
facing_done = 0

-- another thread was in the way
abbrev pub facing_busy : ℕ
facing_busy = 1

abbrev pub facing_no_memory : ℕ
facing_no_memory = 2

-- the client made all the calls that it may
abbrev pub facing_client_full : ℕ
facing_client_full = 3

abbrev pub facing_bad_capacity : ℕ
facing_bad_capacity = 4

abbrev pub facing_bad_clients : ℕ
facing_bad_clients = 5

-- a client is out of the map that was to be closed
abbrev pub facing_client_out : ℕ
facing_client_out = 6

abbrev pub facing_bin_missing : ℕ
facing_bin_missing = 7

-- the handle is null, or stands for something else
abbrev pub facing_wrong_handle : ℕ
facing_wrong_handle = 8

abbrev pub facing_too_long : ℕ
facing_too_long = 10

-- no client is free
abbrev pub facing_no_client : ℕ
facing_no_client = 11

-- there is not room enough
abbrev pub facing_no_room : ℕ
facing_no_room = 13

-- a key has no more bytes than this
abbrev pub facing_longest : ℕ
facing_longest = 65536

-- a value has no more bytes than this: 2^29
abbrev pub facing_longest_value : ℕ
facing_longest_value = 536870912
