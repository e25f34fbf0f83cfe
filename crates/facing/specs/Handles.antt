-- What a handle owns: what a box of its target does, and nothing where it is null.
use base.Fml.{Fml, ftrue}
use base.Stored.{Coded}
use denote.RawPtr.{Ptr, block_ptr, null_ptr}
use Rattle.std.specs.Box.Ownership.{box_owns}
use Rattle.std.specs.Global.{Global}
use Rattle.std_heap.specs.contracts.GlobalAllocator.TheImpl.{ghosts}
use Rattle.facing.specs.contracts.target.Target.{the_row}

abbrev pub handle_owns : Global → Ptr → the_row.Denot → Fml
handle_owns alloc (block_ptr b o) target = box_owns (ghosts.dealloc_token alloc) the_row (block_ptr b o) target
handle_owns alloc null_ptr target = ftrue

-- it is not null
abbrev pub IsFilled : Ptr → Type 0
IsFilled (block_ptr b o) = Unit {0}
IsFilled null_ptr = ⊥

abbrev pub thing_coded : Coded the_row.Denot
thing_coded = the_row.coded
