use base.Shift.{Keyless}
use mir.Raw.{raw}
use denote.Memory.{lone}
use denote.RawPtr.{Ptr, block_ptr, null_ptr}
use denote.Struct.Struct.{exits_of}
use denote.Struct.Owning.{shape, fields, to}
use denote.Param.Send.{IsSend, AllSend, owning_send, struct_send, sendable}
use Rattle.std.proofs.Crossing as heap
use Rattle.std_alloc.proofs.SendSync.{quiet, lies}
use Rattle.std_heap.proofs.Global.TheSendSync as handle
use Rattle.std.specs.Global.{Global}
use Rattle.facing.specs.Handles.{handle_owns}
use Rattle.facing.specs.contracts.target.Target as Target
use Rattle.facing.proofs.Crossing.{target_send}
use Rattle.facing.specs.contracts.handle.FacingHandle.{the_row, the_type}

owned : (alloc : Global) (p : Ptr) (target : (Target.the_row).Denot) → Keyless (handle_owns alloc p target)
owned alloc (block_ptr b o) target =
    (lies Target.the_row target_send (block_ptr b o) target, heap.frees.frees alloc (raw (lone Target.the_row.mir)) (block_ptr b o))
owned alloc null_ptr target = tt

pub send : IsSend the_row
send =
    let all : AllSend (fields the_type) = (search sendable, (handle.the_field_send, tt)) in
    owning_send the_type all (λ d. owned d.alloc d.ptr d.target)
    (λ k. quiet (to the_type) (exits_of k (fields the_type)) ((struct_send (shape the_type) all).leaving k))
