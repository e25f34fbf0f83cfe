-- What a handle owns is what a box on the C heap owns, of whatever a handle stands for.
use mathlib.Core.List.{[]}
use mir.Syntax.{impl, tnil, dnil}
use denote.RattleType.{RattleType}
use denote.Signature.{Slot, plain}
use Rattle.std.proofs.BoxSteps.Form.{Bx}
use Rattle.std_heap.specs.contracts.Global as Heap
use Rattle.std_heap.specs.contracts.GlobalAllocator.TheImpl.{ghosts, dict}
use Rattle.std_heap.proofs.Global.TheLaws as heap
use Rattle.facing_handles.specs.contracts.RawBox as RawBox
use Rattle.facing.specs.contracts.handle.FacingHandle as Handle
use Rattle.facing.specs.contracts.target.Target as Target
use Rattle.facing.proofs.target.Target.TheLaws as target

-- a target in a box on the C heap
abbrev pub boxed : Bx
boxed = record {
  row = Target.the_row;
  laws = target.the_row_laws;
  al = record { row = Heap.the_row; laws = heap.the_row_laws; g = ghosts; d = dict; drops = impl [] tnil dnil };
}

-- the box without its box
abbrev pub Parts_row : RattleType
Parts_row = RawBox.the_row Target.the_row Heap.the_row ghosts

-- as parameters: this, and the handle
abbrev pub of_parts : Slot 0
of_parts = plain (λ _. Parts_row)

abbrev pub of_handle : Slot 0
of_handle = plain (λ _. Handle.the_row)
