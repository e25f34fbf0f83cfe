use Rattle.bin_layout.proofs.Cursor.{IsWalkTo-next, IsWalk-last}
use Rattle.bin_layout.proofs.walk.walk_laws.Goals as goal

pub returns-clause-next : goal.returns-clause-next
returns-clause-next c = λ n classes next class then size next_class own_class least walk of wide first. IsWalkTo-next n
    classes next class size next_class
    own_class least walk of wide then first

pub returns-clause-last : goal.returns-clause-last
returns-clause-last c = λ n classes next class size next_class own_class least walk of wide last. IsWalk-last n classes
    next class size next_class own_class
    least walk of wide last
