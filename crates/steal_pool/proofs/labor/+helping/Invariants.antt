use Rattle.std.proofs.Common.{◌+◌, ◌*◌, length, max}
use Rattle.steal_pool.proofs.labor.+helping.Given as goal

abbrev pub decreases-all_help : goal.decreases-all_help
decreases-all_help g l = 3 * length l.members.now

abbrev pub decreases-both_help : goal.decreases-both_help
decreases-both_help g l = 3 * max (length l.front.now) (length l.back.now) + 2

abbrev pub decreases-both_help-ours : goal.decreases-both_help-ours
decreases-both_help-ours g l = 3 * length l.back.now + 1

abbrev pub decreases-both_help-theirs : goal.decreases-both_help-theirs
decreases-both_help-theirs g l = 3 * length l.front.now + 1
