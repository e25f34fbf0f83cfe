use Rattle.std.proofs.Common.{ℕ, List, IfErr, subst, rules}
use Rattle.script.specs.Drafts.{section_of, IsRefused}
use Rattle.script.proofs.Steps.{IsLine-from_reads}
use Rattle.script.proofs.draft.Draft.take.Goals as goal

pub returns-in_err-check_bytes-in-Err-Bad-clause-err : goal.returns-in_err-check_bytes-in-Err-Bad-clause-err
returns-in_err-check_bytes-in-Err-Bad-clause-err g c =
    subst (λ (l : List ℕ). IfErr c.from_residual.result (IsRefused (section_of c.args.self.now) l))
    c.bytes.ensures (search rules)

pub returns-in-Ok-clause-ok : goal.returns-in-Ok-clause-ok
returns-in-Ok-clause-ok g c =
    let (said, reads, leads) = c.in-Ok.ensures.ok in
    (said, IsLine-from_reads (section_of c.args.self.now) c.args.line.now said reads, leads)
