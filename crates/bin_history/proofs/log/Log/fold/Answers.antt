use Rattle.std.proofs.Common.{◌≡◌, ◌-◌, length, vec_len, ap, ◌∙◌, sym, arith, length-drop}
use Rattle.bin_history.proofs.log.Log.fold.Goals as goal

pub returns-then-len-eq-MOST_RECORDS-clause-room : goal.returns-then-len-eq-MOST_RECORDS-clause-room
returns-then-len-eq-MOST_RECORDS-clause-room g c =
    let records = c.self.inside.records in
    let short : length c.fold_front.new.records.items ≡ length records.items - 512 =
    ap length c.fold_front.ensures.records ∙ length-drop 512 records.items in
    let long : vec_len records ≡ 1024 = sym c.len.ensures ∙ c.if-len-eq-MOST_RECORDS.true in
    let len = c.fold_front.new.records.ok.0 in
    let had = records.ok.0 in
    let fits = records.ok.1 in
    let kept = c.fold_front.ensures.capacity in
    omega arith

pub returns-then-len-eq-MOST_RECORDS-clause-fewer : goal.returns-then-len-eq-MOST_RECORDS-clause-fewer
returns-then-len-eq-MOST_RECORDS-clause-fewer g c =
    let records = c.self.inside.records in
    let short : length c.fold_front.new.records.items ≡ length records.items - 512 =
    ap length c.fold_front.ensures.records ∙ length-drop 512 records.items in
    let long : vec_len records ≡ 1024 = sym c.len.ensures ∙ c.if-len-eq-MOST_RECORDS.true in
    let had = records.ok.0 in
    omega arith

pub fold_front-requires-clause-calls : goal.fold_front-requires-clause-calls
fold_front-requires-clause-calls g c = rw (← c.self.view_is) at c.requires.calls
