use Rattle.count_ledger.proofs.WordSums.{word_of-add, word_of_natural, cast_signed-word_of, total_made_all}
use Rattle.count_ledger.proofs.laws.words_of_sums.Goals as goal

pub returns-clause-add : goal.returns-clause-add
returns-clause-add g c = word_of-add

pub returns-clause-natural : goal.returns-clause-natural
returns-clause-natural g c = word_of_natural

pub returns-clause-signed : goal.returns-clause-signed
returns-clause-signed g c = cast_signed-word_of

pub returns-clause-bounds : goal.returns-clause-bounds
returns-clause-bounds g c = total_made_all
