-- One transaction more.
use Rattle.row_store.proofs.Folds.{fold_more}
use Rattle.row_store.proofs.laws.rows_are_the_fold.Goals as goal

pub returns-clause-more : goal.returns-clause-more
returns-clause-more c old new ts t f a = fold_more old new ts t f a
