use Rattle.group_laws.proofs.RowLaw as RowLaw
use Rattle.group_laws.proofs.rows_are_in_order.Goals as goal

pub returns : goal.returns
returns c = λ r k w h. RowLaw.row_law r k w h
