use Rattle.std.proofs.Common.{◌≡◌, ◌-◌, IfSome}
use Rattle.byte_forms.proofs.ListLemmas.{Done, last_of}
use Rattle.byte_forms.proofs.lists.take_elements.Given as goal

abbrev pub invariant-loop-i : goal.invariant-loop-i
invariant-loop-i g l = record {
  so_far : Done (g.L.ListForm.reader l.form) l.count l.initial.from.left l.done.items (l.count - l._i) l.from.left;
  last : IfSome (last_of l.done.items) (g.L.ListForm.CanPrecede l.form);
  whole : l.from.total ≡ l.initial.from.total;
}
