-- It has changes, may write, and isn't too large, so it is sent.
use Rattle.std.proofs.Common.{◌≡◌, ℕ, ◌≤◌, ◌-◌, ◌^◌, false, min, List, length, refl, ap, sym, ◌∙◌}
use Rattle.std.specs.Prelude.{◌==◌}
use Rattle.key_items.specs.declared.item.Item.{Item}
use Rattle.key_items.specs.declared.change.Change.{Change}
use Rattle.txn_forms.specs.declared.body.Txn.{Txn}
use Rattle.txn_forms.specs.declared.body.Body.TheVariants.{Txn as Writes}
use Rattle.txn_forms.specs.Bodies.{body_bytes}
use Rattle.group_rules.specs.Calls.{items_of}
use Rattle.key_items.specs.Items.{Ascend}
use Rattle.local_sessions.specs.Replies.{is_read_only, txn_of}
use Rattle.local_sessions.proofs.Spelled.{is_txn, fits, sends, some_change}
use Rattle.local_sessions.proofs.committing.checked.Goals as goal

pub returns : goal.returns
returns c =
    let x = c.args.session.now in
    let at = c.args.at.now in
    let t : List Item → List Change → Txn = λ is cs. record { after = x.after; snapshot = at.executed; items = is; changes = cs } in
    let size : Txn → ℕ = λ u. min (length (body_bytes (Writes u))) (2 ^ 64 - 1) in
    let some = some_change x.changes (ap (λ l. length l == 0) (sym c.as_slice.ensures.changes) ∙ (sym c.is_empty.ensures ∙ c.if-is_empty.false)) in
    let writes : is_read_only at ≡ false = sym c.is_read_only.ensures ∙ c.if-is_read_only.false in
    let items : c.in_ok-items.items ≡ items_of x.changes = c.in_ok-items.ensures ∙ ap items_of c.as_slice-2.ensures.changes in
    let counted : c.body_size-bytes.result ≡ size (t (items_of x.changes) x.changes) =
    c.body_size-bytes.ensures.size x.after
    ∙ (ap (λ is. size (t is c.as_slice-4.result.now)) (c.as_slice-3.ensures.items ∙ items) ∙ ap (λ cs. size (t (items_of x.changes) cs)) c.as_slice-4.ensures.changes) in
    let short : length (body_bytes (Writes (txn_of at x))) ≤ 16777216 = fits c.body_size-bytes.result (length (body_bytes (Writes (txn_of at x)))) counted c.if-bytes-gt-LARGEST_BODY.false in
    let ascends : Ascend (items_of x.changes) = rw items at c.as_slice-3.ensures.ascend in (
      sends at x some.0 some.1.0 some.1.1 writes short,
      items,
      is_txn (txn_of at x) some.0 some.1.0 some.1.1 refl c.body_size-bytes.ensures.canonical ascends c.as_slice-4.ensures.items short,
    )
