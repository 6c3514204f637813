use Rattle.std.proofs.Common.{List, ap, subst, refl, ◌∙◌}
use Rattle.gr_ids.specs.declared.names.Gtid.{Gtid}
use Rattle.key_items.specs.declared.change.Change.{Change}
use Rattle.paxos_forms.specs.declared.recovery.Given.{Given}
use Rattle.txn_forms.specs.Bodies.{read_body}
use Rattle.group_rules.specs.Rows.{changed_row}
use Rattle.row_store.specs.Chains.{IsApplied, row_now}
use Rattle.kept_server.proofs.Redone.{kept_with}
use Rattle.kept_server.proofs.kept.KeptServer.redo_one.Goals as goal

pub returns : goal.returns
returns c = λ y d is may h.
    (let xs = c.in_ok-changes.ensures d.txn (ap (λ (g : Given). read_body g.body) is ∙ may.read) in
    kept_with y d may c.args.self.now
    (record { executed = c.add.new.self; store = c.apply.new.self; earlier = record { committed = c.push.new.self; written = c.args.self.now.earlier.written } })
    c.room.new.self c.args.one is h c.in_ok-add.ensures.ok c.in_ok-room.ensures.same
    (subst (λ (zs : List Change). IsApplied c.room.new.self c.apply.new.self d.gtid zs) xs
    (subst (λ (g : Gtid). IsApplied c.room.new.self c.apply.new.self g c.in_ok-changes.changes) (ap (λ (g : Given). g.gtid) is) c.apply.ensures.at))
    (λ i. c.apply.ensures.now i ∙ ap (λ zs. changed_row i (row_now c.room.new.self i) zs) xs) c.in_ok-push.ensures.items refl)
