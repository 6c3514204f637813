use Rattle.std.proofs.Common.{List, [], ◌∷◌, ap, subst, refl, ◌∙◌}
use Rattle.gr_ids.specs.declared.names.Gtid.{Gtid}
use Rattle.gtid_sets.specs.Canonical.{IsNumber}
use Rattle.gtid_sets.specs.Sets.{with_gtid}
use Rattle.key_items.specs.declared.change.Change.{Change}
use Rattle.key_items.specs.declared.change.ChangeKind.TheVariants.{Insert as Inserts}
use Rattle.group_rules.specs.Rows.{changed_row}
use Rattle.row_store.specs.Chains.{IsApplied, row_now}
use Rattle.kept_server.proofs.Written.{wrote}
use Rattle.kept_server.proofs.kept.KeptServer.write.Goals as goal

pub returns-clause-kept : goal.returns-clause-kept
returns-clause-kept c y h uuid apart =
    let next = c.in_ok-number.ensures.next in
    let one = c.in_ok-changes.ensures in
    let xs : List Change = record { item = c.args.item; what = Inserts c.args.value } ∷ [] in
    let g : Gtid = record { source = c.args.source; number = c.in_ok-number.number } in
    wrote c.rows_stay_with_their_server.ensures.written y c.args.source c.args.item c.args.value c.args.self.now
    (record { executed = c.add.new.self; store = c.apply.new.self; earlier = record { committed = c.args.self.now.earlier.committed; written = c.in_ok-number.number } })
    c.room.new.self h uuid apart (subst IsNumber next c.in_ok-number.ensures.number)
    (c.in_ok-add.ensures.ok ∙ ap (λ n. with_gtid c.args.self.now.executed (record { source = c.args.source; number = n })) next) c.in_ok-room.ensures.same
    (subst (λ n. IsApplied c.room.new.self c.apply.new.self (record { source = c.args.source; number = n }) xs) next (subst (λ zs. IsApplied c.room.new.self c.apply.new.self g zs) one c.apply.ensures.at))
    (λ i. c.apply.ensures.now i ∙ ap (λ zs. changed_row i (row_now c.room.new.self i) zs) one) refl next
