-- The version goes into the chain of its item.
use Rattle.std.proofs.Common.{Some, ap, sym, refl, ◌∙◌}
use Rattle.std.proofs.lemmas.Bool.{true≢false}
use Rattle.std.specs.Prelude.{if◌then◌else◌}
use Rattle.gtid_sets.specs.Sets.{has}
use Rattle.row_store.specs.Chains.{seen_in}
use Rattle.row_store.proofs.ChainReads.{Changes, versions_in, no_chain, has_way, ready_still, put_seen, put_last}
use Rattle.row_store.proofs.chains.put_one.Goals as goal

pub put_version-requires : goal.put_version-requires
put_version-requires c n = has_way c.args.gtid c.args.chains.now.entries c.args.change.item c.in-Some.versions.now (sym c.in-Some.ensures.value) c.requires n

pub unreachable-requires : goal.unreachable-requires
unreachable-requires c = true≢false (sym c.requires ∙ no_chain c.args.gtid c.args.chains.now.entries c.args.change.item (sym c.in-None.ensures.value))

written : (c : goal.After-drop-item-2) → Changes c.args.chains.now.entries (c.get_mut.follows.lender c.put_version.new.versions).entries c.args.change.item (Some c.put_version.new.versions)
written c = ((c.get_mut.follows.holds c.put_version.new.versions).3 (rw (sym c.in-Some.ensures.value) refl)).0

pub returns-clause-at : goal.returns-clause-at
returns-clause-at c i e =
    put_seen c.args.gtid e c.args.chains.now.entries (c.get_mut.follows.lender c.put_version.new.versions).entries c.args.change c.put_version.new.versions c.row_of.result (written c) c.row_of.ensures
    (c.put_version.ensures.seen e ∙ ap (λ o. if has e c.args.gtid then c.row_of.result else seen_in e (versions_in o)) c.in-Some.ensures.value) i

pub returns-clause-now : goal.returns-clause-now
returns-clause-now c i =
    put_last c.args.chains.now.entries (c.get_mut.follows.lender c.put_version.new.versions).entries c.args.change c.put_version.new.versions (written c)
    (c.put_version.ensures.newest.0 ∙ c.row_of.ensures) i

pub returns-clause-ready : goal.returns-clause-ready
returns-clause-ready c i h =
    ready_still c.args.gtid c.args.chains.now.entries (c.get_mut.follows.lender c.put_version.new.versions).entries c.args.change.item c.put_version.new.versions (written c) c.put_version.ensures.newest.1 i h
