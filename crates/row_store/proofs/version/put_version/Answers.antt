-- The newest version is the one that was put.
use Rattle.std.proofs.Common.{ap, ◌∙◌}
use Rattle.row_store.specs.Chains.{last_row}
use Rattle.row_store.specs.Inside.{is_newest}
use Rattle.row_store.proofs.Versions.{last_more, newest_more, gtid_itself}
use Rattle.row_store.proofs.version.put_version.Goals as goal

pub returns-clause-newest : goal.returns-clause-newest
returns-clause-newest c = (
  ap last_row c.in-Ok.ensures.items ∙ last_more c.make_way.new.versions.items c.args.version,
  ap (is_newest c.args.version.gtid) c.in-Ok.ensures.items ∙ (newest_more c.args.version.gtid c.make_way.new.versions.items c.args.version ∙ gtid_itself c.args.version.gtid),
)
