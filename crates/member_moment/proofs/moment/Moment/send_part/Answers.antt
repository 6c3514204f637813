-- The part is held, or the transaction that ends with it.
use Rattle.member_tables.proofs.Results.{on_ok}
use Rattle.member_moment.proofs.Sending.{part_is_sent, part_is_what}
use Rattle.member_moment.proofs.moment.Moment.send_part.Goals as goal

pub own-requires : goal.own-requires
own-requires c = part_is_what c.args.part c.in_ok-bytes.bytes c.requires c.in_ok-bytes.ensures.ok

pub returns-clause-rest : goal.returns-clause-rest
returns-clause-rest c = on_ok c.own.result (part_is_sent c.args.self.now c.own.new.self c.args.part c.in_ok-bytes.bytes c.requires c.in_ok-bytes.ensures.ok) c.own.ensures.rest
