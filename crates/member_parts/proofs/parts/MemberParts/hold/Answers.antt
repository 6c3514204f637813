-- The session isn't held, and is held then.
use Rattle.std.proofs.Common.{◌≤◌, ap, ◌∙◌, arith}
use Rattle.consistency_waits.specs.Holding.{is_held, last_tick}
use Rattle.member_parts.specs.declared.parts.MemberParts.{MemberParts}
use Rattle.member_parts.proofs.Holds.{is_free, left_out, stands_called}
use Rattle.member_parts.proofs.parts.MemberParts.hold.Goals as goal

pub hold-requires-clause-free : goal.hold-requires-clause-free
hold-requires-clause-free c = ap (λ hs. is_held hs c.args.session) c.end.ensures ∙ is_free c.args.self.now c.args.session

pub returns : goal.returns
returns c =
    (let x : MemberParts = c.args.self.now in
    let least : c.args.limit ≤ last_tick = omega (arith, c.ranges.limit) in
    left_out c.hold.result _ _
    (λ e s me l v ek h f. stands_called s me l c.args.session v c.args.limit c.args.conditions x (record x { waits = c.hold.new.self }) (record x { waits = c.end.new.self }) c.end.ensures e ek h least f) c.hold.ensures.ok)
