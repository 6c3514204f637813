-- A transaction that a member commits.
use Rattle.std.specs.Prelude.{◌≡◌, ◌∷◌}
use Rattle.txn_forms.specs.Bodies.{body_bytes}
use Rattle.txn_forms.specs.declared.body.Body.TheVariants.{Txn as Writes}
use Rattle.group_rules.specs.Events.{Cert, Committed, Life}
use Rattle.group_rules.specs.Member.{Member}
use Rattle.apply_queue.specs.declared.work.WorkDone.{WorkDone}
use Rattle.member_backlog.specs.Standing.{uncommitted_of}
use Rattle.member_backlog.specs.declared.uncommitted.Uncommitted.{Uncommitted}
use Rattle.member_parts.specs.Standing.{StandsFor}
use Rattle.member_tables.specs.Committing.{IsNext}
use Rattle.member_moment.specs.Aside.{ButParts}
use Rattle.member_moment.specs.declared.moment.Moment.{Moment}

-- what waits, and what its commit writes
pub record IsCommitOf (c : Cert) (u : Uncommitted) (d : WorkDone) : Type 0 where
  pub is_it : u ≡ uncommitted_of c
  pub body : d.body ≡ body_bytes (Writes c.txn)
  pub changes : d.changes ≡ c.txn.changes

-- The parts know that it is committed, and nothing else does.
pub record Commits (base : Life) (a : Member) (c : Cert) (x : Moment) : Type 0 where
  pub next : IsNext a.life c
  pub others : ButParts base a x
  pub parts : StandsFor a.setup a.me.inc (Committed c.gtid ∷ a.life) x.parts
