-- Where lines may stand. Nothing but `server` lines and a `block` line may stand before `found`; each of these two stands once at most, and `block` before `found`.
use Rattle.std.specs.Prelude.{Bool, true, false, ◌||◌}
use Rattle.group_rules.specs.declared.steps.Step.{Step}
use Rattle.group_rules.specs.declared.steps.Step.TheVariants.{Server, Block, Found}
use Rattle.script_run.specs.declared.placing.Placing.{Placing}

-- before the first line
abbrev pub no_lines : Placing
no_lines = record { founded = false; blocked = false; begun = false }

-- the line may not stand behind these
abbrev pub is_misplaced : Step → Placing → Bool
is_misplaced (Found g m h e q ns) p = p.founded || p.begun
is_misplaced (Block k) p = p.founded || p.blocked
is_misplaced x p = false

-- these lines and the line (one that is refused counts too)
abbrev pub with_line : Step → Placing → Placing
with_line (Found g m h e q ns) p = record p { founded = true }
with_line (Block k) p = record p { blocked = true }
with_line (Server n u v w) p = p
with_line x p = record p { begun = true }
