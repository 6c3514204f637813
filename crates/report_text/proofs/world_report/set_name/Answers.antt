use Rattle.std.proofs.Common.{sym, subst, ◌∙◌}
use Rattle.std.specs.Str.{IsUtf8}
use Rattle.report_text.proofs.Sets.{set_text-IsUtf8}
use Rattle.report_text.proofs.world_report.set_name.Goals as goal

pub unreachable-requires : goal.unreachable-requires
unreachable-requires c =
    c.in-Err.ensures.cases.0
    (subst IsUtf8 (sym (c.as_slice.ensures ∙ c.in_ok-text.ensures)) (set_text-IsUtf8 c.args.set.now c.runs.ensures.canonical))
