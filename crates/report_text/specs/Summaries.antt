-- The summary of a script that was made: how the transactions were judged that the foremost member took, and the members that run.
use Rattle.std.specs.Prelude.{ℕ, Bool, true, false, not, ◌&&◌, Option, Some, None, List, [], ◌∷◌, ◌++◌, codes, length, flat_map, nat_lt}
use Rattle.std.specs.List.{filter}
use Rattle.gr_ids.specs.Names.{inc_eq}
use Rattle.gr_ids.specs.declared.names.Inc.{Inc}
use Rattle.group_rules.specs.declared.marks.Effect.{Effect}
use Rattle.group_rules.specs.declared.marks.Effect.TheVariants.{Positive, Conflict}
use Rattle.group_rules.specs.declared.marks.Mark.{Mark}
use Rattle.group_rules.specs.declared.marks.Mark.TheVariants.{Took}
use Rattle.group_rules.specs.declared.said.Said.{Said}
use Rattle.group_rules.specs.declared.said.Said.TheVariants.{Marked}
use Rattle.group_rules.specs.Texts.{Text, decimal, inc_text, state_text}
use Rattle.report_text.specs.declared.summary.Verdict.{Verdict}
use Rattle.report_text.specs.declared.world_report.MemberReport.{MemberReport}
use Rattle.report_text.specs.declared.world_report.WorldReport.{WorldReport}

-- ---- verdicts

abbrev pub effect_verdict : Inc → Effect → Option Verdict
effect_verdict i (Positive g) = Some (record { inc = i; positive = true })
effect_verdict i (Conflict g) = Some (record { inc = i; positive = false })
effect_verdict i e = None

abbrev pub mark_verdict : Inc → Mark → Option Verdict
mark_verdict i (Took p v e) = effect_verdict i e
mark_verdict i m = None

-- the verdict that an incarnation says of a transaction which it takes
abbrev pub said_verdict : Said → Option Verdict
said_verdict (Marked i m) = mark_verdict i m
said_verdict x = None

abbrev pub with_verdict : Option Verdict → List Verdict → List Verdict
with_verdict None vs = vs
with_verdict (Some v) vs = v ∷ vs

-- the verdicts among all that was said, in order
abbrev pub verdicts : List Said → List Verdict
verdicts [] = []
verdicts (x ∷ xs) = with_verdict (said_verdict x) (verdicts xs)

-- ---- the foremost member

-- the one that has taken more places; of two that have taken as many the first
abbrev pub further : MemberReport → MemberReport → MemberReport
further a b = elim (nat_lt a.place b.place) [ true ↦ b | false ↦ a ]

abbrev pub foremost_of : MemberReport → List MemberReport → MemberReport
foremost_of a [] = a
foremost_of a (b ∷ bs) = foremost_of (further a b) bs

abbrev pub count_of : (Verdict → Bool) → List Verdict → ℕ
count_of p vs = length (filter p vs)

abbrev pub positive_at : Inc → Verdict → Bool
positive_at i v = inc_eq v.inc i && v.positive

abbrev pub conflict_at : Inc → Verdict → Bool
conflict_at i v = inc_eq v.inc i && not v.positive

-- ---- the text

unfoldable pub counts_text : ℕ → ℕ → ℕ → Text
counts_text positive conflict messages = codes "positive " ++ decimal positive ++ codes " conflict " ++ decimal conflict ++ codes " messages " ++ decimal messages ++ codes "\n"

unfoldable pub member_line : MemberReport → Text
member_line m = inc_text m.inc ++ codes " " ++ state_text m.state ++ codes " view " ++ decimal m.view ++ codes " rows " ++ decimal m.rows ++ codes "\n"

-- (where none runs, no verdict counts)
abbrev pub counts_line : List Verdict → List MemberReport → ℕ → Text
counts_line vs [] messages = counts_text 0 0 messages
counts_line vs (a ∷ others) messages = let i : Inc = (foremost_of a others).inc in counts_text (count_of (positive_at i) vs) (count_of (conflict_at i) vs) messages

abbrev pub summary : List Verdict → WorldReport → Text
summary vs w = counts_line vs w.members w.messages ++ flat_map member_line w.members
