-- What is reported of the members, one site after another.
use Rattle.std.proofs.Common.{◌≡◌, ℕ, Some, None, List, ◌∷◌, length, sym, ap, ◌∙◌}
use Rattle.std.specs.Prelude.{map}
use Rattle.group_rules.specs.Member.{Member}
use Rattle.group_rules.specs.World.{Server}
use Rattle.member_core.specs.Standing.{IsMember}
use Rattle.member_core.specs.declared.member.Member.{Member as Running}
use Rattle.report_text.specs.Reporting.{member_report, report_of, running, with_running}
use Rattle.report_text.specs.declared.world_report.MemberReport.{MemberReport}
use Rattle.report_text.specs.declared.world_report.WorldReport.{WorldReport}
use Rattle.group_rules.specs.Script.{Play}
use Rattle.group_world.specs.Sites.{AreSites, HasMember}
use Rattle.group_world.specs.Standing.{IsWorld}
use Rattle.group_world.specs.declared.world.World.{World}
use Rattle.group_world.proofs.Shown.{nobody, somebody}

pub reports_one : (s : Server) (rest : List Server) (x : Running) (r : MemberReport) → HasMember s.running (Some x) → ((a : Member) → IsMember a x → r ≡ member_report a)
    → map member_report (running (s ∷ rest)) ≡ r ∷ map member_report (running rest)
reports_one s rest x r h k =
    let p = somebody s.running x h in
    ap (λ o. map member_report (with_running o (running rest))) p.1 ∙ ap (λ q. q ∷ map member_report (running rest)) (sym (k p.0 p.2))

pub reports_none : (s : Server) (rest : List Server) → HasMember s.running None → map member_report (running (s ∷ rest)) ≡ map member_report (running rest)
reports_none s rest h = ap (λ o. map member_report (with_running o (running rest))) (nobody s.running h)

-- ---- the whole report

abbrev pub told : ℕ → ℕ → List MemberReport → WorldReport
told lines n v = record { lines = lines; members = v; messages = n }

pub reported : (lines n : ℕ) (y : Play) (x : World) (v : List MemberReport) → IsWorld y x → ((ss : List Server) → AreSites ss x.stage.sites → v ≡ map member_report (running ss)) → n ≡ length x.stage.wire
    → told lines n v ≡ report_of lines y
unfolding report_of
reported lines n y x v w members sent =
    let is_all : v ≡ map member_report (running y.world.servers) = members y.world.servers w.along.holds.sites in
    let as_many : n ≡ length y.wire = sent ∙ ap length w.along.wire in
    ap (told lines n) is_all ∙ ap (λ k. told lines k (map member_report (running y.world.servers))) as_many
