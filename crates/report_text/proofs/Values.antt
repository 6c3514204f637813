-- The values of a report, which have no floats.
use Rattle.std.proofs.Common.{◌≡◌, ◌<◌, ◌+◌, ℕ, Bool, false, ◌||◌, List, [], ◌∷◌, ◌++◌, map, take, length, get_or, refl, sym, ap, ◌∙◌}
use Rattle.std.proofs.lemmas.List.{map-append, take_more}
use Rattle.serde_json.specs.Data.{Data}
use Rattle.serde_json.specs.View.{view, items_of}
use Rattle.serde_json.specs.declared.value.Value.{Value}
use Rattle.serde_json.specs.Written.{has_float, items_have_float}
use Rattle.report_text.specs.declared.world_report.MemberReport.{MemberReport}
use Rattle.report_text.specs.declared.world_report.WorldReport.{WorldReport}
use Rattle.report_text.specs.Reports.{member_data, report_data}

members_without : (ms : List MemberReport) → items_have_float (items_of (map member_data ms)) ≡ false
members_without [] = refl
members_without (m ∷ ms) = members_without ms

pub report_without : (w : WorldReport) → has_float (report_data w) ≡ false
report_without w = ap (λ (t : Bool). t || false) (members_without w.members)

-- one more member
pub values_more : (vs ws : List Value) (v : Value) (ms : List MemberReport) (i : ℕ) (m : MemberReport)
    → i < length ms → m ≡ get_or ms i m → view v ≡ member_data m → map view vs ≡ map member_data (take i ms) → ws ≡ vs ++ v ∷ []
    → map view ws ≡ map member_data (take (i + 1) ms)
values_more vs ws v ms i m within at same so_far pushed =
    ap (map view) pushed ∙ map-append view vs (v ∷ [])
    ∙ ap (λ (ds : List Data). ds ++ view v ∷ []) so_far ∙ ap (λ (d : Data). map member_data (take i ms) ++ d ∷ []) (same ∙ ap member_data at)
    ∙ sym (map-append member_data (take i ms) (get_or ms i m ∷ [])) ∙ ap (map member_data) (sym (take_more ms i m within))
