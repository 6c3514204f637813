-- Which sessions have an active transaction.
use Rattle.std.proofs.Common.{◌≡◌, ℕ, Bool, true, false, Option, Some, None, refl, sym, ap, ◌∙◌}
use Rattle.std.specs.Prelude.{is_some}
use Rattle.std.proofs.lemmas.Bool.{and_parts}
use Rattle.gr_ids.specs.declared.names.Gtid.{Gtid}
use Rattle.group_rules.specs.Keys.{killed, was_left}
use Rattle.group_rules.specs.Member.{Member}
use Rattle.group_rules.specs.Sessions.{Phase, Active, Asking, Free, Holding, is_active, phase}
use Rattle.local_sessions.specs.Following.{is_left, stage_by, stage_from}
use Rattle.local_sessions.specs.Standing.{is_open, session_in, stage_of}
use Rattle.member_tables.specs.declared.tables.MemberTables.{MemberTables}
use Rattle.member_tables.specs.Standing.{TablesFor}

open_by : (p : Phase) → is_open (stage_by p) ≡ is_active p
open_by Free = refl
open_by Holding = refl
open_by Active = refl
open_by (Asking i) = refl

pub active_is : (a : Member) (x : MemberTables) (t : ℕ) → TablesFor a x → is_open (stage_of (session_in x.sessions t)) ≡ is_active (phase a.life t)
active_is a x t f = ap is_open (f.sessions t).stage ∙ by_death (killed a.life t) refl (is_left a.life t) refl
  where
    by_death : (k : Option Gtid) → killed a.life t ≡ k → (w : Bool) → is_left a.life t ≡ w → is_open (stage_from (killed a.life t) (is_left a.life t) (phase a.life t)) ≡ is_active (phase a.life t)
    by_death (Some g) e w q = ap (λ k. is_open (stage_from k (is_left a.life t) (phase a.life t))) e ∙ sym (f.locks.dead t (ap is_some e))
    by_death None e true q =
        ap (λ k. is_open (stage_from k (is_left a.life t) (phase a.life t))) e
        ∙ (ap (λ b. is_open (stage_from None b (phase a.life t))) q ∙ sym (and_parts (was_left a.life t) (is_active (phase a.life t)) q).1)
    by_death None e false q =
        ap (λ k. is_open (stage_from k (is_left a.life t) (phase a.life t))) e
        ∙ (ap (λ b. is_open (stage_from None b (phase a.life t))) q ∙ open_by (phase a.life t))
