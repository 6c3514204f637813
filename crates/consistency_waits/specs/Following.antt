-- How held begins stand for a history, and what becomes of them at a member.
use Rattle.std.specs.Prelude.{◌≡◌, ℕ, Bool, true, false, Option, Some, None, List, filter, min, nat_le}
use Rattle.std.specs.List.{list_all}
use Rattle.std.specs.Option.{option_map}
use Rattle.gr_ids.specs.declared.names.Inc.{Inc}
use Rattle.gtid_sets.specs.Sets.{Gtids}
use Rattle.group_rules.specs.declared.answers.Answer.TheVariants.{HoldTimeout}
use Rattle.group_rules.specs.Events.{AsksCommit, Begun, Called, Came, Did, Ends, Life, Setup, Ticks, Took}
use Rattle.group_rules.specs.Sessions.{Call, is_holding, last_call, phase}
use Rattle.group_rules.specs.Holds.{conditions, sync_place}
use Rattle.group_rules.specs.Member.{Member, for_each, last_answer, push}
use Rattle.consistency_waits.specs.Holding.{Held, Released, ascend, held_in, is_over, last_tick}

-- ---- the holds of a history

-- a begin call that is held: its conditions are those of the history before it
abbrev pub hold_of : Setup → Inc → Life → ℕ → Call → Held
hold_of s me l t c =
    let x = conditions s me c.level c.past in
    record { session = t; conditions = x; sync_place = sync_place me x.sync l; ticks = min c.ticks last_tick; limit = c.limit }

-- the session's hold
abbrev pub held_by : Setup → Inc → Life → ℕ → Option Held
held_by s me l t = elim (is_holding (phase l t)) [ true ↦ option_map (hold_of s me l t) (last_call l t) | false ↦ None ]

-- each session's hold is that of the history; and no limit is above the last count of ticks
pub record HeldOf (s : Setup) (me : Inc) (l : Life) (hs : List Held) : Type 0 where
  pub holds : (t : ℕ) → held_in hs t ≡ held_by s me l t
  pub up : ascend hs ≡ true
  pub limits : list_all (λ h. nat_le h.limit last_tick) hs ≡ true

-- a begin call and a begin, a commit that is asked, an end, an entry and a tick may change what is held
abbrev pub touches : Did → Bool
touches (Called t v w) = true
touches (Begun t e y) = true
touches (AsksCommit t i) = true
touches (Ends t) = true
touches (Took e) = true
touches (Came Ticks) = true
touches d = false

-- ---- what becomes of them

-- these begin, and read this set
abbrev pub begins : Gtids → List Released → Member → Member
begins e rs a = for_each {A = Released} (λ r. push (Begun r.session e r.sync)) rs a

-- these have reached their limits
abbrev pub times_out : List Held → Member → Member
times_out hs a = for_each {A = Held} (λ h. last_answer h.session (HoldTimeout h.limit)) hs a

-- all that have reached their limits end, ascending
abbrev pub all_time_out : List Held → Member → Member
all_time_out hs a = times_out (filter is_over hs) a

-- a session and its limit are handed out: it is the first of them, and the others are left; where none is handed out, there is none
abbrev pub IsTurn : List Held → List Held → Option (ℕ × ℕ) → Type 0
IsTurn hs ks None = (a : Member) → all_time_out hs a ≡ a
IsTurn hs ks (Some o) = (a : Member) → all_time_out hs a ≡ all_time_out ks (last_answer o.0 (HoldTimeout o.1) a)
