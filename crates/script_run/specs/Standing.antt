-- What a player stands for, and what it says of a line.
use Rattle.std.specs.Prelude.{◌≡◌, ℕ, Bool, true, false, List, Some, None}
use Rattle.group_rules.specs.Events.{Setup}
use Rattle.group_rules.specs.Legal.{IsLegal}
use Rattle.group_rules.specs.Script.{Play}
use Rattle.group_world.specs.Standing.{IsWorld, steps_of}
use Rattle.script_run.specs.Play.{Outcome, State}
use Rattle.report_text.specs.declared.summary.Verdict.{Verdict}
use Rattle.report_text.specs.declared.fault.WorldFault.{WorldFault}
use Rattle.report_text.specs.declared.fault.WorldFault.TheVariants.{WireFull, Memory}
use Rattle.script_run.specs.Statuses.{done, no_memory, past_limit}
use Rattle.script_run.specs.declared.line_text.LineText.{LineText}
use Rattle.script_run.specs.declared.made.Maker.{Maker}
use Rattle.script_run.specs.declared.player.Player.{Player}

-- the group's history so far is legal
abbrev pub IsLegalPlay : Play → Type 0
IsLegalPlay y = (t : Setup) → y.world.setup ≡ Some t → IsLegal t y.world.past

-- the player has come so far
pub record Stands (x : Player) (s : State) : Type 0 where
  pub world : IsWorld s.play x.world
  pub placing : x.placing ≡ s.placing
  pub legal : IsLegalPlay s.play

-- how many steps it did
abbrev pub steps_done : Player → ℕ
steps_done x = steps_of x.world

-- the text and the status are those of this outcome; where the run goes on, so does the player
pub record SaidBy (said : LineText) (x : Player) (o : Outcome) : Type 0 where
  pub status : said.status ≡ o.status
  pub text : said.text ≡ o.text
  pub stands : o.status ≡ done → Stands x o.state

-- the status behind a step that isn't done: one that is refused lets the run go on
abbrev pub fault_status : WorldFault → ℕ
fault_status (WireFull messages bytes) = past_limit
fault_status Memory = no_memory
fault_status e = done

abbrev pub is_memory : WorldFault → Bool
is_memory Memory = true
is_memory e = false

-- ---- scripts that are made

-- The maker has come so far, with these verdicts.
pub record StandsMade (x : Maker) (y : Play) (vs : List Verdict) : Type 0 where
  pub world : IsWorld y x.world
  pub closed : y.closed ≡ None
  pub verdicts : x.verdicts.items ≡ vs
  pub legal : IsLegalPlay y

abbrev pub steps_made : Maker → ℕ
steps_made x = steps_of x.world

-- a step ends a script that is made where it passes a limit of the wire, or memory is refused
abbrev pub IsMadeFault : WorldFault → Play → Type 0
IsMadeFault (WireFull messages bytes) z = z.closed ≡ Some (record { messages = messages; bytes = bytes })
IsMadeFault Memory z = Unit {0}
IsMadeFault e z = ⊥
