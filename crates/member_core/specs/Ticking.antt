-- Ticks.
use Rattle.std.specs.Prelude.{◌≡◌, false}
use Rattle.group_rules.specs.Life.{state, ticks, view}
use Rattle.group_rules.specs.Member.{Member, for_each}
use Rattle.group_rules.specs.Steps.{campaign_if_due, expel_one, look_after, member_tick, tell_at}
use Rattle.group_rules.specs.View.{seated}
use Rattle.member_ranges.specs.Ranges.{is_outside}
use Rattle.member_moment.specs.Watching.{watch_of}

-- it is RECOVERING or ONLINE
abbrev pub IsInside : Member → Type 0
IsInside a = is_outside (state a.life) ≡ false

abbrev pub tick_inside : Member → Member
tick_inside a = member_tick (watch_of a) a

abbrev pub look_now : Member → Member
look_now a = look_after (watch_of a) a

abbrev pub expel_all : Member → Member
expel_all a = for_each (expel_one (watch_of a)) (seated (view a.setup a.life).seats) a

abbrev pub campaign_now : Member → Member
campaign_now a = campaign_if_due (watch_of a) a

abbrev pub tell_now : Member → Member
tell_now a = tell_at (ticks a.life) a
