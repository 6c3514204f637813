-- Silence: who hasn't been heard, who is suspected, whether the majority is lost.
-- (MySQL 8.0 Reference Manual, Responses to Failure Detection and Network Partitioning: a member is suspected after 5 seconds, here ticks;
-- `group_replication_member_expel_timeout`, `group_replication_unreachable_majority_timeout`.)
use Rattle.std.specs.Prelude.{ℕ, suc, ◌+◌, ◌/◌, Bool, true, false, ◌&&◌, not, List, [], ◌∷◌, ◌++◌, length, nat_lt, nat_le, ◌==◌, filter, map}
use Rattle.gr_ids.specs.Names.{inc_eq}
use Rattle.group_rules.specs.Names.{Inc, Joiner, What, Add, Remove, Effect, Plain, WelcomeMember}
pub use Rattle.group_rules.specs.declared.watch.Silence.{Silence}
use Rattle.group_rules.specs.Events.{Founds, Came, Took, Enters, Life, Setup, Hears, Ticks}

-- The silences of the members, and the ticks in a row, up to the last one, at which the majority was lost.
pub record Watch : Type 0 where
  pub silences : List Silence
  pub lost_for : ℕ

abbrev pub no_watch : Watch
no_watch = record { silences = []; lost_for = 0 }

abbrev pub silence_in : List Silence → Inc → ℕ
silence_in [] i = 0
silence_in (x ∷ xs) i = elim (inc_eq x.inc i) [ true ↦ x.ticks | false ↦ silence_in xs i ]

-- at a silence of 5 ticks or more; it never suspects itself
abbrev pub is_suspect : Inc → Silence → Bool
is_suspect me x = not (inc_eq me x.inc) && nat_le 5 x.ticks

abbrev pub suspects : Inc → Watch → Inc → Bool
suspects me w i = not (inc_eq me i) && nat_le 5 (silence_in w.silences i)

-- fewer than floor(n/2)+1 of n members aren't suspected; without members the majority isn't lost
abbrev pub is_lost : Inc → List Silence → Bool
is_lost me [] = false
is_lost me (x ∷ xs) = nat_lt (length (filter (λ y. not (is_suspect me y)) (x ∷ xs))) (length (x ∷ xs) / 2 + 1)

-- ---- what happens to it

abbrev pub follow : Watch → Inc → Watch
follow w i = record w { silences = w.silences ++ record { inc = i; ticks = 0 } ∷ [] }

abbrev pub unfollow : Watch → Inc → Watch
unfollow w i = record w { silences = filter (λ x. not (inc_eq x.inc i)) w.silences }

abbrev pub follow_all : Watch → List Inc → Watch
follow_all w [] = w
follow_all w (i ∷ is) = follow_all (follow w i) is

abbrev pub heard : Watch → Inc → Watch
heard w i = record w { silences = map {A = Silence} (λ x. elim (inc_eq x.inc i) [ true ↦ record x { ticks = 0 } | false ↦ x ]) w.silences }

abbrev pub counted : Inc → List Silence → ℕ → Watch
counted me xs n = record { silences = xs; lost_for = elim (is_lost me xs) [ true ↦ suc n | false ↦ 0 ] }

abbrev pub ticked : Inc → Watch → Watch
ticked me w = counted me (map {A = Silence} (λ x. record x { ticks = suc x.ticks }) w.silences) w.lost_for

-- an Add with effect begins to count, a Remove with effect ends it
abbrev pub watched : What → Effect → Watch → Watch
watched (Add j) Plain w = follow w j.inc
watched (Remove i) Plain w = unfollow w i
watched x e w = w

-- The watch of a history. Silence is counted from the founding, from the Welcome for the members named there, or from the taking of the other's Add.
abbrev pub watch : Setup → Inc → Life → Watch
watch s me [] = no_watch
watch s me (Founds ∷ l) = follow_all no_watch (map {A = Joiner} (λ j. j.inc) s.founders)
watch s me (Enters w ∷ l) = follow_all no_watch (map {A = WelcomeMember} (λ m. m.joiner.inc) w.members)
watch s me (Came Ticks ∷ l) = ticked me (watch s me l)
watch s me (Came (Hears m) ∷ l) = heard (watch s me l) m.from
watch s me (Took e ∷ l) = watched e.value.what e.effect (watch s me l)
watch s me (_ ∷ l) = watch s me l

-- ---- what follows from it

-- it gives up where the majority was lost at so many ticks in a row, 0 standing for never
abbrev pub gives_up : ℕ → Watch → Bool
gives_up limit w = elim (limit == 0) [ true ↦ false | false ↦ nat_le limit w.lost_for ]

-- a silence of 5 and `expel` ticks
abbrev pub is_expel_due : ℕ → Watch → Inc → Bool
is_expel_due expel w i = nat_le (5 + expel) (silence_in w.silences i)

abbrev pub is_first : Inc → List Inc → Bool
is_first me [] = false
is_first me (i ∷ is) = inc_eq me i

-- of these ONLINE members, ascending, the least one that isn't suspected is this one
abbrev pub leads_by_rank : Inc → Watch → List Inc → Bool
leads_by_rank me w online = is_first me (filter (λ i. not (suspects me w i)) online)
