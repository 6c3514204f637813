-- A play that is closed stays closed.
use Rattle.std.proofs.Common.{◌≡◌, ℕ, zero, suc, Bool, true, false, Option, Some, None, List, [], ◌∷◌, refl, ap, ◌∙◌, ◌-◌, arith}
use Rattle.std.specs.Prelude.{◌^◌}
use Rattle.group_rules.specs.declared.requests.Request.{Request}
use Rattle.group_rules.specs.declared.requests.Request.TheVariants.{Commit, Rollback}
use Rattle.group_rules.specs.Events.{Calls, Cert, Event, Ticks, Works}
use Rattle.group_rules.specs.Member.{Member}
use Rattle.group_rules.specs.Queue.{at_place, queue}
use Rattle.group_rules.specs.Script.{Full, Play, body_at, deliver, drain, drain_times, event, has_changed, least_worker, next_letter, once_end, once_rest, phase_of, plays, settle, settle_times, tick_times, waiting_at, work_by, work_least}
use Rattle.group_rules.specs.Sessions.{is_active}
use Rattle.group_rules.specs.World.{Happens, Move, member_at}
use Rattle.group_world.specs.Draining.{worked_all, worked_one}
use Rattle.world_wire.specs.declared.fault.WireFault.{WireFault}
use Rattle.world_wire.specs.declared.fault.WireFault.TheVariants.{Full as IsFull, Memory as IsMemory}
use Rattle.group_world.specs.Standing.{Closes}
use Rattle.group_world.proofs.Moving.{closed_plays}

-- what is done to a closed play leaves it closed
abbrev pub Stays : (Play → Play) → Type 0
Stays f = (y : Play) (c : Full) → y.closed ≡ Some c → (f y).closed ≡ Some c

pub plays_stay : (m : Move) → Stays (plays m)
plays_stay m y c h = ap (λ z. z.closed) (closed_plays m y c h) ∙ h

pub deliver_stays : (k : ℕ) → Stays (deliver k)
deliver_stays k y c h = ap (λ z. z.closed) (closed_plays _ _ c h) ∙ h

abbrev settle_at : List ℕ → ℕ → Play → Option ℕ → Play
settle_at ns f y o = elim o [ None ↦ y | Some k ↦ settle_times ns f (deliver k y) ]

pub settle_times_stay : (ns : List ℕ) (f : ℕ) → Stays (settle_times ns f)
settle_times_stay ns zero y c h = h
settle_times_stay ns (suc f) y c h = go (next_letter y.world ns 1 y.wire) (settle_times_stay ns f)
  where
    go : (o : Option ℕ) → Stays (settle_times ns f) → (settle_at ns f y o).closed ≡ Some c
    go None r = h
    go (Some k) r = r (deliver k y) c (deliver_stays k y c h)

pub settle_stays : (ns : List ℕ) → Stays (settle ns)
unfolding settle
settle_stays ns = settle_times_stay ns (2 ^ 20)

-- the fault of a part is that of the whole
pub closes_on : (f : Play → Play) → Stays f → (e : WireFault) (y : Play) → Closes e y → Closes e (f y)
closes_on f h IsMemory y c = tt
closes_on f h (IsFull n b) y c = h y _ c

-- ---- settling, by turns

pub settle_none : (ns : List ℕ) (f : ℕ) (y : Play) → next_letter y.world ns 1 y.wire ≡ None → settle_times ns f y ≡ y
settle_none ns zero y h = refl
settle_none ns (suc f) y h = rw (h, settle_times) refl

pub settle_one : (ns : List ℕ) (f k : ℕ) (y : Play) → next_letter y.world ns 1 y.wire ≡ Some k → settle_times ns (suc f) y ≡ settle_times ns f (deliver k y)
settle_one ns f k y h = rw (h, settle_times) refl

pub settle_first : (ns : List ℕ) (y : Play) → settle_times ns 1048576 y ≡ settle ns y
unfolding settle
settle_first ns y = refl

pub tick_first : (n k : ℕ) (y : Play) → tick_times n (k - 0) y ≡ tick_times n k y
tick_first n k y = let all : k - 0 ≡ k = omega arith in ap (λ i. tick_times n i y) all

-- ---- draining, by turns

pub drain_none : (f : ℕ) (y : Play) → least_worker y.world.servers ≡ None → drain_times f y ≡ y
drain_none zero y h = refl
drain_none (suc f) y h = rw (h, drain_times) refl

pub drain_one : (f n : ℕ) (y : Play) → least_worker y.world.servers ≡ Some n → drain_times (suc f) y ≡ drain_times f (worked_one n y)
drain_one f n y h = rw (h, drain_times) refl

pub drain_first : (y : Play) → worked_all (settle [] y) ≡ drain y
unfolding drain
drain_first y = refl

-- ---- what follows in a step

pub event_stays : (n : ℕ) (e : Event) → Stays (event n e)
event_stays n e = plays_stay (Happens n e)

pub tick_times_stay : (n k : ℕ) → Stays (tick_times n k)
tick_times_stay n zero y c h = h
tick_times_stay n (suc k) y c h = tick_times_stay n k (event n Ticks y) c (event_stays n Ticks y c h)

least_stays : (n : ℕ) (a : Member) (cs : List Cert) → Stays (work_least n a cs)
least_stays n a [] y c h = h
least_stays n a (d ∷ cs) y c h = event_stays n (Works d.place (body_at (at_place (queue a.life a.me.inc) d.place))) y c h

pub work_stays : (n : ℕ) (p : Option ℕ) (o : Option Member) → Stays (work_by n p o)
work_stays n p None y c h = h
work_stays n None (Some a) y c h = least_stays n a (waiting_at a) y c h
work_stays n (Some p) (Some a) y c h = event_stays n (Works p (body_at (at_place (queue a.life a.me.inc) p))) y c h

pub worked_one_stays : (n : ℕ) → Stays (worked_one n)
worked_one_stays n y c h = settle_stays [] _ c (work_stays n None (member_at y.world n) y c h)

abbrev drain_at : ℕ → Play → Option ℕ → Play
drain_at f y o = elim o [ None ↦ y | Some n ↦ drain_times f (worked_one n y) ]

pub drain_times_stay : (f : ℕ) → Stays (drain_times f)
drain_times_stay zero y c h = h
drain_times_stay (suc f) y c h = go (least_worker y.world.servers) (drain_times_stay f)
  where
    go : (o : Option ℕ) → Stays (drain_times f) → (drain_at f y o).closed ≡ Some c
    go None r = h
    go (Some n) r = r (worked_one n y) c (worked_one_stays n y c h)

abbrev end_at : ℕ → ℕ → Play → Bool → Play
end_at n s y b = elim b [ true ↦ event n (Calls s Commit) y | false ↦ event n (Calls s Rollback) y ]

pub once_end_stays : (n s : ℕ) → Stays (once_end n s)
once_end_stays n s y c h = go (has_changed y.world.left)
  where
    go : (b : Bool) → (end_at n s y b).closed ≡ Some c
    go true = event_stays n (Calls s Commit) y c h
    go false = event_stays n (Calls s Rollback) y c h

abbrev rest_at : ℕ → ℕ → Request → Play → Bool → Play
rest_at n s r y b = elim b [ true ↦ once_end n s (event n (Calls s r) y) | false ↦ y ]

pub once_rest_stays : (n s : ℕ) (r : Request) → Stays (once_rest n s r)
once_rest_stays n s r y c h = go (is_active (phase_of (member_at y.world n) s))
  where
    go : (b : Bool) → (rest_at n s r y b).closed ≡ Some c
    go true = once_end_stays n s (event n (Calls s r) y) c (event_stays n (Calls s r) y c h)
    go false = h

pub worked_all_stays : Stays worked_all
worked_all_stays = drain_times_stay (2 ^ 42)
