-- A watch whose counts stop at their last value does and tells the same.
use Rattle.std.proofs.Common.{◌≡◌, ℕ, suc, ◌+◌, ◌≤◌, Bool, true, false, ◌&&◌, not, List, [], ◌∷◌, ◌++◌, map, length, refl, sym, ap, ◌∙◌, arith}
use Rattle.std.specs.Prelude.{filter, min, nat_le, ◌==◌}
use Rattle.std.proofs.lemmas.Bool.Decides.{nat_tests}
use Rattle.gr_ids.specs.declared.names.Inc.{Inc}
use Rattle.gr_ids.specs.Names.{inc_eq}
use Rattle.slot_values.specs.declared.value.What.{What}
use Rattle.slot_values.specs.declared.value.What.TheVariants.{Noop, Add, Remove, Body as Says}
use Rattle.group_rules.specs.declared.marks.Effect.{Effect}
use Rattle.group_rules.specs.declared.marks.Effect.TheVariants.{Plain, Void, Unread, Positive, Conflict}
use Rattle.group_rules.specs.declared.watch.Silence.{Silence}
use Rattle.group_rules.specs.Events.{AskFails, AsksCommit, Answered, Begun, Called, Calls, Came, Changed, Committed, Did, Done, Ends, Enters, Founds, Gave, Hears, Is, Life, Made, Operates, Replied, Restores, Setup, Skips, Starts, Ticks, Took, Works, Entry}
use Rattle.group_rules.specs.Watch.{Watch, follow, follow_all, gives_up, heard, is_expel_due, is_first, is_lost, is_suspect, leads_by_rank, no_watch, silence_in, suspects, ticked, unfollow, watched, watch}
use Rattle.paxos_forms.specs.declared.welcome.Welcome.{Welcome}
use Rattle.paxos_forms.specs.declared.welcome.WelcomeMember.{WelcomeMember}
use Rattle.paxos_forms.specs.declared.message.Message.{Message}
use Rattle.slot_values.specs.declared.value.Joiner.{Joiner}
use Rattle.failure_events.specs.Watching.{Watches, Watching, capped, is_of_watch, last_count, first_watch}

abbrev capped_silence : Silence → Silence
capped_silence x = record x { ticks = min x.ticks last_count }

abbrev cap_all : List Silence → List Silence
cap_all xs = map {A = Silence} (λ x. record x { ticks = min x.ticks last_count }) xs

abbrev watch_with : List Silence → ℕ → Watch
watch_with xs n = record { silences = xs; lost_for = n }

-- ---- one member more or less, or heard

all_and : (xs ys : List Silence) → cap_all (xs ++ ys) ≡ cap_all xs ++ cap_all ys
all_and [] ys = refl
all_and (x ∷ xs) ys = ap (λ (zs : List Silence). capped_silence x ∷ zs) (all_and xs ys)

nothing_capped : min 0 last_count ≡ 0
nothing_capped = omega arith

follows : (w : Watch) (i : Inc) → follow (capped w) i ≡ capped (follow w i)
follows w i =
    ap (λ (xs : List Silence). watch_with xs (min w.lost_for last_count))
    (ap (λ (n : ℕ). cap_all w.silences ++ record { inc = i; ticks = n } ∷ []) (sym nothing_capped) ∙ sym (all_and w.silences (record { inc = i; ticks = 0 } ∷ [])))

left_out : (i : Inc) (xs : List Silence) → filter (λ x. not (inc_eq x.inc i)) (cap_all xs) ≡ cap_all (filter (λ x. not (inc_eq x.inc i)) xs)
left_out i [] = refl
left_out i (x ∷ xs) = go (inc_eq x.inc i) refl (left_out i xs)
  where
    go : (b : Bool) → inc_eq x.inc i ≡ b → filter (λ x. not (inc_eq x.inc i)) (cap_all xs) ≡ cap_all (filter (λ x. not (inc_eq x.inc i)) xs) → filter (λ x. not (inc_eq x.inc i)) (cap_all (x ∷ xs)) ≡ cap_all (filter (λ x. not (inc_eq x.inc i)) (x ∷ xs))
    go true e r = rw e r
    go false e r = rw e (ap (λ (zs : List Silence). capped_silence x ∷ zs) r)

unfollows : (w : Watch) (i : Inc) → unfollow (capped w) i ≡ capped (unfollow w i)
unfollows w i = ap (λ (xs : List Silence). watch_with xs (min w.lost_for last_count)) (left_out i w.silences)

abbrev heard_one : Inc → Silence → Silence
heard_one i x = elim (inc_eq x.inc i) [ true ↦ record x { ticks = 0 } | false ↦ x ]

hears_all : (i : Inc) (xs : List Silence) → map (heard_one i) (cap_all xs) ≡ cap_all (map (heard_one i) xs)
hears_all i [] = refl
hears_all i (x ∷ xs) = go (inc_eq x.inc i) refl (hears_all i xs)
  where
    go : (b : Bool) → inc_eq x.inc i ≡ b → map (heard_one i) (cap_all xs) ≡ cap_all (map (heard_one i) xs) → map (heard_one i) (cap_all (x ∷ xs)) ≡ cap_all (map (heard_one i) (x ∷ xs))
    go true e r = rw (e, heard_one) (ap (λ (zs : List Silence). record { inc = x.inc; ticks = 0 } ∷ zs) r ∙ ap (λ (n : ℕ). record { inc = x.inc; ticks = n } ∷ cap_all (map (heard_one i) xs)) (sym nothing_capped))
    go false e r = rw (e, heard_one) (ap (λ (zs : List Silence). capped_silence x ∷ zs) r)

pub hears : (w : Watch) (i : Inc) → heard (capped w) i ≡ capped (heard w i)
hears w i = ap (λ (xs : List Silence). watch_with xs (min w.lost_for last_count)) (hears_all i w.silences)

pub watches : (x : What) (f : Effect) (w : Watch) → watched x f (capped w) ≡ capped (watched x f w)
watches (Add j) Plain w = follows w j.inc
watches (Add j) Void w = refl
watches (Add j) Unread w = refl
watches (Add j) (Positive g) w = refl
watches (Add j) (Conflict g) w = refl
watches (Remove i) Plain w = unfollows w i
watches (Remove i) Void w = refl
watches (Remove i) Unread w = refl
watches (Remove i) (Positive g) w = refl
watches (Remove i) (Conflict g) w = refl
watches Noop f w = refl
watches (Says b) f w = refl

-- ---- ticks

abbrev after_tick : Silence → Silence
after_tick x = record x { ticks = suc x.ticks }

tick_capped : (n : ℕ) → min (suc (min n last_count)) last_count ≡ min (suc n) last_count
tick_capped n = omega arith

ticks_capped : (xs : List Silence) → cap_all (map after_tick (cap_all xs)) ≡ cap_all (map after_tick xs)
ticks_capped [] = refl
ticks_capped (x ∷ xs) = rw (tick_capped x.ticks, ticks_capped xs) refl

late : (n : ℕ) → nat_le 5 (suc (min n last_count)) ≡ nat_le 5 (suc n)
late n = grind (arith, nat_tests)

abbrev heard_by : Inc → List Silence → List Silence
heard_by me xs = filter (λ y. not (is_suspect me y)) xs

same_suspect : (me : Inc) (x : Silence) → is_suspect me (after_tick (capped_silence x)) ≡ is_suspect me (after_tick x)
same_suspect me x = ap (λ b. not (inc_eq me x.inc) && b) (late x.ticks)

same_count : (me : Inc) (xs : List Silence) → length (heard_by me (map after_tick (cap_all xs))) ≡ length (heard_by me (map after_tick xs))
same_count me [] = refl
same_count me (x ∷ xs) = go (is_suspect me (after_tick (capped_silence x))) (is_suspect me (after_tick x)) refl refl (same_suspect me x) (same_count me xs)
  where
    go : (b c : Bool) → is_suspect me (after_tick (capped_silence x)) ≡ b → is_suspect me (after_tick x) ≡ c → is_suspect me (after_tick (capped_silence x)) ≡ is_suspect me (after_tick x)
        → length (heard_by me (map after_tick (cap_all xs))) ≡ length (heard_by me (map after_tick xs)) → length (heard_by me (map after_tick (cap_all (x ∷ xs)))) ≡ length (heard_by me (map after_tick (x ∷ xs)))
    go true c e f s r = let g : is_suspect me (after_tick x) ≡ true = sym s ∙ e in rw (e, g) r
    go false c e f s r = let g : is_suspect me (after_tick x) ≡ false = sym s ∙ e in rw (e, g) (ap suc r)

same_length : (xs : List Silence) → length (map after_tick (cap_all xs)) ≡ length (map after_tick xs)
same_length [] = refl
same_length (x ∷ xs) = ap suc (same_length xs)

same_loss : (me : Inc) (xs : List Silence) → is_lost me (map after_tick (cap_all xs)) ≡ is_lost me (map after_tick xs)
same_loss me [] = refl
same_loss me (x ∷ xs) = rw (same_count me (x ∷ xs), same_length (x ∷ xs)) refl

counts_capped : (b : Bool) (n : ℕ) → min (elim b [ true ↦ suc (min n last_count) | false ↦ 0 ]) last_count ≡ min (elim b [ true ↦ suc n | false ↦ 0 ]) last_count
counts_capped true n = tick_capped n
counts_capped false n = refl

pub ticks : (me : Inc) (w : Watch) → capped (ticked me (capped w)) ≡ capped (ticked me w)
ticks me w =
    ap (λ (xs : List Silence). watch_with xs (capped (ticked me (capped w))).lost_for) (ticks_capped w.silences)
    ∙ ap (watch_with (cap_all (map after_tick w.silences)))
    (ap (λ (b : Bool). min (elim b [ true ↦ suc (min w.lost_for last_count) | false ↦ 0 ]) last_count) (same_loss me w.silences) ∙ counts_capped (is_lost me (map after_tick w.silences)) w.lost_for)

-- ---- what is told

silence_capped : (xs : List Silence) (i : Inc) → silence_in (cap_all xs) i ≡ min (silence_in xs i) last_count
silence_capped [] i = sym nothing_capped
silence_capped (x ∷ xs) i = go (inc_eq x.inc i) refl (silence_capped xs i)
  where
    go : (b : Bool) → inc_eq x.inc i ≡ b → silence_in (cap_all xs) i ≡ min (silence_in xs i) last_count → silence_in (cap_all (x ∷ xs)) i ≡ min (silence_in (x ∷ xs) i) last_count
    go true e r = rw (e, silence_in) refl
    go false e r = rw (e, silence_in) r

reached : (n k : ℕ) → n ≤ last_count → nat_le n (min k last_count) ≡ nat_le n k
reached n k h = grind (arith, nat_tests)

pub same_suspects : (me : Inc) (w : Watch) (i : Inc) → suspects me (capped w) i ≡ suspects me w i
same_suspects me w i = ap (λ b. not (inc_eq me i) && b) (ap (nat_le 5) (silence_capped w.silences i) ∙ reached 5 (silence_in w.silences i) (omega arith))

pub same_expulsions : (n : ℕ) (w : Watch) (i : Inc) → n + 5 ≤ last_count → is_expel_due n (capped w) i ≡ is_expel_due n w i
same_expulsions n w i h = ap (nat_le (5 + n)) (silence_capped w.silences i) ∙ reached (5 + n) (silence_in w.silences i) (omega (arith, h))

same_unsuspected : (me : Inc) (w : Watch) (is : List Inc) → filter (λ i. not (suspects me (capped w) i)) is ≡ filter (λ i. not (suspects me w i)) is
same_unsuspected me w [] = refl
same_unsuspected me w (i ∷ is) = go (suspects me w i) refl (same_unsuspected me w is)
  where
    go : (b : Bool) → suspects me w i ≡ b → filter (λ i. not (suspects me (capped w) i)) is ≡ filter (λ i. not (suspects me w i)) is → filter (λ i. not (suspects me (capped w) i)) (i ∷ is) ≡ filter (λ i. not (suspects me w i)) (i ∷ is)
    go true e r = let f : suspects me (capped w) i ≡ true = same_suspects me w i ∙ e in rw (e, f) r
    go false e r = let f : suspects me (capped w) i ≡ false = same_suspects me w i ∙ e in rw (e, f) (ap (λ (js : List Inc). i ∷ js) r)

pub same_lead : (me : Inc) (w : Watch) (is : List Inc) → leads_by_rank me (capped w) is ≡ leads_by_rank me w is
same_lead me w is = ap (is_first me) (same_unsuspected me w is)

pub same_losses : (n : ℕ) (w : Watch) → n ≤ last_count → gives_up n (capped w) ≡ gives_up n w
same_losses n w h = ap (λ (b : Bool). elim (n == 0) [ true ↦ false | false ↦ b ]) (reached n w.lost_for h)

-- ---- nobody has been silent yet

none_capped : (w : Watch) (is : List Inc) → capped w ≡ w → capped (follow_all w is) ≡ follow_all w is
none_capped w [] h = h
none_capped w (i ∷ is) h = none_capped (follow w i) is (sym (follows w i) ∙ ap (λ (v : Watch). follow v i) h)

pub begins_capped : (is : List Inc) → capped (follow_all no_watch is) ≡ follow_all no_watch is
begins_capped is = none_capped no_watch is (ap (watch_with []) nothing_capped)

-- ---- the watch of a longer history

pub watches_founding : (s : Setup) (me : Inc) → Watches s me (Founds ∷ []) (first_watch me s.limits (map {A = Joiner} (λ j. j.inc) s.founders))
watches_founding s me = record { is_me = refl; limits = refl; watch = sym (begins_capped (map {A = Joiner} (λ j. j.inc) s.founders)) }

pub watches_welcome : (s : Setup) (me : Inc) (l : Life) (w : Welcome) → Watches s me (Enters w ∷ l) (first_watch me s.limits (map {A = WelcomeMember} (λ m. m.joiner.inc) w.members))
watches_welcome s me l w = record { is_me = refl; limits = refl; watch = sym (begins_capped (map {A = WelcomeMember} (λ m. m.joiner.inc) w.members)) }

pub watches_tick : (s : Setup) (me : Inc) (l : Life) (x : Watching) → Watches s me l x → Watches s me (Came Ticks ∷ l) (record x { watch = capped (ticked x.me x.watch) })
watches_tick s me l x f = record {
  is_me = f.is_me;
  limits = f.limits;
  watch = ap (λ (i : Inc). capped (ticked i x.watch)) f.is_me ∙ (ap (λ (w : Watch). capped (ticked me w)) f.watch ∙ ticks me (watch s me l));
}

pub watches_message : (s : Setup) (me : Inc) (l : Life) (m : Message) (x : Watching) → Watches s me l x → Watches s me (Came (Hears m) ∷ l) (record x { watch = heard x.watch m.from })
watches_message s me l m x f = record { is_me = f.is_me; limits = f.limits; watch = ap (λ (w : Watch). heard w m.from) f.watch ∙ hears (watch s me l) m.from }

pub watches_entry : (s : Setup) (me : Inc) (l : Life) (e : Entry) (x : Watching) → Watches s me l x → Watches s me (Took e ∷ l) (record x { watch = watched e.value.what e.effect x.watch })
watches_entry s me l e x f = record { is_me = f.is_me; limits = f.limits; watch = ap (watched e.value.what e.effect) f.watch ∙ watches e.value.what e.effect (watch s me l) }

-- ---- what else happens

pub passes : (s : Setup) (me : Inc) (l : Life) (d : Did) (x : Watching) → is_of_watch d ≡ false → Watches s me l x → Watches s me (d ∷ l) x
passes s me l Founds x h f = cc
passes s me l (Starts y) x h f = record { is_me = f.is_me; limits = f.limits; watch = f.watch }
passes s me l (Came Ticks) x h f = cc
passes s me l (Came (Hears m)) x h f = cc
passes s me l (Came (Works p b)) x h f = record { is_me = f.is_me; limits = f.limits; watch = f.watch }
passes s me l (Came (Calls n r)) x h f = record { is_me = f.is_me; limits = f.limits; watch = f.watch }
passes s me l (Came (Operates o)) x h f = record { is_me = f.is_me; limits = f.limits; watch = f.watch }
passes s me l (Made v y) x h f = record { is_me = f.is_me; limits = f.limits; watch = f.watch }
passes s me l (Took e) x h f = cc
passes s me l (Skips t v) x h f = record { is_me = f.is_me; limits = f.limits; watch = f.watch }
passes s me l (Done p) x h f = record { is_me = f.is_me; limits = f.limits; watch = f.watch }
passes s me l (Committed g) x h f = record { is_me = f.is_me; limits = f.limits; watch = f.watch }
passes s me l (Is m c) x h f = record { is_me = f.is_me; limits = f.limits; watch = f.watch }
passes s me l (Gave p n) x h f = record { is_me = f.is_me; limits = f.limits; watch = f.watch }
passes s me l (Answered n a) x h f = record { is_me = f.is_me; limits = f.limits; watch = f.watch }
passes s me l (Begun n e y) x h f = record { is_me = f.is_me; limits = f.limits; watch = f.watch }
passes s me l (Changed n c) x h f = record { is_me = f.is_me; limits = f.limits; watch = f.watch }
passes s me l (Replied r) x h f = record { is_me = f.is_me; limits = f.limits; watch = f.watch }
passes s me l (Called n v w) x h f = record { is_me = f.is_me; limits = f.limits; watch = f.watch }
passes s me l (AsksCommit n i) x h f = record { is_me = f.is_me; limits = f.limits; watch = f.watch }
passes s me l (Ends n) x h f = record { is_me = f.is_me; limits = f.limits; watch = f.watch }
passes s me l (Enters w) x h f = cc
passes s me l (Restores g cs) x h f = record { is_me = f.is_me; limits = f.limits; watch = f.watch }
passes s me l AskFails x h f = record { is_me = f.is_me; limits = f.limits; watch = f.watch }
