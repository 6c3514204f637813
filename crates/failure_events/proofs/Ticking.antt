-- A count that stops at its last value tells the same of who is suspected.
use Rattle.std.proofs.Common.{◌≡◌, ℕ, suc, ◌+◌, Bool, true, false, ◌&&◌, not, List, [], ◌∷◌, map, length, refl, sym, ap, ◌∙◌, arith}
use Rattle.std.specs.Prelude.{filter, min, nat_le}
use Rattle.std.proofs.lemmas.Bool.Decides.{nat_tests}
use Rattle.gr_ids.specs.declared.names.Inc.{Inc}
use Rattle.gr_ids.specs.Names.{inc_eq}
use Rattle.group_rules.specs.declared.watch.Silence.{Silence}
use Rattle.group_rules.specs.Watch.{Watch, is_suspect, is_lost, ticked, counted}
use Rattle.failure_events.specs.Watching.{last_count, capped}
use Rattle.failure_events.specs.Counts.{one_more, next_loss}

abbrev after_tick : Silence → Silence
after_tick x = record x { ticks = suc x.ticks }

late : (n : ℕ) → nat_le 5 (min (n + 1) last_count) ≡ nat_le 5 (suc n)
late n = grind (arith, nat_tests)

same_suspect : (me : Inc) (x : Silence) → is_suspect me (one_more x) ≡ is_suspect me (after_tick x)
same_suspect me x = ap (λ b. not (inc_eq me x.inc) && b) (late x.ticks)

abbrev heard_by : Inc → List Silence → List Silence
heard_by me xs = filter (λ y. not (is_suspect me y)) xs

same_count : (me : Inc) (xs : List Silence) → length (heard_by me (map one_more xs)) ≡ length (heard_by me (map after_tick xs))
same_count me [] = refl
same_count me (x ∷ xs) = go (is_suspect me (one_more x)) (is_suspect me (after_tick x)) refl refl (same_suspect me x) (same_count me xs)
  where
    go : (b c : Bool) → is_suspect me (one_more x) ≡ b → is_suspect me (after_tick x) ≡ c → is_suspect me (one_more x) ≡ is_suspect me (after_tick x)
        → length (heard_by me (map one_more xs)) ≡ length (heard_by me (map after_tick xs)) → length (heard_by me (map one_more (x ∷ xs))) ≡ length (heard_by me (map after_tick (x ∷ xs)))
    go true c e f s r = let g : is_suspect me (after_tick x) ≡ true = sym s ∙ e in rw (e, g) r
    go false c e f s r = let g : is_suspect me (after_tick x) ≡ false = sym s ∙ e in rw (e, g) (ap suc r)

same_length : (xs : List Silence) → length (map one_more xs) ≡ length (map after_tick xs)
same_length [] = refl
same_length (x ∷ xs) = ap suc (same_length xs)

pub same_loss : (me : Inc) (xs : List Silence) → is_lost me (map one_more xs) ≡ is_lost me (map after_tick xs)
same_loss me [] = refl
same_loss me (x ∷ xs) = rw (same_count me (x ∷ xs), same_length (x ∷ xs)) refl

pub same_counts : (xs : List Silence) → map {A = Silence} (λ x. record x { ticks = min x.ticks last_count }) (map after_tick xs) ≡ map one_more xs
same_counts [] = refl
same_counts (x ∷ xs) =
    let n : min (suc x.ticks) last_count ≡ min (x.ticks + 1) last_count = omega arith in
    rw (n, same_counts xs) refl

-- the watch after a tick, by what the code counts
abbrev pub counted_on : Inc → Watch → ℕ → Watch
counted_on me w n = record { silences = map one_more w.silences; lost_for = n }

counted_lost : (me : Inc) (xs : List Silence) (n : ℕ) → is_lost me xs ≡ true → counted me xs n ≡ record { silences = xs; lost_for = suc n }
counted_lost me xs n e = ap (λ b. record { silences = xs; lost_for = elim b [ true ↦ suc n | false ↦ 0 ] }) e

counted_heard : (me : Inc) (xs : List Silence) (n : ℕ) → is_lost me xs ≡ false → counted me xs n ≡ record { silences = xs; lost_for = 0 }
counted_heard me xs n e = ap (λ b. record { silences = xs; lost_for = elim b [ true ↦ suc n | false ↦ 0 ] }) e

abbrev count_watch : List Silence → ℕ → Watch
count_watch xs n = record { silences = xs; lost_for = n }

pub ticks_lost : (me : Inc) (w : Watch) → is_lost me (map one_more w.silences) ≡ true → counted_on me w (min (w.lost_for + 1) last_count) ≡ capped (ticked me w)
ticks_lost me w e =
    let f : is_lost me (map after_tick w.silences) ≡ true = sym (same_loss me w.silences) ∙ e in
    let n : min (suc w.lost_for) last_count ≡ min (w.lost_for + 1) last_count = omega arith in
    sym (ap capped (counted_lost me (map after_tick w.silences) w.lost_for f) ∙ (ap (λ xs. count_watch xs (min (suc w.lost_for) last_count)) (same_counts w.silences) ∙ ap (count_watch (map one_more w.silences)) n))

pub ticks_heard : (me : Inc) (w : Watch) → is_lost me (map one_more w.silences) ≡ false → counted_on me w 0 ≡ capped (ticked me w)
ticks_heard me w e =
    let f : is_lost me (map after_tick w.silences) ≡ false = sym (same_loss me w.silences) ∙ e in
    sym (ap capped (counted_heard me (map after_tick w.silences) w.lost_for f) ∙ ap (λ xs. count_watch xs 0) (same_counts w.silences))

pub ticks : (me : Inc) (w : Watch) → counted_on me w (next_loss (is_lost me (map one_more w.silences)) w.lost_for) ≡ capped (ticked me w)
ticks me w = go (is_lost me (map one_more w.silences)) refl
  where
    go : (b : Bool) → is_lost me (map one_more w.silences) ≡ b → counted_on me w (next_loss (is_lost me (map one_more w.silences)) w.lost_for) ≡ capped (ticked me w)
    go true e = ap (λ b. counted_on me w (next_loss b w.lost_for)) e ∙ ticks_lost me w e
    go false e = ap (λ b. counted_on me w (next_loss b w.lost_for)) e ∙ ticks_heard me w e
