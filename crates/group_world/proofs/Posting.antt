-- Letters that are delivered and lost.
use Rattle.std.proofs.Common.{◌≡◌, inl, inr, ℕ, zero, suc, ◌+◌, Bool, true, false, Option, Some, None, List, [], ◌∷◌, length, slice_get, refl, sym, ap, ◌∙◌, arith}
use Rattle.std.specs.Prelude.{◌==◌, ◌||◌, nat_lt, ◌^◌, map, option_map}
use Rattle.std.proofs.lemmas.Bool.Decides.{nat_tests}
use Rattle.paxos_forms.specs.declared.message.Message.{Message}
use Rattle.node_rules.specs.Lists.{In}
use Rattle.group_rules.specs.Events.{Hears}
use Rattle.group_rules.specs.Script.{Letter, Play, is_full, letter_at, set_letter, total}
use Rattle.group_rules.specs.World.{Takes, World, kth, move, nothing_happens, runs, take_message}
use Rattle.group_world.specs.Events.{IsMoveOf}
use Rattle.group_world.specs.Standing.{Along}
use Rattle.group_world.specs.declared.stage.Stage.{Stage}

abbrev messages : List Letter → List Message
messages xs = map {A = Letter} (λ l. l.message) xs

-- it says the same with as many bytes
abbrev pub Same : (Letter → Letter) → Type 0
Same f = (l : Letter) → ((f l).message ≡ l.message) × ((f l).size ≡ l.size)

set_messages : (f : Letter → Letter) → Same f → (xs : List Letter) (k : ℕ) → messages (set_letter xs k f) ≡ messages xs
set_messages f h [] k = refl
set_messages f h (x ∷ xs) zero = refl
set_messages f h (x ∷ xs) (suc k) = go (k == 0) (set_messages f h xs k)
  where
    go : (b : Bool) → messages (set_letter xs k f) ≡ messages xs → messages (elim b [ true ↦ f x ∷ xs | false ↦ x ∷ set_letter xs k f ]) ≡ messages (x ∷ xs)
    go true e = ap (λ m. m ∷ messages xs) (h x).0
    go false e = ap (λ l. x.message ∷ l) e

set_length : (f : Letter → Letter) (xs : List Letter) (k : ℕ) → length (set_letter xs k f) ≡ length xs
set_length f [] k = refl
set_length f (x ∷ xs) zero = refl
set_length f (x ∷ xs) (suc k) = go (k == 0) (set_length f xs k)
  where
    go : (b : Bool) → length (set_letter xs k f) ≡ length xs → length {A = Letter} (elim b [ true ↦ f x ∷ xs | false ↦ x ∷ set_letter xs k f ]) ≡ length (x ∷ xs)
    go true e = refl
    go false e = ap (λ n. suc n) e

set_total : (f : Letter → Letter) → Same f → (xs : List Letter) (k : ℕ) → total (set_letter xs k f) ≡ total xs
set_total f h [] k = refl
set_total f h (x ∷ xs) zero = refl
set_total f h (x ∷ xs) (suc k) = go (k == 0) (set_total f h xs k)
  where
    go : (b : Bool) → total (set_letter xs k f) ≡ total xs → total (elim b [ true ↦ f x ∷ xs | false ↦ x ∷ set_letter xs k f ]) ≡ total (x ∷ xs)
    go true e = ap (λ n. n + total xs) (h x).1
    go false e = ap (λ n. x.size + n) e

set_full : (f : Letter → Letter) → Same f → (xs : List Letter) (k : ℕ) → is_full (set_letter xs k f) ≡ is_full xs
set_full f h xs k = ap (λ n. nat_lt (2 ^ 20) n || nat_lt (2 ^ 30) (total (set_letter xs k f))) (set_length f xs k) ∙ ap (λ n. nat_lt (2 ^ 20) (length xs) || nat_lt (2 ^ 30) n) (set_total f h xs k)

abbrev pub marked : (Letter → Letter) → ℕ → Play → Play
marked f k y = record y { wire = set_letter y.wire k f }

-- a letter is marked as delivered or lost
pub marks : (f : Letter → Letter) → Same f → (k : ℕ) (y : Play) (x : Stage) (xs : List Letter) → xs ≡ set_letter x.wire k f → Along y x → Along (marked f k y) (record x { wire = xs })
marks f h k y x xs e a = record {
  unclosed = a.unclosed;
  unrefused = a.unrefused;
  said = a.said;
  block = a.block;
  block_above = a.block_above;
  block_below = a.block_below;
  wire = e ∙ ap (λ l. set_letter l k f) a.wire;
  carries = record {
    letters = set_messages f h y.wire k ∙ a.carries.letters;
    spellable = a.carries.spellable;
    few = set_full f h y.wire k ∙ a.carries.few;
  };
  holds = record {
    servers = a.holds.servers;
    sites = a.holds.sites;
    rising = a.holds.rising;
    declared = a.holds.declared;
    setup = a.holds.setup;
    founded = a.holds.founded;
    run = a.holds.run;
  };
}

-- ---- the k-th message

get_letter : (xs : List Letter) (k : ℕ) → slice_get (messages xs) k ≡ option_map (λ l. l.message) (slice_get xs k)
get_letter [] k = refl
get_letter (x ∷ xs) zero = refl
get_letter (x ∷ xs) (suc k) = get_letter xs k

at_index : (xs : List Letter) (k : ℕ) → letter_at xs (suc k) ≡ slice_get xs k
at_index [] k = refl
at_index (x ∷ xs) zero = refl
at_index (x ∷ xs) (suc k) = let more : (suc k == 0) ≡ false = grind (arith, nat_tests) in rw (more, letter_at) (at_index xs k)

at_zero : (xs : List Letter) → letter_at xs zero ≡ None
at_zero [] = refl
at_zero (x ∷ xs) = refl

pub kth_is : (xs : List Letter) (k : ℕ) → kth (messages xs) k ≡ option_map (λ l. l.message) (letter_at xs k)
kth_is xs zero = sym (ap (option_map (λ l. l.message)) (at_zero xs))
kth_is xs (suc k) = get_letter xs k ∙ ap (option_map (λ l. l.message)) (sym (at_index xs k))

in_slice : (ms : List Message) (k : ℕ) (m : Message) → slice_get ms k ≡ Some m → In m ms
in_slice [] k m h = absurd (let e : None ≡ Some m = h in cc)
in_slice (x ∷ ms) zero m h = inl (let e : Some x ≡ Some m = h in cc)
in_slice (x ∷ ms) (suc k) m h = inr (in_slice ms k m h)

pub kth_in : (ms : List Message) (k : ℕ) (m : Message) → kth ms k ≡ Some m → In m ms
kth_in ms zero m h = absurd (let e : None ≡ Some m = h in cc)
kth_in ms (suc k) m h = in_slice ms k m h

-- ---- it is taken

-- nobody takes it
pub taken_by_none : (w : World) (k : ℕ) → kth w.sent k ≡ None → move (Takes k) w ≡ nothing_happens w
unfolding move
taken_by_none w k h = ap (λ o. take_message o w) h

pub untaken : (w : World) (k : ℕ) (m : Message) → kth w.sent k ≡ Some m → runs w m.to ≡ false → move (Takes k) w ≡ nothing_happens w
unfolding move
untaken w k m h r = ap (λ o. take_message o w) h ∙ rw (r, take_message) refl

pub taken_by : (w : World) (k : ℕ) (m : Message) → kth w.sent k ≡ Some m → runs w m.to ≡ true → IsMoveOf (Takes k) m.to.server (Hears m) w
unfolding move
taken_by w k m h r = record { allowed = tt; is_it = ap (λ o. take_message o w) h ∙ rw (r, take_message) refl }

-- the message that was read is the k-th one of the play
pub got : (y : Play) (x : Stage) (k : ℕ) (o : Option Message) → Along y x → o ≡ option_map (λ l. l.message) (letter_at x.wire k) → kth y.world.sent k ≡ o
got y x k o a e = ap (λ ms. kth ms k) (sym a.carries.letters) ∙ (kth_is y.wire k ∙ (ap (λ xs. option_map (λ l. l.message) (letter_at xs k)) (sym a.wire) ∙ sym e))
