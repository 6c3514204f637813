-- Every move of a play but an event keeps that it is a run.
use Rattle.std.proofs.Common.{◌≡◌, inl, inr, ℕ, Bool, true, false, Option, None, Some, List, [], ◌∷◌, refl, sym, ap, subst, ◌∙◌}
use Rattle.std.specs.Prelude.{◌||◌, is_some}
use Rattle.gr_ids.specs.declared.names.Inc.{Inc}
use Rattle.gr_ids.specs.declared.names.Gtid.{Gtid}
use Rattle.gtid_sets.specs.Canonical.{IsNumber, IsUuid}
use Rattle.key_items.specs.declared.item.Item.{Item}
use Rattle.slot_values.specs.declared.value.Joiner.{Joiner}
use Rattle.slot_values.specs.declared.value.Value.{Value}
use Rattle.txn_forms.specs.declared.body.Body.{Body}
use Rattle.group_rules.specs.declared.marks.Effect.TheVariants.{Positive}
use Rattle.group_rules.specs.Events.{Did, Entry, Made, Setup, Took}
use Rattle.group_rules.specs.Legal.{IsPast}
use Rattle.group_rules.specs.Member.{Member}
use Rattle.group_rules.specs.Steps.{found, start}
use Rattle.group_rules.specs.World.{Declares, Does, Founds, Move, Past, Server, Starts, Stops, World, WritesRow, declare, found_all, found_at, is_group_taken, is_taken, member_at, move, new_world, nothing_happens, server_at, start_by, started, stop, write_by, written}
use Rattle.group_runs.specs.Runs.{IsSetup}
use Rattle.group_runs.specs.Servers.{IsMove}
use Rattle.group_legal.specs.Ranges.{HasSmallNumbers}
use Rattle.group_legal.specs.OwnRanges.{MadeInRange}
use Rattle.group_promises.proofs.Steps.{stopped_in_range, written_in_range}
use Rattle.play_runs.specs.Runs.{HasRoom, IsRun}

some_is : {A : Type 0} {x y : A} → Some x ≡ Some y → x ≡ y
some_is {x = x} {y = y} e = cc

no_past : (p : Past) (i : Inc) (d : Did) → IsPast (Does i d ∷ p) [] → ⊥
no_past p i d h = absurd (cc h)

pub new_runs : IsRun new_world
new_runs = record {
  moves = [];
  is_it = refl;
  allowed = λ m h. absurd h;
  setup = λ t e. absurd (cc e);
  small = record { given = λ p i e g h f. absurd (no_past p i (Took e) h); written = tt };
  made = λ q j v b h. absurd (no_past q j (Made v (Some b)) h);
}

-- within the ranges of the forms
abbrev Fits : Past → Type 0
Fits p = HasSmallNumbers p × MadeInRange p

-- ---- one move more

pub moved : (m : Move) (w : World) → IsMove m → IsRun w → ((t : Setup) → (move m w).setup ≡ Some t → IsSetup t) → Fits (move m w).past → IsRun (move m w)
moved m w ok r s f = record {
  moves = m ∷ r.moves;
  is_it = ap (move m) r.is_it;
  allowed = λ x h. elim h [ inl e ↦ subst IsMove e ok | inr k ↦ r.allowed x k ];
  setup = s;
  small = f.0;
  made = f.1;
}

-- what happened fits, and the group is as it was
record Goes (w x : World) : Type 0 where
  setup : x.setup ≡ w.setup
  fits : Fits x.past

goes_on : (m : Move) (w : World) → IsMove m → IsRun w → Goes w (move m w) → IsRun (move m w)
goes_on m w ok r g = moved m w ok r (λ t e. r.setup t (sym g.setup ∙ e)) g.fits

quiet : (w : World) → IsRun w → Goes w (nothing_happens w)
quiet w r = record { setup = refl; fits = (r.small, r.made) }

-- a move that changes nothing
pub idle_runs : (m : Move) (w : World) → IsMove m → IsRun w → move m w ≡ nothing_happens w → IsRun (nothing_happens w)
idle_runs m w ok r e = subst IsRun e (moved m w ok r (λ t q. r.setup t (sym (ap (λ x. x.setup) e) ∙ q)) (subst (λ x. Fits x.past) (sym e) (r.small, r.made)))

-- ---- something that is neither an entry nor an own value

module _ (i : Inc) (d : Did) (no_entry : (e : Entry) → Took e ≡ d → ⊥) (no_value : (v : Value) (h : Option Body) → Made v h ≡ d → ⊥) where
  did_small : (q : Past) → HasSmallNumbers q → HasSmallNumbers (Does i d ∷ q)
  did_small q s = record { given = given; written = s.written }
    where
      given : (p : Past) (j : Inc) (e : Entry) (g : Gtid) → IsPast (Does j (Took e) ∷ p) (Does i d ∷ q) → e.effect ≡ Positive g → IsNumber g.number
      given p j e g (inl z) f = let same : Took e ≡ d = cc in absurd (no_entry e same)
      given p j e g (inr k) f = s.given p j e g k f

  did_made : (q : Past) → MadeInRange q → MadeInRange (Does i d ∷ q)
  did_made q s p j v b (inl z) = let same : Made v (Some b) ≡ d = cc in absurd (no_value v (Some b) same)
  did_made q s p j v b (inr k) = s p j v b k

  did_fits : (q : Past) → Fits q → Fits (Does i d ∷ q)
  did_fits q f = (did_small q f.0, did_made q f.1)

-- ---- the moves

pub declared_runs : (w : World) (n : ℕ) (u v : List ℕ) (g : ℕ) → IsUuid u → IsRun w → IsRun (move (Declares n u v g) w)
unfolding move
declared_runs w n u v g id r = goes_on (Declares n u v g) w id r (go (is_taken n u w))
  where
    go : (b : Bool) → Goes w (elim b [ true ↦ nothing_happens w | false ↦ nothing_happens (declare n u v g w) ])
    go true = quiet w r
    go false = record { setup = refl; fits = (r.small, r.made) }

pub stopped_runs : (w : World) (n : ℕ) → IsRun w → IsRun (move (Stops n) w)
unfolding move
stopped_runs w n r = goes_on (Stops n) w tt r (go (server_at w n))
  where
    go : (o : Option Server) → Goes w (stop o w)
    go None = quiet w r
    go (Some s) = record { setup = refl; fits = stopped_in_range w.past s.number r.small r.made }

pub written_runs : (w : World) (n : ℕ) (i : Item) (row : List ℕ) → HasRoom w n → IsRun w → IsRun (move (WritesRow n i row) w)
unfolding move
written_runs w n i row room r = goes_on (WritesRow n i row) w tt r (go (is_some w.setup))
  where
    unless_running : (s : Server) → server_at w n ≡ Some s → (b : Bool) → Goes w (elim b [ true ↦ nothing_happens w | false ↦ written i row s w ])
    unless_running s q true = quiet w r
    unless_running s q false = record { setup = refl; fits = written_in_range w.past s.number _ (room s q) r.small r.made }

    by : (o : Option Server) → server_at w n ≡ o → Goes w (write_by i row o w)
    by None q = quiet w r
    by (Some s) q = unless_running s q (is_some s.running)

    go : (b : Bool) → Goes w (elim b [ true ↦ write_by i row (server_at w n) w | false ↦ nothing_happens w ])
    go true = by (server_at w n) refl
    go false = quiet w r

start_fits : (t : Setup) (s : Server) (via : Member) (w : World) → Fits w.past → Fits (started t s via w).past
unfolding start
start_fits t s via w f = did_fits _ _ (λ e z. absurd (cc z)) (λ v h z. absurd (cc z)) _ (did_fits _ _ (λ e z. absurd (cc z)) (λ v h z. absurd (cc z)) w.past f)

pub started_runs : (w : World) (n via : ℕ) → IsRun w → IsRun (move (Starts n via) w)
unfolding move
started_runs w n via r = goes_on (Starts n via) w tt r (by w.setup (server_at w n) (member_at w via))
  where
    unless_running : (t : Setup) (s : Server) (a : Member) (b : Bool) → Goes w (elim b [ true ↦ nothing_happens w | false ↦ started t s a w ])
    unless_running t s a true = quiet w r
    unless_running t s a false = record { setup = refl; fits = start_fits t s a w (r.small, r.made) }

    by : (o : Option Setup) (x : Option Server) (y : Option Member) → Goes w (start_by o x y w)
    by None x y = quiet w r
    by (Some t) None y = quiet w r
    by (Some t) (Some s) None = quiet w r
    by (Some t) (Some s) (Some a) = unless_running t s a (is_some s.running)

-- ---- the founding

found_one : (t : Setup) (j : Joiner) (w : World) → Fits w.past → Fits (found_at t j w).past
unfolding found
found_one t j w f = did_fits _ _ (λ e z. absurd (cc z)) (λ v h z. absurd (cc z)) _ (did_fits _ _ (λ e z. absurd (cc z)) (λ v h z. absurd (cc z)) w.past f)

found_fits : (t : Setup) (js : List Joiner) (w : World) → Fits w.past → Fits (found_all t js w).past
found_fits t [] w f = f
found_fits t (j ∷ js) w f = found_fits t js (found_at t j w) (found_one t j w f)

found_setup : (t : Setup) (js : List Joiner) (w : World) → (found_all t js w).setup ≡ w.setup
found_setup t [] w = refl
found_setup t (j ∷ js) w = found_setup t js (found_at t j w)

abbrev with_setup : Setup → World → World
with_setup t w = nothing_happens (record w { setup = Some t })

abbrev unless_founded : Setup → World → Bool → World
unless_founded t w b = elim b [ true ↦ nothing_happens w | false ↦ found_all t t.founders (with_setup t w) ]

pub founded_runs : (w : World) (t : Setup) → IsSetup t → IsRun w → IsRun (move (Founds t) w)
unfolding move
founded_runs w t ok r = go (is_some w.setup || is_group_taken t.limits.group w) refl
  where
    run : (b : Bool) → move (Founds t) w ≡ unless_founded t w b → ((s : Setup) → (unless_founded t w b).setup ≡ Some s → IsSetup s) → Fits (unless_founded t w b).past → IsRun (move (Founds t) w)
    run b e s f = moved (Founds t) w tt r (λ x z. s x (sym (ap (λ y. y.setup) e) ∙ z)) (subst (λ y. Fits y.past) (sym e) f)

    go : (b : Bool) → (is_some w.setup || is_group_taken t.limits.group w) ≡ b → IsRun (move (Founds t) w)
    go true e = run true (rw (e, move) refl) r.setup (r.small, r.made)
    go false e = run false (rw (e, move) refl) (λ s z. subst IsSetup (some_is (sym (found_setup t t.founders (with_setup t w)) ∙ z)) ok) (found_fits t t.founders (with_setup t w) (r.small, r.made))
