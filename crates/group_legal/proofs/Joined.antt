-- What a joiner is given ends with its own Add.
use Rattle.std.proofs.Common.{◌≡◌, ◌⊎◌, inl, inr, ℕ, zero, suc, ◌≤◌, ◌<◌, Bool, true, false, Some, [], ◌∷◌, refl, sym, ap, subst, ◌∙◌, length, arith}
use Rattle.gr_ids.specs.Names.{inc_eq}
use Rattle.gr_ids.specs.declared.names.Inc.{Inc}
use Rattle.slot_values.specs.declared.value.What.{What}
use Rattle.slot_values.specs.declared.kept.Kept.TheVariants.{At as KeptAt}
use Rattle.slot_values.specs.Log.{became}
use Rattle.paxos_forms.specs.declared.welcome.Welcome.{Welcome}
use Rattle.node_rules.proofs.Incs.{inc_is}
use Rattle.group_rules.specs.Events.{Did, Founds, Starts, Came, Made, Took, Skips, Done, Committed, Is, Gave, Answered, Begun, Changed, Replied, Called, AsksCommit, Ends, Enters, Restores, AskFails, Hears, Ticks, Works, Calls, Operates, Life, Setup, Entry}
use Rattle.group_rules.specs.Life.{taken, entered, entry_at}
use Rattle.group_rules.specs.declared.marks.Effect.{Effect}
use Rattle.group_rules.specs.OneList.{listed, reading_of, value_at, before_slot, scan_effect, scan_entry}
use Rattle.group_rules.specs.Parts.{open_parts, held}
use Rattle.group_rules.specs.Legal.{IsPast, last_slot}
use Rattle.group_rules.specs.World.{Past, Does, Writes, Halts, life_in}
use Rattle.group_order.specs.OneLog.{JoinedAs, Follows, AgreesAt, LogOver}
use Rattle.group_order.proofs.Nexts.{done_at}
use Rattle.group_order.proofs.Flips.{before_next}
use Rattle.group_order.proofs.Lookups.{value_within, listed_entry, kept_reading}
use Rattle.group_laws.specs.Entries as law
use Rattle.group_laws.specs.Lawful.{upto}
use Rattle.group_lives.specs.Lives.{does_entry, placed}
use Rattle.group_lawful.specs.Knows.{EndsWithAdd}
use Rattle.group_legal.specs.Bases.{list_of}
use Rattle.group_legal.proofs.EntryEffects.{next_place}
use Rattle.group_legal.proofs.Prefix.{StandsAt, entry_stands}
use Rattle.group_legal.proofs.Points.{did_here}

-- ---- when it was welcomed

abbrev pub Entered : Past → Inc → Welcome → Type 0
Entered p i u = (q : Past) × IsPast (Does i (Enters u) ∷ q) p

entered_did : (d : Did) (l : Life) (u : Welcome) → entered (d ∷ l) ≡ Some u → (d ≡ Enters u) ⊎ (entered l ≡ Some u)
entered_did (Enters z) l u h = let e : z ≡ u = cc h in inl (ap (λ y. Enters y) e)
entered_did (Starts x) l u h = inr h
entered_did (Came (Hears n)) l u h = inr h
entered_did (Came Ticks) l u h = inr h
entered_did (Came (Works z y)) l u h = inr h
entered_did (Came (Calls z y)) l u h = inr h
entered_did (Came (Operates z)) l u h = inr h
entered_did (Skips m v) l u h = inr h
entered_did (Gave n j) l u h = inr h
entered_did (Replied r) l u h = inr h
entered_did AskFails l u h = inr h
entered_did Founds l u h = inr h
entered_did (Done q) l u h = inr h
entered_did (Begun m y z) l u h = inr h
entered_did (Changed m z) l u h = inr h
entered_did (Called v y z) l u h = inr h
entered_did (AsksCommit m y) l u h = inr h
entered_did (Ends m) l u h = inr h
entered_did (Took z) l u h = inr h
entered_did (Made m y) l u h = inr h
entered_did (Answered m y) l u h = inr h
entered_did (Is y z) l u h = inr h
entered_did (Restores y z) l u h = inr h
entered_did (Committed m) l u h = inr h

pub entered_at : (p : Past) (i : Inc) (u : Welcome) → entered (life_in p i) ≡ Some u → Entered p i u
entered_at [] i u h = absurd (cc h)
entered_at (Writes n y ∷ p) i u h = let r = entered_at p i u h in (r.0, inr r.1)
entered_at (Halts n ∷ p) i u h = let r = entered_at p i u h in (r.0, inr r.1)
entered_at (Does j d ∷ p) i u h = go (inc_eq j i) refl h (entered_at p i u)
  where
    go : (b : Bool) → inc_eq j i ≡ b → entered (elim b [ true ↦ d ∷ life_in p i | false ↦ life_in p i ]) ≡ Some u → (entered (life_in p i) ≡ Some u → (q : Past) × IsPast (Does i (Enters u) ∷ q) p) → (q : Past) × IsPast (Does i (Enters u) ∷ q) (Does j d ∷ p)
    go false e k f = let r = f k in (r.0, inr r.1)
    go true e k f = elim (entered_did d (life_in p i) u k) [
      | inl z ↦ (p, inl (sym (λ n. Does (inc_is j i e n) (z n) ∷ p)))
      | inr z ↦ (let r = f z in (r.0, inr r.1))
    ]

-- ---- its Add

module _ (t : Setup) (w : Past) (x : LogOver t w) (q : Past) (i : Inc) (u : Welcome) (k : IsPast (Does i (Enters u) ∷ q) w) where
  abbrev j : JoinedAs t x.log i u
  j = done_at (Follows t x.log) w q i (Enters u) x.follows k

  -- the place of its Welcome is that of the list with its Add
  agrees : AgreesAt t x.log (Does i (Enters u) ∷ q) i
  agrees = x.agrees (Does i (Enters u) ∷ q) k i (inr (u, ap entered (did_here q i (Enters u))))

  place_read : u.place ≡ (reading_of t (before_slot x.log (suc u.slot))).place
  place_read = sym (ap taken (did_here q i (Enters u))) ∙ agrees.place ∙ ap (λ l. (reading_of t (before_slot x.log (suc (last_slot l)))).place) (did_here q i (Enters u))

  place_is : u.place ≡ j.place
  place_is = place_read ∙ by u.slot (value_within x.log u.slot j.value j.there).0 j.there j.kept
    where
      by : (n : ℕ) → 0 < n → value_at x.log n ≡ Some j.value → KeptAt j.place true ≡ became (reading_of t (before_slot x.log n)) j.value → (reading_of t (before_slot x.log (suc n))).place ≡ j.place
      by zero z h e = absurd (omega (arith, z))
      by (suc n) z h e = ap (λ l. (reading_of t l).place) (before_next x.log n j.value h) ∙ kept_reading t (before_slot x.log (suc n)) j.value j.place true e

  abbrev add : Entry
  add = scan_entry t (listed t (before_slot x.log u.slot)) u.slot j.place true j.value

  abbrev front : ℕ
  front = (reading_of t (before_slot x.log u.slot)).place

  at_place : j.place ≡ suc front
  at_place = next_place (reading_of t (before_slot x.log u.slot)) j.value j.place true j.kept

  stands : StandsAt front add (list_of t x.log)
  stands = entry_stands t x.log front add (ap (entry_at (listed t x.log)) (sym at_place) ∙ listed_entry t x.log u.slot j.value j.place true j.there j.kept)

  joins : (placed add).value.body ≡ law.Joins j.joiner
  joins = ap (λ (y : What). does_entry y (entry y) (held (open_parts (listed t (before_slot x.log u.slot)) j.value.id.origin) y)) j.adds
    where
      entry : What → Effect
      entry y = scan_effect t (listed t (before_slot x.log u.slot)) true (record { id = j.value.id; what = y }) (open_parts (listed t (before_slot x.log u.slot)) j.value.id.origin) (held (open_parts (listed t (before_slot x.log u.slot)) j.value.id.origin) y)

  pub ends_with_add : EndsWithAdd i (upto u.place (list_of t x.log))
  ends_with_add = record {
    add = placed add;
    rest = upto front (list_of t x.log);
    joiner = j.joiner;
    is_base = ap (λ n. upto n (list_of t x.log)) (place_is ∙ at_place) ∙ stands.1;
    joins = joins;
    inc = j.inc;
  }

  pub place_within : u.place ≤ length (list_of t x.log)
  place_within = subst (λ n. n ≤ length (list_of t x.log)) (sym (place_is ∙ at_place)) stands.0

  pub place_positive : 1 ≤ u.place
  place_positive = let e = place_is ∙ at_place in omega (arith, e)
