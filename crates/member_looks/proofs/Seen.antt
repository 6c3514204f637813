-- What a look shows is what the rules show.
use Rattle.std.proofs.Common.{◌≡◌, ℕ, true, false, Option, List, [], ◌∷◌, map, refl, sym, subst, ap, ◌∙◌}
use Rattle.gr_ids.specs.Names.{inc_eq, is_inc}
use Rattle.gr_ids.specs.declared.levels.Mode.{Mode}
use Rattle.gr_ids.specs.declared.levels.MemberState.{MemberState}
use Rattle.gr_ids.specs.declared.names.Ballot.{Ballot}
use Rattle.gr_ids.specs.declared.names.Inc.{Inc}
use Rattle.gtid_sets.specs.Sets.{Gtids}
use Rattle.key_items.specs.declared.item.KeptItem.{KeptItem}
use Rattle.node_rules.specs.declared.seat.Seat.{Seat}
use Rattle.certifier.specs.Certifying.{Certifying}
use Rattle.group_rules.specs.declared.said.Look.TheVariants.{Members, Slots}
use Rattle.group_rules.specs.declared.said.Shown.{Shown}
use Rattle.group_rules.specs.declared.said.Shown.TheVariants.{State as InState, Unreachable}
use Rattle.group_rules.specs.declared.said.ShownMember.{ShownMember}
use Rattle.group_rules.specs.Events.{Life}
use Rattle.group_rules.specs.Life.{state}
use Rattle.group_rules.specs.Looks.{members_shown, shown}
use Rattle.group_rules.specs.Member.{Member}
use Rattle.group_rules.specs.View.{View}
use Rattle.failure_events.specs.Watching.{Watching}
use Rattle.list_state.specs.Following.{Follows}
use Rattle.list_state.specs.Listing.{Listed}
use Rattle.local_sessions.specs.declared.tables.Tables.{Tables}
use Rattle.member_parts.specs.declared.parts.MemberParts.{MemberParts}
use Rattle.member_tables.specs.declared.tables.MemberTables.{MemberTables}
use Rattle.report_text.specs.declared.world_report.MemberReport.{MemberReport}
use Rattle.row_store.specs.Following.{RowsOf}
use Rattle.member_moment.specs.Standing.{Stands}
use Rattle.member_moment.specs.Watching.{watch_of}
use Rattle.member_moment.specs.declared.moment.Moment.{Moment}
use Rattle.member_moment.proofs.Minded.{suspect_is}
use Rattle.member_looks.specs.Showing.{member_shown, state_shown}

-- ---- what is shown is known by its parts

pub slots_same : (i j : Inc) (n m t u : ℕ) (p q : Option Ballot) → i ≡ j → n ≡ m → t ≡ u → p ≡ q → Slots i n t p ≡ Slots j m u q
slots_same i j n m t u p q a b c d =
    ap (λ z. Slots z n t p) a ∙ (ap (λ z. Slots j z t p) b ∙ (ap (λ z. Slots j m z p) c ∙ ap (λ z. Slots j m u z) d))

pub members_same : (i j : Inc) (ss ts : List ShownMember) (n k : ℕ) (m o : Mode) → i ≡ j → ss ≡ ts → n ≡ k → m ≡ o → Members i ss n m ≡ Members j ts k o
members_same i j ss ts n k m o a b c d =
    ap (λ z. Members z ss n m) a ∙ (ap (λ z. Members j z n m) b ∙ (ap (λ z. Members j ts z m) c ∙ ap (λ z. Members j ts k z) d))

abbrev reports : Inc → MemberState → ℕ → ℕ → Gtids → ℕ → MemberReport
reports i s v p e n = record { inc = i; state = s; view = v; place = p; executed = e; rows = n }

pub report_same : (i j : Inc) (s t : MemberState) (v w p q : ℕ) (e f : Gtids) (n m : ℕ) → i ≡ j → s ≡ t → v ≡ w → p ≡ q → e ≡ f → n ≡ m
    → reports i s v p e n ≡ reports j t w q f m
report_same i j s t v w p q e f n m a b c d g h =
    ap (λ z. reports z s v p e n) a ∙ (ap (λ z. reports j z v p e n) b ∙ (ap (λ z. reports j t z p e n) c
    ∙ (ap (λ z. reports j t w z e n) d ∙ (ap (λ z. reports j t w q z n) g ∙ ap (λ z. reports j t w q f z) h))))

each_same : (w u : Watching) (i j : Inc) (s t : MemberState) (p q : Option Inc) (ss ts : List Seat) → w ≡ u → i ≡ j → s ≡ t → p ≡ q → ss ≡ ts
    → map (member_shown w i s p) ss ≡ map (member_shown u j t q) ts
each_same w u i j s t p q ss ts a b c d e =
    ap (λ z. map (member_shown z i s p) ss) a ∙ (ap (λ z. map (member_shown u z s p) ss) b ∙ (ap (λ z. map (member_shown u j z p) ss) c
    ∙ (ap (λ z. map (member_shown u j t z) ss) d ∙ ap (map (member_shown u j t q)) e)))

abbrev pub certified_items : Certifying → List KeptItem
certified_items z = z.certified.items

-- ---- what stands for the rules

module _ (base : Life) (a : Member) (x : Moment) (st : Stands base a x) where
  pub list_is : (p : MemberParts) (l : Listed) → p ≡ x.parts → l ≡ p.list → Follows a.setup a.life l
  list_is p l e f = subst (Follows a.setup a.life) (sym (f ∙ ap (λ (z : MemberParts). z.list) e)) st.rest.parts.list

  pub stored_rows : (m : MemberTables) (t : Tables) → m ≡ x.tables → t ≡ m.tables → RowsOf a.life t.store
  stored_rows m t e f = subst (λ (z : Tables). RowsOf a.life z.store) (sym (f ∙ ap (λ (z : MemberTables). z.tables) e)) st.tables.tables.rows

  state_is : (s : Seat) → state_shown x.parts.watch a.me.inc (state a.life) s ≡ shown a (watch_of a) s
  state_is s = ap (λ b. elim (inc_eq s.joiner.inc a.me.inc) [ true ↦ InState (state a.life) | false ↦ elim b [ true ↦ Unreachable | false ↦ InState s.state ] ]) (suspect_is base a x st s.joiner.inc)

  each_shown : (v : View) (ss : List Seat) → map (member_shown x.parts.watch a.me.inc (state a.life) v.primary) ss
      ≡ map {A = Seat} (λ s. record { inc = s.joiner.inc; shown = shown a (watch_of a) s; primary = is_inc v.primary s.joiner.inc }) ss
  each_shown v [] = refl
  each_shown v (s ∷ ss) =
      ap (λ (z : Shown). record { inc = s.joiner.inc; shown = z; primary = is_inc v.primary s.joiner.inc } ∷ map (member_shown x.parts.watch a.me.inc (state a.life) v.primary) ss) (state_is s)
      ∙ ap (λ (zs : List ShownMember). record { inc = s.joiner.inc; shown = shown a (watch_of a) s; primary = is_inc v.primary s.joiner.inc } ∷ zs) (each_shown v ss)

  -- by the values that are read
  pub members_are : (w : Watching) (i : Inc) (s : MemberState) (p : Option Inc) (ss : List Seat) (u v : View) → w ≡ x.parts.watch → i ≡ a.me.inc → s ≡ state a.life
      → p ≡ u.primary → ss ≡ u.seats → u ≡ v → map (member_shown w i s p) ss ≡ members_shown a (watch_of a) v
  members_are w i s p ss u v e f g h k z =
      each_same w x.parts.watch i a.me.inc s (state a.life) p v.primary ss v.seats e f g (h ∙ ap (λ (y : View). y.primary) z) (k ∙ ap (λ (y : View). y.seats) z) ∙ each_shown v v.seats
