-- A slot that is taken, by the node and then by the member.
use Rattle.std.proofs.Common.{◌≡◌, ℕ, suc, ◌<◌, ◌^◌, Bool, false, Option, Some, None, [], ◌∷◌, ◌++◌, option_to_list, refl, sym, subst, ap, ◌∙◌, arith}
use Rattle.std.proofs.lemmas.List.{append-nil}
use Rattle.std.specs.Prelude.{◌&&◌}
use Rattle.gr_ids.specs.Names.{inc_eq}
use Rattle.name_forms.specs.Incs.{IsInc}
use Rattle.slot_values.specs.declared.value.Joiner.{Joiner}
use Rattle.slot_values.specs.Log.{Turns}
use Rattle.slot_values.specs.declared.kept.Kept.{Kept}
use Rattle.slot_values.specs.declared.kept.Kept.TheVariants.{At as KeptAt, Skipped as IsSkipped}
use Rattle.slot_values.specs.declared.value.Value.{Value}
use Rattle.gr_ids.specs.declared.names.Inc.{Inc}
use Rattle.gr_ids.specs.declared.levels.Mode.{Mode}
use Rattle.node_rules.specs.Learner.{next_entry}
use Rattle.node_rules.specs.Node.{Node}
use Rattle.node_rules.specs.Slots.{Entry as SlotEntry}
use Rattle.node_rules.specs.Taking.{take, take_next}
use Rattle.node_rules.specs.declared.taken.Taken.{Taken}
use Rattle.group_rules.specs.declared.marks.Effect.{Effect}
use Rattle.group_rules.specs.declared.marks.Effect.TheVariants.{Positive, Conflict, Plain, Void, Unread}
use Rattle.group_rules.specs.declared.marks.Mark.TheVariants.{Skipped as SkippedMark, Took as TookMark}
use Rattle.group_rules.specs.Events.{Entry, Life, Setup, Skips, Took}
use Rattle.group_rules.specs.Life.{cert_of, certs, executed, has_give, is_arrival, is_error, state, stored, taken, view}
use Rattle.group_rules.specs.View.{View}
use Rattle.group_rules.specs.Member.{Member, by_node, push}
use Rattle.group_rules.specs.Parts.{open_parts}
use Rattle.group_rules.specs.Queue.{is_done}
use Rattle.group_rules.specs.Taking.{entry_of, take_kept, take_slot}
use Rattle.list_state.specs.Holding.{HasNumber, IsEntered}
use Rattle.list_state.specs.declared.entered.Entered.{Entered}
use Rattle.member_truth.specs.Growing.{IsPromised}
use Rattle.member_truth.specs.Ranged.{IsNumbered}
use Rattle.member_truth.specs.Truth.{IsTrueEntry}
use Rattle.member_own.specs.Keeping.{Keeps, is_own_arrival, with_place}
use Rattle.member_own.proofs.Kept.{takes as own_takes}
use Rattle.member_joining.proofs.Joined.{takes as joining_takes}
use Rattle.member_parts.specs.Standing.{StandsFor}
use Rattle.member_ranges.specs.Lives.{IsInPlace}
use Rattle.member_ranges.specs.Ranges.{InRange}
use Rattle.member_ranges.specs.Taking.{entered_by, takes_on}
use Rattle.member_ranges.proofs.Passed.{ready}
use Rattle.member_ranges.proofs.Steps.{TakesNext, takes_next}
use Rattle.member_ranges.proofs.Taken.{becomes_at, taken_in_range}
use Rattle.member_tables.specs.Standing.{TablesFor}
use Rattle.member_tables.proofs.Kept.{stands_on}
use Rattle.member_joining.proofs.Joined.{passes as joining_passes}
use Rattle.member_parts.proofs.Passed.{passes as parts_pass}
use Rattle.member_own.proofs.Kept.{passes as own_passes}
use Rattle.kept_server.specs.Keeping.{left_of}
use Rattle.kept_server.specs.Redoing.{LeadTo}
use Rattle.member_moment.specs.declared.moment.Moment.{Moment}
use Rattle.member_moment.specs.declared.taking.Caused.TheVariants.{Nothing}
use Rattle.member_moment.specs.Doing.{IsKept}
use Rattle.member_moment.specs.Standing.{AreMessages, Marked, RestFor, Stands}
use Rattle.slot_values.specs.Spelling.{IsValue}
use Rattle.member_moment.specs.Taking.{HasPassed, Hands, Joins, arrives_by, cause_of, done_of}
use Rattle.member_moment.proofs.Causes.{cause_joins, caused_is, online_is}
use Rattle.member_moment.proofs.Pushed.{marked}
use Rattle.member_moment.proofs.Uncommitted.{committed_before}

-- ---- the node

-- nothing is sent
unsent : (n : Node) (o : Option Turns) (e : Option SlotEntry) → (take_next n o e).sent ≡ []
unsent n None e = refl
unsent n (Some w) None = refl
unsent n (Some w) (Some e) = refl

pub take_sends_none : (n : Node) → (take n).sent ≡ []
unfolding take
take_sends_none n = append-nil (take_next n n.turns (next_entry n.learner)).sent ∙ unsent n n.turns (next_entry n.learner)

sent_before : (a : Member) → (by_node take a).sent ≡ a.sent
sent_before a = ap (λ ms. a.sent ++ ms) (take_sends_none a.node) ∙ append-nil a.sent

numbered : (f : Effect) → HasNumber f → IsNumbered f
numbered (Positive g) h = h
numbered (Conflict g) h = tt
numbered Plain h = tt
numbered Void h = tt
numbered Unread h = tt

-- ---- the member

module _ (base : Life) (a : Member) (t : Taken) (x : Moment) (k : HasPassed t base a x) where
  rest : RestFor base a (record x { node = k.before })
  rest = (k.stands).rest

  tables_before : TablesFor a x.tables
  tables_before = (k.stands).tables

  next : TakesNext a.node (take a.node).node t
  next = takes_next a.node t k.more k.took

  well : is_error (state a.life) ≡ false
  well = (ready (state a.life) (has_give a.life) k.ready).0

  range : InRange (takes_on t a)
  range = taken_in_range t k.more a k.took k.ready (rest).range

  sent : x.sent.items ≡ (by_node take a).sent
  sent = (rest).sent ∙ sym (sent_before a)

  sent_range : AreMessages (by_node take a).sent
  sent_range = subst AreMessages (sym (sent_before a)) (rest).sent_range

  -- ---- it is skipped

  pub skips : (y : Moment) → y ≡ record x { marks = y.marks } → y.marks.items ≡ x.marks.items ++ option_to_list (Some (SkippedMark t.slot t.value.id)) → t.kept ≡ IsSkipped → Hands Nothing base a t y
  skips y e m q = record {
    stands = λ kept. subst (λ c. Stands base (entered_by t c (by_node take a)) y) (sym q) (subst (λ z. Stands base (push (Skips t.slot t.value) (by_node take a)) z) (sym e) (record {
      rest = record {
        me = (rest).me;
        contact = (rest).contact;
        limits = (rest).limits;
        node = k.node;
        parts = parts_pass a.setup a.me.inc a.life (Skips t.slot t.value) x.parts refl (rest).parts;
        own = own_passes a.me.inc a.life x.own (Skips t.slot t.value) refl (rest).own;
        joining = joining_passes a.life (Skips t.slot t.value) x.joining refl (rest).joining;
        committed = (rest).committed;
        marks = subst (Marked base (Skips t.slot t.value ∷ a.life)) (sym m) (marked base a.life x.marks.items (Skips t.slot t.value) (rest).marks);
        sent = sent;
        range = subst (λ c. InRange (entered_by t c (by_node take a))) q range;
        sent_range = sent_range;
        ranged = (tt, (rest).ranged);
      };
      tables = stands_on a.setup a.me.inc a.life x.tables (Skips t.slot t.value) refl refl (omega arith) tables_before;
    }));
    joins = tt;
    rest = subst (λ c. take_kept t.slot t.value c (by_node take a) ≡ entered_by t c (by_node take a)) (sym q) refl;
  }

  -- ---- it is kept

  module _ (p : ℕ) (h : Bool) (v : Value) (tv : t.value ≡ v) (tk : t.kept ≡ KeptAt p h) where
    abbrev entry : Entry
    entry = entry_of a.setup a.life t.slot p h t.value

    place : p ≡ suc (taken a.life)
    place =
        let b = becomes_at next.before.reading t.value p h (sym tk ∙ next.kept) in
        let s = (rest).range.shown well next.before next.had in
        let u = b.place in
        let w = s.place in
        omega (arith, u, w)

    in_range : InRange (push (Took entry) (by_node take a))
    in_range = subst (λ c. InRange (entered_by t c (by_node take a))) tk range

    fits : IsInPlace a.setup a.life entry
    fits = (in_range.life).0

    pub below : taken a.life < 2 ^ 42
    below = let b = fits.below in omega (arith, b, place)

    pub origin : IsInc v.id.origin
    origin = subst (λ (w : Value). IsInc w.id.origin) tv fits.value.id.origin

    valid : IsValue v
    valid = subst (λ (w : Value). IsValue w) tv fits.value

    same : entry_of a.setup a.life t.slot (suc (taken a.life)) h v ≡ entry
    same = ap (λ n. entry_of a.setup a.life t.slot n h v) (sym place) ∙ ap (λ w. entry_of a.setup a.life t.slot p h w) (sym tv)

    -- it is absurd that it can't be taken
    pub never : (y : Moment) → ⊥ → Hands Nothing base a t y
    never y n = absurd n

    module _ (r : Entered) (m : Mode) (primary : Option Inc) (y : Moment)
        (same_else : y ≡ record x { parts = y.parts; tables = y.tables; own = y.own; marks = y.marks })
        (tells : (s : Setup) (l : Life) (n : ℕ) → StandsFor s x.me.inc l x.parts → IsEntered (open_parts l v.id.origin) (entry_of s l n (suc (taken l)) h v) r)
        (number : HasNumber r.effect)
        (parts : (s : Setup) (l : Life) (n : ℕ) → x.tables.tables.executed ≡ executed l → is_error (state l) ≡ false → IsTrueEntry s x.me.inc l (entry_of s l n (suc (taken l)) h v) → StandsFor s x.me.inc l x.parts
        → StandsFor s x.me.inc (Took (entry_of s l n (suc (taken l)) h v) ∷ l) y.parts)
        (owns : y.own ≡ with_place r.place (arrives_by x.me.inc v.id r.held) x.own)
        (modes : m ≡ y.parts.list.view.mode) (primaries : primary ≡ y.parts.list.view.primary)
        (tables : (b : Member) (e : Entry) → IsTrueEntry b.setup b.me.inc b.life e → is_done b.life e.place ≡ false → m ≡ (view b.setup (Took e ∷ b.life)).mode → primary ≡ (view b.setup (Took e ∷ b.life)).primary
        → TablesFor b x.tables → TablesFor (push (Took e) b) y.tables)
        (marks : y.marks.items ≡ x.marks.items ++ TookMark r.place v r.effect ∷ []) where
      me : x.me.inc ≡ a.me.inc
      me = ap (λ (j : Joiner). j.inc) (rest).me

      parts_before : StandsFor a.setup x.me.inc a.life x.parts
      parts_before = subst (λ (i : Inc). StandsFor a.setup i a.life x.parts) (sym me) (rest).parts

      entered : IsEntered (open_parts a.life v.id.origin) entry r
      entered = subst (λ (e : Entry). IsEntered (open_parts a.life v.id.origin) e r) same (tells a.setup a.life t.slot parts_before)

      ranged : IsNumbered entry.effect
      ranged = subst IsNumbered (entered).effect (numbered r.effect number)

      true_entry : IsKept (takes_on t a) → IsTrueEntry a.setup a.me.inc a.life entry
      true_entry kept =
          let all : IsPromised a.setup a.me.inc (Took entry ∷ a.life) = subst (λ (c : Kept). IsKept (entered_by t c (by_node take a))) tk kept in
          (all (Took entry ∷ a.life) ([], refl) (ranged, (rest).ranged)).0

      parts_now : IsTrueEntry a.setup a.me.inc a.life entry → StandsFor a.setup a.me.inc (Took entry ∷ a.life) y.parts
      parts_now u =
          let e : Entry = entry_of a.setup a.life t.slot (suc (taken a.life)) h v in
          let before : IsTrueEntry a.setup x.me.inc a.life e = subst (λ (i : Inc). IsTrueEntry a.setup i a.life e) (sym me) (subst (λ (d : Entry). IsTrueEntry a.setup a.me.inc a.life d) (sym same) u) in
          subst (λ (d : Entry). StandsFor a.setup a.me.inc (Took d ∷ a.life) y.parts) same
          (subst (λ (i : Inc). StandsFor a.setup i (Took e ∷ a.life) y.parts) me (parts a.setup a.life t.slot (tables_before.tables).set well before parts_before))

      arrives : arrives_by x.me.inc v.id r.held ≡ is_own_arrival a.me.inc entry
      arrives =
          ap (λ b. inc_eq v.id.origin x.me.inc && b) (online_is (open_parts a.life v.id.origin) entry.holds r.held (entered).held)
          ∙ (ap (λ i. inc_eq v.id.origin i && is_arrival entry.holds) me ∙ ap (λ (w : Value). inc_eq w.id.origin a.me.inc && is_arrival entry.holds) (sym tv))

      own_now : Keeps a.me.inc (Took entry ∷ a.life) y.own
      own_now =
          subst (λ o. Keeps a.me.inc (Took entry ∷ a.life) o)
          (sym (owns ∙ (ap (λ n. with_place n (arrives_by x.me.inc v.id r.held) x.own) (entered).place ∙ ap (λ b. with_place entry.place b x.own) arrives)))
          (own_takes a.me.inc a.life x.own entry (rest).own)

      marks_now : Marked base (Took entry ∷ a.life) y.marks.items
      marks_now =
          subst (Marked base (Took entry ∷ a.life))
          (sym (marks ∙ (ap (λ n. x.marks.items ++ TookMark n v r.effect ∷ []) (entered).place
          ∙ (ap (λ w. x.marks.items ++ TookMark entry.place w r.effect ∷ []) (sym tv) ∙ ap (λ f. x.marks.items ++ TookMark entry.place t.value f ∷ []) (entered).effect))))
          (marked base a.life x.marks.items (Took entry) (rest).marks)

      rest_now : IsTrueEntry a.setup a.me.inc a.life entry → RestFor base (push (Took entry) (by_node take a)) y
      rest_now u = subst (λ z. RestFor base (push (Took entry) (by_node take a)) z) (sym same_else) (record {
        me = (rest).me;
        contact = (rest).contact;
        limits = (rest).limits;
        node = k.node;
        parts = parts_now u;
        own = own_now;
        joining = joining_takes a.life entry x.joining (rest).joining k.ready;
        committed =
            subst (LeadTo (left_of base) x.committed.items)
            (sym (ap (λ cs. record (left_of a.life) { committed = (stored a.life).committed ++ cs }) (committed_before a.setup a.life (cert_of entry) (certs a.life) (rest).range.life (λ c i. (u.certified c i).unexecuted))))
            (rest).committed;
        marks = marks_now;
        sent = sent;
        range = in_range;
        sent_range = sent_range;
        ranged = (ranged, (rest).ranged);
      })

      tables_now : IsTrueEntry a.setup a.me.inc a.life entry → TablesFor (push (Took entry) (by_node take a)) y.tables
      tables_now u =
          let w : y.parts.list.view ≡ view a.setup (Took entry ∷ a.life) = (parts_now u).list.view in
          let undone : is_done a.life entry.place ≡ false = (rest).parts.orderly.undone p (omega (arith, place)) in
          tables a entry u undone (modes ∙ ap (λ (z : View). z.mode) w) (primaries ∙ ap (λ (z : View). z.primary) w) tables_before

      caused : take_slot t (by_node take a) ≡ done_of (cause_of x.me.inc v r.effect r.held) (takes_on t a)
      caused =
          subst (λ (c : Kept). take_kept t.slot t.value c (by_node take a) ≡ done_of (cause_of x.me.inc v r.effect r.held) (entered_by t c (by_node take a))) (sym tk)
          (caused_is entry r (open_parts a.life v.id.origin) (push (Took entry) (by_node take a)) entered
          ∙ (ap (λ (i : Inc). done_of (cause_of i t.value r.effect r.held) (push (Took entry) (by_node take a))) (sym me)
          ∙ ap (λ (w : Value). done_of (cause_of x.me.inc w r.effect r.held) (push (Took entry) (by_node take a))) tv))

      pub took : Hands (cause_of x.me.inc v r.effect r.held) base a t y
      took = record {
        stands = λ kept. let u = true_entry kept in subst (λ (c : Kept). Stands base (entered_by t c (by_node take a)) y) (sym tk) (record { rest = rest_now u; tables = tables_now u });
        joins = subst (λ (c : Kept). Joins (cause_of x.me.inc v r.effect r.held) (entered_by t c (by_node take a))) (sym tk) (cause_joins x.me.inc v r.effect r.held (push (Took entry) (by_node take a)) valid (omega (arith, place)));
        rest = caused;
      }
