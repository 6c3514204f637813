-- A Give is taken up, if it is awaited and possible, and the joiner has nothing that the group hasn't.
use Rattle.std.proofs.Common.{◌≡◌, ℕ, Bool, true, false, ◌&&◌, Option, Some, List, [], ◌∷◌, ◌++◌, length, map, refl, sym, subst, ap, ◌∙◌}
use Rattle.std.specs.Prelude.{is_some, ◌==◌}
use Rattle.std.specs.List.{All}
use Rattle.std.proofs.lemmas.Bool.{and_parts, false≢true}
use Rattle.std.proofs.lemmas.List.Elements.{All-cons, All-nil}
use Rattle.byte_forms.specs.Lists.{IsChain}
use Rattle.gr_ids.specs.declared.names.Inc.{Inc}
use Rattle.gr_ids.specs.declared.levels.MemberState.{MemberState}
use Rattle.gr_ids.specs.declared.levels.MemberState.TheVariants.{Offline, Recovering, Online, Error}
use Rattle.gr_ids.specs.Names.{is_inc}
use Rattle.gtid_sets.specs.Sets.{Gtids, minus}
use Rattle.slot_values.specs.declared.value.Joiner.{Joiner}
use Rattle.paxos_forms.specs.Gives.{IsGivenAfter}
use Rattle.paxos_forms.specs.declared.recovery.Give.{Give}
use Rattle.paxos_forms.specs.declared.recovery.Given.{Given}
use Rattle.paxos_forms.specs.declared.welcome.Welcome.{Welcome}
use Rattle.apply_queue.specs.Works.{changes_of}
use Rattle.group_rules.specs.declared.marks.Cause.TheVariants.{Extra}
use Rattle.group_rules.specs.Events.{Cert, Gave, Life, Restores}
use Rattle.group_rules.specs.Life.{certs, entered, executed, has_give, is_error, is_recovering, state, stored, taken}
use Rattle.group_rules.specs.Member.{Member, fall, push}
use Rattle.group_rules.specs.Recovery.{add_place, certs_given, hear_give, is_awaited, is_possible, restore, take_give}
use Rattle.donor_recovery.specs.Asking.{begin_of}
use Rattle.donor_recovery.specs.Donating.{HasNumber}
use Rattle.donor_recovery.specs.declared.at_add.Begin.{Begin}
use Rattle.member_backlog.specs.Standing.{uncommitted_of}
use Rattle.member_joining.specs.Asking.{awaits_by, extra_in, given, pending_in, place_in}
use Rattle.member_joining.specs.Joins.{JoinsBy}
use Rattle.member_joining.specs.Reading.{cert_of_given, certs_read}
use Rattle.member_joining.proofs.Readings.{all_read}
use Rattle.member_joining.specs.declared.given_txn.GivenTxn.{GivenTxn}
use Rattle.member_joining.proofs.Joined.{restores}
use Rattle.member_joining.proofs.Told.{awaited, awaited_told, extra_told}
use Rattle.member_own.proofs.Kept.{passes as own_passes}
use Rattle.member_parts.specs.Joining.{IsBare, IsSpeltGiven}
use Rattle.member_parts.specs.Standing.{StandsFor}
use Rattle.member_ranges.specs.Ranges.{IsUntouched, IsWaiting}
use Rattle.member_ranges.proofs.Passed.{restored as in_range}
use Rattle.member_tables.specs.Standing.{TablesFor}
use Rattle.member_tables.proofs.Read.{restored as tables_restored}
use Rattle.member_truth.specs.Growing.{Grows}
use Rattle.member_truth.specs.Truth.{IsTrueGive}
use Rattle.member_truth.proofs.Grown.{falls, promised, pushes}
use Rattle.kept_server.specs.Keeping.{left_of}
use Rattle.kept_server.specs.Redoing.{LeadTo}
use Rattle.member_moment.specs.declared.moment.Moment.{Moment}
use Rattle.member_moment.specs.Doing.{Does, DoesIf, IsKept}
use Rattle.member_moment.specs.Joining.{Awaits, IsTakeable, Restored, takes_up, waiting_of}
use Rattle.member_moment.specs.Standing.{RestFor, Stands}
use Rattle.member_moment.proofs.Pushed.{unmarked}

-- ---- what is given

pub waits : (ts : List GivenTxn) → map waiting_of ts ≡ map uncommitted_of (map cert_of_given ts)
waits [] = refl
waits (t ∷ ts) = ap (λ us. waiting_of t ∷ us) (waits ts)

pub numbers : (p : ℕ) (gs : List Given) (b : Option Given) → IsChain (IsGivenAfter p) b gs → All HasNumber gs
numbers p [] b k = All-nil HasNumber
numbers p (g ∷ gs) b k = All-cons HasNumber g gs (k.0.gtid.number_above, k.0.gtid.number_below) (numbers p gs (Some g) k.1)

pub spelt : (ts : List GivenTxn) → All IsSpeltGiven (map {A = GivenTxn} (λ t. t.given) ts)
spelt [] = All-nil IsSpeltGiven
spelt (t ∷ ts) = All-cons IsSpeltGiven t.given (map {A = GivenTxn} (λ t. t.given) ts) (ap (λ o. is_some (changes_of o)) t.spelled) (spelt ts)

pub each_read : (gs : List Given) (ts : List GivenTxn) → Some (map cert_of_given ts) ≡ certs_read gs → (certs_given gs ≡ map cert_of_given ts) × (length (certs_given gs) ≡ length gs)
each_read gs ts e = let r = all_read gs (map cert_of_given ts) (sym e) in (sym r.0, r.1)

-- ---- it is taken up

well : (s : MemberState) → is_recovering s ≡ true → is_error s ≡ false
well Recovering h = refl
well Offline h = refl
well Online h = refl
well Error h = absurd (false≢true h)

module _ (g : Give) (base : Life) (a : Member) (x : Moment) (w : Awaits g a) (st : Stands base a x) where
  extra : minus (executed a.life) g.certified ≡ extra_in x.joining g
  extra = extra_told a.life g x.joining st.rest.joining w.pending

  without : has_give a.life ≡ false
  without = st.rest.joining.asks w.pending

  -- nothing was done since the Welcome
  waiting : (v : Welcome) × (entered a.life ≡ Some v) × IsWaiting (taken a.life) (state a.life) v × IsUntouched a.life
  waiting = let v = st.rest.range.welcomed w.recovering in let u = st.rest.range.waits without v.0 v.1 in (v.0, v.1, u.0, u.1)

  -- the last place taken is that of its Add
  pub stays_at_add : g.place ≡ x.parts.list.taken
  stays_at_add = w.place ∙ (ap add_place waiting.1 ∙ (sym waiting.2.place ∙ sym st.rest.parts.list.taken))

  -- ---- the joiner has transactions that the group hasn't

  falls_with : (s : Gtids) → minus (executed a.life) g.certified ≡ s → (s ≡ [] → ⊥) → takes_up g a ≡ fall (Extra s) a
  falls_with [] e n = absurd (n refl)
  falls_with (y ∷ ys) e n = ap (λ s. restore g (certs_given g.txns) s a) e

  pub falls_up : (s : Gtids) → s ≡ extra_in x.joining g → (s ≡ [] → ⊥) → takes_up g a ≡ fall (Extra s) a
  falls_up s e n = falls_with s (extra ∙ sym e) n

  -- ---- it has none

  module _ (none : extra_in x.joining g ≡ []) (p : IsKept (takes_up g a)) where
    abbrev cs : List Cert
    cs = certs_given g.txns

    same : takes_up g a ≡ push (Restores g cs) a
    same = ap (λ s. restore g (certs_given g.txns) s a) (extra ∙ none)

    true_give : IsTrueGive a.me.inc a.life cs
    true_give = (subst IsKept same p (Restores g cs ∷ a.life) ([], refl) (tt, st.rest.ranged)).0

    bare : IsBare a.life
    bare = record { well = well (state a.life) w.recovering; untaken = waiting.3.untaken; undone = waiting.3.undone }

    pub stands_restored : (ts : List GivenTxn) → IsTakeable x g ts → (b : Begin) → b ≡ begin_of g → (z : Moment) → z ≡ record x { parts = z.parts; joining = given x.joining }
        → Restored b ts x z → Stands base (takes_up g a) z
    stands_restored ts i b is z o r =
        let q = st.rest in
        let me : x.me.inc ≡ a.me.inc = ap (λ (j : Joiner). j.inc) q.me in
        let parts : StandsFor a.setup x.me.inc (Restores g (certs_given g.txns) ∷ a.life) z.parts =
        r a.setup a.life g i.give is i.certs i.each st.tables.tables.set (subst (λ (m : Inc). IsTrueGive m a.life (certs_given g.txns)) (sym me) true_give) bare
        (subst (λ (m : Inc). StandsFor a.setup m a.life x.parts) (sym me) q.parts) in
        let rest : RestFor base (push (Restores g (certs_given g.txns)) a) z = subst (λ (m : Moment). RestFor base (push (Restores g (certs_given g.txns)) a) m) (sym o) (record {
          me = q.me;
          contact = q.contact;
          limits = q.limits;
          node = q.node;
          parts = subst (λ (m : Inc). StandsFor a.setup m (Restores g (certs_given g.txns) ∷ a.life) z.parts) me parts;
          own = own_passes a.me.inc a.life x.own (Restores g (certs_given g.txns)) refl q.own;
          joining = restores a.life g (certs_given g.txns) x.joining q.joining w.recovering w.pending;
          committed =
              subst (LeadTo (left_of base) x.committed.items)
              (ap (λ cs. record (left_of a.life) { committed = (stored a.life).committed ++ cs }) (waiting.3.uncommitted (certs a.life) ∙ sym (waiting.3.uncommitted (certs (Restores g (certs_given g.txns) ∷ a.life)))))
              q.committed;
          marks = unmarked base a.life x.marks.items (Restores g (certs_given g.txns)) refl q.marks;
          sent = q.sent;
          range = in_range g (certs_given g.txns) a i.give w.place refl w.recovering without q.range;
          sent_range = q.sent_range;
          ranged = (tt, q.ranged);
        }) in
        subst (λ m. Stands base m z) (sym same) (record {
          rest = rest;
          tables = subst (λ t. TablesFor (push (Restores g (certs_given g.txns)) a) t) (sym (ap (λ (m : Moment). m.tables) o)) (tables_restored a x.tables g (certs_given g.txns) true_give waiting.3.undone st.tables);
        })

-- ---- it comes

-- the ask that is pending is for it
pub asked_for : (i : Inc) (g : Give) (a : Member) (x : Moment) → JoinsBy a.life x.joining → awaits_by (state a.life) i g.place x.joining ≡ true → Awaits g a
asked_for i g a x j h =
    let t = awaited (state a.life) i g.place x.joining h in
    let r = and_parts (is_recovering (state a.life)) (is_inc (pending_in x.joining) i)
    (and_parts (is_recovering (state a.life) && is_inc (pending_in x.joining) i) (g.place == place_in x.joining) h).0 in
    record { recovering = r.0; pending = ap is_some (sym j.pending) ∙ t.0; place = t.1 ∙ j.place }

-- it counts where it is awaited and possible
abbrev counts : Bool → Bool → Give → Member → Member
counts true true g a = takes_up g (push (Gave g.place (length g.txns)) a)
counts true false g a = a
counts false b g a = a

by_tests : (i : Inc) (g : Give) (a : Member) (b c : Bool) → is_awaited i g a ≡ b → is_possible a.setup g (certs_given g.txns) ≡ c → hear_give i g a ≡ counts b c g a
by_tests i g a true true p q = ap (λ z. elim z [ false ↦ a | true ↦ take_give g (certs_given g.txns) a ]) p
    ∙ ap (λ z. elim z [ false ↦ a | true ↦ takes_up g (push (Gave g.place (length g.txns)) a) ]) q
by_tests i g a true false p q = ap (λ z. elim z [ false ↦ a | true ↦ take_give g (certs_given g.txns) a ]) p
    ∙ ap (λ z. elim z [ false ↦ a | true ↦ takes_up g (push (Gave g.place (length g.txns)) a) ]) q
by_tests i g a false c p q = ap (λ z. elim z [ false ↦ a | true ↦ take_give g (certs_given g.txns) a ]) p

module _ (i : Inc) (g : Give) (base : Life) (a : Member) (x : Moment) (st : Stands base a x) where
  told : is_awaited i g a ≡ awaits_by (state a.life) i g.place x.joining
  told = awaited_told a i g x.joining st.rest.joining

  pub unawaited : awaits_by (state a.life) i g.place x.joining ≡ false → hear_give i g a ≡ a
  unawaited h = by_tests i g a false (is_possible a.setup g (certs_given g.txns)) (told ∙ h) refl

  pub impossible : is_possible a.setup g (certs_given g.txns) ≡ false → hear_give i g a ≡ a
  impossible h = by_state (is_awaited i g a) refl
    where
      by_state : (b : Bool) → is_awaited i g a ≡ b → hear_give i g a ≡ a
      by_state true p = by_tests i g a true false p h
      by_state false p = by_tests i g a false false p h

  grown : (s : Gtids) (b : Member) → Grows b (restore g (certs_given g.txns) s b)
  grown [] b = pushes (Restores g (certs_given g.txns)) b
  grown (y ∷ ys) b = falls (Extra (y ∷ ys)) b

  -- the marks have it, and then it is taken up
  pub possible : awaits_by (state a.life) i g.place x.joining ≡ true → is_possible a.setup g (certs_given g.txns) ≡ true → (y z : Moment)
      → Does (push (Gave g.place (length g.txns))) x y → DoesIf (Awaits g) (takes_up g) y z → IsKept (hear_give i g a) → Stands base (hear_give i g a) z
  possible h m y z first second p =
      let q : hear_give i g a ≡ takes_up g (push (Gave g.place (length g.txns)) a) = by_tests i g a true true (told ∙ h) m in
      let kept = subst IsKept q p in
      let w = asked_for i g a x st.rest.joining h in
      subst (λ b. Stands base b z) (sym q)
      (second base (push (Gave g.place (length g.txns)) a) (record { recovering = w.recovering; pending = w.pending; place = w.place }) kept
      (first base a (promised (grown (minus (executed a.life) g.certified) (push (Gave g.place (length g.txns)) a)) kept) st))
