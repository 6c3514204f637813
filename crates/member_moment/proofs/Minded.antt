-- What the watch tells is what the rules read from the history.
use Rattle.std.proofs.Common.{◌≡◌, ◌+◌, ◌≤◌, ◌&&◌, ◌||◌, not, List, [], ◌∷◌, refl, sym, subst, ap, ◌∙◌}
use Rattle.std.specs.List.{list_any}
use Rattle.gr_ids.specs.Names.{has_inc, inc_eq}
use Rattle.gr_ids.specs.declared.limits.Limits.{Limits}
use Rattle.gr_ids.specs.declared.names.Inc.{Inc}
use Rattle.slot_values.specs.declared.value.Joiner.{Joiner}
use Rattle.slot_values.specs.declared.value.Value.{Value}
use Rattle.node_rules.specs.Node.{Node}
use Rattle.node_rules.specs.declared.seat.Seat.{Seat}
use Rattle.group_rules.specs.Events.{Life}
use Rattle.group_rules.specs.Life.{view}
use Rattle.group_rules.specs.Member.{Member}
use Rattle.group_rules.specs.Steps.{needs_leader, removes_inc}
use Rattle.group_rules.specs.View.{View, online_incs, seated}
use Rattle.group_rules.specs.Watch.{is_expel_due, leads_by_rank, suspects}
use Rattle.failure_events.specs.Watching.{Watching, last_count}
use Rattle.failure_events.proofs.Histories.{same_expulsions, same_lead, same_suspects}
use Rattle.member_moment.specs.declared.moment.Moment.{Moment}
use Rattle.member_moment.specs.Standing.{Stands}
use Rattle.member_moment.specs.Watching.{expels, leads, watch_of}

-- the same, of seats and of their incarnations
seats_has : (ss : List Seat) (i : Inc) → has_inc (seated ss) i ≡ list_any (λ (s : Seat). inc_eq s.joiner.inc i) ss
seats_has [] i = refl
seats_has (s ∷ ss) i = ap (λ b. inc_eq s.joiner.inc i || b) (seats_has ss i)

module _ (base : Life) (a : Member) (x : Moment) (st : Stands base a x) where
  lead_is : (is : List Inc) → leads_by_rank x.parts.watch.me x.parts.watch.watch is ≡ leads_by_rank a.me.inc (watch_of a) is
  lead_is is =
      let f = st.rest.parts.watch in
      ap (λ j. leads_by_rank j x.parts.watch.watch is) f.is_me ∙ (ap (λ w. leads_by_rank a.me.inc w is) f.watch ∙ same_lead a.me.inc (watch_of a) is)

  pub leads_so : (w : Watching) (is : List Inc) → w ≡ x.parts.watch → is ≡ online_incs x.parts.list.view → leads_by_rank w.me w.watch is ≡ leads a
  leads_so w is e k =
      ap (λ v. leads_by_rank v.me v.watch is) e ∙ (lead_is is ∙ ap (λ js. leads_by_rank a.me.inc (watch_of a) js) (k ∙ ap online_incs st.rest.parts.list.view))

  pub suspect_is : (i : Inc) → suspects x.parts.watch.me x.parts.watch.watch i ≡ suspects a.me.inc (watch_of a) i
  suspect_is i =
      let f = st.rest.parts.watch in
      ap (λ j. suspects j x.parts.watch.watch i) f.is_me ∙ (ap (λ w. suspects a.me.inc w i) f.watch ∙ same_suspects a.me.inc (watch_of a) i)

  expel_is : (i : Inc) → x.limits.expel + 5 ≤ last_count → is_expel_due x.parts.watch.limits.expel x.parts.watch.watch i ≡ is_expel_due a.setup.limits.expel (watch_of a) i
  expel_is i h =
      let f = st.rest.parts.watch in
      let h' : a.setup.limits.expel + 5 ≤ last_count = subst (λ (z : Limits). z.expel + 5 ≤ last_count) st.rest.limits h in
      ap (λ z. is_expel_due z.expel x.parts.watch.watch i) f.limits ∙ (ap (λ w. is_expel_due a.setup.limits.expel w i) f.watch ∙ same_expulsions a.setup.limits.expel (watch_of a) i h')

  pub expels_so : (w : Watching) (own : List Value) (i : Inc) → w ≡ x.parts.watch → own ≡ x.node.own → x.limits.expel + 5 ≤ last_count
      → (not (inc_eq i x.me.inc) && (is_expel_due w.limits.expel w.watch i && not (list_any (removes_inc i) own))) ≡ expels a i
  expels_so w own i e k h =
      ap (λ v. not (inc_eq i x.me.inc) && (is_expel_due v.limits.expel v.watch i && not (list_any (removes_inc i) own))) e
      ∙ (ap (λ b. not (inc_eq i x.me.inc) && (b && not (list_any (removes_inc i) own))) (expel_is i h)
      ∙ (ap (λ o. not (inc_eq i x.me.inc) && (is_expel_due a.setup.limits.expel (watch_of a) i && not (list_any (removes_inc i) o))) (k ∙ ap (λ (n : Node). n.own) st.rest.node)
      ∙ ap (λ (j : Joiner). not (inc_eq i j.inc) && (is_expel_due a.setup.limits.expel (watch_of a) i && not (list_any (removes_inc i) a.node.own))) st.rest.me))

  pub needs_so : (w : Watching) (ss : List Seat) (b : Inc) → w ≡ x.parts.watch → ss ≡ x.parts.list.view.seats → b ≡ x.node.acceptor.promise.inc
      → (not (inc_eq b x.me.inc) && (suspects w.me w.watch b || not (list_any (λ (s : Seat). inc_eq s.joiner.inc b) ss))) ≡ needs_leader (watch_of a) a.node.acceptor.promise.inc a
  needs_so w ss b e k p =
      ap (λ v. not (inc_eq b x.me.inc) && (suspects v.me v.watch b || not (list_any (λ (s : Seat). inc_eq s.joiner.inc b) ss))) e
      ∙ (ap (λ t. not (inc_eq b x.me.inc) && (t || not (list_any (λ (s : Seat). inc_eq s.joiner.inc b) ss))) (suspect_is b)
      ∙ (ap (λ zs. not (inc_eq b x.me.inc) && (suspects a.me.inc (watch_of a) b || not (list_any (λ (s : Seat). inc_eq s.joiner.inc b) zs))) (k ∙ ap (λ (v : View). v.seats) st.rest.parts.list.view)
      ∙ (ap (λ t. not (inc_eq b x.me.inc) && (suspects a.me.inc (watch_of a) b || not t)) (sym (seats_has (view a.setup a.life).seats b))
      ∙ (ap (λ (j : Joiner). not (inc_eq b j.inc) && (suspects a.me.inc (watch_of a) b || not (has_inc (seated (view a.setup a.life).seats) b))) st.rest.me
      ∙ ap (λ c. needs_leader (watch_of a) c a) (p ∙ ap (λ (n : Node). n.acceptor.promise.inc) st.rest.node)))))
