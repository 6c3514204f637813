-- Events of the node, and messages.
use Rattle.std.proofs.Common.{◌≡◌, ◌≤◌, false, length, List, [], ◌∷◌, ◌++◌, sym, subst, ap, ◌∙◌, inl, inr}
use Rattle.node_rules.specs.Lists.{In}
use Rattle.node_rules.specs.Node.{message}
use Rattle.node_rules.specs.Step.{node_step}
use Rattle.node_rules.specs.declared.event.PaxosEvent.{PaxosEvent}
use Rattle.paxos_forms.specs.Messages.{IsMessage}
use Rattle.paxos_forms.specs.declared.message.Message.{Message}
use Rattle.paxos_forms.specs.declared.message.Wire.{Wire}
use Rattle.gr_ids.specs.declared.names.Inc.{Inc}
use Rattle.group_rules.specs.Events.{Life}
use Rattle.group_rules.specs.Member.{Member, at_node, send}
use Rattle.slot_values.specs.Spelling.{last_u32}
use Rattle.paxos_ranges.specs.Ranges.{IsGiven}
use Rattle.member_ranges.specs.Hearing.{is_welcome}
use Rattle.member_ranges.specs.Ranges.{InRange}
use Rattle.member_tables.specs.Standing.{TablesFor, Stands as Tables}
use Rattle.member_moment.specs.declared.moment.Moment.{Moment}
use Rattle.member_moment.specs.Doing.{Does, DoesIf}
use Rattle.member_moment.specs.Standing.{AreMessages, RestFor, Stands}

-- each of both lists can be spelt
pub all_spelt : (xs ys : List Message) → AreMessages xs → AreMessages ys → AreMessages (xs ++ ys)
all_spelt [] ys p q m i = q m i
all_spelt (x ∷ xs) ys p q m (inl e) = p m (inl e)
all_spelt (x ∷ xs) ys p q m (inr i) = all_spelt xs ys (λ n j. p n (inr j)) q m i

pub one_spelt : (x : Message) → IsMessage x → AreMessages (x ∷ [])
one_spelt x h m (inl e) = subst IsMessage e h
one_spelt x h m (inr i) = elim i [ ]

-- the node does its event, and its messages are sent
pub node_rest : (e : PaxosEvent) (base : Life) (a : Member) (x y : Moment) → y ≡ record x { node = y.node; sent = y.sent } → y.node ≡ (node_step e x.node).node
    → y.sent.items ≡ x.sent.items ++ (node_step e x.node).sent → InRange (at_node e a) → AreMessages (node_step e a.node).sent → RestFor base a x → RestFor base (at_node e a) y
node_rest e base a x y same n s range spelt r = subst (λ z. RestFor base (at_node e a) z) (sym same) (record {
  me = r.me;
  contact = r.contact;
  limits = r.limits;
  node = n ∙ ap (λ z. (node_step e z).node) r.node;
  parts = r.parts;
  own = r.own;
  joining = r.joining;
  committed = r.committed;
  marks = r.marks;
  sent = s ∙ (ap (λ z. z ++ (node_step e x.node).sent) r.sent ∙ ap (λ z. a.sent ++ (node_step e z).sent) r.node);
  range = range;
  sent_range = all_spelt a.sent (node_step e a.node).sent r.sent_range spelt;
  ranged = r.ranged;
})

-- the same, with what is known of the node's step
pub at_rest : (e : PaxosEvent) (base : Life) (a : Member) (x y : Moment) → y ≡ record x { node = y.node; sent = y.sent } → y.node ≡ (node_step e x.node).node
    → {sent : List Message} → y.sent.items ≡ x.sent.items ++ sent → sent ≡ (node_step e x.node).sent → IsGiven e → is_welcome e ≡ false → length x.node.acceptor.votes ≤ last_u32
    → ((f : PaxosEvent) (b : Member) → is_welcome f ≡ false → IsGiven f → InRange b → InRange (at_node f b))
    → ((f : PaxosEvent) (b : Member) → IsGiven f → InRange b → length b.node.acceptor.votes ≤ last_u32 → (m : Message) → In m (node_step f b.node).sent → IsMessage m)
    → RestFor base a x → RestFor base (at_node e a) y
at_rest e base a x y same n s t given other votes stays spelt r =
    node_rest e base a x y same n (s ∙ ap (λ z. x.sent.items ++ z) t) (stays e a other given r.range) (spelt e a given r.range (subst (λ z. length z.acceptor.votes ≤ last_u32) r.node votes)) r

-- what leaves the tables, and the history
pub stands_at : (f : Member → Member) → ((a : Member) → (f a).setup ≡ a.setup) → ((a : Member) → (f a).me ≡ a.me) → ((a : Member) → (f a).life ≡ a.life) → (x y : Moment) → y.tables ≡ x.tables
    → ((base : Life) (a : Member) → RestFor base a x → RestFor base (f a) y) → Does f x y
stands_at f s m l x y t d = λ base a p st. record {
  rest = d base a st.rest;
  tables = subst (λ z. TablesFor (f a) z) (sym t) (subst (λ u. Tables u (f a).me.inc (f a).life x.tables) (sym (s a)) (subst (λ i. Tables a.setup i.inc (f a).life x.tables) (sym (m a)) (subst (λ k. Tables a.setup a.me.inc k x.tables) (sym (l a)) st.tables)));
}

-- one message more
pub sends_one : (i : Inc) (w : Wire) (x y : Moment) → y ≡ record x { sent = y.sent } → y.sent.items ≡ x.sent.items ++ message x.node i w ∷ []
    → ((ms : List Message) (b : Member) → InRange b → InRange (record b { sent = ms })) → DoesIf (λ a. IsMessage (message a.node i w)) (send i w) x y
sends_one i w x y same s keeps = λ base a h p st. let r = st.rest in subst (λ z. Stands base (send i w a) z) (sym same) (record {
  rest = record {
    me = r.me;
    contact = r.contact;
    limits = r.limits;
    node = r.node;
    parts = r.parts;
    own = r.own;
    joining = r.joining;
    committed = r.committed;
    marks = r.marks;
    sent = s ∙ (ap (λ z. z ++ message x.node i w ∷ []) r.sent ∙ ap (λ z. a.sent ++ message z i w ∷ []) r.node);
    range = keeps (a.sent ++ message a.node i w ∷ []) a r.range;
    sent_range = all_spelt a.sent (message a.node i w ∷ []) r.sent_range (one_spelt (message a.node i w) h);
    ranged = r.ranged;
  };
  tables = st.tables;
})
