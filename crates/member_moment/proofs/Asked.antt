-- An ask, and its failure.
use Rattle.std.proofs.Common.{◌≡◌, Bool, true, false, Option, option_to_list, ◌∷◌, ◌++◌, arith, refl, sym, subst, ap, ◌∙◌}
use Rattle.std.specs.Prelude.{if◌then◌else◌, is_some}
use Rattle.std.proofs.lemmas.Bool.{and_parts}
use Rattle.std.proofs.lemmas.List.{append-nil}
use Rattle.gr_ids.specs.Names.{inc_eq}
use Rattle.gr_ids.specs.declared.names.Inc.{Inc}
use Rattle.name_forms.specs.Incs.{IsInc}
use Rattle.paxos_forms.specs.Messages.{IsMessage, IsWire}
use Rattle.paxos_forms.specs.declared.message.Wire.{Wire}
use Rattle.paxos_forms.specs.declared.message.Wire.TheVariants.{Ask as Asks}
use Rattle.paxos_forms.specs.declared.recovery.Ask.{Ask}
use Rattle.node_rules.specs.Node.{message}
use Rattle.donor_recovery.specs.Asking.{Asking}
use Rattle.group_rules.specs.declared.marks.Reply.TheVariants.{Asked}
use Rattle.group_rules.specs.Events.{AskFails, Did, Life, Replied, mark_of}
use Rattle.group_rules.specs.Life.{is_recovering, last_made, state}
use Rattle.group_rules.specs.Member.{Member, push, send}
use Rattle.group_rules.specs.Recovery.{ask_wire, is_ask_due, pending_ask, unless_self}
use Rattle.local_sessions.specs.Following.{touches}
use Rattle.member_truth.specs.Ranged.{IsRangedDid}
use Rattle.member_parts.specs.Standing.{is_of_parts}
use Rattle.member_parts.proofs.Passed.{passes as parts_pass}
use Rattle.member_own.specs.Keeping.{is_of_own}
use Rattle.member_own.proofs.Kept.{passes as own_passes}
use Rattle.member_joining.specs.Asking.{ask_in, asked, failed, may_ask, pending_in}
use Rattle.member_joining.specs.Joins.{JoinsBy}
use Rattle.member_joining.proofs.Joined.{asks, fails}
use Rattle.member_joining.proofs.Told.{due_told, wire_told}
use Rattle.member_ranges.specs.Ranges.{is_of_range}
use Rattle.member_ranges.proofs.Passed.{passed as said}
use Rattle.member_ranges.proofs.Sent.{ask_is}
use Rattle.member_tables.specs.Standing.{is_of_tables}
use Rattle.member_tables.proofs.Kept.{stands_on}
use Rattle.kept_server.specs.Keeping.{left_of}
use Rattle.kept_server.specs.Redoing.{LeadTo}
use Rattle.member_moment.specs.declared.moment.Moment.{Moment}
use Rattle.member_moment.specs.Standing.{Marked, Stands}
use Rattle.member_moment.specs.Doing.{DoesIf}
use Rattle.member_moment.proofs.Pushed.{marked}

-- nothing but a mark is kept of it, beside the joining
pub record IsOfAsks (d : Did) (a : Member) : Type 0 where
  pub parts : is_of_parts d ≡ false
  pub own : is_of_own d ≡ false
  pub range : is_of_range d ≡ false
  pub ranged : IsRangedDid d
  pub committed : left_of (d ∷ a.life) ≡ left_of a.life
  pub sessions : touches d ≡ false
  pub tables : is_of_tables d ≡ false
  pub made : last_made (d ∷ a.life) ≡ last_made a.life

-- the joining has it, and the marks
pub joins_on : (d : Did) (base : Life) (a : Member) (x y : Moment) → y ≡ record x { joining = y.joining; marks = y.marks } → y.marks.items ≡ x.marks.items ++ option_to_list (mark_of d)
    → JoinsBy (d ∷ a.life) y.joining → IsOfAsks d a → Stands base a x → Stands base (push d a) y
joins_on d base a x y e m j i st = let r = st.rest in subst (λ z. Stands base (push d a) z) (sym e) (record {
  rest = record {
    me = r.me;
    contact = r.contact;
    limits = r.limits;
    node = r.node;
    parts = parts_pass a.setup a.me.inc a.life d x.parts i.parts r.parts;
    own = own_passes a.me.inc a.life x.own d i.own r.own;
    joining = j;
    committed = subst (LeadTo (left_of base) x.committed.items) (sym i.committed) r.committed;
    marks = subst (Marked base (d ∷ a.life)) (sym m) (marked base a.life x.marks.items d r.marks);
    sent = r.sent;
    range = said d a i.range r.range;
    sent_range = r.sent_range;
    ranged = (i.ranged, r.ranged);
  };
  tables = stands_on a.setup a.me.inc a.life x.tables d i.sessions i.tables (omega (arith, i.made)) st.tables;
})

-- ---- the ask

is_due_both : (a : Member) (x : Option Asking) → JoinsBy a.life x → is_ask_due a ≡ true → (is_recovering (state a.life) ≡ true) × (may_ask x ≡ true)
is_due_both a x j h = and_parts (is_recovering (state a.life)) (may_ask x) (sym (due_told a x j) ∙ h)

module _ (base : Life) (a : Member) (x y : Moment) (donor : Inc) (e : y ≡ record x { joining = y.joining; marks = y.marks }) (due : is_ask_due a ≡ true) (st : Stands base a x) where
  pub replied : y.marks.items ≡ x.marks.items ++ option_to_list (mark_of (Replied (Asked donor))) → y.joining ≡ asked donor x.joining → Stands base (push (Replied (Asked donor)) a) y
  replied m j =
      joins_on (Replied (Asked donor)) base a x y e m
      (subst (λ z. JoinsBy (Replied (Asked donor) ∷ a.life) z) (sym j) (asks a.life donor x.joining st.rest.joining (is_due_both a x.joining st.rest.joining due).1))
      (record { parts = refl; own = refl; range = refl; ranged = tt; committed = refl; sessions = refl; tables = refl; made = refl }) st

  -- it can be spelt
  pub ask_spelt : (ask : Ask) → ask ≡ ask_in x.joining → IsInc donor → (Asks ask ≡ ask_wire a) × IsMessage (message a.node donor (Asks ask))
  ask_spelt ask k i =
      let both = is_due_both a x.joining st.rest.joining due in
      let w : Asks ask ≡ ask_wire a = ap (λ z. Asks z) k ∙ wire_told a x.joining st.rest.joining both.1 in
      (w, record { from = st.rest.range.node.me; to = i; wire = subst (λ z. IsWire z) (sym w) (ask_is a st.rest.range both.0 st.tables.tables.canonical) })

-- it is sent, or the incarnation is named itself
pub unless_it : (d : Inc) (w : Wire) (b : Member) (t : Bool) → inc_eq d b.me.inc ≡ t → unless_self d w b ≡ elim t [ true ↦ b | false ↦ send d w b ]
unless_it d w b t e = ap (λ z. elim z [ true ↦ b | false ↦ send d w b ]) e

-- ---- its failure

pub fails_once : (x y : Moment) → y ≡ record x { joining = y.joining } → y.joining ≡ (if is_some (pending_in x.joining) then failed x.joining else x.joining) → DoesIf (λ a. is_some (pending_ask a.life) ≡ true) (push AskFails) x y
fails_once x y e j base a h p st =
    let q : is_some (pending_in x.joining) ≡ true = ap is_some st.rest.joining.pending ∙ h in
    let k : y.joining ≡ failed x.joining = j ∙ ap (λ b. if b then failed x.joining else x.joining) q in
    joins_on AskFails base a x y (e ∙ ap (λ (ms : _). record x { joining = y.joining; marks = ms }) (sym (ap (λ (z : Moment). z.marks) e))) (ap (λ (z : Moment). z.marks.items) e ∙ sym (append-nil x.marks.items))
    (subst (λ z. JoinsBy (AskFails ∷ a.life) z) (sym k) (fails a.life x.joining st.rest.joining h))
    (record { parts = refl; own = refl; range = refl; ranged = tt; committed = refl; sessions = refl; tables = refl; made = refl }) st
