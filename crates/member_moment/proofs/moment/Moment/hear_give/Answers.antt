-- A Give counts where it is awaited and possible.
use Rattle.std.proofs.Common.{◌≡◌, Bool, not, true, false, [], map, length, refl, sym, subst, ap, ◌∙◌}
use Rattle.std.specs.Prelude.{◌==◌, IfSome}
use Rattle.std.specs.Option.{option_map}
use Rattle.std.proofs.lemmas.Result.{on_ok_weaker}
use Rattle.std.proofs.lemmas.Bool.{and_parts, eq-eqb, eqb-true, false≢true}
use Rattle.gr_ids.specs.declared.levels.Mode.TheVariants.{Single}
use Rattle.group_rules.specs.Events.{Gave, Setup}
use Rattle.group_rules.specs.Member.{push}
use Rattle.group_rules.specs.Recovery.{certs_given}
use Rattle.member_joining.specs.Asking.{awaits_by}
use Rattle.member_joining.specs.Reading.{are_of_blocks, cert_of_given, certs_read}
use Rattle.member_joining.specs.declared.given_txn.GivenTxn.{GivenTxn}
use Rattle.member_joining.proofs.Readings.{unread}
use Rattle.member_joining.proofs.Told.{awaited}
use Rattle.member_moment.specs.Doing.{Does}
use Rattle.member_moment.specs.Joining.{IsTakeable}
use Rattle.member_moment.specs.Standing.{Stands}
use Rattle.member_moment.proofs.Restored.{asked_for, each_read, impossible, possible, stays_at_add, unawaited}
use Rattle.member_moment.proofs.moment.Moment.hear_give.Goals as goal

pub returns-then-not-awaits : goal.returns-then-not-awaits
returns-then-not-awaits c = λ base a p st. subst (λ b. Stands base b c.args.self.now)
    (sym (unawaited c.args.from c.args.give base a c.args.self.now st (ap (λ s. awaits_by s c.args.from c.args.give.place c.args.self.now.joining) (sym (c.state.ensures base a st)) ∙ (sym c.awaits.ensures ∙ c.if-not-awaits.true)))) st

pub returns-then-ne : goal.returns-then-ne
returns-then-ne c = λ base a p st.
    let h = ap (λ s. awaits_by s c.args.from c.args.give.place c.args.self.now.joining) (sym (c.state.ensures base a st)) ∙ (sym c.awaits.ensures ∙ c.if-not-awaits.false) in
    let same = stays_at_add c.args.give base a c.args.self.now (asked_for c.args.from c.args.give a c.args.self.now st.rest.joining h) st in
    let e = eq-eqb c.args.give.place c.taken.result (same ∙ sym (c.taken.ensures ∙ ap (λ l. l.taken) c.list.ensures)) in
    absurd (false≢true (sym (ap not e) ∙ (sym c.ne.ensures ∙ c.if-ne.true)))

pub returns-in_default : goal.returns-in_default
returns-in_default c = λ base a p st. subst (λ b. Stands base b c.args.self.now)
    (sym (impossible c.args.from c.args.give base a c.args.self.now st (unread a.setup c.args.give
    (ap certs_read (sym c.as_slice.ensures) ∙ (sym c.in_ok-txns.ensures.certs ∙ ap (option_map (λ txns. map cert_of_given txns.items)) c.in_default.is))))) st

pub returns-then-not-is_possible : goal.returns-then-not-is_possible
returns-then-not-is_possible c = λ base a p st.
    let r = each_read c.args.give.txns c.in-Some.txns.items (ap (option_map (λ txns. map cert_of_given txns.items)) (sym c.in-Some.is) ∙ (c.in_ok-txns.ensures.certs ∙ ap certs_read c.as_slice.ensures)) in
    subst (λ b. Stands base b c.args.self.now)
    (sym (impossible c.args.from c.args.give base a c.args.self.now st
    (sym (c.is_possible.ensures a.setup (certs_given c.args.give.txns) (ap (λ l. l.block) (sym (c.limits.ensures ∙ (ap (λ l. l.limits) c.list-2.ensures ∙ st.rest.parts.list.limits)))) (r.0 ∙ ap (map cert_of_given) (sym c.deref.ensures.value))) ∙ c.if-not-is_possible.true))) st

is_not : (b : Bool) → not b ≡ false → b ≡ true
is_not true h = refl
is_not false h = absurd (false≢true (sym h))

pub take_give-requires : goal.take_give-requires
take_give-requires c =
    let r = each_read c.args.give.txns c.in-Some.txns.items (ap (option_map (λ txns. map cert_of_given txns.items)) (sym c.in-Some.is) ∙ (c.in_ok-txns.ensures.certs ∙ ap certs_read c.as_slice.ensures)) in
    let t = awaited c.state.result c.args.from c.args.give.place c.args.self.now.joining (sym c.awaits.ensures ∙ c.if-not-awaits.false) in
    let s : Setup = record { limits = c.args.self.now.parts.list.limits; mode = Single; founders = [] } in
    let m = sym (c.is_possible.ensures s (certs_given c.args.give.txns) (ap (λ l. l.block) (sym (c.limits.ensures ∙ ap (λ l. l.limits) c.list-2.ensures))) (r.0 ∙ ap (map cert_of_given) (sym c.deref.ensures.value))) ∙ c.if-not-is_possible.false in
    subst (λ x. IsTakeable x c.args.give c.deref-2.result.now) (sym c.in_ok-gave.ensures.others) (subst (λ ts. IsTakeable (record c.args.self.now { marks = c.gave.new.self.marks }) c.args.give ts) (sym c.deref-2.ensures.value) (record {
      give = c.requires;
      pending = t.0;
      place = t.1;
      taken = eqb-true c.args.give.place c.taken.result (is_not (c.args.give.place == c.taken.result) (sym c.ne.ensures ∙ c.if-ne.false)) ∙ (c.taken.ensures ∙ ap (λ l. l.taken) c.list.ensures);
      blocks = (and_parts (length (certs_given c.args.give.txns) == length c.args.give.txns) (are_of_blocks c.args.self.now.parts.list.limits.block c.args.give) m).1;
      all = subst (λ o. IfSome o (λ txns. map {A = GivenTxn} (λ t. t.given) txns.items ≡ c.as_slice.result.now)) c.in-Some.is c.in_ok-txns.ensures.given ∙ c.as_slice.ensures;
      certs = r.0;
      each = r.1;
    }))

pub returns : goal.returns
returns c = on_ok_weaker c.take_give.result (λ second base a p st.
    let h = ap (λ s. awaits_by s c.args.from c.args.give.place c.args.self.now.joining) (sym (c.state.ensures base a st)) ∙ (sym c.awaits.ensures ∙ c.if-not-awaits.false) in
    let r = each_read c.args.give.txns c.in-Some.txns.items (ap (option_map (λ txns. map cert_of_given txns.items)) (sym c.in-Some.is) ∙ (c.in_ok-txns.ensures.certs ∙ ap certs_read c.as_slice.ensures)) in
    let m = sym (c.is_possible.ensures a.setup (certs_given c.args.give.txns) (ap (λ l. l.block) (sym (c.limits.ensures ∙ (ap (λ l. l.limits) c.list-2.ensures ∙ st.rest.parts.list.limits)))) (r.0 ∙ ap (map cert_of_given) (sym c.deref.ensures.value))) ∙ c.if-not-is_possible.false in
    let first : Does (push (Gave c.args.give.place (length c.args.give.txns))) c.args.self.now c.gave.new.self = subst (λ n. Does (push (Gave c.args.give.place n)) c.args.self.now c.gave.new.self) (ap length c.as_slice-2.ensures) c.in_ok-gave.ensures.does in
    possible c.args.from c.args.give base a c.args.self.now st h m c.gave.new.self c.take_give.new.self first second p) c.take_give.ensures
