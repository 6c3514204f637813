-- The fourth law of a legal run: an AFTER transaction that is answered Committed is complete, and later begins read it.
use Rattle.std.proofs.Common.{◌≡◌, inl, inr, ℕ, ◌<◌, true, Option, List, ◌∷◌, sym, ap, subst, ◌∙◌, length, arith}
use Rattle.gr_ids.specs.declared.names.Inc.{Inc}
use Rattle.gr_ids.specs.declared.levels.Level.{Level}
use Rattle.gtid_sets.specs.Sets.{Gtids, has}
use Rattle.node_rules.specs.Lists.{In}
use Rattle.group_rules.specs.declared.answers.Answer.TheVariants.{Committed as CommittedAs}
use Rattle.group_rules.specs.Events.{Committed, Answered, Setup, Cert}
use Rattle.group_rules.specs.Life.{state, is_up, view, taken, certs}
use Rattle.group_rules.specs.View.{is_seated}
use Rattle.group_rules.specs.Commit.{complete}
use Rattle.group_rules.specs.OneList.{listed}
use Rattle.group_rules.specs.Legal.{IsPast, BegunAt, AcknowledgedAt, taken_of, AfterLaw}
use Rattle.group_rules.specs.World.{Past, Does, life_in}
use Rattle.group_bridge.specs.Left.{is_settled, IsAcknowledged}
use Rattle.group_runs.specs.Runs.{AllDid, IsDone, ByRules}
use Rattle.group_order.specs.OneLog.{IsReady, LogOver}
use Rattle.group_order.proofs.Nexts.{past_self, past_of, done_at}
use Rattle.group_laws.specs.Entries as law
use Rattle.group_laws.specs.View as seen
use Rattle.group_laws.specs.Life as lives
use Rattle.group_laws.specs.Lawful.{upto, Complete}
use Rattle.group_laws.specs.World as run
use Rattle.group_laws.specs.Laws.{AfterKept}
use Rattle.group_laws.proofs.Acks as acks
use Rattle.group_lives.specs.Lives.{law_cert, run_of}
use Rattle.group_lives.proofs.Runs.{lives_agree}
use Rattle.group_lawful.proofs.States.{shape_of}
use Rattle.group_lawful.proofs.Marks.{past_tail}
use Rattle.group_lawful.proofs.Opens.{unready, ready_or}
use Rattle.group_lawful.proofs.Known.{certs_stay}
use Rattle.group_legal.specs.Bases.{list_of, base_in}
use Rattle.group_legal.specs.LawRun.{MomentOf, IsLawRun}
use Rattle.group_legal.proofs.Prefix.{past_is_upto}
use Rattle.group_legal.proofs.Points.{point, called_past, was_begun, has_read, certified_there, online_at, at_call}
use Rattle.group_legal.proofs.Completes.{PartOfList, first_part, seat_is, complete_there}

module _ (t : Setup) (w : Past) (one : LogOver t w) (done : AllDid (IsDone t) w) (r : IsLawRun t one.log w) where
  abbrev given : Inc → List law.Placed
  given = base_in t one.log w

  module _ (i : Inc) (p : Past) (c : Cert) (a : AcknowledgedAt (listed t one.log) w i p c) where
    at : IsPast p w
    at = past_of (Does i (Answered a.session (CommittedAs c.gtid)) ∷ p) p w a.answer (inr (past_self p))

    moment : MomentOf t one.log (given i) i (life_in p i)
    moment = r.moments p at i

    answered : ByRules t p i (Answered a.session (CommittedAs c.gtid))
    answered = done_at (IsDone t) w p i (Answered a.session (CommittedAs c.gtid)) done a.answer

    -- one that is acknowledged here is known here
    ready : IsReady t i (life_in p i)
    ready = elim (ready_or t i (given i) (life_in p i) (shape_of t i (given i) (life_in p i) moment.always answered.0.begun)) [
      | inl y ↦ y
      | inr e ↦ absurd (subst (In k.cert) (unready t i (given i) (life_in p i) e.0 e.1).0 here)
    ]
      where
        k : IsAcknowledged i (life_in p i) c.gtid
        k = answered.1.1

        here : In k.cert (certs (life_in p i))
        here = certs_stay t i (given i) (life_in p i) k.past k.cert (past_tail (Committed c.gtid) k.past (life_in p i) k.mark) moment.lived moment.always k.certified

    some : 0 < length (life_in p i)
    some = let b = answered.0.begun in omega (arith, b)

    -- the list that it had taken
    part : PartOfList t one.log (taken (life_in p i)) (taken_of (listed t one.log) i p)
    part = first_part t one.log (taken (life_in p i))

    had : lives.taken (run.life (run_of given p) i) ≡ law.values (list_of t part.before)
    had =
        ap lives.taken (lives_agree given p i)
        ∙ ap law.values
        (moment.judged ready some
        ∙ ap (λ n. upto n (list_of t one.log)) (sym (part.long (moment.within ready some)))
        ∙ sym (past_is_upto (list_of t part.before) (list_of t one.log) part.past))

    kept : AfterKept t (run_of given w) i (run_of given p) (law_cert c)
    kept = acks.after_law t (law.values (list_of t one.log)) (run_of given w) r.run i (run_of given p) (law_cert c) (record {
      mark = point given (Does i (Answered a.session (CommittedAs c.gtid)) ∷ p) w a.answer;
      cert = certified_there t w one done r c a.certified;
      after = a.after;
    })

    is_complete : complete t (taken_of (listed t one.log) i p) c ≡ true
    is_complete = ap (λ l. complete t l c) part.is_it ∙ complete_there t part.before c (subst (λ y. Complete t y (law_cert c)) had kept.complete)

    later : (m : Inc) (b d : Past) (v : Level) (set : Gtids) (sync : Option ℕ) → BegunAt w m b d v set sync → IsPast (Does i (Answered a.session (CommittedAs c.gtid)) ∷ p) d
        → is_up (state (life_in d m)) ≡ true → is_seated (view t (taken_of (listed t one.log) i p)) m ≡ true → has set c.gtid ≡ true
    later m b d v set sync h q up seat =
        has_read t w one done r m b d v set sync h c.gtid
        (kept.later m (run_of given b) (run_of given d) v (was_begun t w one done r m b d v set sync h) (point given (Does i (Answered a.session (CommittedAs c.gtid)) ∷ p) d q)
        (online_at t w one done r d (called_past t w one done r m b d v set sync h) m call.0 call.1 up) member)
      where
        call : (1 < length (life_in d m)) × (is_settled m (life_in d m) ≡ true)
        call = at_call t w one done r m b d v set sync h

        member : seen.member t (lives.taken (run.life (run_of given p) i)) m ≡ true
        member = ap (λ y. seen.member t y m) had ∙ sym (seat_is t part.before m) ∙ ap (λ l. is_seated (view t l) m) (sym part.is_it) ∙ seat

  pub after_law : AfterLaw t (listed t one.log) w
  after_law i p c a = (is_complete i p c a, later i p c a)
