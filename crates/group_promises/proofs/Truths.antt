-- Each history is true.
use Rattle.std.proofs.Common.{◌≡◌, inl, inr, ℕ, Bool, true, false, Some, List, [], ◌∷◌, refl, sym, ap, subst, ◌∙◌}
use Rattle.gr_ids.specs.Names.{bytes_eq, inc_eq}
use Rattle.gr_ids.specs.declared.names.Gtid.{Gtid}
use Rattle.gr_ids.specs.declared.names.Inc.{Inc}
use Rattle.gr_ids.specs.declared.levels.MemberState.TheVariants.{Online}
use Rattle.node_rules.specs.Lists.{In}
use Rattle.node_rules.proofs.Incs.{inc_is}
use Rattle.group_rules.specs.Events.{Did, Founds, Starts, Came, Made, Took, Skips, Done, Committed, Is, Gave, Answered, Begun, Changed, Replied, Called, AsksCommit, Ends, Enters, Restores, AskFails, Hears, Ticks, Works, Calls, Operates, Life, Setup}
use Rattle.group_rules.specs.Legal.{IsPast}
use Rattle.group_rules.specs.Rows.{known}
use Rattle.group_rules.specs.World.{Past, Does, Writes, Halts, Move, life_in, world_after}
use Rattle.group_runs.specs.Runs.{IsDone, IsSetup, EveryRun, stored_in}
use Rattle.group_runs.specs.Servers.{IsFounding, IsMove, IsWritten, OfServers, EveryRunOfServers}
use Rattle.group_order.specs.OneLog.{Follows, LogOver, EveryRunHasOne}
use Rattle.group_order.proofs.Nexts.{past_self, past_of, did_past}
use Rattle.group_legal.specs.OwnRanges.{MadeInRange, ReadBack}
use Rattle.group_legal.specs.Ranges.{HasSmallNumbers}
use Rattle.group_legal.proofs.Told.{Spelled}
use Rattle.group_legal.proofs.Takers.{GiveTells}
use Rattle.group_legal.proofs.Points.{did_here}
use Rattle.group_legal.proofs.Owners.{pasts_compare, founding_past, written_past}
use Rattle.group_legal.proofs.Knowing.{of_group}
use Rattle.group_legal.proofs.Runs.{VerdictsAgree}
use Rattle.member_truth.specs.Truth.{IsTrueDid, IsTrue, Rise}
use Rattle.group_promises.specs.Promises.{EveryHistoryIsTrue, IsApart, ServersCommitForTheGroup}
use Rattle.group_promises.proofs.Ran.{Ran}
use Rattle.group_promises.proofs.Ran as ran
use Rattle.group_promises.proofs.Entries.{true_entry}
use Rattle.group_promises.proofs.Commits.{in_order}
use Rattle.group_promises.proofs.Gives.{true_give}

-- ---- where its numbers and own values were within their ranges

module _ (t : Setup) (w : Past) (s : Ran t w) where
  true_did : (p : Past) (i : Inc) (d : Did) → IsPast (Does i d ∷ p) w → IsTrueDid t i d (life_in p i)
  true_did p i (Took e) m = true_entry t w s p i e m
  true_did p i (Committed g) m = in_order t w s p i g m
  true_did p i (Restores g cs) m = true_give t w s p i g cs m
  true_did p i Founds m = tt
  true_did p i (Starts y) m = tt
  true_did p i (Came (Hears n)) m = tt
  true_did p i (Came Ticks) m = tt
  true_did p i (Came (Works z y)) m = tt
  true_did p i (Came (Calls z y)) m = tt
  true_did p i (Came (Operates z)) m = tt
  true_did p i (Skips u v) m = tt
  true_did p i (Gave n j) m = tt
  true_did p i (Replied r) m = tt
  true_did p i AskFails m = tt
  true_did p i (Enters z) m = tt
  true_did p i (Done n) m = tt
  true_did p i (Begun u y z) m = tt
  true_did p i (Changed u z) m = tt
  true_did p i (Called u y z) m = tt
  true_did p i (AsksCommit u y) m = tt
  true_did p i (Ends u) m = tt
  true_did p i (Made u y) m = tt
  true_did p i (Answered u y) m = tt
  true_did p i (Is y z) m = tt

  true_to : (p : Past) → IsPast p w → (i : Inc) → IsTrue t i (life_in p i)
  true_to [] k i = tt
  true_to (Writes n y ∷ p) k i = true_to p (past_of (Writes n y ∷ p) p w k (inr (past_self p))) i
  true_to (Halts n ∷ p) k i = true_to p (past_of (Halts n ∷ p) p w k (inr (past_self p))) i
  true_to (Does j d ∷ p) k i = go (inc_eq j i) refl (true_to p (past_of (Does j d ∷ p) p w k (inr (past_self p))) i)
    where
      go : (b : Bool) → inc_eq j i ≡ b → IsTrue t i (life_in p i) → IsTrue t i (elim b [ true ↦ d ∷ life_in p i | false ↦ life_in p i ])
      go true e h =
          let m : IsPast (Does i d ∷ p) w = subst (λ y. IsPast (Does y d ∷ p) w) (inc_is j i e) k in
          (true_did p i d m, h, subst (λ l. Rise (known l)) (did_here p i d) (ran.known_rises t w s (Does i d ∷ p) m i))
      go false e h = h

  is_true : (i : Inc) → IsTrue t i (life_in w i)
  is_true = true_to w (past_self w)

-- ---- while it is founded

-- what happens then is true of any history, and makes nothing known
founds_true : (t : Setup) (i j : Inc) (d : Did) (p : Past) (l : Life) → IsFounding (Does j d ∷ p) → IsFounding p × IsTrueDid t i d l × (known (d ∷ l) ≡ known l)
founds_true t i j Founds p l f = (f, tt, refl)
founds_true t i j (Is Online c) p l f = (f, tt, refl)
founds_true t i j d p l f = absurd f

founding_true : (t : Setup) (p : Past) → IsFounding p → (i : Inc) → IsTrue t i (life_in p i) × Rise (known (life_in p i))
founding_true t [] f i = (tt, tt)
founding_true t (Writes n y ∷ p) f i = absurd f
founding_true t (Halts n ∷ p) f i = founding_true t p f i
founding_true t (Does j d ∷ p) f i = go (inc_eq j i) (founding_true t p here.0 i)
  where
    here : IsFounding p × IsTrueDid t i d (life_in p i) × (known (d ∷ life_in p i) ≡ known (life_in p i))
    here = founds_true t i j d p (life_in p i) f

    go : (b : Bool) → IsTrue t i (life_in p i) × Rise (known (life_in p i))
        → IsTrue t i (elim b [ true ↦ d ∷ life_in p i | false ↦ life_in p i ]) × Rise (known (elim b [ true ↦ d ∷ life_in p i | false ↦ life_in p i ]))
    go true h = let r = subst Rise (sym here.2) h.1 in ((here.1, h.0, r), r)
    go false h = h

-- ---- at each time of a run

-- what had happened by then is of the same log
over_past : (t : Setup) (w p : Past) → IsPast p w → LogOver t w → LogOver t p
over_past t w p k x = record {
  log = x.log;
  follows = did_past (Follows t x.log) w p x.follows k;
  reached = λ q h. x.reached q (past_of p q w k h);
  given = λ q i g cs h. x.given q i g cs (past_of p (Does i (Restores g cs) ∷ q) w k h);
  agrees = λ q h. x.agrees q (past_of p q w k h);
}

module _ (runs : EveryRun) (writes : EveryRunOfServers) (logs : EveryRunHasOne) (spelled : Spelled) (reads : ReadBack) (tells : (t : Setup) → GiveTells t) (verdicts : (t : Setup) → VerdictsAgree t)
    (ms : List Move) (t : Setup) (e : (world_after ms).setup ≡ Some t) (setup : IsSetup t) (moves : (m : Move) → In m ms → IsMove m) where
  abbrev w : Past
  w = (world_after ms).past

  abbrev servers : OfServers t w
  servers = writes ms t e setup moves

  module _ (p : Past) (k : IsPast p w) (small : HasSmallNumbers p) (ranges : MadeInRange p) where
    ran_to : IsPast servers.founded.past p → Ran t p
    ran_to h = record {
      setup = setup;
      over = over_past t w p k (logs ms t e setup).parts;
      done = did_past (IsDone t) w p (runs ms t e setup).done k;
      servers = record {
        founded = record { past = servers.founded.past; earlier = h; founding = servers.founded.founding; begun = servers.founded.begun };
        written = written_past (IsWritten t) w p k servers.written;
      };
      spelled = spelled;
      reads = reads;
      small = small;
      ranges = ranges;
      tells = tells t;
      verdicts = verdicts t;
    }

    true_at : (i : Inc) → IsTrue t i (life_in p i)
    true_at i = elim (pasts_compare p servers.founded.past w k servers.founded.earlier) [
      | inl h ↦ (founding_true t p (founding_past servers.founded.past p h servers.founded.founding) i).0
      | inr h ↦ is_true t p (ran_to h) i
    ]

  -- what a server committed is of the list, whose GTIDs have the group's UUID
  committed_apart : HasSmallNumbers w → MadeInRange w → (n : ℕ) (u : List ℕ) → bytes_eq u t.limits.group ≡ false → IsApart u (stored_in w n)
  committed_apart small ranges n u other c m =
      let r : Ran t w = ran_to w (past_self w) small ranges servers.founded.earlier in
      let y = (ran.knows t w r w (past_self w)).stocks n in
      let d = y.listed c m in
      let group : c.gtid.source ≡ t.limits.group = ap (λ (g : Gtid). g.source) d.2.gtid ∙ of_group t (ran.list_in t w r) d.0 d.1 in
      ap (λ v. bytes_eq u v) group ∙ other

pub every_history_true : EveryRun → EveryRunOfServers → EveryRunHasOne → Spelled → ReadBack → ((t : Setup) → GiveTells t) → ((t : Setup) → VerdictsAgree t) → EveryHistoryIsTrue
every_history_true runs writes logs spelled reads tells verdicts ms t e setup moves p k small ranges i = true_at runs writes logs spelled reads tells verdicts ms t e setup moves p k small ranges i

pub servers_commit : EveryRun → EveryRunOfServers → EveryRunHasOne → Spelled → ReadBack → ((t : Setup) → GiveTells t) → ((t : Setup) → VerdictsAgree t) → ServersCommitForTheGroup
servers_commit runs writes logs spelled reads tells verdicts ms t e setup moves = committed_apart runs writes logs spelled reads tells verdicts ms t e setup moves
