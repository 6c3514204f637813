-- A proposal, step by step.
use Rattle.std.proofs.Common.{◌≡◌, ℕ, zero, suc, ◌≤◌, ◌^◌, Bool, true, false, List, [], ◌∷◌, Option, Some, None, refl, sym, ap, ◌∙◌, arith}
use Rattle.std.specs.Prelude.{option_map, is_some, nat_le, ◌&&◌, ◌||◌, ◌==◌}
use Rattle.std.proofs.lemmas.Bool.Decides.{nat_tests}
use Rattle.gr_ids.specs.declared.names.Inc.{Inc}
use Rattle.gr_ids.specs.declared.names.Ballot.{Ballot}
use Rattle.gr_ids.specs.Names.{ballot_eq}
use Rattle.slot_values.specs.declared.value.Value.{Value}
use Rattle.slot_values.specs.declared.value.Vote.{Vote}
use Rattle.slot_values.specs.Log.{Turns, majority}
use Rattle.node_rules.specs.Slots.{at_slot, put_slot}
use Rattle.node_rules.specs.Known.{config_by, config_here}
use Rattle.node_rules.specs.Learner.{Learner, is_decided}
use Rattle.node_rules.specs.Leader.{Leader, Choice, Proposal, best, choice, choice_at, choice_by, first_offer, free_slot, has_promise, keep_promise, may_propose, noop, proposing, reported_above}
use Rattle.node_rules.specs.Node.{Node, Effect, quiet, sends, also}
use Rattle.node_rules.specs.Proposing.{decided_above, hear_promise, offers, offers_out, propose_all, propose_one, propose_times}
use Rattle.paxos_leader.specs.Choosing.{with_choice}
use Rattle.paxos_node.specs.Leading.{choice_in, choosing, leads_at, offering, own_vote}
use Rattle.paxos_node.specs.Left.{casts}
use Rattle.paxos_node.proofs.Accepts.{put_found}

pub also_quiet : (n : Node) (f : Node → Effect) → also (quiet n) f ≡ f n
also_quiet n f = refl

pub none_chosen : (n : Node) → choice_in n.learner n.turns n.horizon n.leader ≡ None → propose_one n ≡ quiet n
unfolding propose_one
none_chosen n = start n.leader refl
  where
    start : (l : Option Leader) → n.leader ≡ l → choice_in n.learner n.turns n.horizon n.leader ≡ None → propose_one n ≡ quiet n
    start None e h = rw e refl
    start (Some l) e h =
        let none : choice (is_decided n.learner) (decided_above n.learner) n.turns l n.horizon n.learner.next ≡ None = (rw e at h) in
        rw (e, none) refl

abbrev pub voted : Leader → Choice → Vote
voted l c = record { slot = c.slot; ballot = l.ballot; value = c.value }

pub one_chosen : (n : Node) (l : Leader) (c : Choice) → n.leader ≡ Some l → choice_in n.learner n.turns n.horizon n.leader ≡ Some c → propose_one n ≡ casts (record n { leader = Some (proposing l c) }) (voted l c)
unfolding propose_one
one_chosen n l c e h =
    let some : choice (is_decided n.learner) (decided_above n.learner) n.turns l n.horizon n.learner.next ≡ Some c = (rw e at h) in
    rw (e, some) refl

pub own_is : (l : Leader) (c : Choice) → own_vote c.slot (Some (proposing l c)) ≡ Some (voted l c)
own_is l c =
    let p : Proposal = record { slot = c.slot; value = c.value; accepted = [] } in
    let found : at_slot (λ (x : Proposal). x.slot) (put_slot (λ (x : Proposal). x.slot) l.proposals (record { slot = c.slot; value = c.value; accepted = [] })) c.slot ≡ Some (record { slot = c.slot; value = c.value; accepted = [] }) = put_found (λ (x : Proposal). x.slot) l.proposals p in
    rw found refl

-- ---- no slot past the last one is proposed

by_slot : (u : Bool) (l : Leader) (t : ℕ) (b : Option Vote) (c : Choice) → choice_by u l t b ≡ Some c → c.slot ≡ t
by_slot u l t (Some x) c h = let k : Choice = record { slot = t; value = x.value; offers = l.offers } in let e : k ≡ c = cc in ap (λ (y : Choice). y.slot) (sym e)
by_slot true l t None c h = let k : Choice = record { slot = t; value = noop l.ballot.inc; offers = l.offers } in let e : k ≡ c = cc in ap (λ (y : Choice). y.slot) (sym e)
by_slot false l t None c h = first l.offers h
  where
    first : (vs : List Value) → first_offer t vs ≡ Some c → c.slot ≡ t
    first [] h = absurd cc
    first (v ∷ vs) h = let k : Choice = record { slot = t; value = v; offers = vs } in let e : k ≡ c = cc in ap (λ (y : Choice). y.slot) (sym e)

low_enough : (u w z : Bool) → ((u && w) && z) ≡ true → w ≡ true
low_enough true true z h = refl
low_enough true false z h = absurd cc
low_enough false w z h = absurd cc

pub choice_low : (d a : ℕ → Bool) (w : Option Turns) (l : Leader) (k s : ℕ) (c : Choice) → choice d a w l k s ≡ Some c → c.slot ≤ 2 ^ 42
choice_low d a w l k s c h = at_one (free_slot d l k s) h
  where
    at_one : (o : Option ℕ) → choice_at a w l o ≡ Some c → c.slot ≤ 2 ^ 42
    at_one None h = absurd cc
    at_one (Some t) h = go (may_propose w l t) refl
      where
        go : (m : Bool) → may_propose w l t ≡ m → c.slot ≤ 2 ^ 42
        go true q =
            let same : c.slot ≡ t = by_slot (reported_above l.promises t || a t) l t (best (config_here w t) l.promises t) c (rw q at h) in
            let low : nat_le t (2 ^ 42) ≡ true = low_enough (is_some (config_by w t)) (nat_le t (2 ^ 42)) ((l.ballot.round == 1) || majority (config_here w t) (has_promise l.promises)) q in
            grind (arith, nat_tests)
        go false q = absurd (let no : ◌≡◌ {A = Option Choice} None (Some c) = (rw q at h) in cc)

pub choice_in_low : (d : Learner) (w : Option Turns) (h : ℕ) (l : Option Leader) (c : Choice) → choice_in d w h l ≡ Some c → c.slot ≤ 2 ^ 42
choice_in_low d w h None c e = absurd cc
choice_in_low d w h (Some l) c e = choice_low (is_decided d) (decided_above d) w l h d.next c e

-- ---- what the code chose

none_slot : (o : Option Choice) → ◌≡◌ {A = Option ℕ} None (option_map (λ c. c.slot) o) → o ≡ None
none_slot None h = refl
none_slot (Some c) h = absurd cc

pub unchosen : (n : Node) → ◌≡◌ {A = Option ℕ} None (option_map (λ c. c.slot) (choice_in n.learner n.turns n.horizon n.leader)) → propose_one n ≡ quiet n
unchosen n h = none_chosen n (none_slot (choice_in n.learner n.turns n.horizon n.leader) h)

pub unchosen_leader : (d : Learner) (w : Option Turns) (h : ℕ) (l : Option Leader) → ◌≡◌ {A = Option ℕ} None (option_map (λ c. c.slot) (choice_in d w h l)) → choosing d w h l ≡ l
unchosen_leader d w h None e = refl
unchosen_leader d w h (Some l) e = let none : choice_in d w h (Some l) ≡ None = none_slot (choice_in d w h (Some l)) e in rw none refl

pub record Chosen (n : Node) (l : Option Leader) (v : Option Vote) : Type 0 where
  pub vote : Vote
  pub is : v ≡ Some vote
  pub one : propose_one n ≡ casts (record n { leader = l }) vote
  pub low : vote.slot ≤ 2 ^ 42

pub chosen_is : (n : Node) (l : Option Leader) (t : ℕ) (v : Option Vote) → Some t ≡ option_map (λ c. c.slot) (choice_in n.learner n.turns n.horizon n.leader) → l ≡ choosing n.learner n.turns n.horizon n.leader → v ≡ own_vote t l → Chosen n l v
chosen_is n l t v h k f = start n.leader refl
  where
    one : (x : Leader) (o : Option Choice) → n.leader ≡ Some x → choice_in n.learner n.turns n.horizon (Some x) ≡ o → Some t ≡ option_map (λ c. c.slot) o → l ≡ Some (with_choice x o) → Chosen n l v
    one x None e q s m = absurd cc
    one x (Some c) e q s m =
        let slot : t ≡ c.slot = cc in
        let here : choice_in n.learner n.turns n.horizon n.leader ≡ Some c = ap (choice_in n.learner n.turns n.horizon) e ∙ q in
        record {
          vote = voted x c;
          is = f ∙ ap (own_vote t) m ∙ ap (λ (k : ℕ). own_vote k (Some (proposing x c))) slot ∙ own_is x c;
          one = one_chosen n x c e here ∙ ap (λ (y : Option Leader). casts (record n { leader = y }) (voted x c)) (sym m);
          low = choice_in_low n.learner n.turns n.horizon n.leader c here;
        }

    start : (o : Option Leader) → n.leader ≡ o → Chosen n l v
    start None e = absurd (let no : ◌≡◌ {A = Option ℕ} (Some t) None = (rw e at h) in cc)
    start (Some x) e = one x (choice_in n.learner n.turns n.horizon (Some x)) e refl (h ∙ ap (λ (y : Option Leader). option_map (λ (c : Choice). c.slot) (choice_in n.learner n.turns n.horizon y)) e) (k ∙ ap (choosing n.learner n.turns n.horizon) e)

-- ---- again and again

pub times_quiet : (k : ℕ) (n : Node) → propose_one n ≡ quiet n → propose_times k n ≡ quiet n
times_quiet zero n h = refl
times_quiet (suc k) n h = rw (h, times_quiet k n h) refl

-- ---- promises and offers

pub promise_other : (i : Inc) (b : Ballot) (xs : List Vote) (n : Node) → leads_at b n.leader ≡ false → hear_promise i b xs n ≡ quiet n
unfolding hear_promise
promise_other i b xs n = start n.leader refl
  where
    start : (l : Option Leader) → n.leader ≡ l → leads_at b n.leader ≡ false → hear_promise i b xs n ≡ quiet n
    start None e h = rw e refl
    start (Some l) e h = let no : ballot_eq l.ballot b ≡ false = (rw e at h) in rw (e, no) refl

pub promise_kept : (i : Inc) (b : Ballot) (xs : List Vote) (n : Node) → leads_at b n.leader ≡ true → hear_promise i b xs n ≡ propose_all (record n { leader = option_map (λ l. keep_promise l i xs) n.leader })
unfolding hear_promise
promise_kept i b xs n = start n.leader refl
  where
    start : (l : Option Leader) → n.leader ≡ l → leads_at b n.leader ≡ true → hear_promise i b xs n ≡ propose_all (record n { leader = option_map (λ l. keep_promise l i xs) n.leader })
    start None e h = absurd (let no : false ≡ true = (rw e at h) in cc)
    start (Some l) e h = let yes : ballot_eq l.ballot b ≡ true = (rw e at h) in rw (e, yes) refl

abbrev pub offered_in : List Value → Node → Node
offered_in vs n = record n { leader = offering n.learner n.turns vs n.leader }

pub offers_led : (vs : List Value) (n : Node) → is_some n.leader ≡ true → offers vs n n.leader ≡ propose_all (offered_in vs n)
offers_led vs n = start n.leader refl
  where
    start : (l : Option Leader) → n.leader ≡ l → is_some n.leader ≡ true → offers vs n n.leader ≡ propose_all (offered_in vs n)
    start None e h = absurd (let no : false ≡ true = (rw e at h) in cc)
    start (Some l) e h = rw e refl

pub offers_sent : (vs : List Value) (n : Node) → is_some n.leader ≡ false → offers vs n n.leader ≡ sends n (offers_out n vs)
offers_sent vs n = start n.leader refl
  where
    start : (l : Option Leader) → n.leader ≡ l → is_some n.leader ≡ false → offers vs n n.leader ≡ sends n (offers_out n vs)
    start None e h = rw e refl
    start (Some l) e h = absurd (let no : true ≡ false = (rw e at h) in cc)
