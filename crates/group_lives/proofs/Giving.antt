-- What a history gives tells of its list.
use Rattle.std.proofs.Common.{◌≡◌, ℕ, suc, Bool, true, false, cond, ◌||◌, List, [], ◌∷◌, length, refl, ◌∙◌, sym, ap, subst}
use Rattle.std.specs.Prelude.{Option, Some, None}
use Rattle.std.proofs.lemmas.Bool.{false≢true}
use Rattle.gr_ids.specs.declared.names.Inc.{Inc}
use Rattle.gr_ids.specs.Names.{inc_eq, has_inc}
use Rattle.gtid_sets.specs.Sets.{Gtids}
use Rattle.node_rules.specs.declared.seat.Seat.{Seat}
use Rattle.group_rules.specs.Names.{LastNumber, ToldSet}
use Rattle.group_rules.specs.Events.{Life, Setup, Cert}
use Rattle.group_rules.specs.Life.{view, taken}
use Rattle.group_rules.specs.View.{View, seated, online_incs}
use Rattle.group_rules.specs.Told.{told, told_of, sets_of}
use Rattle.group_rules.specs.Certifier.{certifier, last_of, numbers_of}
use Rattle.group_rules.specs.Recovery.{give_of}
use Rattle.group_laws.specs.Entries as law
use Rattle.group_laws.specs.View as seen
use Rattle.group_laws.specs.Verdict as decided
use Rattle.group_laws.specs.Life as lives
use Rattle.group_laws.specs.World.{IsKeptList}
use Rattle.node_rules.proofs.Incs.{inc_is, inc_same}
use Rattle.group_laws.proofs.Lists.{any_from}
use Rattle.group_lives.specs.Lives.{life_of}
use Rattle.group_lives.specs.Given.{IsHere, IsToldSet, GivenAs}
use Rattle.group_lives.specs.Sound.{IsTaking, HasToldSets, AddsNew}
use Rattle.group_lives.proofs.Taking.{places_agree, views_agree}
use Rattle.group_lives.proofs.Numbers.{same_numbers, told_agrees}
use Rattle.group_lives.proofs.Standings.{sat, up, stands}
use Rattle.group_lives.proofs.Stable.{sound_sets, is_there}
use Rattle.group_lives.proofs.Certified.{sorted_items, same_writers}

-- ---- those that are told

told_given : (ts : List ToldSet) (is : List Inc) (m : Inc) → told_of (sets_of ts is) m ≡ cond (has_inc is m) (told_of ts m) None
told_given ts [] m = refl
told_given ts (i ∷ is) m = go (told_of ts i) refl (inc_eq i m) refl (told_given ts is m)
  where
    none : (b : Bool) → ◌≡◌ {A = Option Gtids} (cond b None None) None
    none true = refl
    none false = refl

    go : (o : Option Gtids) → told_of ts i ≡ o → (b : Bool) → inc_eq i m ≡ b → told_of (sets_of ts is) m ≡ cond (has_inc is m) (told_of ts m) None
        → told_of (sets_of ts (i ∷ is)) m ≡ cond (has_inc (i ∷ is) m) (told_of ts m) None
    go None p true q t =
        let e : told_of ts m ≡ None = ap (told_of ts) (sym (inc_is i m q)) ∙ p in
        rw (p, q, sets_of) (t ∙ ap (λ (o : Option Gtids). cond (has_inc is m) o None) e ∙ none (has_inc is m) ∙ sym e)
    go None p false q t = rw (p, q, sets_of) t
    go (Some x) p true q t = rw (p, q, sets_of, told_of) (sym (ap (told_of ts) (sym (inc_is i m q)) ∙ p))
    go (Some x) p false q t = rw (p, q, sets_of, told_of) t

last_given : (xs : List LastNumber) (is : List Inc) (m : Inc) → last_of (numbers_of xs is) m ≡ cond (has_inc is m) (last_of xs m) None
last_given xs [] m = refl
last_given xs (i ∷ is) m = go (last_of xs i) refl (inc_eq i m) refl (last_given xs is m)
  where
    none : (b : Bool) → ◌≡◌ {A = Option ℕ} (cond b None None) None
    none true = refl
    none false = refl

    go : (o : Option ℕ) → last_of xs i ≡ o → (b : Bool) → inc_eq i m ≡ b → last_of (numbers_of xs is) m ≡ cond (has_inc is m) (last_of xs m) None
        → last_of (numbers_of xs (i ∷ is)) m ≡ cond (has_inc (i ∷ is) m) (last_of xs m) None
    go None p true q t =
        let e : last_of xs m ≡ None = ap (last_of xs) (sym (inc_is i m q)) ∙ p in
        rw (p, q, numbers_of) (t ∙ ap (λ (o : Option ℕ). cond (has_inc is m) o None) e ∙ none (has_inc is m) ∙ sym e)
    go None p false q t = rw (p, q, numbers_of) t
    go (Some x) p true q t = rw (p, q, numbers_of, last_of) (sym (ap (last_of xs) (sym (inc_is i m q)) ∙ p))
    go (Some x) p false q t = rw (p, q, numbers_of, last_of) t

-- ---- those that never were members wrote nothing

pub came_in : (m o : Inc) (b : law.Body) (x : seen.Standing) → seen.stands_after m o b x ≡ seen.Absent → x ≡ seen.Absent
came_in m o b x h = go b x h
  where
    kept : (t : Bool) (y z : seen.Standing) → cond t y z ≡ seen.Absent → (y ≡ seen.Absent → z ≡ seen.Absent) → z ≡ seen.Absent
    kept true y z e f = f e
    kept false y z e f = e

    onlined : (z : seen.Standing) → seen.on_online z ≡ seen.Absent → z ≡ seen.Absent
    onlined seen.Absent e = refl
    onlined seen.Recovering e = absurd (cc e)
    onlined seen.Active e = e
    onlined seen.Gone e = e

    joined : (z : seen.Standing) → seen.on_join z ≡ seen.Absent → z ≡ seen.Absent
    joined seen.Absent e = refl
    joined seen.Recovering e = e
    joined seen.Active e = e
    joined seen.Gone e = e

    left : (z : seen.Standing) → seen.on_leave z ≡ seen.Absent → z ≡ seen.Absent
    left seen.Absent e = refl
    left seen.Recovering e = absurd (cc e)
    left seen.Active e = absurd (cc e)
    left seen.Gone e = e

    go : (b : law.Body) (x : seen.Standing) → seen.stands_after m o b x ≡ seen.Absent → x ≡ seen.Absent
    go (law.Online t) x e = kept (inc_eq o m) (seen.on_online x) x e (onlined x)
    go (law.Joins j) x e = kept (inc_eq j.inc m) (seen.on_join x) x e (joined x)
    go (law.Leaves j) x e = kept (inc_eq j m) (seen.on_leave x) x e (left x)
    go (law.Write t) x e = e
    go (law.Executed t) x e = e
    go (law.Prepared t) x e = e
    go (law.Switches t) x e = e
    go (law.Appoints t) x e = e
    go law.Plain x e = e

one_stranger : (s : Setup) (n : ℕ) (o m : Inc) (id : ℕ) (b : law.Body) (u : law.Outcome) (cs : List law.Cert) → inc_eq o m ≡ false
    → decided.last_of m (law.cons_some (law.cert_parts s n o id b u) cs) ≡ decided.last_of m cs
one_stranger s n o m id (law.Write t) (law.Positive k) cs e = rw e refl
one_stranger s n o m id (law.Write t) (law.Conflict g) cs e = refl
one_stranger s n o m id (law.Write t) law.NoTxn cs e = refl
one_stranger s n o m id (law.Executed t) u cs e = refl
one_stranger s n o m id (law.Online t) u cs e = refl
one_stranger s n o m id (law.Joins t) u cs e = refl
one_stranger s n o m id (law.Leaves t) u cs e = refl
one_stranger s n o m id (law.Prepared t) u cs e = refl
one_stranger s n o m id (law.Switches t) u cs e = refl
one_stranger s n o m id (law.Appoints t) u cs e = refl
one_stranger s n o m id law.Plain u cs e = refl

strangers : (s : Setup) (ps : List law.Placed) (m : Inc) → IsKeptList s (law.values ps) → seen.standing s (law.values ps) m ≡ seen.Absent → decided.last_of m (law.certified s ps) ≡ None
strangers s [] m k a = refl
strangers s (e ∷ ps) m k a = go (inc_eq e.value.origin m) refl (came_in m e.value.origin e.value.body (seen.standing s (law.values ps) m) a) (strangers s ps m k.1)
  where
    go : (b : Bool) → inc_eq e.value.origin m ≡ b → seen.standing s (law.values ps) m ≡ seen.Absent
        → (seen.standing s (law.values ps) m ≡ seen.Absent → decided.last_of m (law.certified s ps) ≡ None) → decided.last_of m (law.certified s (e ∷ ps)) ≡ None
    go true q z f = absurd (false≢true (ap seen.is_in (sym z) ∙ ap (λ (i : Inc). seen.member s (law.values ps) i) (sym (inc_is e.value.origin m q)) ∙ k.0.1))
    go false q z f = one_stranger s (suc (length ps)) e.value.origin m e.value.number e.value.body e.outcome (law.certified s ps) q ∙ f z

-- ---- the Give

pub has_seated : (ss : List Seat) (m : Inc) → has_inc (seated ss) m ≡ sat ss m
has_seated [] m = refl
has_seated (x ∷ ss) m = ap (λ (b : Bool). inc_eq x.joiner.inc m || b) (has_seated ss m)

module _ (s : Setup) (base : List law.Placed) (l : Life) (h : IsTaking s base l) (k : HasToldSets l) (a : AddsNew s (lives.taken (life_of base l))) where
  abbrev list_given : List law.Value
  list_given = lives.taken (life_of base l)

  up_here : (m : Inc) → seen.active s list_given m ≡ true → up (view s l).seats m ≡ true
  up_here m t = ap (λ (v : View). up v.seats m) (sym (views_agree s base l h)) ∙ (stands s list_given m a).1 ∙ t

  sat_here : (m : Inc) → has_inc (seated (view s l).seats) m ≡ seen.is_in (seen.standing s list_given m)
  sat_here m = has_seated (view s l).seats m ∙ ap (λ (v : View). sat v.seats m) (sym (views_agree s base l h)) ∙ (stands s list_given m a).0

  told_gives : (m : Inc) → seen.active s list_given m ≡ true → told_of (sets_of (told l) (online_incs (view s l))) m ≡ seen.told list_given m
  told_gives m t =
      let i = is_there (view s l).seats m (up_here m t) in
      let b : has_inc (online_incs (view s l)) m ≡ true = any_from (λ x. inc_eq x m) (online_incs (view s l)) m i (inc_same m) in
      told_given (told l) (online_incs (view s l)) m ∙ ap (λ (b : Bool). cond b (told_of (told l) m) None) b ∙ told_agrees s base m l h t

  sound_gives : (m : Inc) → IsToldSet (told_of (sets_of (told l) (online_incs (view s l))) m)
  sound_gives m = subst IsToldSet (sym (told_given (told l) (online_incs (view s l)) m)) (go (has_inc (online_incs (view s l)) m))
    where
      go : (b : Bool) → IsToldSet (cond b (told_of (told l) m) None)
      go true = sound_sets s base l m h k
      go false = tt

  last_gives : IsKeptList s list_given → (m : Inc) → IsHere s list_given m
      → last_of (numbers_of (certifier s l).last (seated (view s l).seats)) m ≡ decided.number_in (decided.last_of m (law.certified s (lives.marked (life_of base l))))
  last_gives kept m here = last_given (certifier s l).last (seated (view s l).seats) m ∙ ap (λ (b : Bool). cond b (last_of (certifier s l).last m) None) (sat_here m) ∙ go (seen.standing s list_given m) refl
    where
      same : last_of (certifier s l).last m ≡ decided.number_in (decided.last_of m (law.certified s (lives.marked (life_of base l))))
      same = (same_numbers s m base l h).0 here

      go : (x : seen.Standing) → seen.standing s list_given m ≡ x → cond (seen.is_in x) (last_of (certifier s l).last m) None ≡ decided.number_in (decided.last_of m (law.certified s (lives.marked (life_of base l))))
      go seen.Absent e = sym (ap decided.number_in (strangers s (lives.marked (life_of base l)) m kept e))
      go seen.Recovering e = same
      go seen.Active e = same
      go seen.Gone e = absurd (here e)

  pub gives : IsKeptList s list_given → (cs : List Cert) (v : ℕ) (e : Gtids) → GivenAs s (lives.marked (life_of base l)) (give_of s l cs v e) (view s l) (taken l)
  gives kept cs v e = record {
    places = places_agree s base l h;
    view = views_agree s base l h;
    told = told_gives;
    sound = sound_gives;
    last = last_gives kept;
    blocks = (same_numbers s (record { server = 0; start = 0 }) base l h).1;
    sorted = sorted_items s base l h;
    writers = same_writers s base l h k a;
  }
