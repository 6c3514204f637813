-- The stable set of a history is that of its life.
use Rattle.std.proofs.Common.{◌≡◌, ◌↔◌, inl, inr, Bool, true, false, cond, ◌&&◌, ◌||◌, List, [], ◌∷◌, refl, ◌∙◌, sym, ap, subst}
use Rattle.std.specs.Prelude.{Option, Some, None, filter}
use Rattle.std.specs.List.{list_all}
use Rattle.std.proofs.lemmas.Bool.{false≢true}
use Rattle.gr_ids.specs.declared.names.Inc.{Inc}
use Rattle.gr_ids.specs.declared.names.Gtid.{Gtid}
use Rattle.gr_ids.specs.Names.{inc_eq}
use Rattle.gtid_sets.specs.Sets.{Gtids, has}
use Rattle.gtid_sets.specs.Canonical.{IsCanonical}
use Rattle.gtid_sets.proofs.LawLemmas.{all_meet}
use Rattle.gtid_sets.proofs.PartLemmas.{canonical_meet}
use Rattle.node_rules.specs.declared.seat.Seat.{Seat}
use Rattle.group_rules.specs.Names.{ToldSet}
use Rattle.group_rules.specs.Events.{Founds, Starts, Took, Restores, Enters, Life, Setup, Entry}
use Rattle.group_rules.specs.Life.{view}
use Rattle.group_rules.specs.View.{View, is_online_state, seated, online_incs}
use Rattle.group_rules.specs.Told.{told, told_of, told_after, tells, set_or_empty, stable_of, stable}
use Rattle.group_laws.specs.Lists.{Mem}
use Rattle.group_laws.specs.Entries as law
use Rattle.group_laws.specs.View as seen
use Rattle.group_laws.specs.Life as lives
use Rattle.node_rules.proofs.Incs.{inc_is, inc_same}
use Rattle.group_laws.proofs.CodeForms.{stable_over}
use Rattle.group_lives.specs.Given.{IsToldSet}
use Rattle.group_lives.specs.Lives.{life_of}
use Rattle.group_lives.specs.Sound.{IsTaking, HasToldSets, AddsNew}
use Rattle.group_lives.proofs.Taking.{views_agree}
use Rattle.group_lives.proofs.Numbers.{told_here, told_agrees}
use Rattle.group_lives.proofs.Standings.{up, stands}

-- ---- what these have in common

pub has_some : (o : Option Gtids) (g : Gtid) → has (set_or_empty o) g ≡ seen.has_in o g
has_some None g = refl
has_some (Some x) g = refl

canonical_some : (o : Option Gtids) → IsToldSet o → IsCanonical (set_or_empty o)
canonical_some None h = tt
canonical_some (Some x) h = h

-- all of these, and there is one, have told the GTID
abbrev common : (Inc → Option Gtids) → Gtid → List Inc → Bool
common f g [] = false
common f g (i ∷ is) = list_all (λ m. seen.has_in (f m) g) (i ∷ is)

and_true : (a : Bool) → a ≡ (a && true)
and_true true = refl
and_true false = refl

module _ (ts : List ToldSet) (sound : (m : Inc) → IsToldSet (told_of ts m)) where
  canonical_of : (is : List Inc) → IsCanonical (stable_of ts is)
  canonical_of [] = tt
  canonical_of (i ∷ []) = canonical_some (told_of ts i) (sound i)
  canonical_of (i ∷ j ∷ is) = canonical_meet (set_or_empty (told_of ts i)) (stable_of ts (j ∷ is)) (canonical_some (told_of ts i) (sound i)) (canonical_of (j ∷ is))

  has_common : (g : Gtid) (is : List Inc) → has (stable_of ts is) g ≡ common (told_of ts) g is
  has_common g [] = refl
  has_common g (i ∷ []) = has_some (told_of ts i) g ∙ and_true (seen.has_in (told_of ts i) g)
  has_common g (i ∷ j ∷ is) =
      all_meet (set_or_empty (told_of ts i)) (stable_of ts (j ∷ is)) g (canonical_some (told_of ts i) (sound i)) (canonical_of (j ∷ is))
      ∙ (λ k. has_some (told_of ts i) g k && has_common g (j ∷ is) k)

same_all : (f h : Inc → Option Gtids) (g : Gtid) (is : List Inc) → ((m : Inc) → Mem m is → f m ≡ h m) → list_all (λ m. seen.has_in (f m) g) is ≡ list_all (λ m. seen.has_in (h m) g) is
same_all f h g [] e = refl
same_all f h g (i ∷ is) e = λ k. seen.has_in (e i (inl refl) k) g && same_all f h g is (λ m x. e m (inr x)) k

same_common : (f h : Inc → Option Gtids) (g : Gtid) (is : List Inc) → ((m : Inc) → Mem m is → f m ≡ h m) → common f g is ≡ common h g is
same_common f h g [] e = refl
same_common f h g (i ∷ is) e = same_all f h g (i ∷ is) e

-- ---- those who are ONLINE

is_up : (ss : List Seat) (m : Inc) → Mem m (seated (filter (λ s. is_online_state s.state) ss)) → up ss m ≡ true
is_up [] m h = absurd h
is_up (s ∷ ss) m h = go (is_online_state s.state) refl h (is_up ss m)
  where
    right : (a : Bool) → (a || true) ≡ true
    right true = refl
    right false = refl

    go : (b : Bool) → is_online_state s.state ≡ b → Mem m (seated (cond b (s ∷ filter (λ s. is_online_state s.state) ss) (filter (λ s. is_online_state s.state) ss)))
        → (Mem m (seated (filter (λ s. is_online_state s.state) ss)) → up ss m ≡ true) → up (s ∷ ss) m ≡ true
    go true e (inl q) k = rw (e) (ap (λ (z : Inc). (inc_eq z m && true) || up ss m) q ∙ ap (λ (z : Bool). (z && true) || up ss m) (inc_same m))
    go true e (inr q) k = ap (λ (z : Bool). (inc_eq s.joiner.inc m && is_online_state s.state) || z) (k q) ∙ right (inc_eq s.joiner.inc m && is_online_state s.state)
    go false e q k = ap (λ (z : Bool). (inc_eq s.joiner.inc m && is_online_state s.state) || z) (k q) ∙ right (inc_eq s.joiner.inc m && is_online_state s.state)

pub is_there : (ss : List Seat) (m : Inc) → up ss m ≡ true → Mem m (seated (filter (λ s. is_online_state s.state) ss))
is_there [] m h = absurd (false≢true h)
is_there (s ∷ ss) m h = go (is_online_state s.state) (inc_eq s.joiner.inc m) refl refl h (is_there ss m)
  where
    go : (b a : Bool) → is_online_state s.state ≡ b → inc_eq s.joiner.inc m ≡ a → up (s ∷ ss) m ≡ true
        → (up ss m ≡ true → Mem m (seated (filter (λ s. is_online_state s.state) ss))) → Mem m (seated (filter (λ s. is_online_state s.state) (s ∷ ss)))
    go true true e q h k = rw e (inl (inc_is s.joiner.inc m q))
    go true false e q h k = rw e (inr (k ((λ i. (sym q i && is_online_state s.state) || up ss m) ∙ h)))
    go false true e q h k = rw e (k ((λ i. (sym q i && sym e i) || up ss m) ∙ h))
    go false false e q h k = rw e (k ((λ i. (sym q i && is_online_state s.state) || up ss m) ∙ h))

-- ---- the stable set

-- where a told set is put in among sound ones, they are sound
sound_here : (e : Entry) (o : Option Gtids) (ts : List ToldSet) (m : Inc) → IsToldSet o → IsToldSet (told_of ts m) → IsToldSet (told_of (told_after e o ts) m)
sound_here e o ts m ho ht = subst IsToldSet (sym (told_here e o ts m)) (go (inc_eq e.value.id.origin m) o ho)
  where
    go : (b : Bool) (o : Option Gtids) → IsToldSet o → IsToldSet (seen.first_some (cond b o None) (told_of ts m))
    go true (Some x) h = h
    go true None h = ht
    go false o h = ht

pub sound_sets : (s : Setup) (base : List law.Placed) (l : Life) (m : Inc) → IsTaking s base l → HasToldSets l → IsToldSet (told_of (told l) m)
sound_sets s base [] m h k = absurd h
sound_sets s base (Founds ∷ l) m h k = subst (λ (y : Life). IsToldSet (told_of (told y) m)) (sym h) tt
sound_sets s base (Took e ∷ l) m h k = sound_here e (tells e.holds) (told l) m k.0 (sound_sets s base l m h.1 k.1)
sound_sets s base (Restores g cs ∷ l) m h k = h.sound m
sound_sets s base (Enters w ∷ l) m h k = absurd h
sound_sets s base (Starts x ∷ l) m h k = absurd h
sound_sets s base (d ∷ l) m h k = sound_sets s base l m h k

over_online : (r : Setup) (p : List law.Value) (g : Gtid) (os : List Inc) → ((m : Inc) → Mem m os ↔ (seen.active r p m ≡ true)) → common (seen.told p) g os ≡ seen.stable r p g
over_online r p g [] h = sym (stable_over r p g [] h)
over_online r p g (i ∷ is) h = sym (stable_over r p g (i ∷ is) h)

pub stable_agrees : (s : Setup) (base : List law.Placed) (l : Life) (g : Gtid) → IsTaking s base l → HasToldSets l → AddsNew s (lives.taken (life_of base l))
    → has (stable s l) g ≡ seen.stable s (lives.taken (life_of base l)) g
stable_agrees s base l g h k a =
    let p = lives.taken (life_of base l) in
    let os = online_incs (view s l) in
    has_common (told l) (λ m. sound_sets s base l m h k) g os
    ∙ same_common (told_of (told l)) (seen.told p) g os (λ m i. told_agrees s base m l h (sym (online m) ∙ is_up (view s l).seats m i))
    ∙ over_online s p g os (λ m. (λ i. sym (online m) ∙ is_up (view s l).seats m i, λ e. is_there (view s l).seats m (online m ∙ e)))
  where
    online : (m : Inc) → up (view s l).seats m ≡ seen.active s (lives.taken (life_of base l)) m
    online m = ap (λ (v : View). up v.seats m) (sym (views_agree s base l h)) ∙ (stands s (lives.taken (life_of base l)) m a).1
