-- A Welcome, a Give, and what is kept of an Add.
use Rattle.std.proofs.Common.{◌≡◌, ℕ, Bool, true, false, ◌&&◌, Option, Some, None, List, [], ◌∷◌, ◌++◌, map, refl, sym, ap, ◌∙◌}
use Rattle.std.specs.Prelude.{IsTrue, find}
use Rattle.gr_ids.specs.Names.{inc_eq}
use Rattle.byte_forms.specs.Lists.{IsChain}
use Rattle.gr_ids.specs.declared.names.Inc.{Inc}
use Rattle.gr_ids.specs.declared.names.LastNumber.{LastNumber}
use Rattle.gr_ids.specs.declared.names.OpenParts.{OpenParts}
use Rattle.gtid_sets.specs.declared.told.ToldSet.{ToldSet}
use Rattle.key_items.specs.declared.item.KeptItem.{KeptItem}
use Rattle.key_items.specs.Items.{ascend, item_lt}
use Rattle.txn_forms.specs.Parts.{parts_of}
use Rattle.paxos_forms.specs.Gives.{IsGive, IsKeptAfter, IsLastAfter, IsToldAfter}
use Rattle.paxos_forms.specs.declared.recovery.Give.{Give}
use Rattle.paxos_forms.specs.declared.welcome.Welcome.{Welcome}
use Rattle.group_rules.specs.View.{View, seated, online_incs}
use Rattle.group_rules.specs.Events.{Cert, Enters, Life, Restores, Setup}
use Rattle.group_rules.specs.Life.{view}
use Rattle.group_rules.specs.Told.{told, sets_of}
use Rattle.group_rules.specs.Certifier.{numbers_of}
use Rattle.group_rules.specs.Parts.{open_parts}
use Rattle.group_rules.specs.Recovery.{all_parts}
use Rattle.certifier.specs.Certifying.{Certifying, ItemsAscend, item_of}
use Rattle.certifier.specs.Laws.{NumbersAscend, certifying}
use Rattle.certifier.proofs.NumberLists.{told_as_they_are}
use Rattle.stable_set.specs.Entries.{ToldAscend}
use Rattle.donor_recovery.specs.declared.at_add.AtAdd.{AtAdd}
use Rattle.donor_recovery.specs.Asking.{at_add}
use Rattle.donor_recovery.specs.Laws.{add_of}
use Rattle.list_state.specs.Following.{Follows}
use Rattle.list_state.specs.Joining.{add_here, parts_in, restored, welcomed}
use Rattle.list_state.specs.Listing.{Listed}

-- ---- lists of a Give that ascend

pub numbers_ascend : (before : Option LastNumber) (xs : List LastNumber) → IsChain IsLastAfter before xs → NumbersAscend xs
numbers_ascend before [] h = tt
numbers_ascend before (x ∷ []) h = tt
numbers_ascend before (x ∷ y ∷ ys) h = (h.1.0.inc.1, numbers_ascend (Some x) (y ∷ ys) h.1)

pub told_ascend : (before : Option ToldSet) (xs : List ToldSet) → IsChain IsToldAfter before xs → ToldAscend xs
told_ascend before [] h = tt
told_ascend before (x ∷ []) h = tt
told_ascend before (x ∷ y ∷ ys) h = (h.1.0.inc.1, told_ascend (Some x) (y ∷ ys) h.1)

both : (a b : Bool) → a ≡ true → IsTrue b → IsTrue (a && b)
both a b e h = rw e h

pub items_ascend : (place : ℕ) (before : Option KeptItem) (xs : List KeptItem) → IsChain (IsKeptAfter place) before xs → ItemsAscend xs
items_ascend place before [] h = refl
items_ascend place before (x ∷ []) h = refl
items_ascend place before (x ∷ y ∷ ys) h = both (item_lt x.item y.item) (ascend (map item_of (y ∷ ys))) h.1.0.item.1 (items_ascend place (Some x) (y ∷ ys) h.1)

-- ---- the histories

pub enters : (s : Setup) (l : Life) (x : Listed) (w : Welcome) → Follows s l x → Follows s (Enters w ∷ l) (welcomed w x)
enters s l x w f = record { limits = f.limits; taken = refl; view = refl; told = f.told; certifier = f.certifier; parts = f.parts; ascend = f.ascend }

pub restores : (s : Setup) (l : Life) (x : Listed) (g : Give) (cs : List Cert) → Follows s l x → IsGive g → Follows s (Restores g cs ∷ l) (restored (at_add g) x)
restores s l x g cs f h = record {
  limits = f.limits;
  taken = f.taken;
  view = f.view;
  told = refl;
  certifier =
      ap (λ (n : List LastNumber). record { group = x.limits.group; block = x.limits.block; certified = record { blocks = g.blocks; last = n; items = g.items } }) (told_as_they_are g.last (numbers_ascend None g.last h.last))
      ∙ (rw f.limits refl);
  parts = λ q. refl;
  ascend = h.parts;
}

-- ---- what is kept of an Add

same_parts : (l : Life) (ps : List OpenParts) (is : List Inc) → ((o : Inc) → parts_of ps o ≡ open_parts l o) → parts_in ps is ≡ all_parts l is
same_parts l ps [] f = refl
same_parts l ps (i ∷ is) f = go (open_parts l i) refl (same_parts l ps is f)
  where
    go : (o : Option OpenParts) → open_parts l i ≡ o → parts_in ps is ≡ all_parts l is → parts_in ps (i ∷ is) ≡ all_parts l (i ∷ is)
    go None e r = let p : parts_of ps i ≡ None = f i ∙ e in rw (e, p, parts_in, all_parts) r
    go (Some q) e r = let p : parts_of ps i ≡ Some q = f i ∙ e in rw (e, p, parts_in, all_parts) (ap (λ (r : List OpenParts). q ∷ r) r)

abbrev add_with : ℕ → View → Certifying → List ToldSet → List OpenParts → AtAdd
add_with v w c ts ps = record { place = v; blocks = c.certified.blocks; last = numbers_of c.certified.last (seated w.seats); items = c.certified.items; told = sets_of ts (online_incs w); parts = ps }

pub kept_of_add : (s : Setup) (l : Life) (x : Listed) → Follows s l x → add_here x ≡ add_of s l x.taken
kept_of_add s l x f =
    ap (λ (w : View). add_with x.taken w x.certifier x.told (parts_in x.parts (seated w.seats))) f.view
    ∙ (ap (λ (c : Certifying). add_with x.taken (view s l) c x.told (parts_in x.parts (seated (view s l).seats))) f.certifier
    ∙ (ap (λ (ts : List ToldSet). add_with x.taken (view s l) (certifying s l) ts (parts_in x.parts (seated (view s l).seats))) f.told
    ∙ ap (add_with x.taken (view s l) (certifying s l) (told l)) (same_parts l x.parts (seated (view s l).seats) f.parts)))

-- ---- the parts of several origins

found : (ps : List OpenParts) (i : Inc) → find (λ p. inc_eq p.origin i) ps ≡ parts_of ps i
found [] i = refl
found (p ∷ ps) i = go (inc_eq p.origin i) refl (found ps i)
  where
    go : (t : Bool) → inc_eq p.origin i ≡ t → find (λ p. inc_eq p.origin i) ps ≡ parts_of ps i → find (λ p. inc_eq p.origin i) (p ∷ ps) ≡ parts_of (p ∷ ps) i
    go true e r = rw (e, parts_of, find) refl
    go false e r = rw (e, parts_of, find) r

pub one_found : (ps : List OpenParts) (i : Inc) (q : OpenParts) → Some q ≡ find (λ p. inc_eq p.origin i) ps → parts_in ps (i ∷ []) ≡ q ∷ []
one_found ps i q e = let p : parts_of ps i ≡ Some q = sym (found ps i) ∙ sym e in rw (p, parts_in) refl

pub none_found : (ps : List OpenParts) (i : Inc) → None ≡ find (λ p. inc_eq p.origin i) ps → parts_in ps (i ∷ []) ≡ []
none_found ps i e = let p : parts_of ps i ≡ None = sym (found ps i) ∙ sym e in rw (p, parts_in) refl

pub one_more : (ps : List OpenParts) (i : Inc) (is : List Inc) → parts_in ps (i ∷ []) ++ parts_in ps is ≡ parts_in ps (i ∷ is)
one_more ps i is = go (parts_of ps i) refl
  where
    go : (o : Option OpenParts) → parts_of ps i ≡ o → parts_in ps (i ∷ []) ++ parts_in ps is ≡ parts_in ps (i ∷ is)
    go None e = rw (e, parts_in) refl
    go (Some q) e = rw (e, parts_in) refl
