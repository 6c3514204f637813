-- The offers of a leader: a map in order of arrival, seen as a list of values.
use Rattle.std.proofs.Common.{◌≡◌, ℕ, Bool, true, false, List, [], ◌∷◌, ◌++◌, refl, sym, ap, ◌∙◌}
use Rattle.std.specs.Prelude.{map, is_some, ◌&&◌, nat_le}
use Rattle.std.specs.Map.{lookup}
use Rattle.gr_ids.specs.declared.names.ValueId.{ValueId}
use Rattle.gr_ids.specs.Names.{id_eq}
use Rattle.slot_values.specs.declared.value.What.{What}
use Rattle.slot_values.specs.declared.value.Value.{Value}
use Rattle.gr_ids.specs.declared.names.Inc.{Inc}
use Rattle.node_rules.specs.Leader.{Leader, has_id, is_proposed, take_offer}
use Rattle.indexmap.specs.IndexMap.{insert_entry}
use Rattle.paxos_leader.specs.Parts.{offer_of}
use Rattle.node_rules.proofs.Incs.{inc_back}
use Rattle.paxos_leader.proofs.Ordered.{eqb_sym}

id_eq_sym : (x y : ValueId) → id_eq x y ≡ id_eq y x
id_eq_sym x y = λ k. inc_back x.origin y.origin k && eqb_sym x.number y.number k

pub offered : (es : List (ValueId × What)) (x : ValueId) → is_some (lookup (λ k. id_eq x k) es) ≡ has_id (map offer_of es) x
offered [] x = refl
offered (e ∷ es) x = go (id_eq x e.0) refl (offered es x)
  where
    go : (u : Bool) → id_eq x e.0 ≡ u → is_some (lookup (λ k. id_eq x k) es) ≡ has_id (map offer_of es) x → is_some (lookup (λ k. id_eq x k) (e ∷ es)) ≡ has_id (map offer_of (e ∷ es)) x
    go true p r = rw (id_eq_sym e.0 x, p) refl
    go false p r = rw (id_eq_sym e.0 x, p) r

-- an offer whose identity isn't there goes last
pub goes_last : (es : List (ValueId × What)) (x : ValueId) (w : What) → has_id (map offer_of es) x ≡ false → map offer_of (insert_entry id_eq es x w) ≡ map offer_of es ++ offer_of (x, w) ∷ []
goes_last [] x w h = refl
goes_last (e ∷ es) x w h = go (id_eq x e.0) refl (goes_last es x w)
  where
    go : (u : Bool) → id_eq x e.0 ≡ u → (has_id (map offer_of es) x ≡ false → map offer_of (insert_entry id_eq es x w) ≡ map offer_of es ++ offer_of (x, w) ∷ []) → map offer_of (insert_entry id_eq (e ∷ es) x w) ≡ map offer_of (e ∷ es) ++ offer_of (x, w) ∷ []
    go true p r = absurd (let there : has_id (map offer_of (e ∷ es)) x ≡ true = rw (id_eq_sym e.0 x, p) refl in let no : true ≡ false = sym there ∙ h in cc)
    go false p r =
        let rest : has_id (map offer_of es) x ≡ false = rw (id_eq_sym e.0 x, p) at h in
        rw p (ap (λ l. offer_of e ∷ l) (r rest))

pub takes : (d : ℕ → Bool) (last : Inc → ℕ) (l : Leader) (v : Value) → has_id l.offers v.id ≡ false → is_proposed d l v.id ≡ false → nat_le v.id.number (last v.id.origin) ≡ false → take_offer d last l v ≡ record l { offers = l.offers ++ v ∷ [] }
takes d last l v p q r = rw (p, q, r) refl
