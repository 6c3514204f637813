-- What the list has made stands for the history with one entry more.
use Rattle.std.proofs.Common.{◌≡◌, ℕ, suc, Bool, true, false, not, Option, Some, None, List, [], ◌∷◌, refl, sym, ap, ◌∙◌, subst}
use Rattle.std.specs.Prelude.{filter, if◌then◌else◌, IfSome}
use Rattle.byte_forms.specs.Lists.{IsChain}
use Rattle.gr_ids.specs.declared.names.Inc.{Inc}
use Rattle.gr_ids.specs.declared.names.OpenParts.{OpenParts}
use Rattle.gr_ids.specs.declared.limits.Limits.{Limits}
use Rattle.gr_ids.specs.Names.{inc_eq}
use Rattle.name_forms.specs.Incs.{IsInc}
use Rattle.name_forms.specs.OpenParts.{IsOpenAfter}
use Rattle.gtid_sets.specs.Sets.{has}
use Rattle.gtid_sets.specs.declared.told.ToldSet.{ToldSet}
use Rattle.key_items.specs.declared.item.KeptItem.{KeptItem}
use Rattle.slot_values.specs.declared.value.Value.{Value}
use Rattle.txn_forms.specs.declared.body.Body.{Body}
use Rattle.txn_forms.specs.declared.body.Body.TheVariants as body
use Rattle.txn_forms.specs.Parts.{after_part, is_open, parts_of}
use Rattle.txn_forms.proofs.OpenPlaces.{parts_of-with_parts}
use Rattle.group_rules.specs.declared.marks.Effect.{Effect}
use Rattle.group_rules.specs.declared.marks.Effect.TheVariants.{Positive}
use Rattle.group_rules.specs.View.{View}
use Rattle.group_rules.specs.Events.{AskFails, AsksCommit, Answered, Begun, Called, Came, Changed, Committed, Did, Done, Ends, Enters, Entry, Founds, Gave, Is, Life, Made, Replied, Restores, Setup, Skips, Starts, Took}
use Rattle.group_rules.specs.Life.{view, view_after}
use Rattle.group_rules.specs.Told.{stable, told}
use Rattle.group_rules.specs.Certifier.{Certifier, certified_by, certifier, forget, forget_stable, with_entry as with_entry_of}
use Rattle.group_rules.specs.Parts.{held, open_after, open_parts}
use Rattle.group_rules.specs.Taking.{effect_of, entry_of}
use Rattle.certifier.specs.Certifying.{Certifying, limits_of}
use Rattle.certifier.specs.Laws.{certifying}
use Rattle.list_state.specs.Listing.{Listed, certifier_after, effect_by, entry_by, entry_next, open_of, parts_after, told_with, with_entry}
use Rattle.list_state.specs.Following.{Follows, is_of_list}
use Rattle.node_rules.proofs.Incs.{inc_is}
use Rattle.list_state.proofs.Bodies.{held_ascends}

-- ---- the entry

effects_agree : (s : Setup) (l : Life) (o : Option OpenParts) (b : Bool) (v : Value) (y : Option Body) → effect_by (view s l) (certifying s l) o b v y ≡ effect_of s l b v o y
effects_agree s l o b v None = refl
effects_agree s l o b v (Some (body.Txn t)) = refl
effects_agree s l o b v (Some (body.Prepared g)) = refl
effects_agree s l o b v (Some body.Sync) = refl
effects_agree s l o b v (Some (body.Executed e)) = refl
effects_agree s l o b v (Some (body.Online e)) = refl
effects_agree s l o b v (Some (body.Mode m)) = refl
effects_agree s l o b v (Some (body.Primary i)) = refl
effects_agree s l o b v (Some (body.Part p)) = refl

pub entries_agree : (s : Setup) (l : Life) (x : Listed) (t : ℕ) (b : Bool) (v : Value) → Follows s l x → entry_next x t b v ≡ entry_of s l t (suc x.taken) b v
entries_agree s l x t b v f =
    let p = suc x.taken in
    let i = v.id.origin in
    ap (λ (w : View). entry_by w x.certifier (open_of x v) t p b v) f.view
    ∙ (ap (λ (c : Certifying). entry_by (view s l) c (open_of x v) t p b v) f.certifier
    ∙ (ap (λ (o : Option OpenParts). entry_by (view s l) (certifying s l) o t p b v) (f.parts i)
    ∙ ap (λ (e : Effect). record { slot = t; place = p; value = v; effect = e; holds = held (open_parts l i) v.what }) (effects_agree s l (open_parts l i) b v (held (open_parts l i) v.what))))

-- ---- the certifier

-- where no item is kept, there is nothing to forget
forgets : (s : Setup) (l : Life) (c : Certifier) (ks : List KeptItem) → c.items ≡ ks → forget (stable s l) c ≡ forget_stable s l c ks
forgets s l c [] e =
    let made : List KeptItem → Certifier = λ ks. record { blocks = c.blocks; last = c.last; items = ks } in
    ap (λ (ks : List KeptItem). made (filter (λ (k : KeptItem). not (has (stable s l) k.gtid)) ks)) e ∙ ap made (sym e)
forgets s l c (k ∷ ks) e = refl

-- of the limits the certifier reads the size of a block alone
same_limits : (a b : Limits) (p : ℕ) (m : Inc) (f : Effect) (y : Option Body) (c : Certifier) → a.block ≡ b.block → certified_by a p m f y c ≡ certified_by b p m f y c
same_limits a b p m (Positive g) (Some (body.Txn t)) c e = rw e refl
same_limits a b p m f y c e = refl

certifiers_agree : (s : Setup) (l : Life) (e : Entry) → certifier_after e (view s (Took e ∷ l)) (told (Took e ∷ l)) (certifying s l) ≡ certifying s (Took e ∷ l)
certifiers_agree s l e =
    let with : Certifier → Certifying = λ z. record { group = s.limits.group; block = s.limits.block; certified = z } in
    let c = with_entry_of s.limits e (certifier s l) in
    ap (λ (z : Certifier). with (forget (stable s (Took e ∷ l)) z)) (same_limits (limits_of (certifying s l)) s.limits e.place e.value.id.origin e.effect e.holds (certifier s l) refl)
    ∙ ap with (forgets s (Took e ∷ l) c c.items refl)

-- ---- the open parts

open_for : (o : Inc) (y : Option Body) (w : Option OpenParts) → IfSome (open_after o y w) (λ p. p.origin ≡ o)
open_for o (Some (body.Part x)) w = go (is_open w x) refl
  where
    go : (t : Bool) → is_open w x ≡ t → IfSome (after_part o w x) (λ p. p.origin ≡ o)
    go true e = rw (e, after_part) refl
    go false e = rw (e, after_part) tt
open_for o None w = tt
open_for o (Some (body.Txn t)) w = tt
open_for o (Some (body.Prepared g)) w = tt
open_for o (Some body.Sync) w = tt
open_for o (Some (body.Executed s)) w = tt
open_for o (Some (body.Online s)) w = tt
open_for o (Some (body.Mode m)) w = tt
open_for o (Some (body.Primary i)) w = tt

parts_agree : (l : Life) (ps : List OpenParts) (e : Entry) (q : Inc) → IsChain IsOpenAfter None ps → ((o : Inc) → parts_of ps o ≡ open_parts l o) → parts_of (parts_after e ps) q ≡ open_parts (Took e ∷ l) q
parts_agree l ps e q h f = go (inc_eq i q) refl
  where
    i : Inc
    i = e.value.id.origin

    put : parts_of (parts_after e ps) q ≡ (if inc_eq e.value.id.origin q then open_after e.value.id.origin e.holds (parts_of ps e.value.id.origin) else parts_of ps q)
    put = parts_of-with_parts ps None e.value.id.origin q (open_after e.value.id.origin e.holds (parts_of ps e.value.id.origin)) h (open_for e.value.id.origin e.holds (parts_of ps e.value.id.origin))

    go : (t : Bool) → inc_eq e.value.id.origin q ≡ t → parts_of (parts_after e ps) q ≡ open_parts (Took e ∷ l) q
    go true d =
        let same : e.value.id.origin ≡ q = inc_is e.value.id.origin q d in
        let here : open_after e.value.id.origin e.holds (parts_of ps e.value.id.origin) ≡ open_after q e.holds (open_parts l q) = ap (λ (o : Inc). open_after o e.holds (parts_of ps o)) same ∙ ap (open_after q e.holds) (f q) in
        put ∙ rw (d, open_parts) here
    go false d = put ∙ rw (d, open_parts) (f q)

-- ---- the whole

pub took : (s : Setup) (l : Life) (x : Listed) (t : ℕ) (b : Bool) (v : Value) → Follows s l x → IsInc v.id.origin → Follows s (Took (entry_of s l t (suc x.taken) b v) ∷ l) (with_entry (entry_next x t b v) x)
took s l x t b v f i = subst (λ (e : Entry). Follows s (Took e ∷ l) (with_entry (entry_next x t b v) x)) (entries_agree s l x t b v f) (made s l x (entry_next x t b v) f (held_ascends x.parts v.id.origin v.what f.ascend i))
  where
    made : (s : Setup) (l : Life) (x : Listed) (e : Entry) → Follows s l x → IsChain IsOpenAfter None (parts_after e x.parts) → Follows s (Took e ∷ l) (with_entry e x)
    made s l x e f a = record {
      limits = f.limits;
      taken = refl;
      view = ap (view_after e) f.view;
      told = ap (told_with e) f.told;
      certifier =
          ap (λ (w : View). certifier_after e (view_after e w) (told_with e x.told) x.certifier) f.view
          ∙ (ap (λ (ts : List ToldSet). certifier_after e (view_after e (view s l)) (told_with e ts) x.certifier) f.told
          ∙ (ap (certifier_after e (view_after e (view s l)) (told_with e (told l))) f.certifier ∙ certifiers_agree s l e));
      parts = λ q. parts_agree l x.parts e q f.ascend f.parts;
      ascend = a;
    }

-- ---- what else happens

pub passed : (s : Setup) (l : Life) (x : Listed) (d : Did) → is_of_list d ≡ false → Follows s l x → Follows s (d ∷ l) x
passed s l x Founds h f = cc
passed s l x (Starts x') h f = record { limits = f.limits; taken = f.taken; view = f.view; told = f.told; certifier = f.certifier; parts = f.parts; ascend = f.ascend }
passed s l x (Came e) h f = record { limits = f.limits; taken = f.taken; view = f.view; told = f.told; certifier = f.certifier; parts = f.parts; ascend = f.ascend }
passed s l x (Made v y) h f = record { limits = f.limits; taken = f.taken; view = f.view; told = f.told; certifier = f.certifier; parts = f.parts; ascend = f.ascend }
passed s l x (Took e) h f = cc
passed s l x (Skips t v) h f = record { limits = f.limits; taken = f.taken; view = f.view; told = f.told; certifier = f.certifier; parts = f.parts; ascend = f.ascend }
passed s l x (Done p) h f = record { limits = f.limits; taken = f.taken; view = f.view; told = f.told; certifier = f.certifier; parts = f.parts; ascend = f.ascend }
passed s l x (Committed g) h f = record { limits = f.limits; taken = f.taken; view = f.view; told = f.told; certifier = f.certifier; parts = f.parts; ascend = f.ascend }
passed s l x (Is m c) h f = record { limits = f.limits; taken = f.taken; view = f.view; told = f.told; certifier = f.certifier; parts = f.parts; ascend = f.ascend }
passed s l x (Gave p n) h f = record { limits = f.limits; taken = f.taken; view = f.view; told = f.told; certifier = f.certifier; parts = f.parts; ascend = f.ascend }
passed s l x (Answered n a) h f = record { limits = f.limits; taken = f.taken; view = f.view; told = f.told; certifier = f.certifier; parts = f.parts; ascend = f.ascend }
passed s l x (Begun n e y) h f = record { limits = f.limits; taken = f.taken; view = f.view; told = f.told; certifier = f.certifier; parts = f.parts; ascend = f.ascend }
passed s l x (Changed n c) h f = record { limits = f.limits; taken = f.taken; view = f.view; told = f.told; certifier = f.certifier; parts = f.parts; ascend = f.ascend }
passed s l x (Replied r) h f = record { limits = f.limits; taken = f.taken; view = f.view; told = f.told; certifier = f.certifier; parts = f.parts; ascend = f.ascend }
passed s l x (Called n v w) h f = record { limits = f.limits; taken = f.taken; view = f.view; told = f.told; certifier = f.certifier; parts = f.parts; ascend = f.ascend }
passed s l x (AsksCommit n i) h f = record { limits = f.limits; taken = f.taken; view = f.view; told = f.told; certifier = f.certifier; parts = f.parts; ascend = f.ascend }
passed s l x (Ends n) h f = record { limits = f.limits; taken = f.taken; view = f.view; told = f.told; certifier = f.certifier; parts = f.parts; ascend = f.ascend }
passed s l x (Enters w) h f = cc
passed s l x (Restores g cs) h f = cc
passed s l x AskFails h f = record { limits = f.limits; taken = f.taken; view = f.view; told = f.told; certifier = f.certifier; parts = f.parts; ascend = f.ascend }
