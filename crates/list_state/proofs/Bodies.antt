-- What is read as a body has the ranges of one; so a part that a place holds has those of a part.
use Rattle.std.proofs.Common.{◌≡◌, ℕ, Bool, true, false, ◌&&◌, ◌||◌, ◌==◌, arith, length, Option, Some, None, List, [], ◌∷◌, ◌++◌, refl, sym, ap, subst}
use Rattle.std.specs.Prelude.{nat_lt, is_some, not}
use Rattle.std.proofs.lemmas.Bool.Decides.{nat_tests}
use Rattle.byte_forms.specs.Lists.{IsChain}
use Rattle.byte_forms.specs.Reads.{Read, Got, Fault, at_end, go_on, value_of}
use Rattle.gr_ids.specs.declared.names.Inc.{Inc}
use Rattle.gr_ids.specs.declared.names.OpenParts.{OpenParts}
use Rattle.name_forms.specs.Incs.{IsInc}
use Rattle.name_forms.specs.OpenParts.{IsOpenAfter}
use Rattle.slot_values.specs.declared.value.What.{What}
use Rattle.slot_values.specs.declared.value.What.TheVariants.{Noop, Add, Remove, Body as Says}
use Rattle.txn_forms.specs.declared.body.Body.{Body}
use Rattle.txn_forms.specs.declared.body.Part.{Part}
use Rattle.txn_forms.specs.declared.body.Body.TheVariants as body
use Rattle.txn_forms.specs.Bodies.{IsBody, next_body, read_body}
use Rattle.txn_forms.specs.Parts.{after_part, becomes, bytes_before, goes_on, if_txn, is_large, is_last, is_open, joined, parts_of, whole_or_void, with_parts}
use Rattle.txn_forms.specs.declared.joined.Joined.TheVariants.{Open}
use Rattle.txn_forms.proofs.Joins.{after_ascends}
use Rattle.txn_forms.proofs.OpenPlaces.{chain_without}
use Rattle.txn_forms.proofs.BodyForms.{body_spelled}
use Rattle.group_rules.specs.Parts.{held, held_body, held_part, joined_or, open_after}
use Rattle.list_state.specs.declared.held.Held.TheVariants.{Part as PartHeld}
use Rattle.list_state.specs.Holding.{Shows}

read_whole : (r : Read Body) (b : Body) → value_of (go_on r at_end) ≡ Some b → r ≡ Got b []
read_whole (Got x []) b e = cc
read_whole (Got x (y ∷ ys)) b e = cc
read_whole (Fault n) b e = cc

pub body_read : (bytes : List ℕ) (b : Body) → read_body bytes ≡ Some b → IsBody b
body_read bytes b e = (body_spelled.spells bytes [] b (read_whole (next_body bytes) b e)).0

-- ---- the parts that are open after a part

last_is_not_open : (i c : ℕ) (g first : Bool) → ((i == c) && g) ≡ true → (nat_lt i c && (first || g)) ≡ false
last_is_not_open i c g first h = grind (arith, nat_tests)

ends_here : (o : Inc) (w : Option OpenParts) (x : Part) → is_open w x ≡ false → after_part o w x ≡ None
ends_here o w x h = rw (h, after_part) refl

-- the joined bytes of a last part spell a transaction, or the place holds the part alone
after_join : (o : Inc) (w : Option OpenParts) (x : Part) (y : Option Body) → is_open w x ≡ false → open_after o (joined_or (body.Part x) (if_txn y)) w ≡ after_part o w x
after_join o w x None h = refl
after_join o w x (Some (body.Txn t)) h = sym (ends_here o w x h)
after_join o w x (Some (body.Prepared g)) h = refl
after_join o w x (Some body.Sync) h = refl
after_join o w x (Some (body.Executed s)) h = refl
after_join o w x (Some (body.Online s)) h = refl
after_join o w x (Some (body.Mode m)) h = refl
after_join o w x (Some (body.Primary i)) h = refl
after_join o w x (Some (body.Part q)) h = refl

after_joined : (o : Inc) (w : Option OpenParts) (x : Part) (b : List ℕ) → is_open w x ≡ false → open_after o (joined_or (body.Part x) (joined b)) w ≡ after_part o w x
after_joined o w x b h = go (is_large (length b)) refl
  where
    go : (t : Bool) → is_large (length b) ≡ t → open_after o (joined_or (body.Part x) (joined b)) w ≡ after_part o w x
    go true e = rw (e, joined) (after_join o w x (read_body b) h)
    go false e = rw (e, joined) refl

pub open_after_held : (o : Inc) (w : Option OpenParts) (x : Part) → open_after o (held_part w x) w ≡ after_part o w x
open_after_held o w x = go (is_last w x) refl
  where
    go : (t : Bool) → is_last w x ≡ t → open_after o (held_part w x) w ≡ after_part o w x
    go true e = rw (e, held_part) (after_joined o w x (bytes_before w ++ x.bytes) (last_is_not_open x.index x.count (goes_on w x) (x.index == 1) e))
    go false e = rw (e, held_part) refl

-- ---- the open parts ascend by origin

body_ascends : (ps : List OpenParts) (o : Inc) (y : Option Body) → IsChain IsOpenAfter None ps → IsInc o → ((b : Body) → y ≡ Some b → IsBody b) → IsChain IsOpenAfter None (with_parts ps o (open_after o (held_body (parts_of ps o) y) (parts_of ps o)))
body_ascends ps o (Some (body.Part x)) h i f = subst (λ (w : Option OpenParts). IsChain IsOpenAfter None (with_parts ps o w)) (sym (open_after_held o (parts_of ps o) x)) (after_ascends ps o x h i (f (body.Part x) refl))
body_ascends ps o None h i f = chain_without ps None o h
body_ascends ps o (Some (body.Txn t)) h i f = chain_without ps None o h
body_ascends ps o (Some (body.Prepared g)) h i f = chain_without ps None o h
body_ascends ps o (Some body.Sync) h i f = chain_without ps None o h
body_ascends ps o (Some (body.Executed s)) h i f = chain_without ps None o h
body_ascends ps o (Some (body.Online s)) h i f = chain_without ps None o h
body_ascends ps o (Some (body.Mode m)) h i f = chain_without ps None o h
body_ascends ps o (Some (body.Primary j)) h i f = chain_without ps None o h

pub held_ascends : (ps : List OpenParts) (o : Inc) (w : What) → IsChain IsOpenAfter None ps → IsInc o → IsChain IsOpenAfter None (with_parts ps o (open_after o (held (parts_of ps o) w) (parts_of ps o)))
held_ascends ps o (Says b) h i = body_ascends ps o (read_body b) h i (body_read b)
held_ascends ps o Noop h i = chain_without ps None o h
held_ascends ps o (Add j) h i = chain_without ps None o h
held_ascends ps o (Remove j) h i = chain_without ps None o h

-- ---- a part that is open

whole_is_not_open : (b : List ℕ) → Open ≡ whole_or_void b → ⊥
whole_is_not_open b f = go (is_some (joined b)) refl
  where
    go : (t : Bool) → is_some (joined b) ≡ t → ⊥
    go true k = cc (rw (k, whole_or_void) at f)
    go false k = cc (rw (k, whole_or_void) at f)

no_join : (o : Option OpenParts) (x : Part) → is_open o x ≡ false → Open ≡ becomes o x → ⊥
no_join o x e f = go (is_last o x) refl
  where
    go : (s : Bool) → is_last o x ≡ s → ⊥
    go true g = whole_is_not_open (bytes_before o ++ x.bytes) (rw (e, g, becomes) at f)
    go false g = cc (rw (e, g, becomes) at f)

open_not_last : (i c : ℕ) (g first : Bool) → (nat_lt i c && (first || g)) ≡ true → ((i == c) && g) ≡ false
open_not_last i c g first h = grind (arith, nat_tests)

pub shows_open : (o : Option OpenParts) (x : Part) → Open ≡ becomes o x → Shows o (held_part o x) (PartHeld false)
shows_open o x h = go (is_open o x) refl
  where
    go : (t : Bool) → is_open o x ≡ t → Shows o (held_part o x) (PartHeld false)
    go true e = (x, rw (open_not_last x.index x.count (goes_on o x) (x.index == 1) e, held_part) refl, ap not (sym e))
    go false e = absurd (no_join o x e h)
