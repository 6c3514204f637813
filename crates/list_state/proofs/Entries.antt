-- What is held decides the effect, the view, what is certified and what is told.
use Rattle.std.proofs.Common.{◌≡◌, ℕ, suc, Bool, true, false, Option, Some, None, List, refl, sym, ap, ◌∙◌}
use Rattle.gr_ids.specs.declared.names.Gtid.{Gtid}
use Rattle.gr_ids.specs.declared.names.Inc.{Inc}
use Rattle.gr_ids.specs.declared.names.ValueId.{ValueId}
use Rattle.gr_ids.specs.declared.names.OpenParts.{OpenParts}
use Rattle.gr_ids.specs.declared.limits.Limits.{Limits}
use Rattle.gtid_sets.specs.declared.told.ToldSet.{ToldSet}
use Rattle.key_items.specs.declared.item.KeptItem.{KeptItem}
use Rattle.slot_values.specs.declared.value.Value.{Value}
use Rattle.slot_values.specs.declared.value.What.{What}
use Rattle.slot_values.specs.declared.value.What.TheVariants.{Noop, Add, Remove, Body as Says}
use Rattle.txn_forms.specs.declared.body.Body.{Body}
use Rattle.txn_forms.specs.declared.body.Body.TheVariants as body
use Rattle.txn_forms.specs.declared.body.Part.{Part}
use Rattle.group_rules.specs.declared.marks.Effect.{Effect}
use Rattle.group_rules.specs.declared.marks.Effect.TheVariants.{Plain, Void, Unread, Positive, Conflict}
use Rattle.group_rules.specs.View.{View, effect_in, next_view, online_incs, settled, void_if}
use Rattle.group_rules.specs.Life.{view_after}
use Rattle.group_rules.specs.Events.{Entry}
use Rattle.group_rules.specs.Told.{stable_of, tells, told_after}
use Rattle.group_rules.specs.Certifier.{Certifier, certified_by, verdict_by}
use Rattle.group_rules.specs.Parts.{held}
use Rattle.certifier.specs.Certifying.{Certifying, limits_of, without_stable}
use Rattle.list_state.specs.declared.held.Held.{Held}
use Rattle.list_state.specs.declared.held.Held.TheVariants.{Txn, Part as PartHeld, Other, Nothing}
use Rattle.list_state.specs.Holding.{IsEntered, IsNews, Shows, certified_held, effect_held, news_of, told_held}
use Rattle.list_state.specs.Listing.{Listed, certified, certifier_after, effect_by, entry_next, open_of, parts_after, told_with, with_entry}

-- ---- the effect

news_effect : (w : View) (c : Certifying) (o : Option OpenParts) (t : Bool) (v : Value) (b : Body) → IsNews b → effect_by w c o t v (Some b) ≡ effect_in w t v.what (Some b)
news_effect w c o t v (body.Txn x) h = absurd h
news_effect w c o t v (body.Prepared g) h = refl
news_effect w c o t v body.Sync h = refl
news_effect w c o t v (body.Executed s) h = refl
news_effect w c o t v (body.Online s) h = refl
news_effect w c o t v (body.Mode m) h = refl
news_effect w c o t v (body.Primary i) h = refl
news_effect w c o t v (body.Part p) h = absurd h

pub effect_is : (w : View) (c : Certifying) (o : Option OpenParts) (t : Bool) (v : Value) (y : Option Body) (h : Held) → Shows o y h → effect_held c v.id.origin h (effect_in w t v.what (news_of h)) ≡ effect_by w c o t v y
effect_is w c o t v y (Txn x b) s = sym (ap (effect_by w c o t v) s.0)
effect_is w c o t v y (PartHeld x) s = ap void_if s.2 ∙ sym (ap (effect_by w c o t v) s.1)
effect_is w c o t v y (Other b) s = sym (ap (effect_by w c o t v) s.0 ∙ news_effect w c o t v b s.1)
effect_is w c o t v y Nothing s = sym (ap (effect_by w c o t v) s)

-- ---- the view

-- a place without news leaves the members and the primary to the election alone
settles : (p : ℕ) (m : Inc) (t : Bool) (b : List ℕ) (w : View) → next_view p m (Says b) None (effect_in w t (Says b) None) w ≡ settled p w
settles p m t b w = refl

by_verdict : (p : ℕ) (m : Inc) (x : What) (y : Option Body) (g : Gtid) (k : Option KeptItem) (w : View) → settled p w ≡ next_view p m x y (verdict_by g k) w
by_verdict p m x y g None w = refl
by_verdict p m x y g (Some k) w = refl

by_part : (p : ℕ) (m : Inc) (b : List ℕ) (q : Part) (t : Bool) (w : View) → settled p w ≡ next_view p m (Says b) (Some (body.Part q)) (void_if t) w
by_part p m b q true w = refl
by_part p m b q false w = refl

none_held : {A : Type 0} (y : Option Body) (b : Body) → y ≡ None → y ≡ Some b → A
none_held y b e f = cc

abbrev pub value_of : ValueId → What → Value
value_of i x = record { id = i; what = x }

pub view_is : (p : ℕ) (i : ValueId) (x : What) (w : View) (c : Certifying) (o : Option OpenParts) (t : Bool) (y : Option Body) (h : Held) → Shows o y h → y ≡ held o x
    → next_view p i.origin x (news_of h) (effect_in w t x (news_of h)) w ≡ next_view p i.origin x y (effect_by w c o t (value_of i x) y) w
view_is p i (Says bs) w c o t y (Txn z b) s e = by_verdict p i.origin (Says bs) (Some (body.Txn z)) _ _ w ∙ sym (ap (λ (u : Option Body). next_view p i.origin (Says bs) u (effect_by w c o t (value_of i (Says bs)) u) w) s.0)
view_is p i Noop w c o t y (Txn z b) s e = none_held y (body.Txn z) e s.0
view_is p i (Add j) w c o t y (Txn z b) s e = none_held y (body.Txn z) e s.0
view_is p i (Remove j) w c o t y (Txn z b) s e = none_held y (body.Txn z) e s.0
view_is p i (Says bs) w c o t y (PartHeld z) s e = by_part p i.origin bs s.0 _ w ∙ sym (ap (λ (u : Option Body). next_view p i.origin (Says bs) u (effect_by w c o t (value_of i (Says bs)) u) w) s.1)
view_is p i Noop w c o t y (PartHeld z) s e = none_held y (body.Part s.0) e s.1
view_is p i (Add j) w c o t y (PartHeld z) s e = none_held y (body.Part s.0) e s.1
view_is p i (Remove j) w c o t y (PartHeld z) s e = none_held y (body.Part s.0) e s.1
view_is p i x w c o t y (Other b) s e =
    ap (λ (f : Effect). next_view p i.origin x (Some b) f w) (sym (news_effect w c o t (value_of i x) b s.1))
    ∙ sym (ap (λ (u : Option Body). next_view p i.origin x u (effect_by w c o t (value_of i x) u) w) s.0)
view_is p i x w c o t y Nothing s e = sym (ap (λ (u : Option Body). next_view p i.origin x u (effect_by w c o t (value_of i x) u) w) s)

-- ---- what is certified

nothing_certified : (x : Limits) (p : ℕ) (m : Inc) (f : Effect) (c : Certifier) → certified_by x p m f None c ≡ c
nothing_certified x p m (Positive g) c = refl
nothing_certified x p m (Conflict g) c = refl
nothing_certified x p m Plain c = refl
nothing_certified x p m Void c = refl
nothing_certified x p m Unread c = refl

part_certified : (x : Limits) (p : ℕ) (m : Inc) (f : Effect) (q : Part) (c : Certifier) → certified_by x p m f (Some (body.Part q)) c ≡ c
part_certified x p m (Positive g) q c = refl
part_certified x p m (Conflict g) q c = refl
part_certified x p m Plain q c = refl
part_certified x p m Void q c = refl
part_certified x p m Unread q c = refl

news_certified : (x : Limits) (p : ℕ) (m : Inc) (f : Effect) (b : Body) (c : Certifier) → IsNews b → certified_by x p m f (Some b) c ≡ c
news_certified x p m (Positive g) (body.Txn t) c h = absurd h
news_certified x p m (Positive g) (body.Prepared t) c h = refl
news_certified x p m (Positive g) body.Sync c h = refl
news_certified x p m (Positive g) (body.Executed t) c h = refl
news_certified x p m (Positive g) (body.Online t) c h = refl
news_certified x p m (Positive g) (body.Mode t) c h = refl
news_certified x p m (Positive g) (body.Primary t) c h = refl
news_certified x p m (Positive g) (body.Part t) c h = refl
news_certified x p m (Conflict g) b c h = refl
news_certified x p m Plain b c h = refl
news_certified x p m Void b c h = refl
news_certified x p m Unread b c h = refl

abbrev certified_as : Certifying → Certifier → Certifying
certified_as c z = record c { certified = z }

pub certified_is : (p : ℕ) (i : ValueId) (x : What) (w : View) (c : Certifying) (o : Option OpenParts) (t : Bool) (y : Option Body) (h : Held) → Shows o y h
    → certified_held p i.origin h c ≡ record c { certified = certified_by (limits_of c) p i.origin (effect_by w c o t (value_of i x) y) y c.certified }
certified_is p i x w c o t y (Txn z b) s = sym (ap (λ (u : Option Body). certified_as c (certified_by (limits_of c) p i.origin (effect_by w c o t (value_of i x) u) u c.certified)) s.0)
certified_is p i x w c o t y (PartHeld z) s =
    sym (ap (λ (u : Option Body). certified_as c (certified_by (limits_of c) p i.origin (effect_by w c o t (value_of i x) u) u c.certified)) s.1
    ∙ ap (certified_as c) (part_certified (limits_of c) p i.origin (effect_by w c o t (value_of i x) (Some (body.Part s.0))) s.0 c.certified))
certified_is p i x w c o t y (Other b) s =
    sym (ap (λ (u : Option Body). certified_as c (certified_by (limits_of c) p i.origin (effect_by w c o t (value_of i x) u) u c.certified)) s.0
    ∙ ap (certified_as c) (news_certified (limits_of c) p i.origin (effect_by w c o t (value_of i x) (Some b)) b c.certified s.1))
certified_is p i x w c o t y Nothing s =
    sym (ap (λ (u : Option Body). certified_as c (certified_by (limits_of c) p i.origin (effect_by w c o t (value_of i x) u) u c.certified)) s
    ∙ ap (certified_as c) (nothing_certified (limits_of c) p i.origin (effect_by w c o t (value_of i x) None) c.certified))

-- ---- what is told

news_told : (e : Entry) (b : Body) (ts : List ToldSet) → IsNews b → told_held e.value.id.origin (Other b) ts ≡ told_after e (tells (Some b)) ts
news_told e (body.Txn t) ts h = absurd h
news_told e (body.Prepared g) ts h = refl
news_told e body.Sync ts h = refl
news_told e (body.Executed s) ts h = refl
news_told e (body.Online s) ts h = refl
news_told e (body.Mode m) ts h = refl
news_told e (body.Primary i) ts h = refl
news_told e (body.Part p) ts h = absurd h

pub told_is : (o : Option OpenParts) (e : Entry) (h : Held) (ts : List ToldSet) → Shows o e.holds h → told_held e.value.id.origin h ts ≡ told_after e (tells e.holds) ts
told_is o e (Txn z b) ts s = sym (ap (λ (u : Option Body). told_after e (tells u) ts) s.0)
told_is o e (PartHeld z) ts s = sym (ap (λ (u : Option Body). told_after e (tells u) ts) s.1)
told_is o e (Other b) ts s = news_told e b ts s.1 ∙ sym (ap (λ (u : Option Body). told_after e (tells u) ts) s.0)
told_is o e Nothing ts s = sym (ap (λ (u : Option Body). told_after e (tells u) ts) s)

-- ---- the whole

abbrev listed : Limits → ℕ → View → List ToldSet → Certifying → List OpenParts → Listed
listed x p w ts c ps = record { limits = x; taken = p; view = w; told = ts; certifier = c; parts = ps }

pub made_is : (x : Listed) (v : Value) (t : ℕ) (b : Bool) (h : Held) (p : ℕ) (n : Option Body) (w : View) (ts : List ToldSet) (c d : Certifying) (ps : List OpenParts)
    → p ≡ suc x.taken → n ≡ news_of h → Shows (open_of x v) (held (open_of x v) v.what) h
    → w ≡ next_view p v.id.origin v.what n (effect_in x.view b v.what n) x.view
    → c ≡ certified_held p v.id.origin h x.certifier
    → ts ≡ told_held v.id.origin h x.told
    → d ≡ without_stable (stable_of ts (online_incs w)) c
    → ps ≡ parts_after (entry_next x t b v) x.parts
    → listed x.limits p w ts d ps ≡ with_entry (entry_next x t b v) x
made_is x v t b h p n w ts c d ps ph nh s wh ch th dh sh =
    let q = suc x.taken in
    let i = v.id in
    let o = open_of x v in
    let y = held o v.what in
    let e = entry_next x t b v in
    let seen : w ≡ view_after e x.view =
    wh ∙ (ap (λ (p : ℕ). next_view p i.origin v.what n (effect_in x.view b v.what n) x.view) ph
    ∙ (ap (λ (n : Option Body). next_view q i.origin v.what n (effect_in x.view b v.what n) x.view) nh ∙ view_is q i v.what x.view x.certifier o b y h s refl)) in
    let judged : c ≡ certified e x.certifier = ch ∙ (ap (λ (p : ℕ). certified_held p i.origin h x.certifier) ph ∙ certified_is q i v.what x.view x.certifier o b y h s) in
    let told : ts ≡ told_with e x.told = th ∙ told_is o e h x.told s in
    let left : d ≡ certifier_after e (view_after e x.view) (told_with e x.told) x.certifier =
    dh ∙ (ap (λ (ts : List ToldSet). without_stable (stable_of ts (online_incs w)) c) told
    ∙ (ap (λ (w : View). without_stable (stable_of (told_with e x.told) (online_incs w)) c) seen
    ∙ ap (without_stable (stable_of (told_with e x.told) (online_incs (view_after e x.view)))) judged)) in
    ap (λ (p : ℕ). listed x.limits p w ts d ps) ph
    ∙ (ap (λ (w : View). listed x.limits q w ts d ps) seen
    ∙ (ap (λ (ts : List ToldSet). listed x.limits q (view_after e x.view) ts d ps) told
    ∙ (ap (λ (d : Certifying). listed x.limits q (view_after e x.view) (told_with e x.told) d ps) left
    ∙ ap (listed x.limits q (view_after e x.view) (told_with e x.told) (certifier_after e (view_after e x.view) (told_with e x.told) x.certifier)) sh)))

pub entered_is : (x : Listed) (v : Value) (t : ℕ) (b : Bool) (h : Held) (p : ℕ) (n : Option Body) (seen f : Effect)
    → p ≡ suc x.taken → n ≡ news_of h → Shows (open_of x v) (held (open_of x v) v.what) h
    → seen ≡ effect_in x.view b v.what n → f ≡ effect_held x.certifier v.id.origin h seen
    → IsEntered (open_of x v) (entry_next x t b v) (record { place = p; effect = f; held = h })
entered_is x v t b h p n seen f ph nh s sh fh = record {
  place = ph;
  effect = fh ∙ (ap (effect_held x.certifier v.id.origin h) (sh ∙ ap (effect_in x.view b v.what) nh) ∙ effect_is x.view x.certifier (open_of x v) b v (held (open_of x v) v.what) h s);
  held = s;
}
