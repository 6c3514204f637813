-- The keys of sessions, read from their map.
use Rattle.std.proofs.Math.Seq.{drop-cons}
use Rattle.std.proofs.lemmas.List.{drop_all}
use Rattle.std.proofs.Common.{◌≡◌, ℕ, suc, ◌+◌, ◌<◌, ◌≤◌, length, get_or, drop, Bool, true, false, cond, ◌&&◌, ◌||◌, Option, Some, None, List, [], ◌∷◌, ◌++◌, map, refl, sym, ap, subst, ◌∙◌, arith}
use Rattle.std.specs.Prelude.{if◌then◌else◌, ◌==◌}
use Rattle.std.specs.Ordering.{nat_cmp, is_eq}
use Rattle.std.specs.Map.{lookup}
use Rattle.std.specs.BTreeMap.{is_at}
use Rattle.std.specs.Global.{Vec}
use Rattle.std.specs.Cmp.{unsigned_ties}
use Rattle.std.proofs.lemmas.Bool.{eqb-true, eq-eqb, true≢false}
use Rattle.key_items.specs.declared.item.Item.{Item}
use Rattle.key_items.specs.Items.{item_eq, has_item}
use Rattle.key_items.proofs.Order.{Stands, Below, Same, Above, stands, item_cmp, item_eq_cmp, item_eq_same, item_eq_itself}
use Rattle.row_locks.specs.Locking.{session_at, locked_by, taken_over, without_session}
use Rattle.row_locks.specs.Inside.{key_of, is_in, lists, AreListed}

abbrev pub Entries : Type 0
Entries = List (Item × ℕ)

abbrev pub at : Entries → Item → Option ℕ
at es i = lookup (is_at (item_cmp i)) es

-- the session at a key, in a map with these entries
abbrev pub held : Entries → Item → Option ℕ
held es i = session_at (map key_of es) i

pub reads : (es : Entries) (i : Item) → held es i ≡ at es i
reads [] i = refl
reads (e ∷ es) i = go (is_eq (item_cmp i e.0)) refl (reads es i)
  where
    go : (b : Bool) → is_eq (item_cmp i e.0) ≡ b → held es i ≡ at es i → held (e ∷ es) i ≡ at (e ∷ es) i
    go true f r = let u : item_eq i e.0 ≡ true = item_eq_cmp i e.0 ∙ f in rw (u, f) refl
    go false f r = let u : item_eq i e.0 ≡ false = item_eq_cmp i e.0 ∙ f in rw (u, f) r

-- after a change at one key
pub changed : (es ds : Entries) (k : Item) (w : Option ℕ) → ((q : Item) → at ds q ≡ cond (is_eq (item_cmp k q)) w (at es q)) → (j : Item) → held ds j ≡ (if item_eq k j then w else held es j)
changed es ds k w h j = reads ds j ∙ (h j ∙ go (is_eq (item_cmp k j)) refl)
  where
    go : (b : Bool) → is_eq (item_cmp k j) ≡ b → cond (is_eq (item_cmp k j)) w (at es j) ≡ (if item_eq k j then w else held es j)
    go true f = let u : item_eq k j ≡ true = item_eq_cmp k j ∙ f in rw (u, f) refl
    go false f = let u : item_eq k j ≡ false = item_eq_cmp k j ∙ f in rw (u, f) (sym (reads es j))

pub item_eq_sym : (a b : Item) → item_eq a b ≡ item_eq b a
item_eq_sym a b = go (stands a b)
  where
    go : Stands a b → item_eq a b ≡ item_eq b a
    go (Below p q r s) = q ∙ sym s
    go (Same p q r s) = q ∙ sym s
    go (Above p q r s) = q ∙ sym s

-- ---- a list behind an index

pub next_of : (xs : List Item) (n : ℕ) (x : Item) → n < length xs → x ≡ get_or xs n x → drop n xs ≡ x ∷ drop (n + 1) xs
next_of xs n x h e = let f : drop n xs ≡ get_or xs n x ∷ drop (suc n) xs = drop-cons xs n x h in let s : suc n ≡ n + 1 = omega arith in f ∙ (ap (λ y. y ∷ drop (suc n) xs) (sym e) ∙ ap (λ m. x ∷ drop m xs) s)

pub none_after : (xs : List Item) (n : ℕ) → length xs ≤ n → drop n xs ≡ []
none_after xs n h = drop_all n xs h

-- ---- keys that are taken over, one after another

pub take_one : (x : Item) (xs : List Item) (es ds : Entries) → ((j : Item) → held ds j ≡ (if item_eq x j then None else held es j)) → (j : Item) → taken_over xs (held ds) j ≡ taken_over (x ∷ xs) (held es) j
take_one x xs es ds h j = go (item_eq j x) (has_item xs j) refl refl
  where
    go : (b c : Bool) → item_eq j x ≡ b → has_item xs j ≡ c → taken_over xs (held ds) j ≡ taken_over (x ∷ xs) (held es) j
    go true true f g = rw (f, g) refl
    go true false f g = let u : item_eq x j ≡ true = item_eq_sym x j ∙ f in rw (f, g) (rw (h j, u) refl)
    go false true f g = rw (f, g) refl
    go false false f g = let u : item_eq x j ≡ false = item_eq_sym x j ∙ f in rw (f, g) (rw (h j, u) refl)

-- ---- keys that a session leaves, one after another

-- what a session leaves that leaves these keys
abbrev pub left_in : List Item → ℕ → (Item → Option ℕ) → Item → Option ℕ
left_in xs s was j = if has_item xs j then without_session s (was j) else was j

pub without_twice : (s : ℕ) (o : Option ℕ) → without_session s (without_session s o) ≡ without_session s o
without_twice s None = refl
without_twice s (Some t) = go (t == s) refl
  where
    go : (b : Bool) → (t == s) ≡ b → without_session s (without_session s (Some t)) ≡ without_session s (Some t)
    go true f = rw f refl
    go false f = rw f (rw f refl)

pub leave_one : (x : Item) (xs : List Item) (s : ℕ) (es ds : Entries) → ((j : Item) → held ds j ≡ left_in (x ∷ []) s (held es) j) → (j : Item) → left_in xs s (held ds) j ≡ left_in (x ∷ xs) s (held es) j
leave_one x xs s es ds h j = go (item_eq j x) (has_item xs j) refl refl
  where
    go : (b c : Bool) → item_eq j x ≡ b → has_item xs j ≡ c → left_in xs s (held ds) j ≡ left_in (x ∷ xs) s (held es) j
    go true true f g = rw (f, g) (rw (h j, f) (without_twice s (held es j)))
    go true false f g = rw (f, g) (rw (h j, f) refl)
    go false true f g = rw (f, g) (rw (h j, f) refl)
    go false false f g = rw (f, g) (rw (h j, f) refl)

pub unlocked : (es ds : Entries) (k : Item) (s : ℕ) → at es k ≡ Some s → ((q : Item) → at ds q ≡ cond (is_eq (item_cmp k q)) None (at es q)) → (j : Item) → held ds j ≡ left_in (k ∷ []) s (held es) j
unlocked es ds k s e h j = changed es ds k None h j ∙ go (item_eq j k) refl
  where
    go : (b : Bool) → item_eq j k ≡ b → (if item_eq k j then None else held es j) ≡ left_in (k ∷ []) s (held es) j
    go true f =
        let u : item_eq k j ≡ true = item_eq_sym k j ∙ f in
        let now : held es j ≡ Some s = reads es j ∙ (ap (at es) (item_eq_same j k f) ∙ e) in
        let same : (s == s) ≡ true = eq-eqb s s refl in
        rw (u, f, now) (rw same refl)
    go false f = let u : item_eq k j ≡ false = item_eq_sym k j ∙ f in rw (u, f) refl

pub kept : (es : Entries) (k : Item) (s : ℕ) → (at es k ≡ Some s → ⊥) → (j : Item) → held es j ≡ left_in (k ∷ []) s (held es) j
kept es k s n j = go (item_eq j k) (held es j) refl refl
  where
    go : (b : Bool) (o : Option ℕ) → item_eq j k ≡ b → held es j ≡ o → held es j ≡ left_in (k ∷ []) s (held es) j
    go true None f g = rw (f, g) refl
    go true (Some t) f g = by_session (t == s) refl
      where
        by_session : (c : Bool) → (t == s) ≡ c → held es j ≡ left_in (k ∷ []) s (held es) j
        by_session true q =
            let same : t ≡ s = eqb-true t s q in
            let there : at es k ≡ Some s = ap (at es) (sym (item_eq_same j k f)) ∙ (sym (reads es j) ∙ (g ∙ ap (λ (u : ℕ). Some u) same)) in
            absurd (n there)
        by_session false q = rw (f, g) (rw q refl)
    go false o f g = rw f refl

-- ---- lists of sessions

-- what a session doesn't hold outside its list is not held by it at all
pub all_left : (es : Entries) (ls : List (ℕ × Vec Item)) (s : ℕ) (v : Vec Item) → AreListed es ls → lookup (is_at (nat_cmp s)) ls ≡ Some v → (j : Item) → left_in v.items s (held es) j ≡ without_session s (held es j)
all_left es ls s v a e j = go (has_item v.items j) (held es j) refl refl
  where
    go : (b : Bool) (o : Option ℕ) → has_item v.items j ≡ b → held es j ≡ o → left_in v.items s (held es) j ≡ without_session s (held es j)
    go true o f g = rw f refl
    go false None f g = rw (f, g) refl
    go false (Some t) f g = by_session (t == s) refl
      where
        by_session : (c : Bool) → (t == s) ≡ c → left_in v.items s (held es) j ≡ without_session s (held es j)
        by_session true q =
            let same : t ≡ s = eqb-true t s q in
            let listed : lists ls s j ≡ true = a s j (g ∙ ap (λ (u : ℕ). Some u) same) in
            let not_listed : lists ls s j ≡ false = ap (λ o. is_in o j) e ∙ f in
            absurd (true≢false (sym listed ∙ not_listed))
        by_session false q = rw (f, g) (rw q refl)

-- a session without a list holds nothing
pub none_left : (es : Entries) (ls : List (ℕ × Vec Item)) (s : ℕ) → AreListed es ls → lookup (is_at (nat_cmp s)) ls ≡ None → (j : Item) → held es j ≡ without_session s (held es j)
none_left es ls s a e j = go (held es j) refl
  where
    go : (o : Option ℕ) → held es j ≡ o → held es j ≡ without_session s (held es j)
    go None g = rw g refl
    go (Some t) g = by_session (t == s) refl
      where
        by_session : (c : Bool) → (t == s) ≡ c → held es j ≡ without_session s (held es j)
        by_session true q =
            let same : t ≡ s = eqb-true t s q in
            let listed : lists ls s j ≡ true = a s j (g ∙ ap (λ (u : ℕ). Some u) same) in
            let not_listed : lists ls s j ≡ false = ap (λ o. is_in o j) e in
            absurd (true≢false (sym listed ∙ not_listed))
        by_session false q = rw g (rw q refl)

-- fewer keys are held, so each is in a list still
pub fewer : (es ds : Entries) (ls : List (ℕ × Vec Item)) → AreListed es ls → ((j : Item) (s : ℕ) → held ds j ≡ Some s → held es j ≡ Some s) → AreListed ds ls
fewer es ds ls a h s i e = a s i (h i s e)

pub taken_fewer : (es ds : Entries) (xs : List Item) → ((j : Item) → held ds j ≡ taken_over xs (held es) j) → (j : Item) (s : ℕ) → held ds j ≡ Some s → held es j ≡ Some s
taken_fewer es ds xs h j s e = go (has_item xs j) refl (sym (h j) ∙ e)
  where
    go : (b : Bool) → has_item xs j ≡ b → taken_over xs (held es) j ≡ Some s → held es j ≡ Some s
    go true f g = absurd (let z : None ≡ Some s = rw f at g in cc)
    go false f g = rw f at g
