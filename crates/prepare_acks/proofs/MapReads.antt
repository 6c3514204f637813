-- Who is awaited, read from a map by GTID.
use Rattle.std.proofs.Common.{◌≡◌, suc, arith, Bool, true, false, cond, Option, Some, None, List, [], ◌∷◌, map, refl, sym, ap, subst, ◌∙◌}
use Rattle.std.specs.Prelude.{if◌then◌else◌, ◌==◌, length}
use Rattle.std.specs.declared.cmp.Ordering.{Ordering}
use Rattle.std.specs.declared.cmp.Ordering.TheVariants.{Less, Equal, Greater}
use Rattle.std.specs.Ordering.{nat_cmp, is_eq}
use Rattle.std.specs.Cmp.Lexicographic.{slice_cmp, texts_ties, same_text}
use Rattle.std.proofs.lemmas.Bool.{and_parts, eqb-true, ne_eqb, true≢false}
use Rattle.std.specs.Cmp.{unsigned_ties}
use Rattle.std.specs.Map.{lookup}
use Rattle.std.specs.Map.Calls.{RetainsPairs}
use Rattle.std.specs.BTreeMap.{is_at}
use Rattle.std.specs.Global.{Vec}
use Rattle.std.specs.Str.{bytes_eq}
use Rattle.gr_ids.specs.declared.names.Inc.{Inc}
use Rattle.gr_ids.specs.declared.names.Gtid.{Gtid}
use Rattle.gr_ids.specs.Names.{gtid_eq}
use Rattle.prepare_acks.specs.Awaited.{awaited, without, is_none}
use Rattle.prepare_acks.specs.Inside.{waiting_of, gtid_cmp, members_in}

pub gtid_eq_cmp : (a b : Gtid) → gtid_eq a b ≡ is_eq (gtid_cmp a b)
gtid_eq_cmp a b = go (slice_cmp nat_cmp a.source b.source) refl (texts_ties a.source b.source)
  where
    go : (o : Ordering) → slice_cmp nat_cmp a.source b.source ≡ o → bytes_eq a.source b.source ≡ is_eq (slice_cmp nat_cmp a.source b.source) → gtid_eq a b ≡ is_eq (gtid_cmp a b)
    go Less f t = let u : bytes_eq a.source b.source ≡ false = t ∙ ap is_eq f in rw (u, f) refl
    go Equal f t = let u : bytes_eq a.source b.source ≡ true = t ∙ ap is_eq f in rw (u, f) (unsigned_ties a.number b.number)
    go Greater f t = let u : bytes_eq a.source b.source ≡ false = t ∙ ap is_eq f in rw (u, f) refl

abbrev pub Entries : Type 0
Entries = List (Gtid × Vec Inc)

abbrev pub at : Entries → Gtid → Option (Vec Inc)
at es g = lookup (is_at (gtid_cmp g)) es

pub reads : (es : Entries) (g : Gtid) → awaited (map waiting_of es) g ≡ members_in (at es g)
reads [] g = refl
reads (e ∷ es) g = go (is_eq (gtid_cmp g e.0)) refl (reads es g)
  where
    go : (b : Bool) → is_eq (gtid_cmp g e.0) ≡ b → awaited (map waiting_of es) g ≡ members_in (at es g) → awaited (map waiting_of (e ∷ es)) g ≡ members_in (at (e ∷ es) g)
    go true f r = let u : gtid_eq g e.0 ≡ true = gtid_eq_cmp g e.0 ∙ f in rw (u, f) refl
    go false f r = let u : gtid_eq g e.0 ≡ false = gtid_eq_cmp g e.0 ∙ f in rw (u, f) r

-- after a change at one key
pub changed : (es ds : Entries) (k : Gtid) (w : Option (Vec Inc)) → ((q : Gtid) → at ds q ≡ cond (is_eq (gtid_cmp k q)) w (at es q))
    → (g : Gtid) → awaited (map waiting_of ds) g ≡ (if gtid_eq k g then members_in w else awaited (map waiting_of es) g)
changed es ds k w h g = reads ds g ∙ (ap members_in (h g) ∙ go (is_eq (gtid_cmp k g)) refl)
  where
    go : (b : Bool) → is_eq (gtid_cmp k g) ≡ b → members_in (cond (is_eq (gtid_cmp k g)) w (at es g)) ≡ (if gtid_eq k g then members_in w else awaited (map waiting_of es) g)
    go true f = let u : gtid_eq k g ≡ true = gtid_eq_cmp k g ∙ f in rw (u, f) refl
    go false f = let u : gtid_eq k g ≡ false = gtid_eq_cmp k g ∙ f in rw (u, f) (sym (reads es g))

pub same_gtid : (a b : Gtid) → gtid_eq a b ≡ true → a ≡ b
same_gtid a b e =
    let p = and_parts _ _ e in
    let s : a.source ≡ b.source = same_text a.source b.source (sym p.0) in
    let n : a.number ≡ b.number = eqb-true a.number b.number p.1 in
    rw (s, n) refl

-- after one member less is awaited at a key, or nobody there is awaited
pub acknowledged : (es ds : Entries) (k : Gtid) (i : Inc) (w : Option (Vec Inc)) → ((q : Gtid) → at ds q ≡ cond (is_eq (gtid_cmp k q)) w (at es q))
    → members_in w ≡ without i (members_in (at es k))
    → (g : Gtid) → awaited (map waiting_of ds) g ≡ (if gtid_eq k g then without i (awaited (map waiting_of es) g) else awaited (map waiting_of es) g)
acknowledged es ds k i w h m g = changed es ds k w h g ∙ go (gtid_eq k g) refl
  where
    go : (b : Bool) → gtid_eq k g ≡ b → (if gtid_eq k g then members_in w else awaited (map waiting_of es) g) ≡ (if gtid_eq k g then without i (awaited (map waiting_of es) g) else awaited (map waiting_of es) g)
    go true f = rw f (m ∙ (ap (λ q. without i (members_in (at es q))) (same_gtid k g f) ∙ ap (without i) (sym (reads es g))))
    go false f = rw f refl

-- after one member less is awaited at each key
pub retained : {F : Type 0} (T : F → Gtid → Vec Inc → Bool → Vec Inc → F → Type 0) (i : Inc) (f : F)
    → ((k : Gtid) (v : Vec Inc) (b : Bool) (w : Vec Inc) (f' : F) → T f k v b w f' → (b ≡ true) × (w.items ≡ without i v.items) × (f' ≡ f))
    → (es kept : Entries) → RetainsPairs T f es kept → (g : Gtid) → awaited (map waiting_of kept) g ≡ without i (awaited (map waiting_of es) g)
retained T i f says [] kept h g = let e : kept ≡ [] = h in rw e refl
retained {F} T i f says (e ∷ es) kept (b, w, f', rest, t, r, k) g =
    let s = says e.0 e.1 b w f' t in
    let z : kept ≡ (e.0, w) ∷ rest = k ∙ ap (λ c. cond c ((e.0, w) ∷ rest) rest) s.0 in
    let tail : awaited (map waiting_of rest) g ≡ without i (awaited (map waiting_of es) g) = retained T i f says es rest (subst (λ (u : F). RetainsPairs T u es rest) s.2 r) g in
    rw z (go (gtid_eq g e.0) refl s.1 tail)
  where
    go : (c : Bool) → gtid_eq g e.0 ≡ c → w.items ≡ without i e.1.items → awaited (map waiting_of rest) g ≡ without i (awaited (map waiting_of es) g)
        → awaited (map waiting_of ((e.0, w) ∷ rest)) g ≡ without i (awaited (map waiting_of (e ∷ es)) g)
    go true q m n = rw q m
    go false q m n = rw q n

-- where nobody is awaited at a key, nothing changes there
pub absent : (es : Entries) (k : Gtid) (i : Inc) → at es k ≡ None
    → (g : Gtid) → awaited (map waiting_of es) g ≡ (if gtid_eq k g then without i (awaited (map waiting_of es) g) else awaited (map waiting_of es) g)
absent es k i n g = go (gtid_eq k g) refl
  where
    go : (b : Bool) → gtid_eq k g ≡ b → awaited (map waiting_of es) g ≡ (if gtid_eq k g then without i (awaited (map waiting_of es) g) else awaited (map waiting_of es) g)
    go true f =
        let nobody : awaited (map waiting_of es) g ≡ [] = reads es g ∙ ap members_in (ap (at es) (sym (same_gtid k g f)) ∙ n) in
        rw (f, nobody) refl
    go false f = rw f refl

-- what was written at a key, and then taken out
pub taken_out : (es fs ds : Entries) (k : Gtid) (w : Vec Inc) → ((q : Gtid) → at fs q ≡ cond (is_eq (gtid_cmp k q)) (Some w) (at es q))
    → ((q : Gtid) → at ds q ≡ cond (is_eq (gtid_cmp k q)) None (at fs q)) → (q : Gtid) → at ds q ≡ cond (is_eq (gtid_cmp k q)) None (at es q)
taken_out es fs ds k w h i q = i q ∙ go (is_eq (gtid_cmp k q)) (h q)
  where
    go : (b : Bool) → at fs q ≡ cond b (Some w) (at es q) → cond b None (at fs q) ≡ cond b None (at es q)
    go true f = refl
    go false f = f

pub empty_is_none : (xs : List Inc) → (length xs == 0) ≡ is_none xs
empty_is_none [] = refl
empty_is_none (x ∷ xs) = ne_eqb (suc (length xs)) 0 (omega arith)

pub nobody_is : (xs : List Inc) → true ≡ is_none xs → [] ≡ xs
nobody_is [] e = refl
nobody_is (x ∷ xs) e = absurd (true≢false e)
