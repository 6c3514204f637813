-- Transactions that were given, and those that are read of them.
use Rattle.std.proofs.Common.{◌≡◌, ℕ, suc, ◌+◌, Bool, true, false, ◌≤◌, ◌<◌, Option, Some, None, List, [], ◌∷◌, ◌++◌, length, map, refl, sym, ap, subst, inl, inr, ◌∙◌, append-nil, eqb-true, arith}
use Rattle.std.proofs.lemmas.Bool.Decides.{nat_tests}
use Rattle.std.specs.Prelude.{◌==◌, if◌then◌else◌}
use Rattle.std.proofs.Math.ListN.{drop, get_or}
use Rattle.std.proofs.Math.Seq.{drop-cons}
use Rattle.std.proofs.lemmas.List.{length-append, length-map}
use Rattle.txn_forms.specs.declared.body.Body.{Body}
use Rattle.txn_forms.specs.declared.body.Body.TheVariants as body
use Rattle.txn_forms.specs.declared.body.Txn.{Txn}
use Rattle.txn_forms.specs.Bodies.{body_bytes, next_body, read_body}
use Rattle.txn_forms.proofs.BodyForms.{body_spelled}
use Rattle.byte_forms.specs.Reads.{Got, Fault, Read, at_end, go_on, value_of}
use Rattle.node_rules.specs.Lists.{In}
use Rattle.paxos_forms.specs.declared.recovery.Give.{Give}
use Rattle.group_rules.specs.Events.{Cert, Setup}
use Rattle.paxos_forms.specs.declared.recovery.Given.{Given}
use Rattle.group_rules.specs.Recovery.{cert_given, cert_read, certs_given, given_of, is_possible}
use Rattle.member_joining.specs.declared.given_txn.GivenTxn.{GivenTxn}
use Rattle.member_joining.specs.Reading.{cert_of_given, certs_read, txn_in, txn_of}

-- ---- one body

no_cert : (g : Given) (o : Option Body) → txn_of o ≡ None → cert_read g o ≡ []
no_cert g None e = refl
no_cert g (Some (body.Txn t)) e = cc
no_cert g (Some (body.Prepared h)) e = refl
no_cert g (Some body.Sync) e = refl
no_cert g (Some (body.Executed s)) e = refl
no_cert g (Some (body.Online s)) e = refl
no_cert g (Some (body.Mode m)) e = refl
no_cert g (Some (body.Primary i)) e = refl
no_cert g (Some (body.Part p)) e = refl

is_txn : (o : Option Body) (t : Txn) → txn_of o ≡ Some t → o ≡ Some (body.Txn t)
is_txn None t e = cc
is_txn (Some (body.Txn u)) t e = cc
is_txn (Some (body.Prepared h)) t e = cc
is_txn (Some body.Sync) t e = cc
is_txn (Some (body.Executed s)) t e = cc
is_txn (Some (body.Online s)) t e = cc
is_txn (Some (body.Mode m)) t e = cc
is_txn (Some (body.Primary i)) t e = cc
is_txn (Some (body.Part p)) t e = cc

pub skipped : (g : Given) (gs : List Given) → txn_in g.body ≡ None → certs_given (g ∷ gs) ≡ certs_given gs
skipped g gs e = rw (no_cert g (read_body g.body) e, certs_given) refl

pub took : (g : Given) (gs : List Given) (t : Txn) → txn_in g.body ≡ Some t → certs_given (g ∷ gs) ≡ cert_given g t ∷ certs_given gs
took g gs t e = rw (ap (cert_read g) (is_txn (read_body g.body) t e), certs_given) refl

-- ---- how many there are

below : (n m : ℕ) → n ≡ suc m → n ≤ m → ⊥
below n m e h = omega (arith, e, h)

pub few : (gs : List Given) → length (certs_given gs) ≤ length gs
few [] = omega arith
few (g ∷ gs) = go (txn_in g.body) refl (few gs)
  where
    go : (o : Option Txn) → txn_in g.body ≡ o → length (certs_given gs) ≤ length gs → length (certs_given (g ∷ gs)) ≤ length (g ∷ gs)
    go None e f = rw (skipped g gs e) (omega (arith, f))
    go (Some t) e f = rw (took g gs t e) (omega (arith, f))

fewer : (n m : ℕ) → n < m → (n == m) ≡ false
fewer n m h = grind (arith, nat_tests)

pub none_read : (ts : List GivenTxn) (g : Given) (rest gs : List Given) → map cert_of_given ts ++ certs_given (g ∷ rest) ≡ certs_given gs
    → map (λ t. t.given) ts ++ g ∷ rest ≡ gs → txn_in g.body ≡ None → None ≡ certs_read gs
none_read ts g rest gs certs all e =
    let left : length (certs_given gs) ≡ length ts + length (certs_given rest) =
    ap length (sym certs) ∙ (length-append (map cert_of_given ts) (certs_given (g ∷ rest)) ∙ rw (length-map ts cert_of_given, skipped g rest e) refl) in
    let whole : length gs ≡ length ts + suc (length rest) =
    ap length (sym all) ∙ (length-append (map (λ t. t.given) ts) (g ∷ rest) ∙ rw (length-map ts (λ t. t.given)) refl) in
    let f = few rest in
    rw (fewer (length (certs_given gs)) (length gs) (omega (arith, left, whole, f))) refl

-- ---- the next one

pub next_of : (gs : List Given) (n : ℕ) (g : Given) → n < length gs → g ≡ get_or gs n g → drop n gs ≡ g ∷ drop (suc n) gs
next_of gs n g h e = drop-cons gs n g h ∙ ap (λ x. x ∷ drop (suc n) gs) (sym e)

pub none_left : (ts : List GivenTxn) (gs : List Given) (n : ℕ) (g : Given) → n < length gs → g ≡ get_or gs n g
    → map cert_of_given ts ++ certs_given (drop n gs) ≡ certs_given gs → map (λ t. t.given) ts ++ drop n gs ≡ gs → txn_in g.body ≡ None → None ≡ certs_read gs
none_left ts gs n g h e certs all none =
    let next : drop n gs ≡ g ∷ drop (suc n) gs = next_of gs n g h e in
    none_read ts g (drop (suc n) gs) gs
    (ap (λ x. map cert_of_given ts ++ certs_given x) (sym next) ∙ certs) (ap (λ x. map (λ t. t.given) ts ++ x) (sym next) ∙ all) none

-- ---- what is read is spelt so

same_given : (g : Given) (t : Txn) → body_bytes (body.Txn t) ≡ g.body → given_of (cert_given g t) ≡ g
same_given g t e = ap (λ b. record { place = g.place; origin = g.origin; gtid = g.gtid; body = b }) e

read_whole : (r : Read Body) (b : Body) → value_of (go_on r at_end) ≡ Some b → r ≡ Got b []
read_whole (Got x []) b e = cc
read_whole (Got x (y ∷ ys)) b e = cc
read_whole (Fault n) b e = cc

pub spelt : (bytes : List ℕ) (t : Txn) → txn_in bytes ≡ Some t → (read_body bytes ≡ Some (body.Txn t)) × (bytes ≡ body_bytes (body.Txn t))
spelt bytes t e =
    let r : read_body bytes ≡ Some (body.Txn t) = is_txn (read_body bytes) t e in
    let s = (body_spelled.spells bytes [] (body.Txn t) (read_whole (next_body bytes) (body.Txn t) r)).1 in
    (r, s ∙ append-nil (body_bytes (body.Txn t)))

pub back : (gs : List Given) → length (certs_given gs) ≡ length gs → map given_of (certs_given gs) ≡ gs
back [] n = refl
back (g ∷ gs) n = go (txn_in g.body) refl (back gs)
  where
    go : (o : Option Txn) → txn_in g.body ≡ o → (length (certs_given gs) ≡ length gs → map given_of (certs_given gs) ≡ gs) → map given_of (certs_given (g ∷ gs)) ≡ g ∷ gs
    go None e f = let m : length (certs_given gs) ≡ suc (length gs) = ap length (sym (skipped g gs e)) ∙ n in let h = few gs in elim (below (length (certs_given gs)) (length gs) m h) [ ]
    go (Some t) e f =
        let m : suc (length (certs_given gs)) ≡ suc (length gs) = ap length (sym (took g gs t e)) ∙ n in
        let b : body_bytes (body.Txn t) ≡ g.body = sym (spelt g.body t e).1 in
        ap (map given_of) (took g gs t e)
        ∙ (ap (λ c. c ∷ map given_of (certs_given gs)) (same_given g t b) ∙ ap (λ x. g ∷ x) (f (omega (arith, m))))

pub read_back : (gs : List Given) (c : Cert) → In c (certs_given gs) → read_body (body_bytes (body.Txn c.txn)) ≡ Some (body.Txn c.txn)
read_back [] c h = elim h [ ]
read_back (g ∷ gs) c h = go (txn_in g.body) refl (read_back gs c)
  where
    go : (o : Option Txn) → txn_in g.body ≡ o → (In c (certs_given gs) → read_body (body_bytes (body.Txn c.txn)) ≡ Some (body.Txn c.txn)) → read_body (body_bytes (body.Txn c.txn)) ≡ Some (body.Txn c.txn)
    go None e f = f (subst (λ cs. In c cs) (skipped g gs e) h)
    go (Some t) e f = here (subst (λ cs. In c cs) (took g gs t e) h)
      where
        here : In c (cert_given g t ∷ certs_given gs) → read_body (body_bytes (body.Txn c.txn)) ≡ Some (body.Txn c.txn)
        here (inl s) = let r = spelt g.body t e in subst (λ (d : Cert). read_body (body_bytes (body.Txn d.txn)) ≡ Some (body.Txn d.txn)) s (ap read_body (sym r.1) ∙ r.0)
        here (inr s) = f s

-- ---- all are read

if_read : (b : Bool) (cs ds : List Cert) → (if b then Some cs else None) ≡ Some ds → (b ≡ true) × (ds ≡ cs)
if_read true cs ds e = (refl, cc)
if_read false cs ds e = cc

if_unread : (b : Bool) (cs : List Cert) → (if b then Some cs else None) ≡ None → b ≡ false
if_unread true cs e = cc
if_unread false cs e = refl

pub all_read : (gs : List Given) (cs : List Cert) → certs_read gs ≡ Some cs → (cs ≡ certs_given gs) × (length (certs_given gs) ≡ length gs)
all_read gs cs e = let r = if_read (length (certs_given gs) == length gs) (certs_given gs) cs e in (r.1, eqb-true (length (certs_given gs)) (length gs) r.0)

pub unread : (s : Setup) (g : Give) → certs_read g.txns ≡ None → is_possible s g (certs_given g.txns) ≡ false
unread s g e = rw (if_unread (length (certs_given g.txns) == length g.txns) (certs_given g.txns) e) refl
