-- What holds of a history in which places, own values and certified transactions are in order, thing by thing.
use Rattle.std.proofs.Common.{◌≡◌, ◌<◌, ◌≤◌, ◌⊎◌, inl, inr, ℕ, Bool, true, false, Option, None, List, [], ◌∷◌, ◌++◌, refl, sym, ◌∙◌, subst, arith, eqb, true≢false}
use Rattle.std.proofs.lemmas.Bool.{eqb-true, ne_eqb}
use Rattle.std.proofs.lemmas.List.{reverse-append, reverse-reverse}
use Rattle.std.specs.Prelude.{reverse}
use Rattle.gr_ids.specs.declared.names.Inc.{Inc}
use Rattle.gr_ids.specs.Names.{gtid_eq, inc_eq}
use Rattle.slot_values.specs.declared.value.Value.{Value}
use Rattle.txn_forms.specs.declared.body.Body.{Body}
use Rattle.paxos_forms.specs.declared.recovery.Give.{Give}
use Rattle.paxos_forms.specs.declared.welcome.Welcome.{Welcome}
use Rattle.node_rules.specs.Lists.{In}
use Rattle.group_rules.specs.Events.{AskFails, AsksCommit, Answered, Begun, Called, Came, Cert, Changed, Committed, Did, Done, Ends, Enters, Entry, Founds, Gave, Is, Life, Made, Replied, Restores, Setup, Skips, Starts, Took}
use Rattle.group_rules.specs.Life.{cert_of, certs, entry_at, last_made, own_place, stored, taken}
use Rattle.group_rules.specs.Queue.{is_done}
use Rattle.group_rules.specs.Rows.{all_in}
use Rattle.apply_queue.specs.Following.{IsRising}
use Rattle.prepare_acks.specs.Following.{ArePlaced, IsGtid}
use Rattle.prepare_acks.proofs.Lists.{in_either, in_reverse}
use Rattle.prepare_acks.proofs.Entries.{gtid_other, only_one, place_is}
use Rattle.member_truth.specs.Truth.{IsTrueEntry, IsTrueGive}
use Rattle.member_parts.specs.Joining.{AreRead}
use Rattle.member_parts.specs.Standing.{IsOrderly}
use Rattle.member_parts.proofs.Lists.{distinct_in, in_all, rising, rising_last}

pub none_orderly : (me : Inc) → IsOrderly me []
none_orderly me = record { untaken = λ p h. refl; undone = λ p h. refl; unmade = λ n h. refl; rising = tt; distinct = λ c d m n e. absurd m; gtids = λ c m. absurd m; read = λ c m. absurd m }

-- ---- an entry

later_untaken : (l : Life) (e : Entry) (p : ℕ) → ((q : ℕ) → taken l < q → entry_at l q ≡ None) → taken l < e.place → e.place < p → entry_at (Took e ∷ l) p ≡ None
later_untaken l e p f h k = go (eqb e.place p) refl
  where
    go : (b : Bool) → eqb e.place p ≡ b → entry_at (Took e ∷ l) p ≡ None
    go true g = let m : e.place ≡ p = eqb-true e.place p g in absurd (omega (arith, m, k))
    go false g = rw (g, entry_at) (f p (omega (arith, h, k)))

later_unmade : (me : Inc) (l : Life) (e : Entry) (n : ℕ) → ((k : ℕ) → last_made l < k → own_place l me k ≡ None) → (inc_eq e.value.id.origin me ≡ true → e.value.id.number ≤ last_made l) → last_made l < n → own_place (Took e ∷ l) me n ≡ None
later_unmade me l e n f h k = go (inc_eq e.value.id.origin me) refl (eqb e.value.id.number n) refl
  where
    go : (a : Bool) → inc_eq e.value.id.origin me ≡ a → (b : Bool) → eqb e.value.id.number n ≡ b → own_place (Took e ∷ l) me n ≡ None
    go true o true g = let same : e.value.id.number ≡ n = eqb-true e.value.id.number n g in let made : e.value.id.number ≤ last_made l = h o in absurd (omega (arith, same, made, k))
    go true o false g = rw (own_place, o, g) (f n k)
    go false o b g = rw (own_place, o) (f n k)

new_rising : (l : Life) (e : Entry) → ArePlaced l → taken l < e.place → IsRising (reverse (certs l)) → IsRising (reverse (cert_of e ++ certs l))
new_rising l e f h k = go (cert_of e) refl
  where
    go : (cs : List Cert) → cert_of e ≡ cs → IsRising (reverse (cert_of e ++ certs l))
    go [] n = subst (λ (cs : List Cert). IsRising (reverse (cs ++ certs l))) (sym n) k
    go (c ∷ cs) n =
        let m : In c (cert_of e) = subst (In c) (sym n) (inl refl) in
        let one : cert_of e ≡ c ∷ [] = only_one e c m in
        let place : c.place ≡ e.place = place_is e c m in
        subst (λ (cs : List Cert). IsRising (reverse (cs ++ certs l))) (sym one)
        (subst IsRising (sym (reverse-append (c ∷ []) (certs l)))
        (rising_last (reverse (certs l)) c k (λ d i. (let q : d.place ≤ taken l = f d (in_reverse d (certs l) i) in omega (arith, q, h, place)))))

new_distinct : (s : Setup) (me : Inc) (l : Life) (e : Entry) → IsTrueEntry s me l e → ((c d : Cert) → In c (certs l) → In d (certs l) → gtid_eq c.gtid d.gtid ≡ true → c ≡ d)
    → (c d : Cert) → In c (certs (Took e ∷ l)) → In d (certs (Took e ∷ l)) → gtid_eq c.gtid d.gtid ≡ true → c ≡ d
new_distinct s me l e t f c d m n q = by (in_either c (cert_of e) (certs l) m) (in_either d (cert_of e) (certs l) n)
  where
    apart : (x y : Cert) → In x (cert_of e) → In y (certs l) → gtid_eq y.gtid x.gtid ≡ false
    apart x y i j = (t.certified x i).unknown y (in_all (all_in [] (stored l).committed) (certs l) y j)

    same_of : (x y : Cert) → In y (x ∷ []) → x ≡ y
    same_of x y (inl z) = z
    same_of x y (inr z) = absurd z

    by : In c (cert_of e) ⊎ In c (certs l) → In d (cert_of e) ⊎ In d (certs l) → c ≡ d
    by (inl i) (inl j) = same_of c d (subst (In d) (only_one e c i) j)
    by (inl i) (inr j) = absurd (true≢false (sym q ∙ gtid_other d.gtid c.gtid (apart c d i j)))
    by (inr i) (inl j) = absurd (true≢false (sym q ∙ apart d c j i))
    by (inr i) (inr j) = f c d i j q

pub takes_orderly : (s : Setup) (me : Inc) (l : Life) (e : Entry) → IsOrderly me l → ArePlaced l → IsTrueEntry s me l e → ((c : Cert) → In c (cert_of e) → IsGtid c.gtid) → AreRead (cert_of e) → IsOrderly me (Took e ∷ l)
takes_orderly s me l e f k t gs rs =
    let next : taken l < e.place = omega (arith, t.next) in
    record {
      untaken = λ p h. later_untaken l e p f.untaken next h;
      undone = λ p h. f.undone p (omega (arith, next, h));
      unmade = λ n h. later_unmade me l e n f.unmade t.made h;
      rising = new_rising l e k next f.rising;
      distinct = new_distinct s me l e t f.distinct;
      gtids = λ c m. elim (in_either c (cert_of e) (certs l) m) [ inl i ↦ gs c i | inr j ↦ f.gtids c j ];
      read = λ c m. elim (in_either c (cert_of e) (certs l) m) [ inl i ↦ rs c i | inr j ↦ f.read c j ];
    }

-- ---- a Welcome and a Give

pub enters_orderly : (me : Inc) (l : Life) (w : Welcome) → IsOrderly me l → taken l ≤ w.place → IsOrderly me (Enters w ∷ l)
enters_orderly me l w f h = record { untaken = λ p k. f.untaken p (omega (arith, h, k)); undone = λ p k. f.undone p (omega (arith, h, k)); unmade = f.unmade; rising = f.rising; distinct = f.distinct; gtids = f.gtids; read = f.read }

pub restores_orderly : (me : Inc) (l : Life) (g : Give) (cs : List Cert) → IsOrderly me l → IsTrueGive me l cs → AreRead cs → IsOrderly me (Restores g cs ∷ l)
restores_orderly me l g cs f t rs = record {
  untaken = f.untaken;
  undone = f.undone;
  unmade = f.unmade;
  rising = subst IsRising (sym (reverse-reverse cs)) (rising cs t.rise);
  distinct = λ c d m n e. distinct_in cs t.distinct c d (in_reverse c cs m) (in_reverse d cs n) e;
  gtids = λ c m. t.numbers c (in_reverse c cs m);
  read = λ c m. rs c (in_reverse c cs m);
}

-- ---- a result and an own value

pub does_orderly : (me : Inc) (l : Life) (p : ℕ) → IsOrderly me l → p ≤ taken l → IsOrderly me (Done p ∷ l)
does_orderly me l p f h = record { untaken = f.untaken; undone = λ q k. later q k; unmade = f.unmade; rising = f.rising; distinct = f.distinct; gtids = f.gtids; read = f.read }
  where
    later : (q : ℕ) → taken l < q → is_done (Done p ∷ l) q ≡ false
    later q k = rw (is_done, ne_eqb p q (omega (arith, h, k))) (f.undone q k)

pub makes_orderly : (me : Inc) (l : Life) (v : Value) (x : Option Body) → IsOrderly me l → last_made l ≤ v.id.number → IsOrderly me (Made v x ∷ l)
makes_orderly me l v x f h = record { untaken = f.untaken; undone = f.undone; unmade = λ n k. f.unmade n (omega (arith, h, k)); rising = f.rising; distinct = f.distinct; gtids = f.gtids; read = f.read }

-- ---- what else happens

abbrev pub is_of_order : Did → Bool
is_of_order (Made v x) = true
is_of_order (Took e) = true
is_of_order (Done p) = true
is_of_order (Enters w) = true
is_of_order (Restores g cs) = true
is_of_order d = false

pub passes_orderly : (me : Inc) (l : Life) (d : Did) → is_of_order d ≡ false → IsOrderly me l → IsOrderly me (d ∷ l)
passes_orderly me l Founds h f = record { untaken = f.untaken; undone = f.undone; unmade = f.unmade; rising = f.rising; distinct = f.distinct; gtids = f.gtids; read = f.read }
passes_orderly me l (Starts y) h f = record { untaken = f.untaken; undone = f.undone; unmade = f.unmade; rising = f.rising; distinct = f.distinct; gtids = f.gtids; read = f.read }
passes_orderly me l (Came e) h f = record { untaken = f.untaken; undone = f.undone; unmade = f.unmade; rising = f.rising; distinct = f.distinct; gtids = f.gtids; read = f.read }
passes_orderly me l (Made v y) h f = absurd (true≢false h)
passes_orderly me l (Took e) h f = absurd (true≢false h)
passes_orderly me l (Skips t v) h f = record { untaken = f.untaken; undone = f.undone; unmade = f.unmade; rising = f.rising; distinct = f.distinct; gtids = f.gtids; read = f.read }
passes_orderly me l (Done p) h f = absurd (true≢false h)
passes_orderly me l (Committed g) h f = record { untaken = f.untaken; undone = f.undone; unmade = f.unmade; rising = f.rising; distinct = f.distinct; gtids = f.gtids; read = f.read }
passes_orderly me l (Is m c) h f = record { untaken = f.untaken; undone = f.undone; unmade = f.unmade; rising = f.rising; distinct = f.distinct; gtids = f.gtids; read = f.read }
passes_orderly me l (Gave p n) h f = record { untaken = f.untaken; undone = f.undone; unmade = f.unmade; rising = f.rising; distinct = f.distinct; gtids = f.gtids; read = f.read }
passes_orderly me l (Answered n a) h f = record { untaken = f.untaken; undone = f.undone; unmade = f.unmade; rising = f.rising; distinct = f.distinct; gtids = f.gtids; read = f.read }
passes_orderly me l (Begun n e y) h f = record { untaken = f.untaken; undone = f.undone; unmade = f.unmade; rising = f.rising; distinct = f.distinct; gtids = f.gtids; read = f.read }
passes_orderly me l (Changed n c) h f = record { untaken = f.untaken; undone = f.undone; unmade = f.unmade; rising = f.rising; distinct = f.distinct; gtids = f.gtids; read = f.read }
passes_orderly me l (Replied r) h f = record { untaken = f.untaken; undone = f.undone; unmade = f.unmade; rising = f.rising; distinct = f.distinct; gtids = f.gtids; read = f.read }
passes_orderly me l (Called n v w) h f = record { untaken = f.untaken; undone = f.undone; unmade = f.unmade; rising = f.rising; distinct = f.distinct; gtids = f.gtids; read = f.read }
passes_orderly me l (AsksCommit n i) h f = record { untaken = f.untaken; undone = f.undone; unmade = f.unmade; rising = f.rising; distinct = f.distinct; gtids = f.gtids; read = f.read }
passes_orderly me l (Ends n) h f = record { untaken = f.untaken; undone = f.undone; unmade = f.unmade; rising = f.rising; distinct = f.distinct; gtids = f.gtids; read = f.read }
passes_orderly me l (Enters w) h f = absurd (true≢false h)
passes_orderly me l (Restores g cs) h f = absurd (true≢false h)
passes_orderly me l AskFails h f = record { untaken = f.untaken; undone = f.undone; unmade = f.unmade; rising = f.rising; distinct = f.distinct; gtids = f.gtids; read = f.read }
