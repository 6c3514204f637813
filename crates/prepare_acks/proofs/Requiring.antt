-- The AFTER transactions that require a member, thing by thing.
use Rattle.std.proofs.Common.{◌≡◌, ◌⊎◌, inl, inr, ◌<◌, ◌≤◌, Bool, true, false, ◌&&◌, ◌||◌, None, List, [], ◌∷◌, refl, sym, ap, subst, ◌∙◌, arith}
use Rattle.std.specs.Prelude.{if◌then◌else◌}
use Rattle.std.proofs.lemmas.Bool.{and_parts, true≢false}
use Rattle.gr_ids.specs.declared.names.Inc.{Inc}
use Rattle.gr_ids.specs.declared.names.Gtid.{Gtid}
use Rattle.gr_ids.specs.Names.{gtid_eq, has_inc}
use Rattle.gtid_sets.specs.Canonical.{IsCanonical}
use Rattle.gtid_sets.specs.Sets.{Gtids, has, with_gtid}
use Rattle.gtid_sets.proofs.LawLemmas.{all_with_gtid}
use Rattle.gtid_sets.proofs.PutLemmas.{canonical_with_gtid}
use Rattle.paxos_forms.specs.declared.recovery.Give.{Give}
use Rattle.paxos_forms.specs.declared.welcome.Welcome.{Welcome}
use Rattle.node_rules.specs.Lists.{In}
use Rattle.group_rules.specs.Commit.{required}
use Rattle.group_rules.specs.Events.{AskFails, AsksCommit, Answered, Begun, Called, Came, Cert, Changed, Committed, Did, Done, Ends, Enters, Entry, Founds, Gave, Is, Life, Made, Replied, Restores, Setup, Skips, Starts, Stored, Took}
use Rattle.group_rules.specs.Life.{cert_of, certs, entry_at, taken, view}
use Rattle.group_rules.specs.View.{online_incs}
use Rattle.prepare_acks.specs.Following.{IsGtid, IsNew, RequiredOf, is_of_acks, with_required}
use Rattle.prepare_acks.proofs.Awaiting.{none_before, none_here, placed_after}
use Rattle.prepare_acks.proofs.Entries.{gtid_other, gtid_same, none_required, only_one, required_here, required_later}
use Rattle.prepare_acks.proofs.Lists.{in_either, in_reverse}

-- ---- the begin

pub founds_requiring : (s : Setup) (me : Inc) → RequiredOf s me (Founds ∷ []) []
founds_requiring s me = record { placed = λ c h. absurd h; canonical = tt; each = λ c h a. absurd h; none = λ g h. refl }

pub starts_requiring : (s : Setup) (me : Inc) (x : Stored) → RequiredOf s me (Starts x ∷ []) []
starts_requiring s me x = record { placed = λ c h. absurd h; canonical = tt; each = λ c h a. absurd h; none = λ g h. refl }

-- where none is certified, the set is empty
none_yet : (s : Setup) (me : Inc) (l : Life) (set : Gtids) (g : Gtid) → RequiredOf s me l set → certs l ≡ [] → has set g ≡ false
none_yet s me l set g f n = f.none g (λ c h a. absurd (subst (λ (cs : List Cert). In c cs) n h))

pub enters_requiring : (s : Setup) (me : Inc) (l : Life) (w : Welcome) (set : Gtids) → RequiredOf s me l set → certs l ≡ [] → RequiredOf s me (Enters w ∷ l) set
enters_requiring s me l w set f n = record {
  placed = λ c h. absurd (subst (λ (cs : List Cert). In c cs) n h);
  canonical = f.canonical;
  each = λ c h a. absurd (subst (λ (cs : List Cert). In c cs) n h);
  none = λ g h. none_yet s me l set g f n;
}

pub restores_requiring : (s : Setup) (me : Inc) (l : Life) (g : Give) (cs : List Cert) (set : Gtids) → RequiredOf s me l set → certs l ≡ []
    → ((c : Cert) → In c cs → c.place ≤ taken l) → ((c : Cert) → In c cs → c.txn.after ≡ true → entry_at l c.place ≡ None)
    → RequiredOf s me (Restores g cs ∷ l) set
restores_requiring s me l g cs set f n p q = record {
  placed = λ c h. p c (in_reverse c cs h);
  canonical = f.canonical;
  each = λ c h a. none_yet s me l set c.gtid f n ∙ sym (ap (λ (ms : List Inc). has_inc ms me) (none_required s l c (q c (in_reverse c cs h) a)));
  none = λ k h. none_yet s me l set k f n;
}

-- ---- an entry

-- with one GTID more, or not
abbrev with_one : Bool → Gtids → Gtid → Gtids
with_one b set g = if b then with_gtid set g else set

one_canonical : (b : Bool) (set : Gtids) (g : Gtid) → IsCanonical set → (b ≡ true → IsGtid g) → IsCanonical (with_one b set g)
one_canonical true set g k h = canonical_with_gtid set g (h refl).0 (h refl).1 k
one_canonical false set g k h = k

-- it has the others that it had
one_other : (b : Bool) (set : Gtids) (g m : Gtid) → IsCanonical set → (b ≡ true → IsGtid g) → (b ≡ true → gtid_eq g m ≡ false) → has (with_one b set g) m ≡ has set m
one_other true set g m k h n = all_with_gtid set g m k (h refl).0 (h refl).1 ∙ ap (λ (b : Bool). b || has set m) (n refl)
one_other false set g m k h n = refl

-- it has this one where it is added, if it hadn't
one_itself : (b : Bool) (set : Gtids) (g : Gtid) → IsCanonical set → (b ≡ true → IsGtid g) → has set g ≡ false → has (with_one b set g) g ≡ b
one_itself true set g k h n = all_with_gtid set g g k (h refl).0 (h refl).1 ∙ ap (λ (b : Bool). b || has set g) (gtid_same g)
one_itself false set g k h n = n

-- whether an entry adds the GTID that it certifies
abbrev adds : Inc → List Inc → Cert → Bool
adds me online c = c.txn.after && has_inc online me

after_canonical : (me : Inc) (online : List Inc) (cs : List Cert) (set : Gtids) → IsCanonical set → ((c : Cert) → In c cs → c.txn.after ≡ true → IsGtid c.gtid)
    → IsCanonical (with_required me online cs set)
after_canonical me online [] set k h = k
after_canonical me online (c ∷ cs) set k h = one_canonical (adds me online c) set c.gtid k (λ b. h c (inl refl) (and_parts c.txn.after (has_inc online me) b).0)

after_other : (me : Inc) (online : List Inc) (cs : List Cert) (set : Gtids) (m : Gtid) → IsCanonical set → ((c : Cert) → In c cs → c.txn.after ≡ true → IsGtid c.gtid)
    → ((c : Cert) → In c cs → c.txn.after ≡ true → gtid_eq c.gtid m ≡ false) → has (with_required me online cs set) m ≡ has set m
after_other me online [] set m k h n = refl
after_other me online (c ∷ cs) set m k h n =
    one_other (adds me online c) set c.gtid m k (λ b. h c (inl refl) (and_parts c.txn.after (has_inc online me) b).0) (λ b. n c (inl refl) (and_parts c.txn.after (has_inc online me) b).0)

after_itself : (me : Inc) (online : List Inc) (c : Cert) (set : Gtids) → IsCanonical set → c.txn.after ≡ true → IsGtid c.gtid → has set c.gtid ≡ false
    → has (with_required me online (c ∷ []) set) c.gtid ≡ has_inc online me
after_itself me online c set k a h n = one_itself (adds me online c) set c.gtid k (λ b. h) n ∙ ap (λ (b : Bool). b && has_inc online me) a

abbrev online_after : Setup → Life → Entry → List Inc
online_after s l e = online_incs (view s (Took e ∷ l))

pub takes_requiring : (s : Setup) (me : Inc) (l : Life) (e : Entry) (set : Gtids) → RequiredOf s me l set → IsNew l e → ((c : Cert) → In c (cert_of e) → c.txn.after ≡ true → IsGtid c.gtid)
    → RequiredOf s me (Took e ∷ l) (with_required me (online_after s l e) (cert_of e) set)
takes_requiring s me l e set f new gtids = record {
  placed = placed_after l e f.placed new.place;
  canonical = after_canonical me (online_after s l e) (cert_of e) set f.canonical gtids;
  each = λ c h a. by c a (in_either c (cert_of e) (certs l) h);
  none = λ g h. after_other me (online_after s l e) (cert_of e) set g f.canonical gtids (none_here l e g h) ∙ f.none g (none_before l e g h);
}
  where
    by : (c : Cert) → c.txn.after ≡ true → In c (cert_of e) ⊎ In c (certs l) → has (with_required me (online_after s l e) (cert_of e) set) c.gtid ≡ has_inc (required s (Took e ∷ l) c) me
    by c a (inl k) =
        ap (λ (cs : List Cert). has (with_required me (online_after s l e) cs set) c.gtid) (only_one e c k)
        ∙ (after_itself me (online_after s l e) c set f.canonical a (gtids c k a) (f.none c.gtid (new.gtid c k a)) ∙ sym (ap (λ (ms : List Inc). has_inc ms me) (required_here s l e c k)))
    by c a (inr k) =
        let q : c.place ≤ taken l = f.placed c k in
        let p : taken l < e.place = new.place in
        after_other me (online_after s l e) (cert_of e) set c.gtid f.canonical gtids (λ d i b. gtid_other c.gtid d.gtid (new.gtid d i b c k a))
        ∙ (f.each c k a ∙ sym (ap (λ (ms : List Inc). has_inc ms me) (required_later s l e c (omega (arith, p, q)))))

-- ---- what else happens

pub passes_requiring : (s : Setup) (me : Inc) (l : Life) (d : Did) (set : Gtids) → is_of_acks d ≡ false → RequiredOf s me l set → RequiredOf s me (d ∷ l) set
passes_requiring s me l Founds set h f = absurd (true≢false h)
passes_requiring s me l (Starts x) set h f = record { placed = f.placed; canonical = f.canonical; each = f.each; none = f.none }
passes_requiring s me l (Came x) set h f = record { placed = f.placed; canonical = f.canonical; each = f.each; none = f.none }
passes_requiring s me l (Made v x) set h f = record { placed = f.placed; canonical = f.canonical; each = f.each; none = f.none }
passes_requiring s me l (Took e) set h f = absurd (true≢false h)
passes_requiring s me l (Skips t v) set h f = record { placed = f.placed; canonical = f.canonical; each = f.each; none = f.none }
passes_requiring s me l (Done q) set h f = record { placed = f.placed; canonical = f.canonical; each = f.each; none = f.none }
passes_requiring s me l (Committed g) set h f = record { placed = f.placed; canonical = f.canonical; each = f.each; none = f.none }
passes_requiring s me l (Is u x) set h f = record { placed = f.placed; canonical = f.canonical; each = f.each; none = f.none }
passes_requiring s me l (Gave q n) set h f = record { placed = f.placed; canonical = f.canonical; each = f.each; none = f.none }
passes_requiring s me l (Answered u x) set h f = record { placed = f.placed; canonical = f.canonical; each = f.each; none = f.none }
passes_requiring s me l (Begun u x y) set h f = record { placed = f.placed; canonical = f.canonical; each = f.each; none = f.none }
passes_requiring s me l (Changed u x) set h f = record { placed = f.placed; canonical = f.canonical; each = f.each; none = f.none }
passes_requiring s me l (Replied x) set h f = record { placed = f.placed; canonical = f.canonical; each = f.each; none = f.none }
passes_requiring s me l (Called u v w) set h f = record { placed = f.placed; canonical = f.canonical; each = f.each; none = f.none }
passes_requiring s me l (AsksCommit u i) set h f = record { placed = f.placed; canonical = f.canonical; each = f.each; none = f.none }
passes_requiring s me l (Ends u) set h f = record { placed = f.placed; canonical = f.canonical; each = f.each; none = f.none }
passes_requiring s me l (Enters w) set h f = absurd (true≢false h)
passes_requiring s me l (Restores g cs) set h f = absurd (true≢false h)
passes_requiring s me l AskFails set h f = record { placed = f.placed; canonical = f.canonical; each = f.each; none = f.none }
