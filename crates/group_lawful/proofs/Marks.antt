-- The simple marks: what they ask of a life.
use Rattle.std.proofs.Common.{◌≡◌, inl, inr, ℕ, Bool, true, false, ◌||◌, Option, Some, List, [], ◌∷◌, ◌++◌, refl, sym, ap, subst, ◌∙◌}
use Rattle.std.specs.Prelude.{◌==◌}
use Rattle.std.specs.List.{list_any}
use Rattle.std.proofs.lemmas.Bool.{or_cases, false≢true, or_left, or_right}
use Rattle.gr_ids.specs.Names.{inc_eq}
use Rattle.gr_ids.specs.declared.names.Inc.{Inc}
use Rattle.gr_ids.specs.declared.names.Gtid.{Gtid}
use Rattle.gr_ids.specs.declared.levels.MemberState.{MemberState}
use Rattle.gr_ids.specs.declared.levels.MemberState.TheVariants.{Error}
use Rattle.txn_forms.specs.declared.body.Body.{Body}
use Rattle.txn_forms.specs.declared.body.Body.TheVariants.{Txn as Writes}
use Rattle.node_rules.specs.Lists.{In}
use Rattle.node_rules.proofs.Incs.{inc_is, inc_same}
use Rattle.group_rules.specs.declared.answers.Answer.{Answer}
use Rattle.group_rules.specs.declared.answers.Answer.TheVariants.{Committed as CommittedAs}
use Rattle.group_rules.specs.Events.{Did, Founds, Starts, Came, Made, Took, Skips, Done, Committed, Is, Gave, Answered, Begun, Changed, Replied, Called, AsksCommit, Ends, Enters, Restores, AskFails, Hears, Ticks, Works, Calls, Operates, Life, Setup, Cert}
use Rattle.group_rules.specs.Life.{has_give, last_made}
use Rattle.group_rules.specs.Queue.{queue, is_done}
use Rattle.group_bridge.specs.Left.{IsAcknowledged}
use Rattle.group_bridge.specs.Left as left
use Rattle.group_order.specs.OneLog.{IsReady}
use Rattle.group_laws.specs.Lists as listing
use Rattle.group_laws.specs.Lists.{Mem}
use Rattle.group_laws.specs.Entries as law
use Rattle.group_laws.specs.Life as lives
use Rattle.group_laws.specs.Lawful.{LawfulFinish, LawfulAck}
use Rattle.group_laws.proofs.Lists.{IsPast-self}
use Rattle.group_lives.specs.Lives.{did_of, life_of}
use Rattle.group_lawful.specs.Lived.{LivedDid, Lived}
use Rattle.group_lawful.specs.Knows.{Alike, certified_of, AlwaysSound, Distinct}
use Rattle.group_lawful.proofs.Opens.{find_is, in_pending, in_queue, sound_where}

-- ---- pasts

past_more : {A : Type 0} (p : List A) (xs ys : List A) → listing.IsPast p ys → listing.IsPast p (xs ++ ys)
past_more p [] ys h = h
past_more p (x ∷ xs) ys h = inr (past_more p xs ys h)

pub life_past : (base : List law.Placed) (p l : Life) → left.IsPast p l → listing.IsPast (life_of base p) (life_of base l)
life_past base p [] h = subst (λ y. listing.IsPast (life_of base y) []) (sym h) refl
life_past base p (d ∷ l) (inl e) = subst (λ y. listing.IsPast (life_of base y) (life_of base (d ∷ l))) (sym e) (IsPast-self (life_of base (d ∷ l)))
life_past base p (d ∷ l) (inr h) = past_more (life_of base p) (did_of base d l) (life_of base l) (life_past base p l h)

pub past_itself : (l : Life) → left.IsPast l l
past_itself [] = refl
past_itself (d ∷ l) = inl refl

pub past_tail : (d : Did) (p l : Life) → left.IsPast (d ∷ p) l → left.IsPast p l
past_tail d p [] h = absurd (cc h)
past_tail d p (e ∷ l) (inl q) = let z : p ≡ l = cc q in inr (subst (λ y. left.IsPast y l) (sym z) (past_itself l))
past_tail d p (e ∷ l) (inr h) = inr (past_tail d p l h)

pub lived_past : (t : Setup) (i : Inc) (p l : Life) → left.IsPast p l → Lived t i l → Lived t i p
lived_past t i p [] h k = subst (Lived t i) (sym h) tt
lived_past t i p (d ∷ l) (inl e) k = subst (Lived t i) (sym e) k
lived_past t i p (d ∷ l) (inr h) k = lived_past t i p l h k.1

pub sound_past : (t : Setup) (i : Inc) (base : List law.Placed) (p l : Life) → left.IsPast p l → AlwaysSound t i base l → AlwaysSound t i base p
sound_past t i base p [] h k = subst (AlwaysSound t i base) (sym h) tt
sound_past t i base p (d ∷ l) (inl e) k = subst (AlwaysSound t i base) (sym e) k
sound_past t i base p (d ∷ l) (inr h) k = sound_past t i base p l h k.1

module _ (t : Setup) (i : Inc) (base : List law.Placed) where
  -- ---- ready

  given_as : (l : Life) → list_any lives.is_give (life_of base l) ≡ has_give l
  given_as [] = refl
  given_as (Restores y cs ∷ l) = refl
  given_as (Made v y ∷ l) = made y ∙ given_as l
    where
      made : (y : Option Body) → list_any lives.is_give (life_of base (Made v y ∷ l)) ≡ list_any lives.is_give (life_of base l)
      made (Some (Writes x)) = refl
      made y = refl
  given_as (Answered u a ∷ l) = answered a ∙ given_as l
    where
      answered : (a : Answer) → list_any lives.is_give (life_of base (Answered u a ∷ l)) ≡ list_any lives.is_give (life_of base l)
      answered (CommittedAs g) = refl
      answered a = refl
  given_as (Is x c ∷ l) = is x ∙ given_as l
    where
      is : (x : MemberState) → list_any lives.is_give (life_of base (Is x c ∷ l)) ≡ list_any lives.is_give (life_of base l)
      is Error = refl
      is x = refl
  given_as (Came (Hears m) ∷ l) = given_as l
  given_as (Came Ticks ∷ l) = given_as l
  given_as (Came (Works z y) ∷ l) = given_as l
  given_as (Came (Calls z y) ∷ l) = given_as l
  given_as (Came (Operates z) ∷ l) = given_as l
  given_as (Skips u v ∷ l) = given_as l
  given_as (Gave n m ∷ l) = given_as l
  given_as (Replied r ∷ l) = given_as l
  given_as (AskFails ∷ l) = given_as l
  given_as (Founds ∷ l) = given_as l
  given_as (Enters z ∷ l) = given_as l
  given_as (Starts x ∷ l) = given_as l
  given_as (Took z ∷ l) = given_as l
  given_as (Committed y ∷ l) = given_as l
  given_as (Done p ∷ l) = given_as l
  given_as (Called u v w ∷ l) = given_as l
  given_as (Begun u y c ∷ l) = given_as l
  given_as (Changed u c ∷ l) = given_as l
  given_as (Ends u ∷ l) = given_as l
  given_as (AsksCommit u y ∷ l) = given_as l

  pub ready_as : (l : Life) → IsReady t i l → lives.ready t i (life_of base l) ≡ true
  ready_as l (inl f) = or_left (lives.founder t i) (list_any lives.is_give (life_of base l)) f
  ready_as l (inr g) = or_right (lives.founder t i) (list_any lives.is_give (life_of base l)) (given_as l ∙ g)

  pub ready_back : (l : Life) → lives.ready t i (life_of base l) ≡ true → IsReady t i l
  ready_back l h = elim (or_cases (lives.founder t i) (list_any lives.is_give (life_of base l)) h) [ inl f ↦ inl f | inr g ↦ inr (sym (given_as l) ∙ g) ]

  -- ---- own values

  pub made_as_many : (l : Life) → lives.last_made (life_of base l) ≡ last_made l
  made_as_many [] = refl
  made_as_many (Made v y ∷ l) = made y
    where
      made : (y : Option Body) → lives.last_made (life_of base (Made v y ∷ l)) ≡ v.id.number
      made (Some (Writes x)) = refl
      made y = refl
  made_as_many (Answered u a ∷ l) = answered a ∙ made_as_many l
    where
      answered : (a : Answer) → lives.last_made (life_of base (Answered u a ∷ l)) ≡ lives.last_made (life_of base l)
      answered (CommittedAs g) = refl
      answered a = refl
  made_as_many (Is x c ∷ l) = is x ∙ made_as_many l
    where
      is : (x : MemberState) → lives.last_made (life_of base (Is x c ∷ l)) ≡ lives.last_made (life_of base l)
      is Error = refl
      is x = refl
  made_as_many (Came (Hears m) ∷ l) = made_as_many l
  made_as_many (Came Ticks ∷ l) = made_as_many l
  made_as_many (Came (Works z y) ∷ l) = made_as_many l
  made_as_many (Came (Calls z y) ∷ l) = made_as_many l
  made_as_many (Came (Operates z) ∷ l) = made_as_many l
  made_as_many (Skips u v ∷ l) = made_as_many l
  made_as_many (Gave n m ∷ l) = made_as_many l
  made_as_many (Replied r ∷ l) = made_as_many l
  made_as_many (AskFails ∷ l) = made_as_many l
  made_as_many (Founds ∷ l) = made_as_many l
  made_as_many (Enters z ∷ l) = made_as_many l
  made_as_many (Starts x ∷ l) = made_as_many l
  made_as_many (Took z ∷ l) = made_as_many l
  made_as_many (Restores y cs ∷ l) = made_as_many l
  made_as_many (Committed y ∷ l) = made_as_many l
  made_as_many (Done p ∷ l) = made_as_many l
  made_as_many (Called u v w ∷ l) = made_as_many l
  made_as_many (Begun u y c ∷ l) = made_as_many l
  made_as_many (Changed u c ∷ l) = made_as_many l
  made_as_many (Ends u ∷ l) = made_as_many l
  made_as_many (AsksCommit u y ∷ l) = made_as_many l

  -- ---- places that are done

  pub done_as : (l : Life) (n : ℕ) → list_any (lives.finishes n) (life_of base l) ≡ is_done l n
  done_as [] n = refl
  done_as (Done p ∷ l) n = by (p == n) (list_any (lives.finishes n) (life_of base l)) (is_done l n) (done_as l n)
    where
      by : (b c d : Bool) → c ≡ d → (b || c) ≡ elim b [ true ↦ true | false ↦ d ]
      by true c d e = refl
      by false c d e = e
  done_as (Made v y ∷ l) n = made y ∙ done_as l n
    where
      made : (y : Option Body) → list_any (lives.finishes n) (life_of base (Made v y ∷ l)) ≡ list_any (lives.finishes n) (life_of base l)
      made (Some (Writes x)) = refl
      made y = refl
  done_as (Answered u a ∷ l) n = answered a ∙ done_as l n
    where
      answered : (a : Answer) → list_any (lives.finishes n) (life_of base (Answered u a ∷ l)) ≡ list_any (lives.finishes n) (life_of base l)
      answered (CommittedAs g) = refl
      answered a = refl
  done_as (Is x c ∷ l) n = is x ∙ done_as l n
    where
      is : (x : MemberState) → list_any (lives.finishes n) (life_of base (Is x c ∷ l)) ≡ list_any (lives.finishes n) (life_of base l)
      is Error = refl
      is x = refl
  done_as (Came (Hears m) ∷ l) n = done_as l n
  done_as (Came Ticks ∷ l) n = done_as l n
  done_as (Came (Works z y) ∷ l) n = done_as l n
  done_as (Came (Calls z y) ∷ l) n = done_as l n
  done_as (Came (Operates z) ∷ l) n = done_as l n
  done_as (Skips u v ∷ l) n = done_as l n
  done_as (Gave j m ∷ l) n = done_as l n
  done_as (Replied r ∷ l) n = done_as l n
  done_as (AskFails ∷ l) n = done_as l n
  done_as (Founds ∷ l) n = done_as l n
  done_as (Enters z ∷ l) n = done_as l n
  done_as (Starts x ∷ l) n = done_as l n
  done_as (Took z ∷ l) n = done_as l n
  done_as (Restores y cs ∷ l) n = done_as l n
  done_as (Committed y ∷ l) n = done_as l n
  done_as (Called u v w ∷ l) n = done_as l n
  done_as (Begun u y c ∷ l) n = done_as l n
  done_as (Changed u c ∷ l) n = done_as l n
  done_as (Ends u ∷ l) n = done_as l n
  done_as (AsksCommit u y ∷ l) n = done_as l n

  -- the transaction that is queued at a place
  pub record Queued (l : Life) (c : Cert) : Type 0 where
    pub listed : law.Cert
    pub there : Mem listed (certified_of t base l)
    pub alike : Alike c listed
    pub foreign : listed.origin ≡ i → ⊥

  pub queued_as : (l : Life) → AlwaysSound t i base l → (c : Cert) → In c (queue l i) → Queued l c
  queued_as l o c m =
      let q = in_queue l i c m in
      let p = in_pending l c q.1 in
      let d = (sound_where t i base l o c p.0).knows.of_list c p.0 in
      record { listed = d.0; there = d.1; alike = d.2; foreign = λ e. absurd (false≢true (sym q.2 ∙ ap (λ y. inc_eq y i) (d.2.origin ∙ e) ∙ inc_same i)) }

  pub lawful_finish : (l : Life) (p : ℕ) → LivedDid t i (Done p) l → AlwaysSound t i base l → LawfulFinish t i (life_of base l) p
  lawful_finish l p h o =
      let z = h.allowed in
      let f = find_is p (queue l i) z.0 z.1 in
      let q = queued_as l o z.0 f.0 in
      (q.listed, q.there, sym q.alike.place ∙ f.1, q.foreign)

  -- ---- answers

  pub lawful_ack : (l : Life) (g : Gtid) → IsAcknowledged i l g → AlwaysSound t i base l → ((p : Life) → left.IsPast p l → Distinct t base p) → LawfulAck t i (life_of base l) g
  lawful_ack l g a o distinct = record {
    past = life_of base a.past;
    mark = life_past base (Committed g ∷ a.past) l a.mark;
    local = λ c m e. (let d = (sound_where t i base a.past before a.cert a.certified).knows.of_list a.cert a.certified in
        let same : c ≡ d.0 = distinct a.past past c d.0 m d.1 (e ∙ sym a.is_it ∙ d.2.gtid) in
        ap (λ (y : law.Cert). y.origin) same ∙ sym d.2.origin ∙ inc_is a.cert.id.origin i a.own);
  }
    where
      past : left.IsPast a.past l
      past = past_tail (Committed g) a.past l a.mark

      before : AlwaysSound t i base a.past
      before = sound_past t i base a.past l past o
