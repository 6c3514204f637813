-- A list that is read element by element.
use Rattle.std.proofs.Common.{◌≡◌, ℕ, zero, suc, ◌+◌, ◌-◌, ◌^◌, ◌<◌, ◌≤◌, List, [], ◌∷◌, ◌++◌, length, Option, Some, None, refl, sym, ap, subst, ◌∙◌, arith, append_assoc, IfSome}
use Rattle.std.specs.List.{slice_get, AllByRecursion}
use Rattle.byte_forms.specs.Cuts.{Cut, Takes, FaultsAt}
use Rattle.byte_forms.specs.Unreads.{Breaks}
use Rattle.byte_forms.specs.declared.unread.Unread.{Unread}
use Rattle.byte_forms.specs.declared.unread.Unread.TheVariants.{Memory, Misfit}
use Rattle.std.proofs.lemmas.List.{append-nil}
use Rattle.byte_forms.specs.Reads.{Read, Got, Fault, Reader, go_on, ◌>>=◌, pure}
use Rattle.byte_forms.specs.Fields.{number_in}
use Rattle.byte_forms.specs.Lists.{elements, IsChain, list_of}
use Rattle.byte_forms.proofs.FieldLemmas.{go_on-got, number_in-got}

abbrev pub last_of : {A : Type 0} → List A → Option A
last_of [] = None
last_of (x ∷ []) = Some x
last_of (x ∷ y ∷ ys) = last_of (y ∷ ys)

pub last_of-push : {A : Type 0} (xs : List A) (x : A) → last_of (xs ++ x ∷ []) ≡ Some x
last_of-push [] x = refl
last_of-push (y ∷ []) x = refl
last_of-push (y ∷ z ∷ zs) x = last_of-push (z ∷ zs) x

-- these elements, and those that are read behind them
abbrev pub with_front : {A : Type 0} → List A → Read (List A) → Read (List A)
with_front front read = go_on read (λ xs. pure (front ++ xs))

with_front-cons : {A : Type 0} (done : List A) (x : A) (read : Read (List A)) → with_front done (go_on read (λ xs. pure (x ∷ xs))) ≡ with_front (done ++ x ∷ []) read
with_front-cons done x (Got xs rest) = ap (λ ys. Got ys rest) (sym (append_assoc done (x ∷ []) xs))
with_front-cons done x (Fault n) = refl

with_front-nil : {A : Type 0} (read : Read (List A)) → with_front [] read ≡ read
with_front-nil (Got xs rest) = refl
with_front-nil (Fault n) = refl

-- What is read of n elements, once so many are done and these bytes are left: the invariant of a loop that reads a list.
abbrev pub Done : {A : Type 0} → (Option A → Reader A) → ℕ → List ℕ → List A → ℕ → List ℕ → Type 0
Done read n bytes done more left = with_front done (elements read (last_of done) more left) ≡ elements read None n bytes

pub done_none : {A : Type 0} (read : Option A → Reader A) (n : ℕ) (bytes : List ℕ) → Done read n bytes [] n bytes
done_none read n bytes = with_front-nil (elements read None n bytes)

pub done_more : {A : Type 0} (read : Option A → Reader A) (n : ℕ) (bytes : List ℕ) (done : List A) (more : ℕ) (left rest : List ℕ) (x : A)
    → Done read n bytes done (suc more) left → read (last_of done) left ≡ Got x rest → Done read n bytes (done ++ x ∷ []) more rest
unfolding elements
done_more read n bytes done more left rest x h e =
    let here : elements read (last_of done) (suc more) left ≡ go_on (elements read (Some x) more rest) (λ xs. pure (x ∷ xs)) = ap (λ r. go_on r (λ y. elements read (Some y) more >>= λ ys. pure (y ∷ ys))) e in
    let next : with_front done (elements read (last_of done) (suc more) left) ≡ with_front (done ++ x ∷ []) (elements read (Some x) more rest) = ap (with_front done) here ∙ with_front-cons done x (elements read (Some x) more rest) in
    ap (λ b. with_front (done ++ x ∷ []) (elements read b more rest)) (last_of-push done x) ∙ sym next ∙ h

pub done_all : {A : Type 0} (read : Option A → Reader A) (n : ℕ) (bytes : List ℕ) (done : List A) (left : List ℕ) → Done read n bytes done 0 left → elements read None n bytes ≡ Got done left
unfolding elements
done_all read n bytes done left h = sym h ∙ ap (λ xs. Got xs left) (append-nil done)

pub done_fault : {A : Type 0} (read : Option A → Reader A) (n : ℕ) (bytes : List ℕ) (done : List A) (more : ℕ) (left : List ℕ) (k : ℕ)
    → Done read n bytes done (suc more) left → read (last_of done) left ≡ Fault k → elements read None n bytes ≡ Fault k
unfolding elements
done_fault read n bytes done more left k h e = sym h ∙ ap (λ r. with_front done (go_on r (λ y. elements read (Some y) more >>= λ ys. pure (y ∷ ys)))) e

-- the last element, as it is got
pub last_is : {A : Type 0} (xs : List A) → slice_get xs (length xs - 1) ≡ last_of xs
last_is [] = refl
last_is (x ∷ []) = refl
last_is (x ∷ y ∷ ys) =
    let less : length (x ∷ y ∷ ys) - 1 ≡ suc (length (y ∷ ys) - 1) = omega arith in
    ap (λ n. slice_get (x ∷ y ∷ ys) n) less ∙ last_is (y ∷ ys)

pub last_pushed : {A : Type 0} (P : A → Type 0) (all done : List A) (x : A) → all ≡ done ++ x ∷ [] → P x → IfSome (last_of all) P
last_pushed P all done x e h = subst (λ r. IfSome r P) (sym (ap last_of e ∙ last_of-push done x)) h

-- What is left of a count, one more element on.
pub done_next : {A : Type 0} (read : Option A → Reader A) (n : ℕ) (bytes : List ℕ) (done all : List A) (i : ℕ) (old new : Cut) (before : Option A) (x : A) → i < n
    → Done read n bytes done (n - i) old.left → before ≡ last_of done → all ≡ done ++ x ∷ [] → Takes (read before) old x new → Done read n bytes all (n - (i + 1)) new.left
done_next read n bytes done all i old new before x lt h at is e =
    let count : n - i ≡ suc (n - (i + 1)) = omega arith in
    let here : Done read n bytes done (suc (n - (i + 1))) old.left = subst (λ (k : ℕ). Done read n bytes done k old.left) count h in
    let got : read (last_of done) old.left ≡ Got x new.left = ap (λ b. read b old.left) (sym at) ∙ e.value in
    subst (λ ys. Done read n bytes ys (n - (i + 1)) new.left) (sym is) (done_more read n bytes done (n - (i + 1)) old.left new.left x here got)

-- the whole list was read
pub done_takes : {A : Type 0} (read : Option A → Reader A) (n i : ℕ) (done all : List A) (old new : Cut) → n ≤ i → Done read n old.left done (n - i) new.left → all ≡ done → new.total ≡ old.total → Takes (elements read None n) old all new
done_takes read n i done all old new le h is whole =
    let none : n - i ≡ 0 = omega arith in
    let here : Done read n old.left done 0 new.left = subst (λ (k : ℕ). Done read n old.left done k new.left) none h in
    record { value = done_all read n old.left done new.left here ∙ ap (λ xs. Got xs new.left) (sym is); whole = whole }

-- where an element breaks, the list does
pub done_breaks : {A : Type 0} (read : Option A → Reader A) (n : ℕ) (done : List A) (i : ℕ) (old at : Cut) (before : Option A) (e : Unread) → i < n
    → Done read n old.left done (n - i) at.left → before ≡ last_of done → at.total ≡ old.total → Breaks (read before) at e → Breaks (elements read None n) old e
done_breaks read n done i old at before Memory lt h is whole b = tt
done_breaks read n done i old at before (Misfit k) lt h is whole b =
    let count : n - i ≡ suc (n - (i + 1)) = omega arith in
    let here : Done read n old.left done (suc (n - (i + 1))) at.left = subst (λ (m : ℕ). Done read n old.left done m at.left) count h in
    let fault : read (last_of done) at.left ≡ Fault (at.total - k) = ap (λ x. read x at.left) (sym is) ∙ b.fault in
    record { fault = done_fault read n old.left done (n - (i + 1)) at.left (at.total - k) here fault ∙ ap (λ t. Fault (t - k)) whole; within = omega (arith, b.within) }

-- ---- what each element keeps in the light of the one before

pub elements_chain : {A : Type 0} (IsNext : Option A → A → Type 0) (read : Option A → Reader A) → ((before : Option A) (bytes rest : List ℕ) (x : A) → read before bytes ≡ Got x rest → IsNext before x)
    → (n : ℕ) (before : Option A) (bytes rest : List ℕ) (xs : List A) → elements read before n bytes ≡ Got xs rest → IsChain IsNext before xs
unfolding elements
elements_chain IsNext read next zero before bytes rest [] e = tt
elements_chain IsNext read next zero before bytes rest (x ∷ xs) e = absurd cc
elements_chain {A} IsNext read next (suc n) before bytes rest xs e =
    let f = go_on-got (read before bytes) (λ x. elements read (Some x) n >>= λ ys. pure (x ∷ ys)) xs rest e in
    let g = go_on-got (elements read (Some f.first) n f.behind) (λ ys. pure (f.first ∷ ys)) xs rest f.then_reads in
    let later = elements_chain IsNext read next n (Some f.first) f.behind g.behind g.first g.reads in
    let end : Got (f.first ∷ g.first) g.behind ≡ Got xs rest = g.then_reads in
    let is : f.first ∷ g.first ≡ xs = cc in
    let P : List A → Type 0 = λ ys. IsChain IsNext before ys in
    subst P is (next before bytes f.behind f.first f.reads, later)

pub list_chain : {A : Type 0} (least : ℕ) (IsNext : Option A → A → Type 0) (read : Option A → Reader A) → ((before : Option A) (bytes rest : List ℕ) (x : A) → read before bytes ≡ Got x rest → IsNext before x)
    → (bytes rest : List ℕ) (xs : List A) → list_of least read bytes ≡ Got xs rest → IsChain IsNext None xs
list_chain least IsNext read next bytes rest xs e =
    let f = go_on-got (number_in 4 least 4294967295 bytes) (elements read None) xs rest e in
    elements_chain IsNext read next f.first None f.behind rest xs f.then_reads

elements_length : {A : Type 0} (read : Option A → Reader A) (n : ℕ) (before : Option A) (bytes rest : List ℕ) (xs : List A) → elements read before n bytes ≡ Got xs rest → length xs ≡ n
unfolding elements
elements_length read zero before bytes rest [] e = refl
elements_length read zero before bytes rest (x ∷ xs) e = absurd cc
elements_length {A} read (suc n) before bytes rest xs e =
    let f = go_on-got (read before bytes) (λ x. elements read (Some x) n >>= λ ys. pure (x ∷ ys)) xs rest e in
    let g = go_on-got (elements read (Some f.first) n f.behind) (λ ys. pure (f.first ∷ ys)) xs rest f.then_reads in
    let later = elements_length read n (Some f.first) f.behind g.behind g.first g.reads in
    let end : Got (f.first ∷ g.first) g.behind ≡ Got xs rest = g.then_reads in
    let is : f.first ∷ g.first ≡ xs = cc in
    ap length (sym is) ∙ ap suc later

-- a list that is read has no more elements than four bytes count
pub list_few : {A : Type 0} (least : ℕ) (read : Option A → Reader A) (bytes rest : List ℕ) (xs : List A) → list_of least read bytes ≡ Got xs rest → length xs < 2 ^ 32
list_few least read bytes rest xs e =
    let f = go_on-got (number_in 4 least 4294967295 bytes) (elements read None) xs rest e in
    let count = number_in-got 4 least 4294967295 f.first bytes f.behind (omega arith) f.reads in
    let long = elements_length read f.first None f.behind rest xs f.then_reads in
    omega (arith, long, count.below)

pub chain_all : {A : Type 0} (IsNext : Option A → A → Type 0) (P : A → Type 0) → ((before : Option A) (x : A) → IsNext before x → P x) → (before : Option A) (xs : List A) → IsChain IsNext before xs → AllByRecursion P xs
chain_all IsNext P each before [] h = tt
chain_all IsNext P each before (x ∷ xs) h = (each before x h.0, chain_all IsNext P each (Some x) xs h.1)
