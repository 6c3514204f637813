-- The places of a queue that changes.
use Rattle.std.proofs.Common.{◌≡◌, ◌≤◌, ℕ, suc, Bool, true, false, ◌&&◌, Option, Some, None, List, [], ◌∷◌, ◌++◌, refl, sym, ap, ◌∙◌, arith}
use Rattle.std.specs.Prelude.{nat_lt, Result, Ok, Err, OnOk, OnErr, IfOk, IfNone, IfSome, MatchOption}
use Rattle.std.proofs.lemmas.Bool.{and_parts, lt-ltb, ltb-true}
use Rattle.std.proofs.lemmas.List.Folds.{list_all-append}
use Rattle.apply_queue.specs.Queues.{Queued, handed_out, is_above, is_at, is_below, is_waiting, with_done, with_first}
use Rattle.gr_ids.specs.declared.memory.Memory.{Memory}
use Rattle.gr_ids.specs.declared.names.Gtid.{Gtid}
use Rattle.apply_queue.specs.Following.{done_at}
use Rattle.apply_queue.specs.declared.fault.QueueFault.{QueueFault}
use Rattle.apply_queue.specs.declared.work.Work.{Work}
use Rattle.apply_queue.specs.declared.work.WorkDone.{WorkDone}
use Rattle.key_items.specs.declared.change.Change.{Change}
use Rattle.key_items.specs.declared.item.Item.{Item}

pub more_above : (qs : List Queued) (p q : ℕ) → p ≤ q → is_above qs p ≡ true → is_above qs q ≡ true
more_above [] p q h a = refl
more_above (x ∷ xs) p q h a =
    let k = and_parts (nat_lt x.place p) (is_above xs p) a in
    let less = ltb-true x.place p k.0 in
    rw (lt-ltb x.place q (omega (arith, less, h))) (more_above xs p q h k.1)

pub put_above : (qs : List Queued) (x : Queued) → is_above qs x.place ≡ true → is_above (qs ++ x ∷ []) (suc x.place) ≡ true
put_above qs x a =
    list_all-append (λ (q : Queued). nat_lt q.place (suc x.place)) qs (x ∷ [])
    ∙ rw (more_above qs x.place (suc x.place) (omega arith) a, lt-ltb x.place (suc x.place) (omega arith)) refl

-- a change that leaves the places
same_above : (p : Queued → Bool) (f : Queued → Queued) (qs : List Queued) (n : ℕ) → ((q : Queued) → (f q).place ≡ q.place) → is_above (with_first p f qs) n ≡ is_above qs n
same_above p f [] n h = refl
same_above p f (x ∷ xs) n h = go (p x) refl (same_above p f xs n h)
  where
    go : (b : Bool) → p x ≡ b → is_above (with_first p f xs) n ≡ is_above xs n → is_above (with_first p f (x ∷ xs)) n ≡ is_above (x ∷ xs) n
    go true e r = rw e (ap (λ (k : ℕ). nat_lt k n && is_above xs n) (h x))
    go false e r = rw e (ap (λ (b : Bool). nat_lt x.place n && b) r)

pub handed_above : (qs : List Queued) (n : ℕ) → is_above (handed_out qs) n ≡ is_above qs n
handed_above qs n = same_above is_waiting _ qs n (λ q. refl)

pub done_above : (qs : List Queued) (p n : ℕ) (cs : List Change) (ws : List Item) → is_above (with_done qs p cs ws) n ≡ is_above qs n
done_above qs p n cs ws = same_above (is_at p) _ qs n (λ q. refl)

pub rest_above : (x : Queued) (xs : List Queued) (n : ℕ) → is_above (x ∷ xs) n ≡ true → is_above xs n ≡ true
rest_above x xs n a = (and_parts (nat_lt x.place n) (is_above xs n) a).1

-- ---- after a call

pub after_done : (r : Result (Unit {0}) QueueFault) (A : Type 0) (old new : List Queued) (p n : ℕ) (cs : List Change) (ws : List Item) → OnOk r (A × (new ≡ with_done old p cs ws)) → OnErr r (new ≡ old) → is_above old n ≡ true → is_above new n ≡ true
after_done (Ok u) A old new p n cs ws h g a = ap (λ (qs : List Queued). is_above qs n) h.1 ∙ (done_above old p n cs ws ∙ a)
after_done (Err e) A old new p n cs ws h g a = ap (λ (qs : List Queued). is_above qs n) g ∙ a

pub after_handed : (r : Result (Option Work) Memory) (A : Type 0) (B : Work → Type 0) (old new : List Queued) (n : ℕ) → IfOk r (λ o. MatchOption o (A × (new ≡ old)) (λ w. B w × (new ≡ handed_out old))) → OnErr r (new ≡ old) → is_above old n ≡ true → is_above new n ≡ true
after_handed (Ok None) A B old new n h g a = ap (λ (qs : List Queued). is_above qs n) h.1 ∙ a
after_handed (Ok (Some w)) A B old new n h g a = ap (λ (qs : List Queued). is_above qs n) h.1 ∙ (handed_above old n ∙ a)
after_handed (Err e) A B old new n h g a = ap (λ (qs : List Queued). is_above qs n) g ∙ a

-- the first one is taken out
abbrev done_as : WorkDone → Gtid → Queued
done_as d g = done_at d.place g d.body d.changes d.items

pub first_out : (o : Option WorkDone) (old was new : List Queued) → old ≡ was → IfSome o (λ d. (g : Gtid) × (old ≡ done_as d g ∷ new) × (is_below None d.place ≡ true)) → IfSome o (λ d. (q : Queued) × (was ≡ q ∷ new) × (q.place ≡ d.place) × (q.body ≡ d.body))
first_out None old was new e h = h
first_out (Some d) old was new e h = (done_as d h.0, sym e ∙ h.1, refl, refl)

pub none_out : (o : Option WorkDone) (old new : List Queued) (A : Type 0) (n : ℕ) → IfNone o (A × (new ≡ old)) → IfSome o (λ d. (g : Gtid) × (old ≡ done_as d g ∷ new) × (is_below None d.place ≡ true)) → is_above old n ≡ true → is_above new n ≡ true
none_out None old new A n h g a = ap (λ (qs : List Queued). is_above qs n) h.1 ∙ a
none_out (Some d) old new A n h g a = rest_above (done_as d g.0) new n (ap (λ (qs : List Queued). is_above qs n) (sym g.1) ∙ a)
