-- What is compared when a hub is closed.
use Rattle.std.proofs.Common.{◌≡◌, ℕ, zero, suc, ◌+◌, ◌<◌, ◌≤◌, List, [], ◌∷◌, length, set, get_or, map, take, drop, sym, refl, ap, ◌∙◌, subst, add-one, Some, slice_get, slice_index_or}
use Rattle.std.specs.List.{All}
use Rattle.std.proofs.lemmas.List.{take_all}
use Rattle.std.proofs.lemmas.List.Elements.{All-map, All-push}
use Rattle.std.proofs.lemmas.Option.{slice_get_within}
use mathlib.Core.List.{IsPrefix}
use Rattle.gr_ids.specs.declared.names.Inc.{Inc}
use Rattle.wire_hub.specs.declared.letter.Letter.{Letter}
use Rattle.wire_hub.specs.declared.passes.SendPass.{SendPass}
use Rattle.wire_hub.specs.declared.passes.TakePass.{TakePass}
use Rattle.wire_hub.specs.Letters.{of}
use Rattle.wire_hub.specs.Passes.{AreSent, what_of, got}
use Rattle.wire_hub.proofs.Maps.{map_at, map_under}
use Rattle.wire_hub.proofs.Openings.{some_there, next_taken, all_under, map_length}

abbrev Sent : List Letter → ℕ → Inc × List (List Letter) → Type 0
Sent letters at what = IsPrefix (of what.0 letters) (slice_index_or what.1 at [])

pub sent_same : (t u : TakePass) (s r : SendPass) → got t ≡ got u → t.at ≡ u.at → what_of s ≡ what_of r → AreSent t s → AreSent u r
sent_same t u s r letters at what h = subst (λ (x : List Letter × ℕ × (Inc × List (List Letter))). Sent x.0 x.1 x.2) (λ i. (letters i, at i, what i)) h

pub all_sent : (t : TakePass) (xs ys : List SendPass) → map what_of xs ≡ map what_of ys → All (AreSent t) xs → All (AreSent t) ys
all_sent t xs ys same h = all_under what_of (Sent (got t) t.at) ys (subst (All (Sent (got t) t.at)) same (All-map (Sent (got t) t.at) what_of xs h))

-- one more sender was compared
pub next_sender : (old : List SendPass) (now : List SendPass) (k : ℕ) (s : SendPass) (t u : TakePass) → map what_of now ≡ map what_of old → k < length now → s ≡ get_or now k s → got u ≡ got t → u.at ≡ t.at
    → AreSent u s → All (AreSent t) (take k old) → All (AreSent t) (take (k + 1) old)
next_sender old now k s t u same l is letters at sent h =
    let r = map_under what_of old k (what_of s) (ap (λ x. slice_get x k) (sym same) ∙ map_at what_of now k s l is) in
    subst (All (AreSent t)) (sym (next_taken old k r.0 r.1)) (All-push (AreSent t) (take k old) r.0 h (sent_same u t s r.0 letters at (sym r.2) sent))

module _ {A : Type 0} where
  at_drop : (xs : List A) (k : ℕ) → slice_get xs k ≡ slice_get (drop k xs) 0
  at_drop xs zero = refl
  at_drop [] (suc k) = refl
  at_drop (x ∷ xs) (suc k) = at_drop xs k

  pub at_rest : (xs ys : List A) (k : ℕ) → drop k xs ≡ drop k ys → slice_get xs k ≡ slice_get ys k
  at_rest xs ys k e = at_drop xs k ∙ (ap (λ l. slice_get l 0) e ∙ sym (at_drop ys k))

  pub rest_there : (xs ys : List A) (k : ℕ) (x : A) → drop k xs ≡ drop k ys → k < length ys → x ≡ get_or xs k x → slice_get xs k ≡ Some x
  rest_there xs ys k x e l is =
      let within : k < length xs = slice_get_within xs k (get_or ys k x) (at_rest xs ys k e ∙ some_there ys k x l) in
      some_there xs k x within ∙ ap (λ y. Some y) (sym is)

  drop_one : (xs : List A) (k : ℕ) → drop (suc k) xs ≡ drop 1 (drop k xs)
  drop_one [] zero = refl
  drop_one [] (suc k) = refl
  drop_one (x ∷ xs) zero = refl
  drop_one (x ∷ xs) (suc k) = drop_one xs k

  drop_written : (xs : List A) (k : ℕ) (x : A) → drop (suc k) (set xs k x) ≡ drop (suc k) xs
  drop_written [] k x = refl
  drop_written (y ∷ ys) zero x = refl
  drop_written (y ∷ ys) (suc k) x = drop_written ys k x

  pub rest_next : (xs ys : List A) (k : ℕ) (x : A) → drop k xs ≡ drop k ys → drop (k + 1) (set xs k x) ≡ drop (k + 1) ys
  rest_next xs ys k x e = rw add-one (drop_written xs k x ∙ (drop_one xs k ∙ (ap (drop 1) e ∙ sym (drop_one ys k))))

  pub whole : (P : A → Type 0) (xs : List A) (k : ℕ) → length xs ≤ k → All P (take k xs) → All P xs
  whole P xs k l h = subst (All P) (take_all k xs l) h

pub same_length : (xs ys : List SendPass) → map what_of xs ≡ map what_of ys → length xs ≡ length ys
same_length xs ys e = sym (map_length what_of xs) ∙ (ap length e ∙ map_length what_of ys)

-- one more taker was compared
pub next_taker : (sends now : List SendPass) (takes rest : List TakePass) (k : ℕ) (t : TakePass) → drop k rest ≡ drop k takes → map what_of now ≡ map what_of sends → slice_get rest k ≡ Some t → All (AreSent t) now
    → All (λ u. All (AreSent u) sends) (take k takes) → All (λ u. All (AreSent u) sends) (take (k + 1) takes)
next_taker sends now takes rest k t same what at sent h = subst (All (λ u. All (AreSent u) sends)) (sym (next_taken takes k t (sym (at_rest rest takes k same) ∙ at)))
    (All-push (λ u. All (AreSent u) sends) (take k takes) t h (all_sent t now sends what sent))
