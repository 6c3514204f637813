-- What a step of a member leaves: what is said of it, and its messages.
use Rattle.std.proofs.Common.{◌≡◌, ◌⊎◌, inl, inr, Bool, true, false, Option, None, Some, List, [], ◌∷◌, ◌++◌, append-nil, reverse, refl, sym, ap, ◌∙◌}
use Rattle.std.specs.Prelude.{map}
use Rattle.std.proofs.lemmas.List.{reverse-append}
use Rattle.gr_ids.specs.declared.names.Inc.{Inc}
use Rattle.paxos_forms.specs.declared.message.Message.{Message}
use Rattle.node_rules.specs.Lists.{In}
use Rattle.member_messages.specs.Sending.{spelt}
use Rattle.group_rules.specs.declared.marks.Mark.{Mark}
use Rattle.group_rules.specs.declared.said.Said.{Said}
use Rattle.group_rules.specs.declared.said.Said.TheVariants.{Marked}
use Rattle.group_rules.specs.Events.{Did, Life, mark_of, marks_of, with_mark}
use Rattle.group_rules.specs.Histories.{arranged, message_eq, message_lt, with_message}
use Rattle.group_rules.specs.Script.{said_mark, said_of}
use Rattle.group_rules.specs.World.{dids}
use Rattle.group_world.specs.Events.{messages_in, said_by}

-- ---- what is said

marks_more : (x y : Life) → marks_of (x ++ y) ≡ marks_of x ++ marks_of y
marks_more [] y = refl
marks_more (d ∷ x) y = go (mark_of d) (marks_more x y)
  where
    go : (o : Option Mark) → marks_of (x ++ y) ≡ marks_of x ++ marks_of y → with_mark o (marks_of (x ++ y)) ≡ with_mark o (marks_of x) ++ marks_of y
    go None h = h
    go (Some m) h = ap (λ l. m ∷ l) h

said_more : (i : Inc) (xs ys : List Mark) → said_by i (xs ++ ys) ≡ said_by i xs ++ said_by i ys
said_more i [] ys = refl
said_more i (x ∷ xs) ys = ap (λ l. Marked i x ∷ l) (said_more i xs ys)

said_one : (i : Inc) (d : Did) (xs : List Said) → said_mark i (mark_of d) xs ≡ xs ++ said_by i (marks_of (d ∷ []))
said_one i d xs = go (mark_of d)
  where
    go : (o : Option Mark) → said_mark i o xs ≡ xs ++ said_by i (with_mark o [])
    go None = sym (append-nil xs)
    go (Some m) = refl

-- the marks of what an incarnation did, oldest first
pub said_dids : (i : Inc) (l : Life) → said_of (dids i l) ≡ said_by i (marks_of (reverse l))
said_dids i [] = refl
said_dids i (d ∷ l) = said_one i d (said_of (dids i l)) ∙ (ap (λ xs. xs ++ said_by i (marks_of (d ∷ []))) (said_dids i l)
    ∙ (sym (said_more i (marks_of (reverse l)) (marks_of (d ∷ []))) ∙ ap (said_by i) (sym (marks_more (reverse l) (d ∷ [])) ∙ ap marks_of (sym (reverse-append (d ∷ []) l)))))

-- ---- what is sent

pub messages_spelt : (ms : List Message) → messages_in (map spelt ms) ≡ ms
messages_spelt [] = refl
messages_spelt (m ∷ ms) = ap (λ l. m ∷ l) (messages_spelt ms)

in_with : (n m : Message) (ms : List Message) → In n (with_message ms m) → (m ≡ n) ⊎ In n ms
in_with n m [] h = h
in_with n m (x ∷ xs) h = go (message_lt m x) (message_eq m x) h (in_with n m xs)
  where
    go : (b c : Bool) → In n (elim b [ true ↦ m ∷ x ∷ xs | false ↦ elim c [ true ↦ x ∷ xs | false ↦ x ∷ with_message xs m ] ]) → (In n (with_message xs m) → (m ≡ n) ⊎ In n xs) → (m ≡ n) ⊎ In n (x ∷ xs)
    go true c k r = k
    go false true k r = inr k
    go false false (inl e) r = inr (inl e)
    go false false (inr k) r = elim (r k) [ inl e ↦ inl e | inr z ↦ inr (inr z) ]

-- each of the arranged messages is one of the step's
pub arranged_in : (n : Message) (ms : List Message) → In n (arranged ms) → In n ms
arranged_in n [] h = h
arranged_in n (m ∷ ms) h = elim (in_with n m (arranged ms) h) [ inl e ↦ inl e | inr k ↦ inr (arranged_in n ms k) ]
