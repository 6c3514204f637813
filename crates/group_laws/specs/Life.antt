-- The life of one incarnation: all that it did, newest first, one mark at a time; and what follows from it.
use Rattle.std.specs.Prelude.{ℕ, Bool, true, false, cond, ◌&&◌, ◌||◌, not, List, [], ◌∷◌, Option, Some, None, ◌++◌, ◌==◌}
use Rattle.std.specs.List.{list_any}
use Rattle.group_rules.specs.Events.{Setup}
use Rattle.group_laws.specs.Names.{Inc, Gtid, gtid_eq, Gtids, has, has_inc, Change, Level}
use Rattle.group_laws.specs.Entries.{Value, Placed, values, Cert, certified}
use Rattle.group_laws.specs.Lists.{newest}
use Rattle.group_laws.specs.View.{founders, active}
use Rattle.group_laws.specs.Verdict.{writes}

pub data Did : Type 0 where
  Started : (set : Gtids) → Did  -- it is to join, and its server has executed this
  Given : (base : List Placed) → Did  -- it takes a Give; this is the list up to its Add
  Made : (value : Value) → Did  -- an own value
  Took : (entry : Placed) → Did
  Finished : (place : ℕ) → Did  -- the place is Done
  Committed : (gtid : Gtid) → Did
  Called : (session : ℕ) (level : Level) (sync : ℕ) → Did  -- a begin call, with the number of its Sync value
  Begun : (session : ℕ) → Did
  Changed : (session : ℕ) (change : Change) → Did  -- a statement is answered Changed
  Asked : (session : ℕ) → Did  -- a commit with changes; its value is made next
  Ended : (session : ℕ) → Did  -- a transaction ends without
  Acked : (gtid : Gtid) → Did  -- a commit is answered Committed
  Fell : Did  -- ERROR

abbrev pub Life : Type 0
Life = List Did

-- the entries that it has taken or was given, with their outcomes
abbrev pub marked : Life → List Placed
marked [] = []
marked (Took e ∷ l) = e ∷ marked l
marked (Given base ∷ l) = base
marked (_ ∷ l) = marked l

abbrev pub taken : Life → List Value
taken l = values (marked l)

-- what it started with, and what it committed
abbrev pub executed : Life → Gtid → Bool
executed [] g = false
executed (Started s ∷ l) g = has s g
executed (Committed c ∷ l) g = gtid_eq c g || executed l g
executed (_ ∷ l) g = executed l g

abbrev pub is_give : Did → Bool
is_give (Given base) = true
is_give _ = false

abbrev pub is_fall : Did → Bool
is_fall Fell = true
is_fall _ = false

abbrev pub finishes : ℕ → Did → Bool
finishes n (Finished p) = (p == n)
finishes n _ = false

abbrev pub founder : Setup → Inc → Bool
founder r m = has_inc (founders r) m

-- it was founded, or has its Give
abbrev pub ready : Setup → Inc → Life → Bool
ready r m l = founder r m || list_any is_give l

-- ONLINE by its own marks
abbrev pub online : Setup → Inc → Life → Bool
online r m l = not (list_any is_fall l) && active r (taken l) m

-- the number of its last own value; 0 at first
abbrev pub last_made : Life → ℕ
last_made [] = 0
last_made (Made v ∷ l) = v.number
last_made (_ ∷ l) = last_made l

-- a begin call: its level, the number of its Sync value, and what the incarnation had done before it
pub record Call : Type 0 where
  pub level : Level
  pub sync : ℕ
  pub past : Life

-- the last begin call of a session
abbrev pub last_call : Life → ℕ → Option Call
last_call [] s = None
last_call (Called t level sync ∷ l) s = cond ((t == s)) (Some (record { level = level; sync = sync; past = l })) (last_call l s)
last_call (_ ∷ l) s = last_call l s

-- what it had done before the session's present begin call was answered Begun
abbrev pub last_begun : Life → ℕ → Option Life
last_begun [] s = None
last_begun (Begun t ∷ l) s = cond ((t == s)) (Some l) (last_begun l s)
last_begun (Called t level sync ∷ l) s = cond ((t == s)) None (last_begun l s)
last_begun (_ ∷ l) s = last_begun l s

-- ---- transactions of sessions

abbrev pub hits : Option Cert → List Change → Bool
hits None cs = false
hits (Some c) cs = list_any (λ ch. writes c ch.item) cs

abbrev pub unless_hit : Option Cert → Option (List Change) → Option (List Change)
unless_hit c None = None
unless_hit c (Some cs) = cond (hits c cs) None (Some cs)

abbrev pub one_more : Change → Option (List Change) → Option (List Change)
one_more ch None = None
one_more ch (Some cs) = Some (cs ++ ch ∷ [])

abbrev pub at_place : ℕ → List Cert → Option Cert
at_place n cs = newest (λ c. (c.place == n)) cs

-- the changes of the session's transaction, in order, while it holds their keys: until its commit is asked, it ends, or a Done place takes one of them
abbrev pub open_of : Setup → Life → ℕ → Option (List Change)
open_of r [] s = None
open_of r (Called t level sync ∷ l) s = cond ((t == s)) (Some []) (open_of r l s)
open_of r (Changed t ch ∷ l) s = cond ((t == s)) (one_more ch (open_of r l s)) (open_of r l s)
open_of r (Finished p ∷ l) s = unless_hit (at_place p (certified r (marked l))) (open_of r l s)
open_of r (Asked t ∷ l) s = cond ((t == s)) None (open_of r l s)
open_of r (Ended t ∷ l) s = cond ((t == s)) None (open_of r l s)
open_of r (_ ∷ l) s = open_of r l s
