-- What a script asks of a member is within the ranges that a member takes.
use Rattle.std.proofs.Common.{◌≡◌, ◌≤◌, ℕ, true, Some, None, List, [], ◌∷◌, ap, subst, ◌∙◌, arith, refl}
use Rattle.std.specs.Prelude.{◌&&◌, nat_lt}
use Rattle.std.specs.List.{list_all}
use Rattle.std.proofs.lemmas.Bool.Decides.{nat_tests}
use Rattle.gr_ids.specs.declared.levels.Mode.{Mode}
use Rattle.key_items.specs.Spelling.{IsItem}
use Rattle.key_items.specs.declared.item.Item.{Item}
use Rattle.group_rules.specs.declared.steps.Step.{Step}
use Rattle.group_rules.specs.declared.steps.Step.TheVariants.{Block, Found, Offline, Once, Operate, Session}
use Rattle.group_rules.specs.declared.requests.Operator.{Operator}
use Rattle.group_rules.specs.declared.requests.Operator.TheVariants.{Campaign, Tell, Leave, SetPrimary, Single, Multi, AskDonor, DonorFailed, Finish}
use Rattle.group_rules.specs.declared.requests.Request.{Request}
use Rattle.group_rules.specs.declared.requests.Request.TheVariants.{Begin, Get, Insert, Update, Delete, Commit, Rollback}
use Rattle.key_items.specs.declared.change.Change.{Change}
use Rattle.key_items.specs.declared.change.ChangeKind.{ChangeKind}
use Rattle.key_items.specs.declared.change.ChangeKind.TheVariants.{Insert as Inserts, Update as Updates, Delete as Deletes}
use Rattle.gr_ids.specs.declared.names.Inc.{Inc}
use Rattle.name_forms.specs.Incs.{IsInc}
use Rattle.group_rules.specs.Script.{request_of}
use Rattle.member_moment.specs.Calling.{IsRequest as TakesRequest}
use Rattle.member_core.specs.Operating.{IsOperator as TakesOperator}
use Rattle.script_text.specs.Ranges.{AreServers, IsChange, IsFounding, IsIn, IsNamed, IsOperator, IsRequest, IsServer, IsStep, IsValue}

pub request_fits : (r : Request) → IsRequest r → TakesRequest r
request_fits (Begin v w) h = h.0
request_fits (Get i) h = h
request_fits (Insert i r) h = h.0
request_fits (Update i r) h = h.0
request_fits (Delete i) h = h
request_fits Commit h = tt
request_fits Rollback h = tt

named : (i : Inc) → IsNamed i → IsInc i
named i h = record { server_above = h.0.0; server_below = h.0.1; start_above = h.1.0; start_below = h.1.1 }

pub operator_fits : (o : Operator) → IsOperator o → TakesOperator o
operator_fits Campaign h = tt
operator_fits Tell h = tt
operator_fits Leave h = tt
operator_fits (SetPrimary i) h = named i h
operator_fits (Single None) h = tt
operator_fits (Single (Some i)) h = named i h
operator_fits Multi h = tt
operator_fits (AskDonor i) h = named i h
operator_fits DonorFailed h = tt
operator_fits Finish h = tt

-- the statement of a change
pub statement_fits : (c : Change) → IsChange c → IsRequest (request_of c.item c.what)
statement_fits c h = go c.what h
  where
    go : (k : ChangeKind) → IsChange (record c { what = k }) → IsRequest (request_of c.item k)
    go (Inserts v) q = q
    go (Updates v) q = q
    go Deletes q = q.0

-- ---- what is known of a step's parts

pub session_fits : (x : Step) (n s : ℕ) (r : Request) → IsStep x → x ≡ Session n s r → IsRequest r
unfolding IsStep
session_fits x n s r h e = let k : IsServer n × IsIn 1 999999999 s × IsRequest r = subst IsStep e h in k.2

pub once_fits : (x : Step) (n s : ℕ) (c : Change) → IsStep x → x ≡ Once n s c → IsChange c
unfolding IsStep
once_fits x n s c h e = let k : IsServer n × IsIn 1000000001 1001000000 s × IsChange c = subst IsStep e h in k.2

pub asked_fits : (x : Step) (n : ℕ) (o : Operator) → IsStep x → x ≡ Operate n o → IsOperator o
unfolding IsStep
asked_fits x n o h e = let k : IsServer n × IsOperator o = subst IsStep e h in k.1

pub block_fits : (x : Step) (b : ℕ) → IsStep x → x ≡ Block b → IsIn 1 1000000 b
unfolding IsStep
block_fits x b h e = subst IsStep e h

pub offline_fits : (x : Step) (n : ℕ) (i : Item) (r : List ℕ) → IsStep x → x ≡ Offline n i r → IsItem i
unfolding IsStep
offline_fits x n i r h e = let k : IsServer n × IsItem i × IsValue r = subst IsStep e h in k.1

below_hundred : (n : ℕ) → n ≤ 32 → nat_lt n 100 ≡ true
below_hundred n h = grind (arith, nat_tests)

all_below : (ns : List ℕ) → AreServers ns → list_all (λ n. nat_lt n 100) ns ≡ true
all_below [] h = refl
all_below (n ∷ ns) h = ap (λ b. b && list_all (λ k. nat_lt k 100) ns) (below_hundred n h.0.1) ∙ all_below ns h.1

pub founders_fit : (x : Step) (g : List ℕ) (m : Mode) (h e q : ℕ) (ns : List ℕ) → IsStep x → x ≡ Found g m h e q ns → list_all (λ n. nat_lt n 100) ns ≡ true
unfolding IsStep
founders_fit x g m h e q ns k i = let f : IsFounding h e q ns = subst IsStep i k in all_below ns f.servers
