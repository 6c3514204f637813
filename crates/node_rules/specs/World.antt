-- A whole world of nodes: everything that was ever sent may come, any number of times and in any order, or never.
use Rattle.std.specs.Prelude.{ℕ, Option, Some, None, List, [], ◌∷◌, ◌++◌, map, flat_map, slice_get, if◌then◌else◌, is_some}
use Rattle.node_rules.specs.Names.{Inc, Value, Vote, Joiner, What, Add, Taken, Message, Offer, Greet, Heard, Own, Campaign, Tick, Propose}
use Rattle.gr_ids.specs.Names.{inc_eq, has_inc}
use Rattle.slot_values.specs.Log.{Group, Turns}
use Rattle.node_rules.specs.Lists.{In}
use Rattle.node_rules.specs.Node.{Node, takes_effect, Effect, quiet, also, message, founder, joiner}
use Rattle.node_rules.specs.Welcoming.{Shown, welcome_of}
use Rattle.node_rules.specs.Taking.{take}
use Rattle.node_rules.specs.Step.{node_step}
use Rattle.node_rules.specs.Chosen.{Cast}

-- a slot that was handed out, and to whom
pub record Took : Type 0 where
  pub by : Inc
  pub taken : Taken

-- Each incarnation ever started, with its node; every message ever sent, every vote ever cast, every slot ever taken, every value ever made; the incarnations that stopped.
pub record World : Type 0 where
  pub at : Inc → Option Node
  pub wire : List Message
  pub cast : List Cast
  pub took : List Took
  pub made : List Value
  pub ended : List Inc

-- What an incarnation may do by itself. One that takes an Add with effect may send the joiner a Welcome, which shows its view.
pub data Act : Type 0 where
  Owns : (value : Value) → Act
  Campaigns : Act
  Ticks : Act
  Proposes : Act
  Takes : (welcome : Option Shown) → Act

-- A step: any message ever sent is taken by its addressee, which then does these acts; or an incarnation does these acts; or one starts or stops.
pub data Event : Type 0 where
  Hears : (message : ℕ) (acts : List Act) → Event
  Does : (inc : Inc) (acts : List Act) → Event
  Starts : (joiner : Joiner) (contact : Inc) → Event
  Ends : (inc : Inc) → Event

-- ---- one act

abbrev pub greet_by : Node → Option Turns → What → Shown → List Message
greet_by n (Some w) (Add j) v = message n j.inc (Greet (welcome_of n w v)) ∷ []
greet_by n w x v = []

-- the Welcome of the node n, which has just taken this slot
abbrev pub greets : Option Shown → Node → Taken → List Message
greets None n x = []
greets (Some v) n x = if takes_effect x.kept then greet_by n n.turns x.value.what v else []

abbrev pub takes : Option Shown → Node → Effect
takes s n = let e : Effect = take n in record e { sent = e.sent ++ flat_map (greets s e.node) e.took }

-- an incarnation makes values of its own alone
abbrev pub does : Inc → Act → Node → Effect
does i (Owns v) n = if inc_eq v.id.origin i then node_step (Own v) n else quiet n
does i Campaigns n = node_step Campaign n
does i Ticks n = node_step Tick n
does i Proposes n = node_step Propose n
does i (Takes s) n = takes s n

abbrev pub does_all : Inc → List Act → Node → Effect
does_all i [] n = quiet n
does_all i (a ∷ l) n = also (does i a n) (does_all i l)

abbrev pub made_by : Inc → Act → List Value
made_by i (Owns v) = if inc_eq v.id.origin i then v ∷ [] else []
made_by i _ = []

abbrev pub all_made_by : Inc → List Act → List Value
all_made_by i l = flat_map (made_by i) l

-- ---- one event

-- how the messages of a step go on the wire: in some order, each once, none added
abbrev pub Arranges : (List Message → List Message) → Type 0
Arranges arrange = (ms : List Message) (m : Message) → In m (arrange ms) → In m ms

abbrev pub put_node : (Inc → Option Node) → Inc → Node → Inc → Option Node
put_node at i n j = if inc_eq i j then Some n else at j

abbrev pub casts_by : Inc → List Vote → List Cast
casts_by i xs = map (λ x. record { by = i; vote = x }) xs

abbrev pub took_by : Inc → List Taken → List Took
took_by i xs = map (λ x. record { by = i; taken = x }) xs

-- what the step of this incarnation makes of the world
abbrev pub acted : (List Message → List Message) → World → Inc → Effect → World
acted arrange w i e = record w { at = put_node w.at i e.node; wire = w.wire ++ arrange e.sent; cast = w.cast ++ casts_by i e.cast; took = w.took ++ took_by i e.took }

abbrev pub makes : World → List Value → World
makes w vs = record w { made = w.made ++ vs }

abbrev pub act_on : (List Message → List Message) → World → Inc → List Act → (Node → Effect) → Option Node → World
act_on arrange w i l f None = w
act_on arrange w i l f (Some n) = if has_inc w.ended i then w else acted arrange (makes w (all_made_by i l)) i (also (f n) (does_all i l))

-- an incarnation that runs does f, and then these acts
abbrev pub acts : (List Message → List Message) → World → Inc → List Act → (Node → Effect) → World
acts arrange w i l f = act_on arrange w i l f (w.at i)

abbrev pub hears : (List Message → List Message) → World → List Act → Option Message → World
hears arrange w l None = w
hears arrange w l (Some m) = acts arrange w m.to l (node_step (Heard m))

-- The Add that a joiner sends to its contact. It has no number yet, and no slot takes it: the contact makes a value of its own of it.
abbrev pub add_of : Joiner → Value
add_of j = record { id = record { origin = j.inc; number = 0 }; what = Add j }

abbrev pub start_sent : Joiner → Inc → Message
start_sent j contact = record { from = j.inc; to = contact; wire = Offer (add_of j) }

-- an incarnation starts once
abbrev pub starts : Group → World → Joiner → Inc → World
starts g w j contact =
    if is_some (w.at j.inc) then w
    else record w { at = put_node w.at j.inc (joiner g j.inc); wire = w.wire ++ start_sent j contact ∷ [] }

abbrev pub happens : (List Message → List Message) → Group → World → Event → World
happens arrange g w (Hears k l) = hears arrange w l (slice_get w.wire k)
happens arrange g w (Does i l) = acts arrange w i l quiet
happens arrange g w (Starts j contact) = starts g w j contact
happens arrange g w (Ends i) = record w { ended = i ∷ w.ended }

-- ---- a run

abbrev pub founders_at : Group → Inc → Option Node
founders_at g i = if has_inc g.founders i then Some (founder g i) else None

abbrev pub start : Group → World
start g = record { at = founders_at g; wire = []; cast = []; took = []; made = []; ended = [] }

abbrev pub run_from : (List Message → List Message) → Group → List Event → World → World
run_from arrange g [] w = w
run_from arrange g (e ∷ es) w = run_from arrange g es (happens arrange g w e)

-- the world after these events
unfoldable pub run : (List Message → List Message) → Group → List Event → World
run arrange g es = run_from arrange g es (start g)
