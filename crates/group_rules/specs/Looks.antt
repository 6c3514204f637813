-- What a look shows of a member.
use Rattle.std.specs.Prelude.{ℕ, true, false, Some, None, List, [], ◌∷◌, map}
use Rattle.gr_ids.specs.Names.{inc_eq, is_inc}
use Rattle.gtid_sets.specs.Sets.{Gtids}
use Rattle.key_items.specs.Items.{with_item}
use Rattle.node_rules.specs.Node.{promised, node_config, kept_from}
use Rattle.group_rules.specs.Names.{Item, KeptItem, Change}
use Rattle.group_rules.specs.declared.said.Shown.{Shown}
use Rattle.group_rules.specs.declared.said.Shown.TheVariants.{State as InState, Unreachable}
use Rattle.group_rules.specs.declared.said.ShownMember.{ShownMember}
use Rattle.group_rules.specs.declared.said.Row.{Row}
use Rattle.group_rules.specs.declared.said.Look.{Look}
use Rattle.group_rules.specs.declared.said.Look.TheVariants.{Members, Slots, Config, Gtids as Set, Rows, Queue, Certifier, Kept}
use Rattle.group_rules.specs.View.{View, Seat}
use Rattle.group_rules.specs.Events.{Life, Cert, OfflineWrite}
use Rattle.group_rules.specs.Life.{state, executed, view, taken, stored}
use Rattle.group_rules.specs.Watch.{Watch, watch, suspects}
use Rattle.group_rules.specs.Certifier.{certifier}
use Rattle.group_rules.specs.Queue.{queue, is_done}
use Rattle.group_rules.specs.Rows.{known, row_of}
use Rattle.group_rules.specs.Member.{Member}

-- a member that is suspected is shown as unreachable, and this one itself in its own state
abbrev pub shown : Member → Watch → Seat → Shown
shown a w s = elim (inc_eq s.joiner.inc a.me.inc) [
  | true ↦ InState (state a.life)
  | false ↦ elim (suspects a.me.inc w s.joiner.inc) [ true ↦ Unreachable | false ↦ InState s.state ]
]

abbrev pub members_shown : Member → Watch → View → List ShownMember
members_shown a w v = map {A = Seat} (λ s. record { inc = s.joiner.inc; shown = shown a w s; primary = is_inc v.primary s.joiner.inc }) v.seats

abbrev pub show_members : Member → Look
show_members a = let v : View = view a.setup a.life in Members a.me.inc (members_shown a (watch a.setup a.me.inc a.life) v) v.number v.mode

abbrev pub show_slots : Member → Look
show_slots a = Slots a.me.inc a.node.learner.next (taken a.life) (promised a.node)

abbrev pub show_config : ℕ → Member → Look
show_config t a = Config a.me.inc t (node_config a.node t)

abbrev pub show_gtids : Member → Look
show_gtids a = Set a.me.inc (executed a.life)

-- ---- rows

abbrev pub changed_items : List Change → List Item → List Item
changed_items [] is = is
changed_items (c ∷ cs) is = changed_items cs (with_item is c.item)

abbrev pub cert_items : List Cert → List Item → List Item
cert_items [] is = is
cert_items (c ∷ cs) is = cert_items cs (changed_items c.txn.changes is)

abbrev pub written_items : List OfflineWrite → List Item → List Item
written_items [] is = is
written_items (w ∷ ws) is = written_items ws (with_item is w.item)

-- all items that it knows of, ascending
abbrev pub all_items : Life → List Item
all_items l = written_items (stored l).writes (cert_items (known l) [])

abbrev pub rows_at : Life → Gtids → List Item → List Row
rows_at l e [] = []
rows_at l e (i ∷ is) = elim (row_of l e i) [ None ↦ rows_at l e is | Some r ↦ record { item = i; value = r } ∷ rows_at l e is ]

abbrev pub show_rows : Member → Look
show_rows a = Rows a.me.inc (rows_at a.life (executed a.life) (all_items a.life))

-- ---- the queue, the certifier, the slots kept

abbrev pub show_queue : Member → Look
show_queue a = Queue a.me.inc (map {A = Cert} (λ c. record { place = c.place; done = is_done a.life c.place }) (queue a.life a.me.inc))

abbrev pub show_certifier : Member → Look
show_certifier a = Certifier a.me.inc (map {A = KeptItem} (λ k. record { item = k.item; gtid = k.gtid }) (certifier a.setup a.life).items)

abbrev pub show_kept : Member → Look
show_kept a = Kept a.me.inc (kept_from a.node)
