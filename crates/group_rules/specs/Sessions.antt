-- Sessions: where each one's transaction stands, its begin call and its changes.
use Rattle.std.specs.Prelude.{ℕ, suc, Bool, true, false, Option, Some, None, List, [], ◌∷◌, ◌++◌, nat_lt, ◌==◌}
use Rattle.gtid_sets.specs.Sets.{Gtids}
use Rattle.group_rules.specs.Names.{ValueId, Level, Change}
use Rattle.group_rules.specs.Events.{Came, Called, Begun, Changed, AsksCommit, Ends, Life, Ticks}

-- It has no transaction; its begin is held; its transaction is active; its commit is asked as this value.
pub data Phase : Type 0 where
  Free : Phase
  Holding : Phase
  Active : Phase
  Asking : (id : ValueId) → Phase

abbrev pub phase : Life → ℕ → Phase
phase [] s = Free
phase (Called t v w ∷ l) s = elim (t == s) [ true ↦ Holding | false ↦ phase l s ]
phase (Begun t e y ∷ l) s = elim (t == s) [ true ↦ Active | false ↦ phase l s ]
phase (AsksCommit t i ∷ l) s = elim (t == s) [ true ↦ Asking i | false ↦ phase l s ]
phase (Ends t ∷ l) s = elim (t == s) [ true ↦ Free | false ↦ phase l s ]
phase (_ ∷ l) s = phase l s

abbrev pub is_begun : Phase → Bool
is_begun Free = false
is_begun p = true

abbrev pub is_active : Phase → Bool
is_active Active = true
is_active _ = false

abbrev pub is_asking : Phase → Bool
is_asking (Asking i) = true
is_asking _ = false

abbrev pub is_holding : Phase → Bool
is_holding Holding = true
is_holding _ = false

abbrev pub with_session : List ℕ → ℕ → List ℕ
with_session [] n = n ∷ []
with_session (x ∷ xs) n = elim (nat_lt n x) [ true ↦ n ∷ x ∷ xs | false ↦ elim (n == x) [ true ↦ x ∷ xs | false ↦ x ∷ with_session xs n ] ]

-- the sessions that ever began, ascending
abbrev pub sessions : Life → List ℕ
sessions [] = []
sessions (Called t v w ∷ l) = with_session (sessions l) t
sessions (_ ∷ l) = sessions l

-- a begin call: its level and wait limit, the history before it, and the ticks since
pub record Call : Type 0 where
  pub level : Level
  pub limit : ℕ
  pub past : Life
  pub ticks : ℕ

abbrev pub one_tick : Option Call → Option Call
one_tick None = None
one_tick (Some c) = Some (record c { ticks = suc c.ticks })

-- the session's last begin call
abbrev pub last_call : Life → ℕ → Option Call
last_call [] s = None
last_call (Called t v w ∷ l) s = elim (t == s) [ true ↦ Some (record { level = v; limit = w; past = l; ticks = 0 }) | false ↦ last_call l s ]
last_call (Came Ticks ∷ l) s = one_tick (last_call l s)
last_call (_ ∷ l) s = last_call l s

-- the E of its transaction: what it reads
abbrev pub begun_set : Life → ℕ → Gtids
begun_set [] s = []
begun_set (Begun t e y ∷ l) s = elim (t == s) [ true ↦ e | false ↦ begun_set l s ]
begun_set (_ ∷ l) s = begun_set l s

-- the changes of its transaction, in order
abbrev pub changes : Life → ℕ → List Change
changes [] s = []
changes (Called t v w ∷ l) s = elim (t == s) [ true ↦ [] | false ↦ changes l s ]
changes (Changed t c ∷ l) s = elim (t == s) [ true ↦ changes l s ++ c ∷ [] | false ↦ changes l s ]
changes (_ ∷ l) s = changes l s
