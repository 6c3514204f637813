-- How a member begins.
use Rattle.std.proofs.Common.{◌≡◌, inl, inr, zero, suc, None, List, [], ◌∷◌, map, refl, sym, subst, arith}
use Rattle.std.specs.List.{All, AllByRecursion}
use Rattle.gr_ids.specs.declared.names.Inc.{Inc}
use Rattle.gr_ids.specs.declared.levels.MemberState.TheVariants.{Offline, Online}
use Rattle.name_forms.specs.Incs.{IsInc}
use Rattle.slot_values.specs.Joiners.{IsJoiner}
use Rattle.slot_values.specs.declared.value.Joiner.{Joiner}
use Rattle.paxos_forms.specs.declared.recovery.Given.{Given}
use Rattle.node_rules.specs.Lists.{In}
use Rattle.node_rules.specs.Node.{founder, joiner}
use Rattle.group_rules.specs.declared.marks.Cause.TheVariants.{Founded, Started}
use Rattle.group_rules.specs.Events.{Cert, Founds, Is, Setup, Starts, Stored}
use Rattle.group_rules.specs.Recovery.{given_of}
use Rattle.group_rules.specs.Steps.{found, group_of, start}
use Rattle.donor_recovery.specs.Donating.{HasNumber}
use Rattle.kept_server.specs.Keeping.{left_of}
use Rattle.kept_server.specs.Redoing.{LeadTo}
use Rattle.member_parts.specs.Standing.{StandsFor}
use Rattle.member_parts.proofs.Passed.{stated}
use Rattle.member_own.specs.Keeping.{Keeps, nothing_kept}
use Rattle.member_own.proofs.Kept.{passes}
use Rattle.member_joining.specs.Joins.{JoinsBy}
use Rattle.member_joining.proofs.Joined.{leads, starts, states}
use Rattle.member_ranges.specs.Lives.{AreGivable, IsGivable}
use Rattle.member_ranges.specs.Ranges.{InRange, IsFounding}
use Rattle.member_ranges.proofs.Begun.{founded_in_range, started_in_range}
use Rattle.member_ranges.proofs.Sent.{add_is}
use Rattle.member_tables.specs.Standing.{TablesFor}
use Rattle.member_moment.specs.declared.moment.Moment.{Moment}
use Rattle.member_moment.specs.Founding.{HasBegun, IsKeepable, add_message}
use Rattle.member_moment.proofs.Ordered.{one_spelt}

-- ---- what a server kept

givable : (c : Cert) → IsKeepable (given_of c) → IsGivable c
givable c k = record { place_above = k.place_above; place_below = k.place_below; origin = k.origin; source = k.source; number = k.number; body = k.body }

pub all_givable : (cs : List Cert) → AllByRecursion IsKeepable (map given_of cs) → AreGivable cs
all_givable [] h c m = absurd m
all_givable (d ∷ cs) h c (inl e) = subst IsGivable e (givable d h.0)
all_givable (d ∷ cs) h c (inr m) = all_givable cs h.1 c m

pub all_numbered : (gs : List Given) → AllByRecursion IsKeepable gs → All HasNumber gs
all_numbered [] h n d l = absurd (omega (arith, l))
all_numbered (g ∷ gs) h zero d l = (h.0).number
all_numbered (g ∷ gs) h (suc n) d l = all_numbered gs h.1 n d (omega (arith, l))

-- nothing is committed yet
nothing_yet : (y : Stored) (x : Moment) → x.committed.items ≡ [] → LeadTo y x.committed.items y
nothing_yet y x e = subst (λ gs. LeadTo y gs y) (sym e) refl

-- ---- a founder

pub founded : (s : Setup) (j : Joiner) (x : Moment) → IsFounding s → In j s.founders → x.me ≡ j → x.contact ≡ j.inc → x.limits ≡ s.limits → x.node ≡ founder (group_of s) j.inc
    → StandsFor s j.inc (Founds ∷ []) x.parts → TablesFor (found s j) x.tables → x.own ≡ nothing_kept → x.joining ≡ None → x.committed.items ≡ [] → x.marks.items ≡ [] → x.sent.items ≡ []
    → HasBegun (found s j) x
unfolding found
founded s j x good m me contact limits node parts tables own joining committed marks sent = record {
  rest = record {
    me = me;
    contact = contact;
    limits = limits;
    node = node;
    parts = stated s j.inc (Founds ∷ []) Online Founded x.parts refl refl parts;
    own = subst (Keeps j.inc (Is Online Founded ∷ Founds ∷ [])) (sym own) (passes j.inc (Founds ∷ []) nothing_kept (Is Online Founded) refl (record { number = refl; arrival = refl; count = refl; place = refl }));
    joining = subst (JoinsBy (Is Online Founded ∷ Founds ∷ [])) (sym joining) (leads Founded);
    committed = nothing_yet (left_of (found s j).life) x committed;
    marks = record { since = []; grown = refl; told = marks };
    sent = sent;
    range = founded_in_range s good j m;
    sent_range = λ y i. absurd i;
    ranged = (tt, (tt, tt));
  };
  tables = tables;
}

-- ---- a joiner

pub started : (s : Setup) (j : Joiner) (y : Stored) (i : Inc) (x : Moment) → IsFounding s → IsJoiner j → IsInc i → AreGivable y.committed → x.me ≡ j → x.contact ≡ i → x.limits ≡ s.limits
    → x.node ≡ joiner (group_of s) j.inc → StandsFor s j.inc (Starts y ∷ []) x.parts → TablesFor (start s j y i) x.tables → x.own ≡ nothing_kept → x.joining ≡ None → x.committed.items ≡ []
    → x.marks.items ≡ [] → x.sent.items ≡ add_message j i ∷ [] → HasBegun (start s j y i) x
unfolding start
started s j y i x good fits to kept me contact limits node parts tables own joining committed marks sent =
    let range : InRange (start s j y i) = started_in_range s good j y i fits to kept in
    record {
      rest = record {
        me = me;
        contact = contact;
        limits = limits;
        node = node;
        parts = stated s j.inc (Starts y ∷ []) Offline Started x.parts refl refl parts;
        own = subst (Keeps j.inc (Is Offline Started ∷ Starts y ∷ [])) (sym own) (passes j.inc (Starts y ∷ []) nothing_kept (Is Offline Started) refl (record { number = refl; arrival = refl; count = refl; place = refl }));
        joining = subst (JoinsBy (Is Offline Started ∷ Starts y ∷ [])) (sym joining) (states (Starts y ∷ []) Offline Started None (starts y) (refl, refl));
        committed = nothing_yet (left_of (start s j y i).life) x committed;
        marks = record { since = []; grown = refl; told = marks };
        sent = sent;
        range = range;
        sent_range = one_spelt (add_message j i) (record { from = fits.inc; to = to; wire = add_is (start s j y i) range });
        ranged = (tt, (tt, tt));
      };
      tables = tables;
    }
