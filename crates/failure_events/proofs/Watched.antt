-- Members that are followed stand behind those watched before.
use Rattle.std.proofs.Common.{◌≡◌, List, [], ◌∷◌, ◌++◌, map, sym, ap, ◌∙◌, append_assoc}
use Rattle.std.proofs.lemmas.List.{append-nil}
use Rattle.gr_ids.specs.declared.names.Inc.{Inc}
use Rattle.group_rules.specs.Watch.{Watch, follow, follow_all}
use Rattle.failure_events.specs.Watching.{unheard}

pub follow_all_is : (w : Watch) (is : List Inc) → follow_all w is ≡ record w { silences = w.silences ++ map unheard is }
follow_all_is w [] = ap (λ xs. record w { silences = xs }) (sym (append-nil w.silences))
follow_all_is w (i ∷ is) = follow_all_is (follow w i) is ∙ ap (λ xs. record w { silences = xs }) (append_assoc w.silences (unheard i ∷ []) (map unheard is))
