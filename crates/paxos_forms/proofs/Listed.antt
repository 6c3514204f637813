-- Each element of a list that fits its form can be put.
use Rattle.std.proofs.Common.{ℕ, ◌≤◌, ◌<◌, ◌^◌, List, length, Option, Some, None, arith}
use Rattle.std.specs.List.{AllByRecursion}
use Rattle.byte_forms.specs.Lists.{IsChain}
use Rattle.byte_forms.proofs.ListLemmas.{chain_all}
use Rattle.name_forms.specs.OpenParts.{OpenParts, IsOpenAfter}
use Rattle.key_items.specs.declared.item.Item.{Item}
use Rattle.key_items.specs.declared.item.KeptItem.{KeptItem}
use Rattle.key_items.specs.Spelling.{IsItem, IsItemAfter}
use Rattle.key_items.proofs.ItemLemmas.{each_item}
use Rattle.slot_values.specs.declared.value.Vote.{Vote}
use Rattle.slot_values.specs.Spelling.{IsWhat, IsVoteAfter}
use Rattle.paxos_forms.specs.Gives.{Given, IsKeptAfter, IsGivenAfter, item_of_kept}

pub votes_fit : (xs : List Vote) → IsChain IsVoteAfter None xs → AllByRecursion (λ v. IsWhat v.value.id.number v.value.what) xs
votes_fit xs h = chain_all IsVoteAfter (λ v. IsWhat v.value.id.number v.value.what) (λ before v is. is.value.what) None xs h

pub kept_fit : (place : ℕ) (xs : List KeptItem) → IsChain (IsKeptAfter place) None xs → AllByRecursion (λ k. IsItem k.item) xs
kept_fit place xs h = chain_all (IsKeptAfter place) (λ k. IsItem k.item) (λ before k is. each_item (item_of_kept before) k.item is.item) None xs h

small_body : (n : ℕ) → n ≤ 4294967295 → n < 2 ^ 32
small_body n h = omega arith

pub given_fit : (place : ℕ) (xs : List Given) → IsChain (IsGivenAfter place) None xs → AllByRecursion (λ g. length g.body < 2 ^ 32) xs
given_fit place xs h = chain_all (IsGivenAfter place) (λ g. length g.body < 2 ^ 32) (λ before g is. small_body (length g.body) is.body) None xs h

small_parts : (p : OpenParts) (before : Option OpenParts) → IsOpenAfter before p → length p.bytes < 2 ^ 32
small_parts p before is = omega (arith, is.bytes, is.held_below, is.count_below)

pub parts_fit : (xs : List OpenParts) → IsChain IsOpenAfter None xs → AllByRecursion (λ p. length p.bytes < 2 ^ 32) xs
parts_fit xs h = chain_all IsOpenAfter (λ p. length p.bytes < 2 ^ 32) (λ before p is. small_parts p before is) None xs h
