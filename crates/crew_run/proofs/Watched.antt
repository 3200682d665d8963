-- The watched leaves are leaves of the net.
use Rattle.std.proofs.Common.{◌≡◌, ℕ, ◌<◌, Bool, true, false, if◌then◌else◌, length, slice_get, Option, Some, None, refl, sym, subst, ap, ◌∙◌}
use Rattle.std.specs.Prelude.{All}
use Rattle.std.specs.List.{range_with_len}
use Rattle.std.proofs.lemmas.List.{get_or-map, length-map}
use Rattle.std.proofs.lemmas.Option.{get_or_from_slice_get, slice_get_within}
use Rattle.ground_net.specs.declared.net.Leaf.{Leaf}
use Rattle.ground_net.specs.declared.net.Net.{Net}
use Rattle.ground_net.specs.declared.net.PortLeaf.{PortLeaf}
use Rattle.ground_net.specs.Watching.{is_shown, port_leaf, told_where, watched}
use Rattle.circuit_run.specs.NetRuns.{watch}
use Rattle.circuit_run.proofs.Lists.{some_same, none_some, get_item, filter_map_from}

module _ (net : Net) where
  by_role : (b : Bool) (x : ℕ) (leaf : Leaf) (p : PortLeaf) → x < length net.leaves → (if b then Some (port_leaf x leaf) else None) ≡ Some p → p.leaf < length net.leaves
  by_role true x leaf p lt e = subst (λ n. n < length net.leaves) (ap (λ (q : PortLeaf). q.leaf) (some_same e)) lt
  by_role false x leaf p lt e = none_some e

  by_leaf : (o : Option Leaf) (x : ℕ) (p : PortLeaf) → slice_get net.leaves x ≡ o → told_where is_shown x o ≡ Some p → p.leaf < length net.leaves
  by_leaf None x p q e = none_some e
  by_leaf (Some leaf) x p q e = by_role (is_shown leaf.role) x leaf p (slice_get_within net.leaves x leaf q) e

  watched_leaf : (k : ℕ) (p : PortLeaf) → slice_get (watched net) k ≡ Some p → p.leaf < length net.leaves
  watched_leaf k p e =
      let from = filter_map_from (λ x. told_where is_shown x (slice_get net.leaves x)) (range_with_len 0 net.ports) k p e in
      by_leaf (slice_get net.leaves from.1) from.1 p refl from.3

  pub watched_are_leaves : All (λ x. x < length net.leaves) (watch net)
  watched_are_leaves k d lt =
      let inside : k < length (watched net) = subst (λ n. k < n) (length-map (watched net) (λ (p : PortLeaf). p.leaf)) lt in
      let item = get_item (watched net) k inside in
      let is = get_or-map (λ (p : PortLeaf). p.leaf) (watched net) k item.0 d inside ∙ ap (λ (p : PortLeaf). p.leaf) (get_or_from_slice_get (watched net) k item.0 item.0 item.1) in
      subst (λ n. n < length net.leaves) (sym is) (watched_leaf k item.0 item.1)
