-- Components that were measured have what their declarations have.
use Rattle.std.proofs.Common.{◌≡◌, ℕ, List, [], ◌∷◌, ◌++◌, map, length, sum, refl, sym, ap, ap₂, ◌∙◌}
use Rattle.std.specs.List.{AllZip, flat_map}
use Rattle.std.proofs.lemmas.List.Concat.{flat_map-cons}
use Rattle.fir_types.specs.declared.fir_type.FirType.{FirType}
use Rattle.fir_types.specs.declared.leaf.TypeLeaf.{TypeLeaf}
use Rattle.fir_types.specs.declared.leaf.PathStep.{PathStep}
use Rattle.fir_types.specs.Leaves.{leaves, count}
use Rattle.fir_tree.specs.LeafNames.{Texts, leaf_text}
use Rattle.fir_tree.specs.Texts.{name_bytes}
use Rattle.fir_meaning.specs.Components.{Component, Sort, An_input, An_output, A_wire, A_register, A_reset_register, A_memory, An_instance, A_node}
use Rattle.size_check.specs.declared.sums.Sums.{Sums}
use Rattle.size_check.specs.declared.calls.Call.{Call}
use Rattle.size_check.specs.Measures.{plus}
use Rattle.size_check.specs.Owns.{flat, stored, celled, cells, captured}
use Rattle.size_laws.specs.Pieces.{Piece, ways, IsMeasured}
use Rattle.size_laws.proofs.Sums.{sums_same}
use Rattle.size_laws.proofs.Owning.{sums_of, piece_sums}
use Rattle.size_laws.proofs.Calling.{call_of, piece_call}

abbrev pub component_sums : Texts → Component → Sums
component_sums texts c = sums_of texts c.declaration.name c.typ c.declaration.sort

abbrev pub component_call : Component → List Call
component_call c = call_of c.declaration.name c.declaration.sort

-- a type has as many leaves as are counted
abbrev pub AreCounted : Type 0
AreCounted = (typ : FirType) → count typ ≡ length (leaves typ)

ways_long : (ls : List TypeLeaf) → length (map (λ (leaf : TypeLeaf). leaf.path) ls) ≡ length ls
ways_long [] = refl
ways_long (l ∷ ls) = ap Rattle.std.proofs.Common.suc (ways_long ls)

by_ways : (texts : Texts) (id : ℕ) (ls : List TypeLeaf) → map (λ leaf. length (leaf_text texts id leaf.path)) ls ≡ map (λ (way : List PathStep). length (leaf_text texts id way)) (map (λ (leaf : TypeLeaf). leaf.path) ls)
by_ways texts id [] = refl
by_ways texts id (l ∷ ls) = ap (λ r. length (leaf_text texts id l.path) ∷ r) (by_ways texts id ls)

module _ (counted : AreCounted) (texts : Texts) where
  count_same : (t u : FirType) → ways t ≡ ways u → count t ≡ count u
  count_same t u e = counted t ∙ sym (ways_long (leaves t)) ∙ ap length e ∙ ways_long (leaves u) ∙ sym (counted u)

  bytes_same : (id : ℕ) (t u : FirType) → ways t ≡ ways u → name_bytes texts id t ≡ name_bytes texts id u
  bytes_same id t u e = ap sum (by_ways texts id (leaves t) ∙ ap (map (λ (way : List PathStep). length (leaf_text texts id way))) e ∙ sym (by_ways texts id (leaves u)))

  flat_same : (id : ℕ) (t u : FirType) → ways t ≡ ways u → flat texts id t ≡ flat texts id u
  flat_same id t u e = sums_same refl (count_same t u e) (count_same t u e) (bytes_same id t u e) refl

  register_same : (id : ℕ) (t u : FirType) → ways t ≡ ways u → plus (flat texts id t) (stored (count t)) ≡ plus (flat texts id u) (stored (count u))
  register_same id t u e = ap₂ (λ a n. plus a (stored n)) (flat_same id t u e) (count_same t u e)

  sums_alike : (id : ℕ) (t u : FirType) → ways t ≡ ways u → (sort : Sort) → sums_of texts id t sort ≡ sums_of texts id u sort
  sums_alike id t u e An_input = flat_same id t u e
  sums_alike id t u e An_output = flat_same id t u e
  sums_alike id t u e A_wire = flat_same id t u e
  sums_alike id t u e (A_register clock) = register_same id t u e
  sums_alike id t u e (A_reset_register clock reset init) = register_same id t u e
  sums_alike id t u e (A_memory memory) = ap (λ a. plus a (plus (celled texts id (cells memory)) (stored (captured memory)))) (flat_same id t u e)
  sums_alike id t u e (An_instance target) = refl
  sums_alike id t u e (A_node expr) = flat_same id t u e

  one_same : (p : Piece) (c : Component) → IsMeasured p c → piece_sums texts p ≡ component_sums texts c
  one_same p c h = ap₂ (λ n s. sums_of texts n p.typ s) h.name h.sort ∙ sums_alike c.declaration.name p.typ c.typ h.ways c.declaration.sort

  pub all_same : (ps : List Piece) (cs : List Component) → AllZip IsMeasured ps cs → map (piece_sums texts) ps ≡ map (component_sums texts) cs
  all_same [] [] h = refl
  all_same [] (c ∷ cs) h = absurd h
  all_same (p ∷ ps) [] h = absurd h
  all_same (p ∷ ps) (c ∷ cs) h = ap₂ (λ a b. a ∷ b) (one_same p c h.0) (all_same ps cs h.1)

pub calls_same : (ps : List Piece) (cs : List Component) → AllZip IsMeasured ps cs → flat_map piece_call ps ≡ flat_map component_call cs
calls_same [] [] h = refl
calls_same [] (c ∷ cs) h = absurd h
calls_same (p ∷ ps) [] h = absurd h
calls_same (p ∷ ps) (c ∷ cs) h =
    flat_map-cons piece_call p ps ∙ ap₂ (λ a b. a ++ b) (ap₂ call_of h.0.name h.0.sort) (calls_same ps cs h.1) ∙ sym (flat_map-cons component_call c cs)
