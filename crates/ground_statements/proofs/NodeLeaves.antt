-- What the statements of a node do.
use Rattle.std.proofs.Common.{◌≡◌, ◌≢◌, ℕ, zero, suc, ◌+◌, Bool, true, false, List, [], ◌∷◌, ◌++◌, map, refl, sym, ap, ap₂, ◌∙◌, subst, arith, ◌==◌, ◌&&◌, ◌||◌, if◌then◌else◌, Some, slice_get, inl, inr}
use Rattle.std.proofs.lemmas.Bool.Decides.{nat_tests}
use Rattle.std.proofs.lemmas.Grind.{common_steps}
use Rattle.bit_words.specs.declared.value.Kind.{Kind}
use Rattle.bit_words.specs.declared.value.Kind.TheVariants.{Unsigned, Signed}
use Rattle.fir_types.specs.declared.fir_type.FirType.{FirType}
use Rattle.fir_types.specs.declared.leaf.TypeLeaf.{TypeLeaf}
use Rattle.fir_types.specs.Leaves.{leaves, is_clock}
use Rattle.ground_net.specs.declared.circuit.GroundStmt.{GroundStmt}
use Rattle.ground_net.specs.declared.circuit.GroundStmt.TheVariants.{Connect}
use Rattle.ground_net.specs.Grounds.{value, mentions}
use Rattle.ground_net.specs.Statements.{in_turn, effect}
use Rattle.ground_net.specs.Shapes.{Shape, same_kind, same_shape, Table, shape}
use Rattle.ground_net.specs.StatementShapes.{some_same as both_alike, is_shaped}
use Rattle.fir_meaning.specs.WellTyped.{leaf_shape}
use Rattle.ground_exprs.proofs.Members.{none_some, some_same}
use Rattle.ground_exprs.specs.declared.source.Source.{Source}
use Rattle.ground_statements.specs.Connects.{LeavesAlone, SetsTo, IsNode}
use Rattle.ground_statements.specs.Nodes.{node_leaf, node_leaves}
use Rattle.ground_statements.proofs.Statements.{effect-Connect, live-Connect, certain-Connect, shaped-Connect, effects-append, certain-append, shaped-append, live-append, alone_none, alone_append, other_alone}

same_number : (n : ℕ) → (n == n) ≡ true
same_number n = grind (arith, common_steps, nat_tests)

numbers_equal : (a b : ℕ) → (a == b) ≡ true → a ≡ b
numbers_equal a b e = grind (arith, common_steps, nat_tests, e)

shift : (n k : ℕ) → n + 1 + k ≡ n + suc k
shift n k = omega arith

plain : (n : ℕ) → n + 0 ≡ n
plain n = omega arith

differs : (a b : ℕ) → (b ≡ a → ⊥) → (a == b) ≡ false
differs a b d = by (a == b) refl
  where
    by : (t : Bool) → (a == b) ≡ t → (a == b) ≡ false
    by true e = absurd (d (sym (numbers_equal a b e)))
    by false e = e

pub node_others : (ls : List TypeLeaf) (sources : List Source) (first x : ℕ) → ((j : ℕ) (leaf : TypeLeaf) → slice_get ls j ≡ Some leaf → is_clock leaf ≡ false → x ≢ first + j)
    → LeavesAlone (node_leaves first ls sources) x
node_others [] sources first x h = alone_none x
node_others (l ∷ ls) [] first x h = alone_none x
node_others (l ∷ ls) (s ∷ ss) first x h =
    alone_append (node_leaf first l s) (node_leaves (first + 1) ls ss) x (by (is_clock l) refl)
    (node_others ls ss (first + 1) x (λ j leaf e c i. h (suc j) leaf e c (i ∙ shift first j)))
  where
    by : (b : Bool) → is_clock l ≡ b → LeavesAlone (if b then [] else Connect first [] s.expr ∷ []) x
    by true t = alone_none x
    by false t = other_alone first x [] s.expr (differs first x (λ e. h 0 l refl t (e ∙ sym (plain first))))

sets_here : (first : ℕ) (s : Source) (k : List GroundStmt) → LeavesAlone k first → SetsTo (Connect first [] s.expr ∷ [] ++ k) first s
sets_here first s k a = record {
  effects = λ instant last.
      effects-append instant first (Connect first [] s.expr ∷ []) k last ∙ (a.effects instant (in_turn (map (effect instant first) (Connect first [] s.expr ∷ [])) last)
      ∙ (effect-Connect instant first first [] s.expr last ∙ ap (λ b. if b && true then Some (value s.expr instant) else last) (same_number first)));
  certain = certain-append first (Connect first [] s.expr ∷ []) k ∙ ap₂ (λ p q. (p || false) || q) (certain-Connect first first s.expr ∙ same_number first) a.certain;
  live = live-append first (Connect first [] s.expr ∷ []) k (inl a.certain)
      ∙ ap₂ (λ p q. (p ++ []) ++ q) (live-Connect first first [] s.expr ∙ ap (λ b. if b then mentions s.expr ∷ [] else []) (same_number first)) a.live;
}

sets_later : (m k : List GroundStmt) (x : ℕ) (s : Source) → LeavesAlone m x → SetsTo k x s → SetsTo (m ++ k) x s
sets_later m k x s a b = record {
  effects = λ instant last. effects-append instant x m k last ∙ b.effects instant (in_turn (map (effect instant x) m) last);
  certain = certain-append x m k ∙ ap₂ (λ p q. p || q) a.certain b.certain;
  live = live-append x m k (inr a.live) ∙ ap₂ (λ p q. p ++ q) a.live b.live;
}

pub node_sets : (ls : List TypeLeaf) (sources : List Source) (first j : ℕ) (leaf : TypeLeaf) (s : Source) → slice_get ls j ≡ Some leaf → is_clock leaf ≡ false → slice_get sources j ≡ Some s
    → SetsTo (node_leaves first ls sources) (first + j) s
node_sets [] sources first j leaf s e c f = absurd (none_some e)
node_sets (l ∷ ls) [] first j leaf s e c f = absurd (none_some f)
node_sets (l ∷ ls) (t ∷ ts) first zero leaf s e c f =
    let clock : is_clock l ≡ false = ap is_clock (some_same e) ∙ c in
    subst (λ x. SetsTo (node_leaves first (l ∷ ls) (t ∷ ts)) x s) (sym (plain first))
    (subst (λ b. SetsTo ((if b then [] else Connect first [] t.expr ∷ []) ++ node_leaves (first + 1) ls ts) first s) (sym clock)
    (subst (λ u. SetsTo (Connect first [] t.expr ∷ [] ++ node_leaves (first + 1) ls ts) first u) (some_same f)
    (sets_here first t (node_leaves (first + 1) ls ts) (node_others ls ts (first + 1) first (λ j leaf e c i. never first j i)))))
  where
    never : (n k : ℕ) → n ≡ n + 1 + k → ⊥
    never n k e = omega (arith, e)
node_sets (l ∷ ls) (t ∷ ts) first (suc j) leaf s e c f =
    sets_later (node_leaf first l t) (node_leaves (first + 1) ls ts) (first + suc j) s (by (is_clock l))
    (subst (λ x. SetsTo (node_leaves (first + 1) ls ts) x s) (shift first j) (node_sets ls ts (first + 1) j leaf s e c f))
  where
    never : (n k : ℕ) → n + suc k ≡ n → ⊥
    never n k e = omega (arith, e)

    by : (b : Bool) → LeavesAlone (if b then [] else Connect first [] t.expr ∷ []) (first + suc j)
    by true = alone_none (first + suc j)
    by false = other_alone first (first + suc j) [] t.expr (differs first (first + suc j) (λ e. never first j e))

same_itself : (s : Shape) → same_shape s s ≡ true
same_itself s = both s.kind s.width
  where
    both : (k : Kind) (w : ℕ) → (same_kind k k && (w == w)) ≡ true
    both Unsigned w = same_number w
    both Signed w = same_number w

pub node_shaped : (ls : List TypeLeaf) (sources : List Source) (first : ℕ) (table : Table)
    → ((j : ℕ) (leaf : TypeLeaf) (s : Source) → slice_get ls j ≡ Some leaf → is_clock leaf ≡ false → slice_get sources j ≡ Some s
    → (shape s.expr table ≡ Some (leaf_shape leaf)) × (table.leaf (first + j) ≡ Some (leaf_shape leaf)))
    → is_shaped table (node_leaves first ls sources) ≡ true
node_shaped [] sources first table h = refl
node_shaped (l ∷ ls) [] first table h = refl
node_shaped (l ∷ ls) (s ∷ ss) first table h =
    shaped-append table (node_leaf first l s) (node_leaves (first + 1) ls ss)
    ∙ ap₂ (λ a b. a && b) (by (is_clock l) refl)
    (node_shaped ls ss (first + 1) table (λ j leaf t e c f. ((h (suc j) leaf t e c f).0, ap table.leaf (shift first j) ∙ (h (suc j) leaf t e c f).1)))
  where
    by : (b : Bool) → is_clock l ≡ b → is_shaped table (if b then [] else Connect first [] s.expr ∷ []) ≡ true
    by true t = refl
    by false t =
        let here = h 0 l s refl t refl in
        ap (λ b. b && true) (shaped-Connect table first [] s.expr ∙ (ap₂ both_alike here.0 (ap table.leaf (sym (plain first)) ∙ here.1) ∙ same_itself (leaf_shape l)))

pub node_is : (typ : FirType) (first : ℕ) (sources : List Source) (made : List GroundStmt) → made ≡ node_leaves first (leaves typ) sources → IsNode typ first sources made
node_is typ first sources made is = subst (IsNode typ first sources) (sym is) (record {
  sets = λ j leaf s e c f. node_sets (leaves typ) sources first j leaf s e c f;
  others = λ x h. node_others (leaves typ) sources first x h;
  shaped = λ table h. node_shaped (leaves typ) sources first table h;
})
