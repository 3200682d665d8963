-- What a connect of a whole component leaves in one of its leaves, where what it mentions for the leaf is seen alike.
use Rattle.std.proofs.Common.{◌≡◌, ℕ, ◌&&◌, ◌||◌, Bool, true, false, cond, List, [], ◌∷◌, ◌++◌, map, filter_map, Option, Some, None, ℤ, refl, sym, ap, ap₂, ◌∙◌, subst, if◌then◌else◌}
use Rattle.std.specs.List.{cons_option}
use Rattle.std.proofs.lemmas.List.Concat.{flat_map-cons}
use Rattle.bit_words.specs.declared.value.Value.{Value}
use Rattle.bit_words.specs.Values.{integer_of}
use Rattle.fir_types.specs.declared.leaf.TypeLeaf.{TypeLeaf}
use Rattle.fir_types.specs.Leaves.{leaves}
use Rattle.fir_tree.specs.declared.expr.Expr.{Expr}
use Rattle.fir_meaning.specs.Components.{Leaf}
use Rattle.fir_meaning.specs.Values.{Integers, scene_with, beside, fitted_to, lone, value, whole}
use Rattle.fir_meaning.specs.Drives.{Setting, setting, is_turned, of_orientation, same_leaf, left_in, set_at}
use Rattle.fir_meaning.specs.Mentions.{Scope, Agree, joined, mentions, whole_region}
use Rattle.fir_meaning.specs.Certain.{may_be}
use Rattle.fir_meaning.specs.Loops.{driven_from}
use Rattle.fir_meaning.proofs.Tracking.{Tracks, tracks_none, tracks_next, tracked, agree-left, agree-right}

module _ (types : Scope) (name : ℕ) (leaf : Leaf) (f g : Integers) where
  abbrev named_at : TypeLeaf → Leaf
  named_at l = record { component = name; way = [] ++ l.path }

  abbrev told : TypeLeaf × List Leaf → Option (List Leaf)
  told both = if may_be false (whole_region types name) leaf both.0 then Some ([] ++ both.1) else None

  abbrev sets : List TypeLeaf → List Value → List Setting
  sets ls vs = map (setting name []) (of_orientation false (beside (lone []) ls vs))

  -- what one part leaves
  abbrev put : TypeLeaf → Option ℤ → Bool → Bool → Value → Option ℤ
  put l last turned same v = if turned then (if same then Some (integer_of (fitted_to l (integer_of v))) else last) else last

  put_first : (l : TypeLeaf) (ls : List TypeLeaf) (v : Value) (vs : List Value) (last : Option ℤ)
      → left_in leaf last (sets (l ∷ ls) (v ∷ vs)) ≡ left_in leaf (put l last (is_turned false l) (same_leaf (named_at l) leaf) v) (sets ls vs)
  put_first l ls v vs last = by_turn (is_turned false l) where
    by_turn : (b : Bool) → left_in leaf last (map (setting name []) (cond b ((l, v) ∷ of_orientation false (beside (lone []) ls vs)) (of_orientation false (beside (lone []) ls vs))))
        ≡ left_in leaf (put l last b (same_leaf (named_at l) leaf) v) (sets ls vs)
    by_turn true = refl
    by_turn false = refl

  walk : (ls : List TypeLeaf) {ms : List (List Leaf)} {vs ws : List Value} → Tracks f g ms vs ws → Agree f g (joined (filter_map told (beside [] ls ms))) → (last : Option ℤ)
      → left_in leaf last (sets ls vs) ≡ left_in leaf last (sets ls ws)
  walk [] t a last = refl
  walk (l ∷ ls) tracks_none a last = refl
  walk (l ∷ ls) (tracks_next {m = m} {v = v} {w = w} {ms = ms} {vs = vs} {ws = ws} h t) a last = by (is_turned false l) (same_leaf (named_at l) leaf) refl refl (walk ls t) where
    rest : List (List Leaf)
    rest = filter_map told (beside [] ls ms)

    left : Value → List Value → Bool → Bool → Option ℤ
    left x xs turned same = left_in leaf (put l last turned same x) (sets ls xs)

    passed : told (l, m) ≡ None → ((x : Value) → put l last (is_turned false l) (same_leaf (named_at l) leaf) x ≡ last)
        → (Agree f g (joined rest) → (last : Option ℤ) → left_in leaf last (sets ls vs) ≡ left_in leaf last (sets ls ws)) → left_in leaf last (sets (l ∷ ls) (v ∷ vs)) ≡ left_in leaf last (sets (l ∷ ls) (w ∷ ws))
    passed none stays onward =
        put_first l ls v vs last
        ∙ (ap (λ o. left_in leaf o (sets ls vs)) (stays v)
        ∙ (onward (subst (λ o. Agree f g (joined (cons_option o rest))) none a) last
        ∙ (sym (ap (λ o. left_in leaf o (sets ls ws)) (stays w)) ∙ sym (put_first l ls w ws last))))

    by : (b s : Bool) → is_turned false l ≡ b → same_leaf (named_at l) leaf ≡ s → (Agree f g (joined rest) → (last : Option ℤ) → left_in leaf last (sets ls vs) ≡ left_in leaf last (sets ls ws))
        → left_in leaf last (sets (l ∷ ls) (v ∷ vs)) ≡ left_in leaf last (sets (l ∷ ls) (w ∷ ws))
    by true true q r onward =
        let some : told (l, m) ≡ Some m = ap₂ (λ b s. if b && (s || false) then Some ([] ++ m) else None) q r in
        let split : Agree f g (m ++ joined rest) = subst (Agree f g) (flat_map-cons (λ x. x) m rest) (subst (λ o. Agree f g (joined (cons_option o rest))) some a) in
        let same : v ≡ w = h (agree-left m (joined rest) split) in
        put_first l ls v vs last
        ∙ (ap (λ x. left x vs (is_turned false l) (same_leaf (named_at l) leaf)) same
        ∙ (onward (agree-right m (joined rest) split) (put l last (is_turned false l) (same_leaf (named_at l) leaf) w) ∙ sym (put_first l ls w ws last)))
    by true false q r onward =
        passed (ap₂ (λ b s. if b && (s || false) then Some ([] ++ m) else None) q r) (λ x. ap₂ (λ b s. put l last b s x) q r) onward
    by false s q r onward =
        passed (ap (λ b. if b && (same_leaf (named_at l) leaf || false) then Some ([] ++ m) else None) q) (λ x. ap (λ b. put l last b (same_leaf (named_at l) leaf) x) q) onward

-- What `init` leaves in a register's leaf is the same where what a connect of it would mention for the leaf is seen alike.
pub init_same : (types : Scope) (name : ℕ) (leaf : Leaf) (f g : Integers) (init : Expr) → Agree f g (joined (driven_from false leaf (mentions init types) (Some (whole_region types name))))
    → left_in leaf None (set_at false (Some (whole (scene_with types f) name)) (value init (scene_with types f)))
    ≡ left_in leaf None (set_at false (Some (whole (scene_with types g) name)) (value init (scene_with types g)))
init_same types name leaf f g init a = walk types name leaf f g (leaves (types name)) (tracked init types f g) a None
