-- The kinds and widths of ways.
use Rattle.std.proofs.Common.{◌≡◌, ◌≢◌, ℕ, Bool, true, List, [], ◌∷◌, ◌++◌, length, refl, sym, ap, ◌∙◌, subst, ◌==◌, ◌&&◌, drop, take, get_or, ◌<◌, ◌+◌, append-nil, ⊎_elim}
use Rattle.std.specs.Global.{Vec}
use Rattle.std.specs.List.{list_all}
use Rattle.std.proofs.lemmas.List.{drop_more}
use Rattle.std.proofs.lemmas.List.Folds.{list_all-append}
use Rattle.ground_net.specs.declared.ground.Ground.{Ground}
use Rattle.ground_net.specs.declared.circuit.GroundStmt.{GroundStmt}
use Rattle.ground_net.specs.declared.circuit.GroundStmt.TheVariants.{Connect, When}
use Rattle.ground_net.specs.declared.circuit.GroundArm.{GroundArm}
use Rattle.ground_net.specs.Shapes.{Table}
use Rattle.expand_whens.specs.declared.guard.Asked.{Asked}
use Rattle.expand_whens.specs.declared.guard.Way.{Way}
use Rattle.ground_net.specs.StatementShapes.{is_condition, is_source, is_shaped, is_shaped_stmt, is_shaped_arm, are_shaped}
use Rattle.expand_whens.specs.Ways.{asked_fits, guard_fits, way_fits, refusal, refusals, accepted}
use Rattle.expand_whens.specs.Walking.{Shapes, BlockShapes, ArmsShapes, ways_at}
use Rattle.expand_whens.proofs.Tests.{left_true, right_true}
use Rattle.expand_whens.proofs.Guards.{all_true}
use Rattle.expand_whens.proofs.Arms.{refusals_push}
use Rattle.expand_whens.proofs.Blocks.{true_or_false}
use Rattle.expand_whens.proofs.Connects.{same_number, other_number}
use Rattle.expand_whens.proofs.Layers.{shaped-Connect, shaped-When, shaped_arm-is}

pub shapes_none : (asked : List Asked) (passes : Table → Bool) (ways : List (Vec Way)) → Shapes asked passes ways ways
shapes_none asked passes ways = record { each = λ table a p leaf o. o }

pub block_next_shapes : (asked : List Asked) (block : List GroundStmt) (k n : ℕ) (s : GroundStmt) (old mid new : List (Vec Way)) → n ≡ k + 1 → k < length block → s ≡ get_or block k s
    → BlockShapes asked (drop n block) old mid → BlockShapes asked (s ∷ []) mid new → BlockShapes asked (drop k block) old new
block_next_shapes asked block k n s old mid new e below is late early =
    let grown : drop k block ≡ s ∷ drop n block = drop_more block k s below ∙ (ap (λ x. x ∷ drop (k + 1) block) (sym is) ∙ ap (λ m. s ∷ drop m block) (sym e)) in
    record {
      each = λ table a p leaf o.
          let both : (is_shaped_stmt table s && is_shaped table (drop n block)) ≡ true = sym (ap (is_shaped table) grown) ∙ p in
          early.each table a (all_true _ _ (left_true _ _ both) refl) leaf (late.each table a (right_true (is_shaped_stmt table s) _ both) leaf o);
    }

pub arms_next_shapes : (before asked : List Asked) (first : ℕ) (arms : List GroundArm) (k n : ℕ) (arm : GroundArm) (body : List GroundStmt) (old mid new : List (Vec Way)) → n ≡ k + 1 → k < length arms → arm ≡ get_or arms k arm → body ≡ arm.body
    → asked ≡ (before ++ refusals first (take k arms)) ++ accepted (refusal first arm) ∷ []
    → ArmsShapes (before ++ refusals first (take n arms)) (drop n arms) old mid → BlockShapes asked body mid new
    → ArmsShapes (before ++ refusals first (take k arms)) (drop k arms) old new
arms_next_shapes before asked first arms k n arm body old mid new e below is b now late early =
    let grown : drop k arms ≡ arm ∷ drop n arms = drop_more arms k arm below ∙ (ap (λ x. x ∷ drop (k + 1) arms) (sym is) ∙ ap (λ m. arm ∷ drop m arms) (sym e)) in
    record {
      each = λ table a p leaf o.
          let both : (is_shaped_arm table arm && are_shaped table (drop n arms)) ≡ true = sym (ap (are_shaped table) grown) ∙ p in
          let own : (is_condition table arm.condition && is_shaped table arm.body) ≡ true = sym (shaped_arm-is table arm) ∙ left_true _ _ both in
          let condition : is_condition table arm.condition ≡ true = left_true _ _ own in
          let earlier : list_all (asked_fits table) (before ++ refusals first (take n arms)) ≡ true =
          ap (list_all (asked_fits table)) (refusals_push before first arms k n arm e below is) ∙ (list_all-append (asked_fits table) (before ++ refusals first (take k arms)) (refusal first arm ∷ [])
          ∙ all_true _ _ a (all_true _ _ condition refl)) in
          let here : list_all (asked_fits table) asked ≡ true =
          ap (list_all (asked_fits table)) now ∙ (list_all-append (asked_fits table) (before ++ refusals first (take k arms)) (accepted (refusal first arm) ∷ [])
          ∙ all_true _ _ a (all_true _ _ condition refl)) in
          early.each table here (ap (is_shaped table) b ∙ right_true (is_condition table arm.condition) _ own) leaf
          (late.each table earlier (right_true (is_shaped_arm table arm) _ both) leaf o);
    }

pub arms_end_shapes : (before : List Asked) (first : ℕ) (arms : List GroundArm) (n : ℕ) (old new : List (Vec Way)) → n ≡ 0 → ArmsShapes (before ++ refusals first (take n arms)) (drop n arms) old new → ArmsShapes before arms old new
arms_end_shapes before first arms n old new z w =
    subst (λ xs. ArmsShapes xs arms old new) (append-nil before)
    (subst (λ m. ArmsShapes (before ++ refusals first (take m arms)) (drop m arms) old new) z w)

conditions_fit : (table : Table) (first : ℕ) (arms : List GroundArm) → are_shaped table arms ≡ true → list_all (asked_fits table) (refusals first arms) ≡ true
conditions_fit table first [] a = refl
conditions_fit table first (arm ∷ arms) a = all_true _ _ (left_true _ _ (sym (shaped_arm-is table arm) ∙ left_true _ _ a)) (conditions_fit table first arms (right_true (is_shaped_arm table arm) _ a))

pub when_shapes : (asked : List Asked) (first : ℕ) (arms : List GroundArm) (other : List GroundStmt) (old mid new : List (Vec Way))
    → BlockShapes (asked ++ refusals first arms) other old mid → ArmsShapes asked arms mid new → BlockShapes asked (When first arms other ∷ []) old new
when_shapes asked first arms other old mid new o a = record {
  each = λ table f p leaf w.
      let both : (are_shaped table arms && is_shaped table other) ≡ true = sym (shaped-When table first arms other) ∙ left_true _ _ p in
      let all_asked : list_all (asked_fits table) (asked ++ refusals first arms) ≡ true =
      list_all-append (asked_fits table) asked (refusals first arms) ∙ all_true _ _ f (conditions_fit table first arms (left_true _ _ both)) in
      a.each table f (left_true _ _ both) leaf (o.each table all_asked (right_true (are_shaped table arms) _ both) leaf w);
}

pub connect_shapes : (asked : List Asked) (target : ℕ) (conditions : List Ground) (source : Ground) (old new : List (Vec Way)) (way : Way)
    → ((table : Table) → list_all (asked_fits table) asked ≡ true → list_all (is_condition table) conditions ≡ true → guard_fits table way.guard ≡ true) → way.source ≡ source
    → ways_at new target ≡ ways_at old target ++ way ∷ [] → ((x : ℕ) → x ≢ target → ways_at new x ≡ ways_at old x)
    → BlockShapes asked (Connect target conditions source ∷ []) old new
connect_shapes asked target conditions source old new way g s added others = record {
  each = λ table a p leaf o. ⊎_elim
      (λ y.
      let here : leaf ≡ target = sym (same_number target leaf y) in
      let both : (list_all (is_condition table) conditions && is_source table target source) ≡ true = sym (shaped-Connect table target conditions source) ∙ left_true _ _ p in
      let grown : ways_at new leaf ≡ ways_at old leaf ++ way ∷ [] = ap (ways_at new) here ∙ (added ∙ ap (λ x. ways_at old x ++ way ∷ []) (sym here)) in
      let sourced : is_source table leaf way.source ≡ true = ap (λ x. is_source table x way.source) here ∙ (ap (is_source table target) s ∙ right_true (list_all (is_condition table) conditions) _ both) in
      ap (list_all (way_fits table leaf)) grown ∙ (list_all-append (way_fits table leaf) (ways_at old leaf) (way ∷ [])
      ∙ all_true _ _ o (all_true _ _ (all_true _ _ (g table a (left_true _ _ both)) sourced) refl)))
      (λ n. ap (list_all (way_fits table leaf)) (others leaf (other_number target leaf n)) ∙ o)
      (true_or_false (target == leaf));
}
