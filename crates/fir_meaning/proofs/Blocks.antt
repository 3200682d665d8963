-- What the statements of a block leave in a leaf: by induction over statements.
use Rattle.std.proofs.Common.{◌≡◌, Bool, true, false, ◌&&◌, ◌||◌, List, [], ◌∷◌, map, Option, None, ℤ, refl, sym, ap, ◌∙◌, subst, arith, true≢false, is_some}
use Rattle.std.specs.List.{list_any, list_all}
use Rattle.std.proofs.lemmas.Grind.{common_steps}
use Rattle.fir_tree.specs.declared.expr.Expr.{Expr}
use Rattle.fir_tree.specs.declared.stmt.Stmt.{Stmt, ind-Stmt, the_lemmas as stmt_lemmas}
use Rattle.fir_tree.specs.declared.stmt.Arm.{Arm, fold-Arm}
use Rattle.fir_tree.specs.declared.stmt.Stmt.TheOpen.{Stmt-F, Arm-F}
use Rattle.fir_tree.specs.declared.stmt.Stmt.TheFolds.{map-Stmt, map-Arm}
use Rattle.fir_tree.specs.declared.stmt.Stmt.TheViews.{roll-Stmt, roll-Arm}
use Rattle.fir_meaning.specs.Components.{Leaf}
use Rattle.fir_meaning.specs.Values.{Integers, Scene, scene_with, value, spot_of, is_one}
use Rattle.fir_meaning.specs.Mentions.{Scope, Agree, joined, mentions, region_of}
use Rattle.fir_meaning.specs.Drives as drive
use Rattle.fir_meaning.specs.Drives.{Effect, effect, drives, in_turn, set_at, set_by_connect, set_by_invalidate, left_in}
use Rattle.fir_meaning.specs.Certain as certainty
use Rattle.fir_meaning.specs.Certain.{certain, is_certain}
use Rattle.fir_meaning.specs.Loops as loop
use Rattle.fir_meaning.specs.Loops.{Driving, DrivingArm, driving, live}
use Rattle.fir_meaning.proofs.Tracking.{tracked, all_same, tracks_none}
use Rattle.fir_meaning.proofs.Covering.{One, Two, Each, no_more, one_more, block_of, block_two, Arms, no_arm, one_arm, arm_driving, when_two}
use Rattle.fir_meaning.proofs.Sides.{named_by, side, side_two, both_of, both_two, left_in-append}

abbrev arm_effect : Scene → Leaf → Arm → Bool × Effect
arm_effect scene leaf = fold-Arm Effect (Bool × Effect) (drive.of_stmt scene leaf) (drive.of_arm scene leaf)

abbrev arm_live : Scope → Leaf → Arm → DrivingArm
arm_live types leaf = fold-Arm Driving DrivingArm (loop.of_stmt types leaf) (loop.of_arm types leaf)

abbrev arm_certain : Scope → Leaf → Arm → Bool
arm_certain types leaf = fold-Arm Bool Bool (certainty.of_stmt types leaf) (certainty.of_arm types leaf)

-- What is known of a statement, and of an arm.
pub record Understood (s : Stmt) : Type 0 where
  pub two : (types : Scope) (leaf : Leaf) (f g : Integers) → Two f g (driving types leaf s) (effect (scene_with types f) leaf s) (effect (scene_with types g) leaf s)
  pub agrees : (types : Scope) (leaf : Leaf) → certain types leaf s ≡ (driving types leaf s).certain

pub record ArmUnderstood (a : Arm) : Type 0 where
  pub condition : (types : Scope) (leaf : Leaf) (f g : Integers) → Agree f g (arm_live types leaf a).condition → (arm_effect (scene_with types f) leaf a).0 ≡ (arm_effect (scene_with types g) leaf a).0
  pub two : (types : Scope) (leaf : Leaf) (f g : Integers) → Two f g (arm_driving (arm_live types leaf a)) (arm_effect (scene_with types f) leaf a).1 (arm_effect (scene_with types g) leaf a).1
  pub agrees : (types : Scope) (leaf : Leaf) → arm_certain types leaf a ≡ (arm_live types leaf a).certain

-- the same by what is equal

one_ext : {d : Driving} (x e : Effect) → ((last : Option ℤ) → x last ≡ e last) → One d e → One d x
one_ext x e h o = record {
  quiet = λ n last. h last ∙ o.quiet n last;
  fixed = λ c last other. h last ∙ (o.fixed c last other ∙ sym (h other));
  some = λ c last. ap is_some (h last) ∙ o.some c last;
  keeps = λ last s. ap is_some (h last) ∙ o.keeps last s;
  alive = o.alive;
}

two_ext : {f g : Integers} {d : Driving} {e e' : Effect} (x x' : Effect) → ((last : Option ℤ) → x last ≡ e last) → ((last : Option ℤ) → x' last ≡ e' last) → Two f g d e e' → Two f g d x x'
two_ext {e = e} {e' = e'} x x' h k t = record {
  here = one_ext x e h t.here;
  there = one_ext x' e' k t.there;
  same = λ a last. h last ∙ (t.same a last ∙ sym (k last));
}

idle_one : One (record { certain = false; live = [] }) (λ last. last)
idle_one = record {
  quiet = λ n last. refl;
  fixed = λ c last other. absurd (true≢false (sym c));
  some = λ c last. absurd (true≢false (sym c));
  keeps = λ last h. h;
  alive = λ c n. true≢false (sym c);
}

idle_two : (f g : Integers) → Two f g (record { certain = false; live = [] }) (λ last. last) (λ last. last)
idle_two f g = record { here = idle_one; there = idle_one; same = λ a last. refl }

-- What the folds give at each case

effect_roll : (scene : Scene) (leaf : Leaf) (y : Stmt-F Stmt Arm) → effect scene leaf (roll-Stmt y) ≡ drive.of_stmt scene leaf (map-Stmt Stmt Arm Effect (Bool × Effect) (effect scene leaf) (arm_effect scene leaf) y)
effect_roll scene leaf y = grind (arith, common_steps, stmt_lemmas)

driving_roll : (types : Scope) (leaf : Leaf) (y : Stmt-F Stmt Arm) → driving types leaf (roll-Stmt y) ≡ loop.of_stmt types leaf (map-Stmt Stmt Arm Driving DrivingArm (driving types leaf) (arm_live types leaf) y)
driving_roll types leaf y = grind (arith, common_steps, stmt_lemmas)

certain_roll : (types : Scope) (leaf : Leaf) (y : Stmt-F Stmt Arm) → certain types leaf (roll-Stmt y) ≡ certainty.of_stmt types leaf (map-Stmt Stmt Arm Bool Bool (certain types leaf) (arm_certain types leaf) y)
certain_roll types leaf y = grind (arith, common_steps, stmt_lemmas)

arm_effect_roll : (scene : Scene) (leaf : Leaf) (y : Arm-F Stmt Arm) → arm_effect scene leaf (roll-Arm y) ≡ drive.of_arm scene leaf (map-Arm Stmt Arm Effect (Bool × Effect) (effect scene leaf) (arm_effect scene leaf) y)
arm_effect_roll scene leaf y = grind (arith, common_steps, stmt_lemmas)

arm_live_roll : (types : Scope) (leaf : Leaf) (y : Arm-F Stmt Arm) → arm_live types leaf (roll-Arm y) ≡ loop.of_arm types leaf (map-Arm Stmt Arm Driving DrivingArm (driving types leaf) (arm_live types leaf) y)
arm_live_roll types leaf y = grind (arith, common_steps, stmt_lemmas)

arm_certain_roll : (types : Scope) (leaf : Leaf) (y : Arm-F Stmt Arm) → arm_certain types leaf (roll-Arm y) ≡ certainty.of_arm types leaf (map-Arm Stmt Arm Bool Bool (certain types leaf) (arm_certain types leaf) y)
arm_certain_roll types leaf y = grind (arith, common_steps, stmt_lemmas)

-- Each kind of statement

connect_two : (types : Scope) (leaf : Leaf) (f g : Integers) (left right : Expr)
    → Two f g (both_of (side false leaf (mentions right types) (region_of types left)) (side true leaf (mentions left types) (region_of types right)))
    (λ last. left_in leaf last (set_by_connect (scene_with types f) left right)) (λ last. left_in leaf last (set_by_connect (scene_with types g) left right))
connect_two types leaf f g left right =
    two_ext _ _
    (λ last. left_in-append leaf last (set_at false (spot_of (scene_with types f) left) (value right (scene_with types f))) (set_at true (spot_of (scene_with types f) right) (value left (scene_with types f))))
    (λ last. left_in-append leaf last (set_at false (spot_of (scene_with types g) left) (value right (scene_with types g))) (set_at true (spot_of (scene_with types g) right) (value left (scene_with types g))))
    (both_two
    (side_two (named_by types f g left) (named_by types f f left) (named_by types g g left) false leaf (tracked right types f g))
    (side_two (named_by types f g right) (named_by types f f right) (named_by types g g right) true leaf (tracked left types f g)))

invalidate_two : (types : Scope) (leaf : Leaf) (f g : Integers) (target : Expr)
    → Two f g (both_of (side false leaf [] (region_of types target)) (side true leaf [] (region_of types target)))
    (λ last. left_in leaf last (set_by_invalidate (scene_with types f) target)) (λ last. left_in leaf last (set_by_invalidate (scene_with types g) target))
invalidate_two types leaf f g target =
    two_ext _ _
    (λ last. left_in-append leaf last (set_at false (spot_of (scene_with types f) target) []) (set_at true (spot_of (scene_with types f) target) []))
    (λ last. left_in-append leaf last (set_at false (spot_of (scene_with types g) target) []) (set_at true (spot_of (scene_with types g) target) []))
    (both_two
    (side_two (named_by types f g target) (named_by types f f target) (named_by types g g target) false leaf tracks_none)
    (side_two (named_by types f g target) (named_by types f f target) (named_by types g g target) true leaf tracks_none))

statements_each : (types : Scope) (leaf : Leaf) (f g : Integers) (ps : List ((s : Stmt) × Understood s))
    → Each f g (map (driving types leaf) (map (λ e. e.0) ps)) (map (effect (scene_with types f) leaf) (map (λ e. e.0) ps)) (map (effect (scene_with types g) leaf) (map (λ e. e.0) ps))
statements_each types leaf f g [] = no_more
statements_each types leaf f g (p ∷ ps) = one_more (p.1.two types leaf f g) (statements_each types leaf f g ps)

arms_each : (types : Scope) (leaf : Leaf) (f g : Integers) (ps : List ((a : Arm) × ArmUnderstood a))
    → Arms f g (map (arm_live types leaf) (map (λ e. e.0) ps)) (map (arm_effect (scene_with types f) leaf) (map (λ e. e.0) ps)) (map (arm_effect (scene_with types g) leaf) (map (λ e. e.0) ps))
arms_each types leaf f g [] = no_arm
arms_each types leaf f g (p ∷ ps) = one_arm (p.1.condition types leaf f g) (p.1.two types leaf f g) (arms_each types leaf f g ps)

any-map : (ds : List Driving) → list_any (λ s. s) (map (λ d. d.certain) ds) ≡ list_any (λ d. d.certain) ds
any-map [] = refl
any-map (d ∷ ds) = ap (λ b. d.certain || b) (any-map ds)

all-map : (arms : List DrivingArm) → list_all (λ s. s) (map (λ a. a.certain) arms) ≡ list_all (λ a. a.certain) arms
all-map [] = refl
all-map (a ∷ arms) = ap (λ b. a.certain && b) (all-map arms)

any_agrees : (types : Scope) (leaf : Leaf) (ps : List ((s : Stmt) × Understood s))
    → list_any (λ s. s) (map (certain types leaf) (map (λ e. e.0) ps)) ≡ list_any (λ d. d.certain) (map (driving types leaf) (map (λ e. e.0) ps))
any_agrees types leaf [] = refl
any_agrees types leaf (p ∷ ps) =
    ap (λ b. b || list_any (λ s. s) (map (certain types leaf) (map (λ e. e.0) ps))) (p.1.agrees types leaf) ∙ ap (λ b. (driving types leaf p.0).certain || b) (any_agrees types leaf ps)

all_agrees : (types : Scope) (leaf : Leaf) (ps : List ((a : Arm) × ArmUnderstood a))
    → list_all (λ s. s) (map (arm_certain types leaf) (map (λ e. e.0) ps)) ≡ list_all (λ d. d.certain) (map (arm_live types leaf) (map (λ e. e.0) ps))
all_agrees types leaf [] = refl
all_agrees types leaf (p ∷ ps) =
    ap (λ b. b && list_all (λ s. s) (map (arm_certain types leaf) (map (λ e. e.0) ps))) (p.1.agrees types leaf) ∙ ap (λ b. (arm_live types leaf p.0).certain && b) (all_agrees types leaf ps)

-- the same by what the folds give
two_at : {f g : Integers} {d d' : Driving} {e e' x x' : Effect} → d' ≡ d → x ≡ e → x' ≡ e' → Two f g d e e' → Two f g d' x x'
two_at {f} {g} {d} {d'} {e} {e'} {x} {x'} h k l t =
    two_ext x x' (λ last. ap (λ z. z last) k) (λ last. ap (λ z. z last) l) (subst (λ z. Two f g z e e') (sym h) t)

statement_at : (y : Stmt-F Stmt Arm)
    → ((types : Scope) (leaf : Leaf) (f g : Integers) → Two f g (loop.of_stmt types leaf (map-Stmt Stmt Arm Driving DrivingArm (driving types leaf) (arm_live types leaf) y))
    (drive.of_stmt (scene_with types f) leaf (map-Stmt Stmt Arm Effect (Bool × Effect) (effect (scene_with types f) leaf) (arm_effect (scene_with types f) leaf) y))
    (drive.of_stmt (scene_with types g) leaf (map-Stmt Stmt Arm Effect (Bool × Effect) (effect (scene_with types g) leaf) (arm_effect (scene_with types g) leaf) y)))
    → ((types : Scope) (leaf : Leaf) → certainty.of_stmt types leaf (map-Stmt Stmt Arm Bool Bool (certain types leaf) (arm_certain types leaf) y)
    ≡ (loop.of_stmt types leaf (map-Stmt Stmt Arm Driving DrivingArm (driving types leaf) (arm_live types leaf) y)).certain)
    → Understood (roll-Stmt y)
statement_at y t c = record {
  two = λ types leaf f g. two_at (driving_roll types leaf y) (effect_roll (scene_with types f) leaf y) (effect_roll (scene_with types g) leaf y) (t types leaf f g);
  agrees = λ types leaf. certain_roll types leaf y ∙ (c types leaf ∙ ap (λ d. d.certain) (sym (driving_roll types leaf y)));
}

abbrev Children : Type 0
Children = Stmt-F ((s : Stmt) × Understood s) ((a : Arm) × ArmUnderstood a)

statement_case : (y : Children) → Understood (roll-Stmt (map-Stmt _ _ Stmt Arm (λ e. e.0) (λ e. e.0) y))
statement_case (Stmt-F.Wire name typ) = statement_at (Stmt-F.Wire name typ) (λ types leaf f g. idle_two f g) (λ types leaf. refl)
statement_case (Stmt-F.Reg name typ clock) = statement_at (Stmt-F.Reg name typ clock) (λ types leaf f g. idle_two f g) (λ types leaf. refl)
statement_case (Stmt-F.RegReset name typ clock reset init) = statement_at (Stmt-F.RegReset name typ clock reset init) (λ types leaf f g. idle_two f g) (λ types leaf. refl)
statement_case (Stmt-F.Mem memory) = statement_at (Stmt-F.Mem memory) (λ types leaf f g. idle_two f g) (λ types leaf. refl)
statement_case (Stmt-F.Inst name target) = statement_at (Stmt-F.Inst name target) (λ types leaf f g. idle_two f g) (λ types leaf. refl)
statement_case (Stmt-F.Node name expr) = statement_at (Stmt-F.Node name expr) (λ types leaf f g. idle_two f g) (λ types leaf. refl)
statement_case (Stmt-F.Skip place) = statement_at (Stmt-F.Skip place) (λ types leaf f g. idle_two f g) (λ types leaf. refl)
statement_case (Stmt-F.Connect left right) = statement_at (Stmt-F.Connect left right) (λ types leaf f g. connect_two types leaf f g left right) (λ types leaf. refl)
statement_case (Stmt-F.Invalidate target) = statement_at (Stmt-F.Invalidate target) (λ types leaf f g. invalidate_two types leaf f g target) (λ types leaf. refl)
statement_case (Stmt-F.When arms other) = statement_at (Stmt-F.When (map (λ e. e.0) arms) (map (λ e. e.0) other))
    (λ types leaf f g. two_at
    (ap (λ b. record { certain = b && list_any (λ s. s) (map (λ d. d.certain) (map (driving types leaf) (map (λ e. e.0) other))); live = loop.through_arms [] (map (arm_live types leaf) (map (λ e. e.0) arms)) (loop.live_from (map (driving types leaf) (map (λ e. e.0) other))) })
    (all-map (map (arm_live types leaf) (map (λ e. e.0) arms)))
    ∙ ap (λ b. record { certain = list_all (λ a. a.certain) (map (arm_live types leaf) (map (λ e. e.0) arms)) && b; live = loop.through_arms [] (map (arm_live types leaf) (map (λ e. e.0) arms)) (loop.live_from (map (driving types leaf) (map (λ e. e.0) other))) })
    (any-map (map (driving types leaf) (map (λ e. e.0) other))))
    refl refl
    (when_two (arms_each types leaf f g arms) [] (block_of (map (driving types leaf) (map (λ e. e.0) other))) _ _ (block_two (statements_each types leaf f g other))))
    (λ types leaf.
    ap (λ b. b && list_any (λ s. s) (map (certain types leaf) (map (λ e. e.0) other))) (all_agrees types leaf arms ∙ sym (all-map (map (arm_live types leaf) (map (λ e. e.0) arms))))
    ∙ ap (λ b. list_all (λ s. s) (map (λ a. a.certain) (map (arm_live types leaf) (map (λ e. e.0) arms))) && b) (any_agrees types leaf other ∙ sym (any-map (map (driving types leaf) (map (λ e. e.0) other)))))

arm_case : (y : Arm-F ((s : Stmt) × Understood s) ((a : Arm) × ArmUnderstood a)) → ArmUnderstood (roll-Arm (map-Arm _ _ Stmt Arm (λ e. e.0) (λ e. e.0) y))
arm_case y =
    let layer : Arm-F Stmt Arm = record { condition = y.condition; body = map (λ e. e.0) y.body } in
    record {
      condition = λ types leaf f g a.
          ap (λ z. z.0) (arm_effect_roll (scene_with types f) leaf layer)
          ∙ (ap is_one (all_same (tracked y.condition types f g) (subst (λ z. Agree f g z.condition) (arm_live_roll types leaf layer) a))
          ∙ ap (λ z. z.0) (sym (arm_effect_roll (scene_with types g) leaf layer)));
      two = λ types leaf f g. two_at
          (ap arm_driving (arm_live_roll types leaf layer)) (ap (λ z. z.1) (arm_effect_roll (scene_with types f) leaf layer)) (ap (λ z. z.1) (arm_effect_roll (scene_with types g) leaf layer))
          (block_two (statements_each types leaf f g y.body));
      agrees = λ types leaf.
          arm_certain_roll types leaf layer ∙ (any_agrees types leaf y.body ∙ ap (λ z. z.certain) (sym (arm_live_roll types leaf layer)));
    }

pub understood : (s : Stmt) → Understood s
understood = ind-Stmt Understood ArmUnderstood
    (λ x y is. subst (λ z. Understood (roll-Stmt z)) is (statement_case y))
    (λ x y is. subst (λ z. ArmUnderstood (roll-Arm z)) is (arm_case y))

-- A block

block_each : (types : Scope) (leaf : Leaf) (f g : Integers) (block : List Stmt)
    → Each f g (map (driving types leaf) block) (map (effect (scene_with types f) leaf) block) (map (effect (scene_with types g) leaf) block)
block_each types leaf f g [] = no_more
block_each types leaf f g (s ∷ block) = one_more ((understood s).two types leaf f g) (block_each types leaf f g block)

certain_block : (types : Scope) (leaf : Leaf) (block : List Stmt) → is_certain types leaf block ≡ list_any (λ d. d.certain) (map (driving types leaf) block)
certain_block types leaf [] = refl
certain_block types leaf (s ∷ block) =
    ap (λ b. b || is_certain types leaf block) ((understood s).agrees types leaf) ∙ ap (λ b. (driving types leaf s).certain || b) (certain_block types leaf block)

pub block_does : (types : Scope) (leaf : Leaf) (f g : Integers) (block : List Stmt)
    → Two f g (block_of (map (driving types leaf) block)) (in_turn (map (effect (scene_with types f) leaf) block)) (in_turn (map (effect (scene_with types g) leaf) block))
block_does types leaf f g block = block_two (block_each types leaf f g block)

pub certain_drives : (types : Scope) (leaf : Leaf) (block : List Stmt) (f : Integers) → is_certain types leaf block ≡ true → is_some (drives (scene_with types f) leaf block) ≡ true
certain_drives types leaf block f c = (block_does types leaf f f block).here.some (sym (certain_block types leaf block) ∙ c) None

pub drives_same : (types : Scope) (leaf : Leaf) (block : List Stmt) (f g : Integers) → Agree f g (joined (live types leaf block))
    → drives (scene_with types f) leaf block ≡ drives (scene_with types g) leaf block
drives_same types leaf block f g a = (block_does types leaf f g block).same a None

pub drives_none : (types : Scope) (leaf : Leaf) (block : List Stmt) (f : Integers) → live types leaf block ≡ [] → drives (scene_with types f) leaf block ≡ None
drives_none types leaf block f n = (block_does types leaf f f block).here.quiet n None
