-- Statements one before another, and the arms of a `when`.
use Rattle.std.proofs.Common.{◌≡◌, ℕ, ◌+◌, ◌-◌, ◌<◌, ◌≤◌, Bool, true, false, ◌&&◌, ◌||◌, List, [], ◌∷◌, ◌++◌, map, length, take, drop, get_or, refl, sym, ap, ap₂, ◌∙◌, subst, arith, append_assoc, append-nil}
use Rattle.std.specs.Prelude.{Result, Ok, Err, OnOk}
use Rattle.std.specs.List.{list_all, flat_map}
use Rattle.std.proofs.lemmas.Grind.{common_steps}
use Rattle.std.proofs.lemmas.List.{drop_more, map_more}
use Rattle.std.proofs.lemmas.List.Folds.{list_all-append}
use Rattle.std.proofs.lemmas.List.Concat.{flat_map-append}
use Rattle.fir_types.specs.declared.name.Name.{Name}
use Rattle.fir_tree.specs.declared.stmt.Stmt.{Stmt, the_lemmas as stmt_lemmas}
use Rattle.fir_tree.specs.declared.stmt.Stmt.TheVariants as stmt
use Rattle.fir_tree.specs.declared.stmt.Arm.{Arm}
use Rattle.fir_meaning.specs.Components.{Leaf, An_instance}
use Rattle.fir_meaning.specs.Mentions.{Scope}
use Rattle.drive_check.specs.declared.fault.DriveFault.{DriveFault}
use Rattle.drive_check.specs.declared.leaf_set.LeafKey.{LeafKey}
use Rattle.drive_check.specs.Keys.{is_among}
use Rattle.drive_check.specs.Walks.{Walked, Block, any_certain, faults_from, block_of, walked, walked_arm, declares, Walks}

pub on_ok : {T E : Type 0} {P Q : Type 0} (r : Result T E) → (P → Q) → OnOk r P → OnOk r Q
on_ok (Ok x) f h = f h
on_ok (Err e) f h = h

-- What the fold gives

walked_arm_is : (types : Scope) (a : Arm) → walked_arm types a ≡ block_of (map (walked types) a.body)
walked_arm_is types a = grind (arith, common_steps, stmt_lemmas)

pub walked-inst : (types : Scope) (s : Stmt) (name target : Name) → s ≡ stmt.Inst name target → walked types s ≡ declares types name (An_instance 0)
walked-inst types s name target e = ap (walked types) e ∙ inst
  where
    inst : walked types (stmt.Inst name target) ≡ declares types name (An_instance target.id)
    inst = grind (arith, common_steps, stmt_lemmas)

pub walked-when : (types : Scope) (s : Stmt) (arms : List Arm) (other : List Stmt) → s ≡ stmt.When arms other
    → walked types s ≡ record {
      certain = λ leaf. list_all (λ arm. arm.certain leaf) (map (walked_arm types) arms) && any_certain (map (walked types) other) leaf;
      faults = λ behind. faults_from (map (walked types) other) ++ flat_map (λ arm. arm.faults) (map (walked_arm types) arms);
    }
walked-when types s arms other e = ap (walked types) e ∙ when'
  where
    when' : walked types (stmt.When arms other) ≡ record {
      certain = λ leaf. list_all (λ arm. arm.certain leaf) (map (walked_arm types) arms) && any_certain (map (walked types) other) leaf;
      faults = λ behind. faults_from (map (walked types) other) ++ flat_map (λ arm. arm.faults) (map (walked_arm types) arms);
    }
    when' = grind (arith, common_steps, stmt_lemmas)

-- A statement before others

pub statements_more : (types : Scope) (statements : List Stmt) (at : ℕ) (x : Stmt) (before now' after : List DriveFault) (keys keys' : List LeafKey)
    → 0 < at → at ≤ length statements → x ≡ get_or statements (at - 1) x
    → ((leaf : Leaf) → is_among keys leaf ≡ any_certain (map (walked types) (drop at statements)) leaf)
    → now' ≡ before ++ faults_from (map (walked types) (drop at statements))
    → Walks (walked types x) keys now' keys' after
    → ((leaf : Leaf) → is_among keys' leaf ≡ any_certain (map (walked types) (drop (at - 1) statements)) leaf)
    × (after ≡ before ++ faults_from (map (walked types) (drop (at - 1) statements)))
statements_more types statements at x before now' after keys keys' pos within is h f w =
    let split : drop (at - 1) statements ≡ x ∷ drop at statements =
    drop_more statements (at - 1) x (omega arith) ∙ ap₂ (λ (y : Stmt) (n : ℕ). y ∷ drop n statements) (sym is) (omega arith) in
    let rest : List Walked = map (walked types) (drop at statements) in
    let same : is_among keys ≡ any_certain rest = λ i leaf. h leaf i in (
      (λ leaf. w.certain leaf ∙ ap (λ b. (walked types x).certain leaf || b) (h leaf) ∙ sym (ap (λ l. any_certain (map (walked types) l) leaf) split)),
      w.told ∙ ap₂ (λ (l : List DriveFault) (c : Leaf → Bool). l ++ (walked types x).faults c) f same ∙ append_assoc before (faults_from rest) ((walked types x).faults (any_certain rest))
          ∙ sym (ap (λ l. before ++ faults_from (map (walked types) l)) split),
    )

-- One arm more

and_swap : (a b c : Bool) → ((a && b) && c) ≡ ((a && (c && true)) && b)
and_swap true true true = refl
and_swap true true false = refl
and_swap true false true = refl
and_swap true false false = refl
and_swap false b c = refl

pub arms_more : (types : Scope) (arms : List Arm) (i : ℕ) (x : Arm) (before now' after : List DriveFault) (old keys own keys' : List LeafKey) → i < length arms → x ≡ get_or arms i x
    → ((leaf : Leaf) → is_among keys leaf ≡ (list_all (λ arm. arm.certain leaf) (map (walked_arm types) (take i arms)) && is_among old leaf))
    → now' ≡ before ++ flat_map (λ arm. arm.faults) (map (walked_arm types) (take i arms))
    → ((leaf : Leaf) → is_among own leaf ≡ any_certain (map (walked types) x.body) leaf)
    → after ≡ now' ++ faults_from (map (walked types) x.body)
    → ((leaf : Leaf) → is_among keys' leaf ≡ (is_among keys leaf && is_among own leaf))
    → ((leaf : Leaf) → is_among keys' leaf ≡ (list_all (λ arm. arm.certain leaf) (map (walked_arm types) (take (i + 1) arms)) && is_among old leaf))
    × (after ≡ before ++ flat_map (λ arm. arm.faults) (map (walked_arm types) (take (i + 1) arms)))
arms_more types arms i x before now' after old keys own keys' lt is h f o g k =
    let front : List Block = map (walked_arm types) (take i arms) in
    let last : Block = block_of (map (walked types) x.body) in
    let split : map (walked_arm types) (take (i + 1) arms) ≡ front ++ last ∷ [] =
    map_more (walked_arm types) arms i x lt ∙ ap (λ y. front ++ walked_arm types y ∷ []) (sym is) ∙ ap (λ b. front ++ b ∷ []) (walked_arm_is types x) in (
      (λ leaf. k leaf ∙ ap₂ (λ a b. a && b) (h leaf) (o leaf) ∙ and_swap (list_all (λ arm. arm.certain leaf) front) (is_among old leaf) (last.certain leaf)
          ∙ ap (λ b. b && is_among old leaf) (sym (list_all-append (λ (arm : Block). arm.certain leaf) front (last ∷ [])) ∙ sym (ap (list_all (λ arm. arm.certain leaf)) split))),
      g ∙ ap (λ l. l ++ last.faults) f ∙ append_assoc before (flat_map (λ arm. arm.faults) front) last.faults
          ∙ ap (λ l. before ++ l) (ap (λ l. flat_map (λ arm. arm.faults) front ++ l) (sym (append-nil last.faults)) ∙ sym (flat_map-append (λ (arm : Block). arm.faults) front (last ∷ []))
          ∙ sym (ap (flat_map (λ arm. arm.faults)) split)),
    )

-- A whole `when`

or_comm : (a b : Bool) → (a || b) ≡ (b || a)
or_comm true true = refl
or_comm true false = refl
or_comm false true = refl
or_comm false false = refl

pub when_walks : (types : Scope) (s : Stmt) (arms : List Arm) (other : List Stmt) (old all all' new : List LeafKey) (before now' after : List DriveFault) → s ≡ stmt.When arms other
    → ((leaf : Leaf) → is_among all leaf ≡ any_certain (map (walked types) other) leaf) → now' ≡ before ++ faults_from (map (walked types) other)
    → ((leaf : Leaf) → is_among all' leaf ≡ (list_all (λ arm. arm.certain leaf) (map (walked_arm types) arms) && is_among all leaf))
    → after ≡ now' ++ flat_map (λ arm. arm.faults) (map (walked_arm types) arms)
    → ((leaf : Leaf) → is_among new leaf ≡ (is_among old leaf || is_among all' leaf))
    → Walks (walked types s) old before new after
when_walks types s arms other old all all' new before now' after e h f k g n =
    let arms_all : Leaf → Bool = λ leaf. list_all (λ arm. arm.certain leaf) (map (walked_arm types) arms) in
    subst (λ w. Walks w old before new after) (sym (walked-when types s arms other e)) (record {
      certain = λ leaf. n leaf ∙ or_comm (is_among old leaf) (is_among all' leaf) ∙ ap (λ b. b || is_among old leaf) (k leaf ∙ ap (λ b. arms_all leaf && b) (h leaf));
      told = g ∙ ap (λ l. l ++ flat_map (λ arm. arm.faults) (map (walked_arm types) arms)) f ∙ append_assoc before _ _;
    })
