-- The declarations of statements, one after another.
use Rattle.std.proofs.Common.{◌≡◌, ℕ, ◌+◌, ◌<◌, ◌≤◌, List, [], ◌∷◌, ◌++◌, map, length, drop, get_or, refl, sym, ap, ap₂, ◌∙◌, append-nil, append_assoc}
use Rattle.std.specs.Prelude.{Result, Ok, Err, OnOk}
use Rattle.std.specs.List.{flat_map}
use Rattle.std.proofs.lemmas.List.{map-append}
use Rattle.std.proofs.lemmas.List.Concat.{flat_map-cons}
use Rattle.fir_tree.specs.declared.stmt.Stmt.{Stmt}
use Rattle.fir_tree.specs.declared.stmt.Arm.{Arm, fold-Arm}
use Rattle.fir_tree.specs.declared.stmt.Stmt.TheOpen.{Stmt-F}
use Rattle.fir_tree.specs.declared.stmt.Stmt.TheVariants as stmt
use Rattle.fir_tree.specs.declared.stmt.Stmt.TheFolds.{fold-roll-Stmt, fold-roll-Arm}
use Rattle.fir_tree.specs.declared.stmt.Stmt.TheViews.{roll-Stmt}
use Rattle.fir_meaning.specs.Components.{Told, ToldArm, told, of_told, of_told_arm, declared_from, declared_in_block}
use Rattle.drive_check.proofs.Linking.{linked}
use Rattle.plain_cycle.proofs.Lists.{drop_there, drop_past}
use Rattle.plain_cycle.specs.Held.{Kept, kept_of, declared_in_arm}

pub itself_in : (ss : List Stmt) → map (λ t. t.itself) (map told ss) ≡ ss
itself_in [] = refl
itself_in (s ∷ ss) = ap₂ (λ a b. a ∷ b) (linked s).same (itself_in ss)

-- what the statements of a block from a place on declare
abbrev pub kept_from : List Stmt → ℕ → List Kept
kept_from block k = map kept_of (declared_from block (map told (drop k block)))

pub kept_first : (block : List Stmt) → kept_from block 0 ≡ map kept_of (declared_in_block (map told block))
kept_first block = ap (λ b. map kept_of (declared_from b (map told block))) (sym (itself_in block))

pub kept_last : (block : List Stmt) (k : ℕ) → length block ≤ k → kept_from block k ≡ []
kept_last block k past = ap (λ l. map kept_of (declared_from block (map told l))) (drop_past block k past)

pub kept_next : (block : List Stmt) (k : ℕ) (s : Stmt) → k < length block → s ≡ get_or block k s
    → kept_from block k ≡ map kept_of ((told s).declares block (map (λ t. t.itself) (map told (drop (k + 1) block)))) ++ kept_from block (k + 1)
kept_next block k s below is =
    let rest = map told (drop (k + 1) block) in
    ap (λ l. map kept_of (declared_from block (map told l))) (drop_there block k s below is)
    ∙ map-append kept_of ((told s).declares block (map (λ t. t.itself) rest)) (declared_from block rest)

pub kept_more : (block : List Stmt) (k : ℕ) (s : Stmt) (all before after : List Kept) → k < length block → s ≡ get_or block k s
    → ((behind : List Stmt) → after ≡ before ++ map kept_of ((told s).declares block behind)) → before ++ kept_from block k ≡ all → after ++ kept_from block (k + 1) ≡ all
kept_more block k s all before after below is more e =
    let behind = map (λ t. t.itself) (map told (drop (k + 1) block)) in
    let own = map kept_of ((told s).declares block behind) in
    ap (λ l. l ++ kept_from block (k + 1)) (more behind) ∙ (append_assoc before own (kept_from block (k + 1))
    ∙ (ap (λ l. before ++ l) (sym (kept_next block k s below is)) ∙ e))

pub kept_all : (block : List Stmt) (k : ℕ) (before after : List Kept) → length block ≤ k → after ++ kept_from block k ≡ before ++ kept_from block 0
    → after ≡ before ++ map kept_of (declared_in_block (map told block))
kept_all block k before after past e =
    sym (append-nil after) ∙ (ap (λ l. after ++ l) (sym (kept_last block k past)) ∙ (e ∙ ap (λ l. before ++ l) (kept_first block)))

-- Each kind of statement

abbrev told_arm : Arm → ToldArm
told_arm = fold-Arm Told ToldArm of_told of_told_arm

pub kept_by : (s : Stmt) (z : Stmt-F Stmt Arm) → s ≡ roll-Stmt z → (block behind : List Stmt)
    → map kept_of ((told s).declares block behind) ≡ map kept_of ((of_told (Rattle.fir_tree.specs.declared.stmt.Stmt.TheFolds.map-Stmt Stmt Arm Told ToldArm told told_arm z)).declares block behind)
kept_by s z is block behind =
    ap (λ x. map kept_of ((told x).declares block behind)) is ∙ ap (λ (t : Told). map kept_of (t.declares block behind)) (fold-roll-Stmt Told ToldArm of_told of_told_arm z)

arm_kept : (a : Arm) → map kept_of (told_arm a).declared ≡ declared_in_arm a
arm_kept a = ap (λ (t : ToldArm). map kept_of t.declared) (fold-roll-Arm Told ToldArm of_told of_told_arm (record { condition = a.condition; body = a.body }))

arms_kept : (arms : List Arm) → map kept_of (flat_map (λ arm. arm.declared) (map told_arm arms)) ≡ flat_map declared_in_arm arms
arms_kept [] = refl
arms_kept (a ∷ arms) =
    ap (map kept_of) (flat_map-cons (λ arm. arm.declared) (told_arm a) (map told_arm arms))
    ∙ map-append kept_of (told_arm a).declared (flat_map (λ arm. arm.declared) (map told_arm arms))
    ∙ ap₂ (λ a b. a ++ b) (arm_kept a) (arms_kept arms)
    ∙ sym (flat_map-cons declared_in_arm a arms)

pub kept_by_when : (s : Stmt) (arms : List Arm) (other : List Stmt) → s ≡ stmt.When arms other → (block behind : List Stmt)
    → map kept_of ((told s).declares block behind) ≡ flat_map declared_in_arm arms ++ map kept_of (declared_in_block (map told other))
unfolding roll-Stmt denote.Hole.Carrier.roll
kept_by_when s arms other is block behind =
    kept_by s (Stmt-F.When arms other) is block behind
    ∙ map-append kept_of (flat_map (λ arm. arm.declared) (map told_arm arms)) (declared_in_block (map told other))
    ∙ ap (λ l. l ++ map kept_of (declared_in_block (map told other))) (arms_kept arms)

pub on_ok : {T E : Type 0} {P Q : Type 0} (r : Result T E) → (P → Q) → OnOk r P → OnOk r Q
on_ok (Ok x) f h = f h
on_ok (Err e) f h = h
