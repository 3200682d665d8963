-- Where a circuit's names have no fault, only the statements behind a declaration in its block name it.
use Rattle.std.proofs.Common.{◌≡◌, ◌≢◌, ℕ, zero, suc, ◌+◌, List, [], ◌∷◌, ◌++◌, map, length, Some, slice_get, refl, sym, ap, ap₂, ◌∙◌, subst, arith, append_assoc, append-nil, length-append, ◌⊎◌, inl, inr, ⊎_elim}
use Rattle.std.proofs.lemmas.List.Elements.{Contains-append_cases}
use Rattle.std.specs.Prelude.{Contains, ⊤}
use Rattle.std.specs.List.{flat_map, AllZip}
use Rattle.std.proofs.lemmas.List.Concat.{flat_map-cons}
use Rattle.std.proofs.lemmas.List.{map-append}
use Rattle.fir_types.specs.declared.name.Name.{Name}
use Rattle.fir_types.specs.declared.port.Port.{Port}
use Rattle.fir_tree.specs.declared.circuit.Circuit.{Circuit}
use Rattle.fir_tree.specs.declared.circuit.Module.{Module}
use Rattle.fir_tree.specs.declared.scope.Scope.{Scope}
use Rattle.fir_tree.specs.declared.expr.Expr.{Expr}
use Rattle.fir_tree.specs.declared.stmt.Stmt.{Stmt, ind-Stmt}
use Rattle.fir_tree.specs.declared.stmt.Arm.{Arm, fold-Arm, ind-Arm}
use Rattle.fir_tree.specs.declared.stmt.Stmt.TheOpen.{Stmt-F, Arm-F}
use Rattle.fir_tree.specs.declared.stmt.Stmt.TheFolds.{map-Stmt, map-Arm, fold-roll-Stmt, fold-roll-Arm}
use Rattle.fir_tree.specs.declared.stmt.Stmt.TheViews.{roll-Stmt, roll-Arm}
use Rattle.fir_meaning.specs.Components.{Declaration, Told, ToldArm, told, of_told, of_told_arm, one, declared_from, declared_in_block, declarations_of, declared_by_port, Sort}
use Rattle.fir_names.specs.Extents.{Seen, Use, references, uses_in, declared_in}
use Rattle.fir_names.specs.Parts as parts
use Rattle.fir_names.specs.Parts.{Part, stmt_part, arm_part, module_part}
use Rattle.fir_names.specs.Scopes.{texts, Names, IsScope}
use Rattle.place_text.specs.First.{HasNone}
use Rattle.fir_names.specs.Faults.{IsTwice, IsFault, name_twice}
use Rattle.fir_names.proofs.Graphs.{some_same}
use Rattle.fir_names.proofs.Agreement.{sees_its_blocks, declares_its_names}
use Rattle.circuit_laws.specs.Names as names
use Rattle.circuit_laws.specs.Names.{all_of, named_in, Every, Avoids, Unnamed}
use Rattle.circuit_laws.specs.Standing as standing
use Rattle.circuit_laws.specs.Standing.{total, count, arm_count, arm_names, UnnamedArms, IsAlone, itself, in_arm, in_else}
use Rattle.fir_meaning.proofs.Tracking.{none_some}
use Rattle.circuit_laws.proofs.Alone.{every-append, every-left, every-right}
use Rattle.fir_names.proofs.Members.{Contains-first, Contains-later, Contains-none, Contains-one, Contains-get, Contains-map}

-- Premises

abbrev NotSeen : ℕ → List Seen → Type 0
NotSeen c = Every Seen (λ s. s.0 ≢ c)

abbrev pub IsNamed : Use → Type 0
IsNamed u = (number : ℕ) × Names u number

abbrev pub AllNamed : List Use → Type 0
AllNamed = Every Use IsNamed

abbrev pub Distinct : List Name → Type 0
Distinct [] = ⊤
Distinct (n ∷ ns) = Avoids n.id ns × Distinct ns

avoids-append : (c : ℕ) (xs ys : List Name) → Avoids c xs → Avoids c ys → Avoids c (xs ++ ys)
avoids-append c = every-append Name (λ name. name.id ≢ c)

avoids-left : (c : ℕ) (xs ys : List Name) → Avoids c (xs ++ ys) → Avoids c xs
avoids-left c = every-left Name (λ name. name.id ≢ c)

avoids-right : (c : ℕ) (xs ys : List Name) → Avoids c (xs ++ ys) → Avoids c ys
avoids-right c = every-right Name (λ name. name.id ≢ c)

seen-append : (c : ℕ) (xs ys : List Seen) → NotSeen c xs → NotSeen c ys → NotSeen c (xs ++ ys)
seen-append c = every-append Seen (λ s. s.0 ≢ c)

pub distinct-left : (xs ys : List Name) → Distinct (xs ++ ys) → Distinct xs
distinct-left [] ys d = tt
distinct-left (x ∷ xs) ys d = (avoids-left x.id xs ys d.0, distinct-left xs ys d.1)

distinct-right : (xs ys : List Name) → Distinct (xs ++ ys) → Distinct ys
distinct-right [] ys d = d
distinct-right (x ∷ xs) ys d = distinct-right xs ys d.1

avoids_in : (c : ℕ) (ns : List Name) → Avoids c ns → Contains (texts ns) c → ⊥
avoids_in c [] a i = absurd (Contains-none i)
avoids_in c (n ∷ ns) a i = ⊎_elim (λ l. a.0 (sym (Contains-one l))) (λ r. avoids_in c ns a.1 r) (Contains-append_cases (n.id ∷ []) (texts ns) _ i)

apart-left : (c : ℕ) (xs ys : List Name) → Distinct (xs ++ ys) → Contains (texts xs) c → Avoids c ys
apart-left c [] ys d i = absurd (Contains-none i)
apart-left c (x ∷ xs) ys d i =
    ⊎_elim (λ l. subst (λ z. Avoids z ys) (sym (Contains-one l)) (avoids-right x.id xs ys d.0)) (λ r. apart-left c xs ys d.1 r) (Contains-append_cases (x.id ∷ []) (texts xs) _ i)

apart-right : (c : ℕ) (xs ys : List Name) → Distinct (xs ++ ys) → Contains (texts ys) c → Avoids c xs
apart-right c [] ys d i = tt
apart-right c (x ∷ xs) ys d i = (λ e. avoids_in c ys (subst (λ z. Avoids z ys) e (avoids-right x.id xs ys d.0)) i, apart-right c xs ys d.1 i)

-- What a part refers to is seen by it or declared in it.

record Sound (part : Part) (ns : List Name) : Type 0 where
  avoids : (c : ℕ) (seen : List Seen) (n : ℕ) → NotSeen c seen → Avoids c part.declares → AllNamed (part.uses seen n) → Avoids c ns
  shows : (c n : ℕ) → Avoids c part.declares → NotSeen c (part.shows n)

not_in : (c number : ℕ) (seen : List Seen) → NotSeen c seen → Contains seen (c, number) → ⊥
not_in c number [] h i = absurd (Contains-none i)
not_in c number (s ∷ seen) h i =
    ⊎_elim (λ l. h.0 (ap (λ (x : Seen). x.0) (sym (Contains-one l)))) (λ r. not_in c number seen h.1 r) (Contains-append_cases (s ∷ []) seen _ i)

mentions_avoid : (c : ℕ) (seen : List Seen) → NotSeen c seen → (ns : List Name) → AllNamed (map (λ name. record { name = name; seen = seen }) ns) → Avoids c ns
mentions_avoid c seen h [] a = tt
mentions_avoid c seen h (n ∷ ns) a =
    (λ e. not_in c a.0.0 seen h (subst (λ t. Contains seen (t, a.0.0)) e a.0.1), mentions_avoid c seen h ns a.1)

sound_nothing : Sound parts.nothing []
sound_nothing = record { avoids = λ c seen n h a u. tt; shows = λ c n a. tt }

sound_mentions : (ns : List Name) → Sound (parts.mentions ns) ns
sound_mentions ns = record { avoids = λ c seen n h a u. mentions_avoid c seen h ns u; shows = λ c n a. tt }

sound_declares : (name : Name) → Sound (parts.declares name) []
sound_declares name = record { avoids = λ c seen n h a u. tt; shows = λ c n a. (a.0, tt) }

sound_instance : (target : Name) → Sound (parts.instance_of target) []
sound_instance target = record { avoids = λ c seen n h a u. tt; shows = λ c n a. tt }

sound_joined : (p q : Part) (ns ms : List Name) → Sound p ns → Sound q ms → Sound (parts.joined p q) (ns ++ ms)
sound_joined p q ns ms h k = record {
  avoids = λ c seen n s a u.
      let here = avoids-left c p.declares q.declares a in
      avoids-append c ns ms (h.avoids c seen n s here (every-left Use IsNamed (p.uses seen n) _ u))
      (k.avoids c (seen ++ p.shows n) (n + length p.declares) (seen-append c seen (p.shows n) s (h.shows c n here)) (avoids-right c p.declares q.declares a)
      (every-right Use IsNamed (p.uses seen n) _ u));
  shows = λ c n a. seen-append c (p.shows n) (q.shows (n + length p.declares)) (h.shows c n (avoids-left c p.declares q.declares a))
      (k.shows c (n + length p.declares) (avoids-right c p.declares q.declares a));
}

sound_shut : (p : Part) (ns : List Name) → Sound p ns → Sound (record p { shows = λ n. [] }) ns
sound_shut p ns h = record { avoids = h.avoids; shows = λ c n a. tt }

sound_plain : (p : Part) (ns : List Name) → Sound p (ns ++ []) → Sound p ns
sound_plain p ns h = subst (Sound p) (append-nil ns) h

abbrev StmtSound : Stmt → Type 0
StmtSound s = Sound (stmt_part s) (named_in s)

record ArmSound (a : Arm) : Type 0 where
  sound : Sound (arm_part a) (arm_names a)
  shut : (n : ℕ) → (arm_part a).shows n ≡ []

sound_each : (ps : List ((s : Stmt) × StmtSound s)) → Sound (parts.in_turn (map stmt_part (map (λ e. e.0) ps))) (all_of (map named_in (map (λ e. e.0) ps)))
sound_each [] = sound_nothing
sound_each (p ∷ ps) = sound_joined (stmt_part p.0) _ (named_in p.0) _ p.1 (sound_each ps)

sound_arms_each : (ps : List ((a : Arm) × ArmSound a)) → Sound (parts.in_turn (map arm_part (map (λ e. e.0) ps))) (all_of (map arm_names (map (λ e. e.0) ps)))
sound_arms_each [] = sound_nothing
sound_arms_each (p ∷ ps) = sound_joined (arm_part p.0) _ (arm_names p.0) _ p.1.sound (sound_arms_each ps)

sound_at : (z : Stmt-F Stmt Arm) → Sound (parts.of_stmt (map-Stmt Stmt Arm Part Part stmt_part arm_part z)) (names.of_stmt (map-Stmt Stmt Arm (List Name) (List Name) named_in arm_names z))
    → StmtSound (roll-Stmt z)
sound_at z h = subst (λ p. Sound p (named_in (roll-Stmt z))) (sym (fold-roll-Stmt Part Part parts.of_stmt parts.of_arm z))
    (subst (Sound (parts.of_stmt (map-Stmt Stmt Arm Part Part stmt_part arm_part z))) (sym (fold-roll-Stmt (List Name) (List Name) names.of_stmt names.of_arm z)) h)

sound_layer : (y : Stmt-F ((s : Stmt) × StmtSound s) ((a : Arm) × ArmSound a)) → StmtSound (roll-Stmt (map-Stmt _ _ Stmt Arm (λ e. e.0) (λ e. e.0) y))
sound_layer (Stmt-F.Wire name typ) = sound_at (Stmt-F.Wire name typ) (sound_declares name)
sound_layer (Stmt-F.Reg name typ clock) = sound_at (Stmt-F.Reg name typ clock) (sound_plain _ (references clock) (sound_joined _ _ (references clock) [] (sound_mentions (references clock)) (sound_declares name)))
sound_layer (Stmt-F.RegReset name typ clock reset init) = sound_at (Stmt-F.RegReset name typ clock reset init)
    (sound_plain _ (references clock ++ references reset ++ references init) (sound_joined _ _ (references clock ++ references reset ++ references init) [] (sound_mentions (references clock ++ references reset ++ references init)) (sound_declares name)))
sound_layer (Stmt-F.Mem memory) = sound_at (Stmt-F.Mem memory) (sound_declares memory.name)
sound_layer (Stmt-F.Inst name target) = sound_at (Stmt-F.Inst name target) (sound_joined _ _ [] [] (sound_instance target) (sound_declares name))
sound_layer (Stmt-F.Node name expr) = sound_at (Stmt-F.Node name expr) (sound_plain _ (references expr) (sound_joined _ _ (references expr) [] (sound_mentions (references expr)) (sound_declares name)))
sound_layer (Stmt-F.Connect left right) = sound_at (Stmt-F.Connect left right) (sound_mentions (references left ++ references right))
sound_layer (Stmt-F.Invalidate target) = sound_at (Stmt-F.Invalidate target) (sound_mentions (references target))
sound_layer (Stmt-F.Skip place) = sound_at (Stmt-F.Skip place) sound_nothing
sound_layer (Stmt-F.When arms other) = sound_at (Stmt-F.When (map (λ e. e.0) arms) (map (λ e. e.0) other))
    (sound_joined _ _ (all_of (map arm_names (map (λ e. e.0) arms))) (all_of (map named_in (map (λ e. e.0) other))) (sound_arms_each arms) (sound_shut _ _ (sound_each other)))

sound_arm_layer : (y : Arm-F ((s : Stmt) × StmtSound s) ((a : Arm) × ArmSound a)) → ArmSound (roll-Arm (map-Arm _ _ Stmt Arm (λ e. e.0) (λ e. e.0) y))
sound_arm_layer y =
    let z : Arm-F Stmt Arm = map-Arm _ _ Stmt Arm (λ e. e.0) (λ e. e.0) y in
    let p = fold-roll-Arm Part Part parts.of_stmt parts.of_arm z in
    record {
      sound = subst (λ q. Sound q (arm_names (roll-Arm z))) (sym p)
          (subst (Sound (parts.of_arm (map-Arm Stmt Arm Part Part stmt_part arm_part z))) (sym (fold-roll-Arm (List Name) (List Name) names.of_stmt names.of_arm z))
          (sound_joined _ _ (references y.condition) _ (sound_mentions (references y.condition)) (sound_shut _ _ (sound_each y.body))));
      shut = λ n. ap (λ (q : Part). q.shows n) p;
    }

sound_stmt : (s : Stmt) → StmtSound s
sound_stmt = ind-Stmt StmtSound ArmSound (λ x y is. subst (λ z. StmtSound (roll-Stmt z)) is (sound_layer y)) (λ x y is. subst (λ z. ArmSound (roll-Arm z)) is (sound_arm_layer y))

sound_arm : (a : Arm) → ArmSound a
sound_arm = ind-Arm StmtSound ArmSound (λ x y is. subst (λ z. StmtSound (roll-Stmt z)) is (sound_layer y)) (λ x y is. subst (λ z. ArmSound (roll-Arm z)) is (sound_arm_layer y))

abbrev body_part : List Stmt → Part
body_part ss = parts.in_turn (map stmt_part ss)

abbrev arms_part : List Arm → Part
arms_part arms = parts.in_turn (map arm_part arms)

block_unnamed : (c : ℕ) (ss : List Stmt) (seen : List Seen) (n : ℕ) → NotSeen c seen → Avoids c (body_part ss).declares → AllNamed ((body_part ss).uses seen n) → Unnamed c ss
block_unnamed c [] seen n h a u = tt
block_unnamed c (s ∷ ss) seen n h a u =
    let here = avoids-left c (stmt_part s).declares (body_part ss).declares a in (
      (sound_stmt s).avoids c seen n h here (every-left Use IsNamed ((stmt_part s).uses seen n) _ u),
      block_unnamed c ss (seen ++ (stmt_part s).shows n) (n + length (stmt_part s).declares) (seen-append c seen ((stmt_part s).shows n) h ((sound_stmt s).shows c n here))
          (avoids-right c (stmt_part s).declares (body_part ss).declares a) (every-right Use IsNamed ((stmt_part s).uses seen n) _ u),
    )

arms_unnamed : (c : ℕ) (arms : List Arm) (seen : List Seen) (n : ℕ) → NotSeen c seen → Avoids c (arms_part arms).declares → AllNamed ((arms_part arms).uses seen n) → UnnamedArms c arms
arms_unnamed c [] seen n h a u = tt
arms_unnamed c (x ∷ arms) seen n h a u =
    let here = avoids-left c (arm_part x).declares (arms_part arms).declares a in (
      (sound_arm x).sound.avoids c seen n h here (every-left Use IsNamed ((arm_part x).uses seen n) _ u),
      arms_unnamed c arms (seen ++ (arm_part x).shows n) (n + length (arm_part x).declares) (seen-append c seen ((arm_part x).shows n) h ((sound_arm x).sound.shows c n here))
          (avoids-right c (arm_part x).declares (arms_part arms).declares a) (every-right Use IsNamed ((arm_part x).uses seen n) _ u),
    )

arms_shut : (arms : List Arm) (n : ℕ) → (arms_part arms).shows n ≡ []
arms_shut [] n = refl
arms_shut (x ∷ arms) n = ap₂ (λ a b. a ++ b) ((sound_arm x).shut n) (arms_shut arms (n + length (arm_part x).declares))

-- The declarations of the meaning are those of the names.

abbrev told_arm : Arm → ToldArm
told_arm = fold-Arm Told ToldArm of_told of_told_arm

record Linked (s : Stmt) : Type 0 where
  same : (told s).itself ≡ s
  ids : (block behind : List Stmt) → map (λ d. d.name) ((told s).declares block behind) ≡ texts (stmt_part s).declares
  counts : (block behind : List Stmt) → length ((told s).declares block behind) ≡ count s

record ArmLinked (a : Arm) : Type 0 where
  same : (told_arm a).itself ≡ a
  ids : map (λ d. d.name) (told_arm a).declared ≡ texts (arm_part a).declares
  counts : length (told_arm a).declared ≡ arm_count a

each_same : (ps : List ((s : Stmt) × Linked s)) → map (λ t. t.itself) (map told (map (λ e. e.0) ps)) ≡ map (λ e. e.0) ps
each_same [] = refl
each_same (p ∷ ps) = ap₂ (λ a b. a ∷ b) p.1.same (each_same ps)

arms_same : (ps : List ((a : Arm) × ArmLinked a)) → map (λ t. t.itself) (map told_arm (map (λ e. e.0) ps)) ≡ map (λ e. e.0) ps
arms_same [] = refl
arms_same (p ∷ ps) = ap₂ (λ a b. a ∷ b) p.1.same (arms_same ps)

block_ids : (ps : List ((s : Stmt) × Linked s)) (block : List Stmt) → map (λ d. d.name) (declared_from block (map told (map (λ e. e.0) ps))) ≡ texts (body_part (map (λ e. e.0) ps)).declares
block_ids [] block = refl
block_ids (p ∷ ps) block =
    let rest = map (λ t. t.itself) (map told (map (λ e. e.0) ps)) in
    map-append (λ (d : Declaration). d.name) ((told p.0).declares block rest) (declared_from block (map told (map (λ e. e.0) ps)))
    ∙ ap₂ (λ a b. a ++ b) (p.1.ids block rest) (block_ids ps block)
    ∙ sym (map-append (λ (name : Name). name.id) (stmt_part p.0).declares (body_part (map (λ e. e.0) ps)).declares)

block_counts : (ps : List ((s : Stmt) × Linked s)) (block : List Stmt) → length (declared_from block (map told (map (λ e. e.0) ps))) ≡ total (map count (map (λ e. e.0) ps))
block_counts [] block = refl
block_counts (p ∷ ps) block =
    let rest = map (λ t. t.itself) (map told (map (λ e. e.0) ps)) in
    length-append ((told p.0).declares block rest) (declared_from block (map told (map (λ e. e.0) ps))) ∙ ap₂ (λ a b. a + b) (p.1.counts block rest) (block_counts ps block)

arms_ids : (ps : List ((a : Arm) × ArmLinked a)) → map (λ d. d.name) (flat_map (λ arm. arm.declared) (map told_arm (map (λ e. e.0) ps))) ≡ texts (arms_part (map (λ e. e.0) ps)).declares
arms_ids [] = refl
arms_ids (p ∷ ps) =
    ap (map (λ (d : Declaration). d.name)) (flat_map-cons (λ arm. arm.declared) (told_arm p.0) (map told_arm (map (λ e. e.0) ps)))
    ∙ map-append (λ (d : Declaration). d.name) (told_arm p.0).declared (flat_map (λ arm. arm.declared) (map told_arm (map (λ e. e.0) ps)))
    ∙ ap₂ (λ a b. a ++ b) p.1.ids (arms_ids ps)
    ∙ sym (map-append (λ (name : Name). name.id) (arm_part p.0).declares (arms_part (map (λ e. e.0) ps)).declares)

arms_counts : (ps : List ((a : Arm) × ArmLinked a)) → length (flat_map (λ arm. arm.declared) (map told_arm (map (λ e. e.0) ps))) ≡ total (map arm_count (map (λ e. e.0) ps))
arms_counts [] = refl
arms_counts (p ∷ ps) =
    ap length (flat_map-cons (λ arm. arm.declared) (told_arm p.0) (map told_arm (map (λ e. e.0) ps)))
    ∙ length-append (told_arm p.0).declared (flat_map (λ arm. arm.declared) (map told_arm (map (λ e. e.0) ps))) ∙ ap₂ (λ a b. a + b) p.1.counts (arms_counts ps)

linked_at : (z : Stmt-F Stmt Arm) → (of_told (map-Stmt Stmt Arm Told ToldArm told told_arm z)).itself ≡ roll-Stmt z
    → ((block behind : List Stmt) → map (λ d. d.name) ((of_told (map-Stmt Stmt Arm Told ToldArm told told_arm z)).declares block behind) ≡ texts (parts.of_stmt (map-Stmt Stmt Arm Part Part stmt_part arm_part z)).declares)
    → ((block behind : List Stmt) → length ((of_told (map-Stmt Stmt Arm Told ToldArm told told_arm z)).declares block behind) ≡ standing.of_stmt (map-Stmt Stmt Arm ℕ ℕ count arm_count z))
    → Linked (roll-Stmt z)
linked_at z h k l =
    let t = fold-roll-Stmt Told ToldArm of_told of_told_arm z in
    record {
      same = ap (λ (x : Told). x.itself) t ∙ h;
      ids = λ block behind. ap (λ (x : Told). map (λ d. d.name) (x.declares block behind)) t ∙ k block behind ∙ ap (λ (p : Part). texts p.declares) (sym (fold-roll-Stmt Part Part parts.of_stmt parts.of_arm z));
      counts = λ block behind. ap (λ (x : Told). length (x.declares block behind)) t ∙ l block behind ∙ sym (fold-roll-Stmt ℕ ℕ standing.of_stmt standing.of_arm z);
    }

linked_layer : (y : Stmt-F ((s : Stmt) × Linked s) ((a : Arm) × ArmLinked a)) → Linked (roll-Stmt (map-Stmt _ _ Stmt Arm (λ e. e.0) (λ e. e.0) y))
linked_layer (Stmt-F.Wire name typ) = linked_at (Stmt-F.Wire name typ) refl (λ b h. refl) (λ b h. refl)
linked_layer (Stmt-F.Reg name typ clock) = linked_at (Stmt-F.Reg name typ clock) refl (λ b h. refl) (λ b h. refl)
linked_layer (Stmt-F.RegReset name typ clock reset init) = linked_at (Stmt-F.RegReset name typ clock reset init) refl (λ b h. refl) (λ b h. refl)
linked_layer (Stmt-F.Mem memory) = linked_at (Stmt-F.Mem memory) refl (λ b h. refl) (λ b h. refl)
linked_layer (Stmt-F.Inst name target) = linked_at (Stmt-F.Inst name target) refl (λ b h. refl) (λ b h. refl)
linked_layer (Stmt-F.Node name expr) = linked_at (Stmt-F.Node name expr) refl (λ b h. refl) (λ b h. refl)
linked_layer (Stmt-F.Connect left right) = linked_at (Stmt-F.Connect left right) refl (λ b h. refl) (λ b h. refl)
linked_layer (Stmt-F.Invalidate target) = linked_at (Stmt-F.Invalidate target) refl (λ b h. refl) (λ b h. refl)
linked_layer (Stmt-F.Skip place) = linked_at (Stmt-F.Skip place) refl (λ b h. refl) (λ b h. refl)
linked_layer (Stmt-F.When arms other) =
    let xs : List Arm = map (λ e. e.0) arms in
    let ys : List Stmt = map (λ e. e.0) other in
    linked_at (Stmt-F.When xs ys)
    (ap₂ (λ a b. roll-Stmt (Stmt-F.When a b)) (arms_same arms) (each_same other))
    (λ block behind.
    map-append (λ (d : Declaration). d.name) (flat_map (λ arm. arm.declared) (map told_arm xs)) (declared_in_block (map told ys))
    ∙ ap₂ (λ a b. a ++ b) (arms_ids arms) (block_ids other (map (λ t. t.itself) (map told ys)))
    ∙ sym (map-append (λ (name : Name). name.id) (arms_part xs).declares (body_part ys).declares))
    (λ block behind. length-append (flat_map (λ arm. arm.declared) (map told_arm xs)) (declared_in_block (map told ys))
    ∙ ap₂ (λ a b. a + b) (arms_counts arms) (block_counts other (map (λ t. t.itself) (map told ys))))

linked_arm_layer : (y : Arm-F ((s : Stmt) × Linked s) ((a : Arm) × ArmLinked a)) → ArmLinked (roll-Arm (map-Arm _ _ Stmt Arm (λ e. e.0) (λ e. e.0) y))
linked_arm_layer y =
    let z : Arm-F Stmt Arm = map-Arm _ _ Stmt Arm (λ e. e.0) (λ e. e.0) y in
    let t = fold-roll-Arm Told ToldArm of_told of_told_arm z in
    record {
      same = ap (λ (x : ToldArm). x.itself) t ∙ ap (λ b. roll-Arm (record { condition = y.condition; body = b })) (each_same y.body);
      ids = ap (λ (x : ToldArm). map (λ d. d.name) x.declared) t ∙ block_ids y.body (map (λ t. t.itself) (map told (map (λ e. e.0) y.body)))
          ∙ ap (λ (p : Part). texts p.declares) (sym (fold-roll-Arm Part Part parts.of_stmt parts.of_arm z));
      counts = ap (λ (x : ToldArm). length x.declared) t ∙ block_counts y.body (map (λ t. t.itself) (map told (map (λ e. e.0) y.body))) ∙ sym (fold-roll-Arm ℕ ℕ standing.of_stmt standing.of_arm z);
    }

linked : (s : Stmt) → Linked s
linked = ind-Stmt Linked ArmLinked (λ x y is. subst (λ z. Linked (roll-Stmt z)) is (linked_layer y)) (λ x y is. subst (λ z. ArmLinked (roll-Arm z)) is (linked_arm_layer y))

linked_arm : (a : Arm) → ArmLinked a
linked_arm = ind-Arm Linked ArmLinked (λ x y is. subst (λ z. Linked (roll-Stmt z)) is (linked_layer y)) (λ x y is. subst (λ z. ArmLinked (roll-Arm z)) is (linked_arm_layer y))

-- A declaration of a list

pub get-either : {X : Type 0} (xs ys : List X) (k : ℕ) (d : X) → slice_get (xs ++ ys) k ≡ Some d → (slice_get xs k ≡ Some d) ⊎ ((j : ℕ) × (k ≡ length xs + j) × (slice_get ys j ≡ Some d))
get-either [] ys k d e = inr (k, omega arith, e)
get-either (x ∷ xs) ys zero d e = inl e
get-either (x ∷ xs) ys (suc k) d e = ⊎_elim (λ l. inl l) (λ r. inr (r.0, omega (arith, r.1), r.2)) (get-either xs ys k d e)

named_among : (ds : List Declaration) (ns : List Name) → map (λ d. d.name) ds ≡ texts ns → (k : ℕ) (d : Declaration) → slice_get ds k ≡ Some d → Contains (texts ns) d.name
named_among ds ns e k d at = subst (λ list. Contains list d.name) e (Contains-map (λ x. x.name) ds d (Contains-get ds k d at))

abbrev with_linked : (ss : List Stmt) → List ((s : Stmt) × Linked s)
with_linked [] = []
with_linked (s ∷ ss) = (s, linked s) ∷ with_linked ss

with_linked_same : (ss : List Stmt) → map (λ e. e.0) (with_linked ss) ≡ ss
with_linked_same [] = refl
with_linked_same (s ∷ ss) = ap (λ l. s ∷ l) (with_linked_same ss)

itself_in : (ss : List Stmt) → map (λ t. t.itself) (map told ss) ≡ ss
itself_in [] = refl
itself_in (s ∷ ss) = ap₂ (λ a b. a ∷ b) (linked s).same (itself_in ss)

ids_in : (ss : List Stmt) (block : List Stmt) → map (λ d. d.name) (declared_from block (map told ss)) ≡ texts (body_part ss).declares
ids_in ss block = subst (λ l. map (λ d. d.name) (declared_from block (map told l)) ≡ texts (body_part l).declares) (with_linked_same ss) (block_ids (with_linked ss) block)

arm_ids_in : (arms : List Arm) → map (λ d. d.name) (flat_map (λ arm. arm.declared) (map told_arm arms)) ≡ texts (arms_part arms).declares
arm_ids_in [] = refl
arm_ids_in (a ∷ arms) =
    ap (map (λ (d : Declaration). d.name)) (flat_map-cons (λ arm. arm.declared) (told_arm a) (map told_arm arms))
    ∙ map-append (λ (d : Declaration). d.name) (told_arm a).declared (flat_map (λ arm. arm.declared) (map told_arm arms))
    ∙ ap₂ (λ a b. a ++ b) (linked_arm a).ids (arm_ids_in arms)
    ∙ sym (map-append (λ (name : Name). name.id) (arm_part a).declares (arms_part arms).declares)

total-append : (xs ys : List Stmt) → total (map count (xs ++ ys)) ≡ total (map count xs) + total (map count ys)
total-append [] ys = omega arith
total-append (x ∷ xs) ys = omega (arith, total-append xs ys)

unnamed-append : (c : ℕ) (xs ys : List Stmt) → Unnamed c xs → Unnamed c ys → Unnamed c (xs ++ ys)
unnamed-append c = every-append Stmt (λ s. Avoids c (named_in s))

zero_plus : (k : ℕ) → 0 + k ≡ k
zero_plus k = omega arith

-- The induction

abbrev StmtAlone : Stmt → Type 0
StmtAlone s = (front later : List Stmt) (seen : List Seen) (n : ℕ) (d : Declaration) (k : ℕ) → Unnamed d.name front
    → (((m : ℕ) → (stmt_part s).shows m ≡ []) → Unnamed d.name later) → NotSeen d.name seen → Distinct (stmt_part s).declares → AllNamed ((stmt_part s).uses seen n)
    → slice_get ((told s).declares (front ++ s ∷ later) later) k ≡ Some d → IsAlone d (total (map count front) + k) (front ++ s ∷ later)

record ArmFound (d : Declaration) (k : ℕ) (a : Arm) : Type 0 where
  condition : Expr
  inside : List Stmt
  is : a ≡ roll-Arm (record { condition = condition; body = inside })
  apart : Avoids d.name (references condition)
  alone : IsAlone d k inside

abbrev ArmAlone : Arm → Type 0
ArmAlone a = (seen : List Seen) (n : ℕ) (d : Declaration) (k : ℕ) → NotSeen d.name seen → Distinct (arm_part a).declares → AllNamed ((arm_part a).uses seen n)
    → slice_get (told_arm a).declared k ≡ Some d → ArmFound d k a

block_alone : (ps : List ((s : Stmt) × StmtAlone s)) (front : List Stmt) (seen : List Seen) (n : ℕ) (d : Declaration) (k : ℕ) → Unnamed d.name front → NotSeen d.name seen
    → Distinct (body_part (map (λ e. e.0) ps)).declares → AllNamed ((body_part (map (λ e. e.0) ps)).uses seen n)
    → slice_get (declared_from (front ++ map (λ e. e.0) ps) (map told (map (λ e. e.0) ps))) k ≡ Some d → IsAlone d (total (map count front) + k) (front ++ map (λ e. e.0) ps)
block_alone [] front seen n d k u h w a e = cc
block_alone (p ∷ ps) front seen n d k u h w a e =
    let rest : List Stmt = map (λ x. x.0) ps in
    let whole : List Stmt = front ++ p.0 ∷ rest in
    let decls : List Declaration = (told p.0).declares whole (map (λ t. t.itself) (map told rest)) in
    let here' = every-left Use IsNamed ((stmt_part p.0).uses seen n) _ a in
    let there' = every-right Use IsNamed ((stmt_part p.0).uses seen n) _ a in
    let wl = distinct-left (stmt_part p.0).declares (body_part rest).declares w in
    let wr = distinct-right (stmt_part p.0).declares (body_part rest).declares w in
    ⊎_elim
    (λ l.
    let among : Contains (texts (stmt_part p.0).declares) d.name = named_among decls (stmt_part p.0).declares ((linked p.0).ids whole (map (λ t. t.itself) (map told rest))) k d l in
    let apart : Avoids d.name (body_part rest).declares = apart-left d.name (stmt_part p.0).declares (body_part rest).declares w among in
    p.1 front rest seen n d k u
    (λ shut. block_unnamed d.name rest (seen ++ (stmt_part p.0).shows n) (n + length (stmt_part p.0).declares)
    (seen-append d.name seen ((stmt_part p.0).shows n) h (subst (NotSeen d.name) (sym (shut n)) tt)) apart there')
    h wl here' (subst (λ b. slice_get ((told p.0).declares whole b) k ≡ Some d) (itself_in rest) l))
    (λ r.
    let among : Contains (texts (body_part rest).declares) d.name = named_among (declared_from whole (map told rest)) (body_part rest).declares (ids_in rest whole) r.0 d r.2 in
    let apart : Avoids d.name (stmt_part p.0).declares = apart-right d.name (stmt_part p.0).declares (body_part rest).declares w among in
    let own : Avoids d.name (named_in p.0) = (sound_stmt p.0).avoids d.name seen n h apart here' in
    let shifted : (front ++ p.0 ∷ []) ++ rest ≡ whole = append_assoc front (p.0 ∷ []) rest in
    let found : IsAlone d (total (map count (front ++ p.0 ∷ [])) + r.0) ((front ++ p.0 ∷ []) ++ rest) =
    block_alone ps (front ++ p.0 ∷ []) (seen ++ (stmt_part p.0).shows n) (n + length (stmt_part p.0).declares) d r.0
    (unnamed-append d.name front (p.0 ∷ []) u (own, tt)) (seen-append d.name seen ((stmt_part p.0).shows n) h ((sound_stmt p.0).shows d.name n apart)) wr there'
    (subst (λ b. slice_get (declared_from b (map told rest)) r.0 ≡ Some d) (sym shifted) r.2) in
    let amount : total (map count (front ++ p.0 ∷ [])) + r.0 ≡ total (map count front) + k =
    omega (arith, total-append front (p.0 ∷ []), r.1, (linked p.0).counts whole (map (λ t. t.itself) (map told rest))) in
    subst (λ m. IsAlone d m whole) amount (subst (IsAlone d (total (map count (front ++ p.0 ∷ [])) + r.0)) shifted found))
    (get-either decls (declared_from whole (map told rest)) k d e)

record ArmsFound (d : Declaration) (k : ℕ) (arms : List Arm) : Type 0 where
  before : List Arm
  after : List Arm
  condition : Expr
  inside : List Stmt
  number : ℕ
  is : arms ≡ before ++ roll-Arm (record { condition = condition; body = inside }) ∷ after
  at : k ≡ total (map arm_count before) + number
  unnamed : UnnamedArms d.name before
  apart : Avoids d.name (references condition)
  later : UnnamedArms d.name after
  alone : IsAlone d number inside

arms_alone : (ps : List ((a : Arm) × ArmAlone a)) (seen : List Seen) (n : ℕ) (d : Declaration) (k : ℕ) → NotSeen d.name seen
    → Distinct (arms_part (map (λ e. e.0) ps)).declares → AllNamed ((arms_part (map (λ e. e.0) ps)).uses seen n)
    → slice_get (flat_map (λ arm. arm.declared) (map told_arm (map (λ e. e.0) ps))) k ≡ Some d → ArmsFound d k (map (λ e. e.0) ps)
arms_alone [] seen n d k h w a e = cc
arms_alone (p ∷ ps) seen n d k h w a e =
    let rest : List Arm = map (λ x. x.0) ps in
    let others : List Declaration = flat_map (λ arm. arm.declared) (map told_arm rest) in
    let here' = every-left Use IsNamed ((arm_part p.0).uses seen n) _ a in
    let there' = every-right Use IsNamed ((arm_part p.0).uses seen n) _ a in
    let seen' : NotSeen d.name (seen ++ (arm_part p.0).shows n) = seen-append d.name seen ((arm_part p.0).shows n) h (subst (NotSeen d.name) (sym ((sound_arm p.0).shut n)) tt) in
    ⊎_elim
    (λ l.
    let f : ArmFound d k p.0 = p.1 seen n d k h (distinct-left (arm_part p.0).declares (arms_part rest).declares w) here' l in
    let among : Contains (texts (arm_part p.0).declares) d.name = named_among (told_arm p.0).declared (arm_part p.0).declares (linked_arm p.0).ids k d l in
    record {
      before = [];
      after = rest;
      condition = f.condition;
      inside = f.inside;
      number = k;
      is = ap (λ x. x ∷ rest) f.is;
      at = omega arith;
      unnamed = tt;
      apart = f.apart;
      later = arms_unnamed d.name rest (seen ++ (arm_part p.0).shows n) (n + length (arm_part p.0).declares) seen' (apart-left d.name (arm_part p.0).declares (arms_part rest).declares w among) there';
      alone = f.alone;
    })
    (λ r.
    let among : Contains (texts (arms_part rest).declares) d.name = named_among others (arms_part rest).declares (arm_ids_in rest) r.0 d r.2 in
    let f : ArmsFound d r.0 rest = arms_alone ps (seen ++ (arm_part p.0).shows n) (n + length (arm_part p.0).declares) d r.0 seen'
    (distinct-right (arm_part p.0).declares (arms_part rest).declares w) there' r.2 in
    record {
      before = p.0 ∷ f.before;
      after = f.after;
      condition = f.condition;
      inside = f.inside;
      number = f.number;
      is = ap (λ l. p.0 ∷ l) f.is;
      at = omega (arith, r.1, f.at, (linked_arm p.0).counts);
      unnamed = ((sound_arm p.0).sound.avoids d.name seen n h (apart-right d.name (arm_part p.0).declares (arms_part rest).declares w among) here', f.unnamed);
      apart = f.apart;
      later = f.later;
      alone = f.alone;
    })
    (get-either (told_arm p.0).declared others k d (subst (λ l. slice_get l k ≡ Some d) (flat_map-cons (λ arm. arm.declared) (told_arm p.0) (map told_arm rest)) e))

-- a declaration itself
one_alone : (s : Stmt) (name : Name) (sort : Sort) → (told s).declares ≡ one name sort → count s ≡ 1 → ((c : ℕ) (seen : List Seen) (n : ℕ) → NotSeen c seen → AllNamed ((stmt_part s).uses seen n) → Avoids c (named_in s))
    → StmtAlone s
one_alone s name sort is counts own front later seen n d zero u v h w a e =
    let at : Some (record { name = name.id; place = name.place; sort = sort; block = front ++ s ∷ later; behind = later }) ≡ Some d = ap (λ f. slice_get (f (front ++ s ∷ later) later) 0) (sym is) ∙ e in
    let d' : Declaration = record { name = name.id; place = name.place; sort = sort; block = front ++ s ∷ later; behind = later } in
    let same : d' ≡ d = some_same at in
    subst (λ m. IsAlone d m (front ++ s ∷ later)) (omega arith)
    (itself front s later counts (ap (λ (x : Declaration). x.block) (sym same)) (ap (λ (x : Declaration). x.behind) (sym same)) u (own d.name seen n h a))
one_alone s name sort is counts own front later seen n d (suc k) u v h w a e =
    absurd (none_some (ap (λ f. slice_get (f (front ++ s ∷ later) later) (suc k)) (sym is) ∙ e))

none_alone : (s : Stmt) → ((block behind : List Stmt) → (told s).declares block behind ≡ []) → StmtAlone s
none_alone s is front later seen n d k u v h w a e = absurd (none_some (sym (ap (λ l. slice_get l k) (is (front ++ s ∷ later) later)) ∙ e))

told_at : (z : Stmt-F Stmt Arm) → told (roll-Stmt z) ≡ of_told (map-Stmt Stmt Arm Told ToldArm told told_arm z)
told_at z = fold-roll-Stmt Told ToldArm of_told of_told_arm z

declaring : (z : Stmt-F Stmt Arm) (name : Name) (sort : Sort) → (of_told (map-Stmt Stmt Arm Told ToldArm told told_arm z)).declares ≡ one name sort
    → standing.of_stmt (map-Stmt Stmt Arm ℕ ℕ count arm_count z) ≡ 1
    → ((c : ℕ) (seen : List Seen) (n : ℕ) → NotSeen c seen → AllNamed ((parts.of_stmt (map-Stmt Stmt Arm Part Part stmt_part arm_part z)).uses seen n)
    → Avoids c (names.of_stmt (map-Stmt Stmt Arm (List Name) (List Name) named_in arm_names z))) → StmtAlone (roll-Stmt z)
declaring z name sort e counts own = one_alone (roll-Stmt z) name sort (ap (λ (t : Told). t.declares) (told_at z) ∙ e) (fold-roll-Stmt ℕ ℕ standing.of_stmt standing.of_arm z ∙ counts)
    (λ c seen n h a. subst (Avoids c) (sym (fold-roll-Stmt (List Name) (List Name) names.of_stmt names.of_arm z))
    (own c seen n h (subst (λ (p : Part). AllNamed (p.uses seen n)) (fold-roll-Stmt Part Part parts.of_stmt parts.of_arm z) a)))

refers_alone : (c : ℕ) (seen : List Seen) (ns : List Name) → NotSeen c seen → AllNamed (map (λ name. record { name = name; seen = seen }) ns ++ []) → Avoids c ns
refers_alone c seen ns h a = mentions_avoid c seen h ns (every-left Use IsNamed (map (λ name. record { name = name; seen = seen }) ns) [] a)

alone_layer : (y : Stmt-F ((s : Stmt) × StmtAlone s) ((a : Arm) × ArmAlone a)) → StmtAlone (roll-Stmt (map-Stmt _ _ Stmt Arm (λ e. e.0) (λ e. e.0) y))
alone_layer (Stmt-F.Wire name typ) = declaring (Stmt-F.Wire name typ) name _ refl refl (λ c seen n h a. tt)
alone_layer (Stmt-F.Reg name typ clock) = declaring (Stmt-F.Reg name typ clock) name _ refl refl (λ c seen n h a. refers_alone c seen (references clock) h a)
alone_layer (Stmt-F.RegReset name typ clock reset init) = declaring (Stmt-F.RegReset name typ clock reset init) name _ refl refl
    (λ c seen n h a. refers_alone c seen (references clock ++ references reset ++ references init) h a)
alone_layer (Stmt-F.Mem memory) = declaring (Stmt-F.Mem memory) memory.name _ refl refl (λ c seen n h a. tt)
alone_layer (Stmt-F.Inst name target) = declaring (Stmt-F.Inst name target) name _ refl refl (λ c seen n h a. tt)
alone_layer (Stmt-F.Node name expr) = declaring (Stmt-F.Node name expr) name _ refl refl (λ c seen n h a. refers_alone c seen (references expr) h a)
alone_layer (Stmt-F.Connect left right) = none_alone _ (λ b r. ap (λ (t : Told). t.declares b r) (told_at (Stmt-F.Connect left right)))
alone_layer (Stmt-F.Invalidate target) = none_alone _ (λ b r. ap (λ (t : Told). t.declares b r) (told_at (Stmt-F.Invalidate target)))
alone_layer (Stmt-F.Skip place) = none_alone _ (λ b r. ap (λ (t : Told). t.declares b r) (told_at (Stmt-F.Skip place)))
alone_layer (Stmt-F.When arms other) = λ front later seen n d k u v h w a e.
    let xs : List Arm = map (λ e. e.0) arms in
    let ys : List Stmt = map (λ e. e.0) other in
    let s : Stmt = roll-Stmt (Stmt-F.When xs ys) in
    let p = fold-roll-Stmt Part Part parts.of_stmt parts.of_arm (Stmt-F.When xs ys) in
    let w' : Distinct ((arms_part xs).declares ++ (body_part ys).declares) = subst (λ (q : Part). Distinct q.declares) p w in
    let a' : AllNamed ((arms_part xs).uses seen n ++ (body_part ys).uses (seen ++ (arms_part xs).shows n) (n + length (arms_part xs).declares)) = subst (λ (q : Part). AllNamed (q.uses seen n)) p a in
    let al = every-left Use IsNamed ((arms_part xs).uses seen n) _ a' in
    let ar = every-right Use IsNamed ((arms_part xs).uses seen n) _ a' in
    let wl = distinct-left (arms_part xs).declares (body_part ys).declares w' in
    let wr = distinct-right (arms_part xs).declares (body_part ys).declares w' in
    let seen' : NotSeen d.name (seen ++ (arms_part xs).shows n) = seen-append d.name seen ((arms_part xs).shows n) h (subst (NotSeen d.name) (sym (arms_shut xs n)) tt) in
    let unnamed_later : Unnamed d.name later = v (λ m. ap (λ (q : Part). q.shows m) p ∙ append-nil ((arms_part xs).shows m) ∙ arms_shut xs m) in
    let e' : slice_get (flat_map (λ arm. arm.declared) (map told_arm xs) ++ declared_in_block (map told ys)) k ≡ Some d =
    ap (λ (t : Told). slice_get (t.declares (front ++ s ∷ later) later) k) (sym (told_at (Stmt-F.When xs ys))) ∙ e in
    ⊎_elim
    (λ l.
    let f : ArmsFound d k xs = arms_alone arms seen n d k h wl al l in
    let among : Contains (texts (arms_part xs).declares) d.name = named_among (flat_map (λ arm. arm.declared) (map told_arm xs)) (arms_part xs).declares (arm_ids_in xs) k d l in
    let uo : Unnamed d.name ys = block_unnamed d.name ys (seen ++ (arms_part xs).shows n) (n + length (arms_part xs).declares) seen' (apart-left d.name (arms_part xs).declares (body_part ys).declares w' among) ar in
    subst (λ m. IsAlone d (total (map count front) + m) (front ++ s ∷ later)) (sym f.at)
    (subst (λ zs. IsAlone d (total (map count front) + (total (map arm_count f.before) + f.number)) (front ++ roll-Stmt (Stmt-F.When zs ys) ∷ later)) (sym f.is)
    (in_arm f.number front later f.before f.after f.condition f.inside ys u unnamed_later f.unnamed f.apart f.later uo f.alone)))
    (λ r.
    let among : Contains (texts (body_part ys).declares) d.name = named_among (declared_in_block (map told ys)) (body_part ys).declares (ids_in ys (map (λ t. t.itself) (map told ys))) r.0 d r.2 in
    let ua : UnnamedArms d.name xs = arms_unnamed d.name xs seen n h (apart-right d.name (arms_part xs).declares (body_part ys).declares w' among) al in
    let inner : IsAlone d r.0 ys = subst (λ m. IsAlone d m ys) (zero_plus r.0) (block_alone other [] (seen ++ (arms_part xs).shows n) (n + length (arms_part xs).declares) d r.0 tt seen' wr ar
    (subst (λ b. slice_get (declared_from b (map told ys)) r.0 ≡ Some d) (itself_in ys) r.2)) in
    let at : total (map count front) + (total (map arm_count xs) + r.0) ≡ total (map count front) + k = omega (arith, r.1, arm_totals xs) in
    subst (λ m. IsAlone d m (front ++ s ∷ later)) at (in_else r.0 front later xs ys u unnamed_later ua inner))
    (get-either (flat_map (λ arm. arm.declared) (map told_arm xs)) (declared_in_block (map told ys)) k d e')
  where
    arm_totals : (zs : List Arm) → length (flat_map (λ arm. arm.declared) (map told_arm zs)) ≡ total (map arm_count zs)
    arm_totals [] = refl
    arm_totals (z ∷ zs) = ap length (flat_map-cons (λ arm. arm.declared) (told_arm z) (map told_arm zs))
        ∙ length-append (told_arm z).declared (flat_map (λ arm. arm.declared) (map told_arm zs)) ∙ ap₂ (λ a b. a + b) (linked_arm z).counts (arm_totals zs)

alone_arm_layer : (y : Arm-F ((s : Stmt) × StmtAlone s) ((a : Arm) × ArmAlone a)) → ArmAlone (roll-Arm (map-Arm _ _ Stmt Arm (λ e. e.0) (λ e. e.0) y))
alone_arm_layer y seen n d k h w a e =
    let ys : List Stmt = map (λ e. e.0) y.body in
    let z : Arm-F Stmt Arm = record { condition = y.condition; body = ys } in
    let p = fold-roll-Arm Part Part parts.of_stmt parts.of_arm z in
    let w' : Distinct (body_part ys).declares = subst (λ (q : Part). Distinct q.declares) p w in
    let a' : AllNamed (map (λ name. record { name = name; seen = seen }) (references y.condition) ++ (body_part ys).uses (seen ++ []) (n + 0)) = subst (λ (q : Part). AllNamed (q.uses seen n)) p a in
    let e' : slice_get (declared_from (map (λ t. t.itself) (map told ys)) (map told ys)) k ≡ Some d =
    ap (λ (t : ToldArm). slice_get t.declared k) (sym (fold-roll-Arm Told ToldArm of_told of_told_arm z)) ∙ e in
    record {
      condition = y.condition;
      inside = ys;
      is = refl;
      apart = mentions_avoid d.name seen h (references y.condition) (every-left Use IsNamed (map (λ name. record { name = name; seen = seen }) (references y.condition)) _ a');
      alone = subst (λ m. IsAlone d m ys) (zero_plus k) (block_alone y.body [] (seen ++ []) (n + 0) d k tt (seen-append d.name seen [] h tt) w' (every-right Use IsNamed (map (λ name. record { name = name; seen = seen }) (references y.condition)) _ a')
          (subst (λ b. slice_get (declared_from b (map told ys)) k ≡ Some d) (itself_in ys) e'));
    }

alone_stmt : (s : Stmt) → StmtAlone s
alone_stmt = ind-Stmt StmtAlone ArmAlone (λ x y is. subst (λ z. StmtAlone (roll-Stmt z)) is (alone_layer y)) (λ x y is. subst (λ z. ArmAlone (roll-Arm z)) is (alone_arm_layer y))

abbrev with_alone : (ss : List Stmt) → List ((s : Stmt) × StmtAlone s)
with_alone [] = []
with_alone (s ∷ ss) = (s, alone_stmt s) ∷ with_alone ss

with_alone_same : (ss : List Stmt) → map (λ e. e.0) (with_alone ss) ≡ ss
with_alone_same [] = refl
with_alone_same (s ∷ ss) = ap (λ l. s ∷ l) (with_alone_same ss)

pub body_alone : (ss : List Stmt) (seen : List Seen) (n : ℕ) (d : Declaration) (k : ℕ) → NotSeen d.name seen → Distinct (body_part ss).declares → AllNamed ((body_part ss).uses seen n)
    → slice_get (declared_in_block (map told ss)) k ≡ Some d → IsAlone d k ss
body_alone ss seen n d k h w a e =
    let e' : slice_get (declared_from ss (map told ss)) k ≡ Some d = subst (λ b. slice_get (declared_from b (map told ss)) k ≡ Some d) (itself_in ss) e in
    let x : List Stmt = map (λ e. e.0) (with_alone ss) in
    let s = with_alone_same ss in
    subst (λ l. IsAlone d k l) s (subst (λ m. IsAlone d m x) (zero_plus k) (block_alone (with_alone ss) [] seen n d k tt h (subst (λ l. Distinct (body_part l).declares) (sym s) w) (subst (λ l. AllNamed ((body_part l).uses seen n)) (sym s) a)
    (subst (λ l. slice_get (declared_from l (map told l)) k ≡ Some d) (sym s) e')))

-- A module without a fault in its names

pub every_named : (us : List Use) (ns : List ℕ) → AllZip Names us ns → AllNamed us
every_named [] ns z = tt
every_named (u ∷ us) [] z = absurd z
every_named (u ∷ us) (n ∷ ns) z = ((n, z.0), every_named us ns z.1)

pub named_within : (modules : List Module) (holder : Module) → Contains modules holder → AllNamed (flat_map uses_in modules) → AllNamed (uses_in holder)
named_within [] holder i a = absurd (Contains-none i)
named_within (m ∷ modules) holder i a =
    let split : AllNamed (uses_in m ++ flat_map uses_in modules) = subst AllNamed (flat_map-cons uses_in m modules) a in
    ⊎_elim (λ l. subst (λ z. AllNamed (uses_in z)) (sym (Contains-one l)) (every-left Use IsNamed (uses_in m) (flat_map uses_in modules) split))
    (λ r. named_within modules holder r (every-right Use IsNamed (uses_in m) (flat_map uses_in modules) split)) (Contains-append_cases (m ∷ []) modules _ i)

avoids_unless : (c : ℕ) (ns : List Name) → ((front back : List Name) (name : Name) → ns ≡ front ++ name ∷ back → name.id ≡ c → ⊥) → Avoids c ns
avoids_unless c [] h = tt
avoids_unless c (n ∷ ns) h = (λ e. h [] ns n refl e, avoids_unless c ns (λ front back name s e. h (n ∷ front) back name (ap (λ l. n ∷ l) s) e))

texts-here : (before front : List Name) (n name : Name) → name.id ≡ n.id → Contains (texts (before ++ n ∷ front)) name.id
texts-here [] front n name e = subst (λ t. Contains (texts (n ∷ front)) t) (sym e) (Contains-first (texts front))
texts-here (b ∷ before) front n name e = Contains-later b.id (texts (before ++ n ∷ front)) (texts-here before front n name e)

pub distinct_behind : (before ns : List Name) → ((name : Name) → ¬ (IsTwice (before ++ ns) name)) → Distinct ns
distinct_behind before [] h = tt
distinct_behind before (n ∷ ns) h = (
  avoids_unless n.id ns (λ front back name s e. h name (record {
    before = before ++ n ∷ front;
    after = back;
    split = ap (λ l. before ++ n ∷ l) s ∙ sym (append_assoc before (n ∷ front) (name ∷ back));
    again = texts-here before front n name e;
  })),
  distinct_behind (before ++ n ∷ []) ns (λ name t. h name (subst (λ l. IsTwice l name) (append_assoc before (n ∷ []) ns) t)),
)

ports_show : (c : ℕ) (ports : List Port) (n : ℕ) → Avoids c (parts.in_turn (map (λ port. parts.declares port.name) ports)).declares
    → NotSeen c ((parts.in_turn (map (λ port. parts.declares port.name) ports)).shows n)
ports_show c [] n a = tt
ports_show c (port ∷ ports) n a = (a.0, ports_show c ports (n + 1) a.1)

pub module_alone : (circuit : Circuit) (scope : Scope) → IsScope circuit scope → HasNone (IsFault circuit) → (holder : Module) → Contains circuit.modules holder
    → (k : ℕ) (d : Declaration) → slice_get (declared_in_block (map told holder.body)) k ≡ Some d → IsAlone d k holder.body
module_alone circuit scope is none holder i k d e =
    let ports : Part = parts.in_turn (map (λ port. parts.declares port.name) holder.ports) in
    let body : Part = body_part holder.body in
    let named : AllNamed (ports.uses [] 0 ++ body.uses ([] ++ ports.shows 0) (0 + length ports.declares)) =
    subst AllNamed (sym (sees_its_blocks holder)) (named_within circuit.modules holder i (every_named (flat_map uses_in circuit.modules) scope.uses is.uses)) in
    let distinct : Distinct (ports.declares ++ body.declares) = subst Distinct (sym (declares_its_names holder))
    (distinct_behind [] (declared_in holder) (λ name t. none _ (name_twice holder name i t))) in
    let among : Contains (texts body.declares) d.name = named_among (declared_in_block (map told holder.body)) body.declares (ids_in holder.body (map (λ t. t.itself) (map told holder.body))) k d e in
    body_alone holder.body (ports.shows 0) (0 + length ports.declares) d k (ports_show d.name holder.ports 0 (apart-right d.name ports.declares body.declares distinct among))
    (distinct-right ports.declares body.declares distinct) (every-right Use IsNamed (ports.uses [] 0) _ named) e

-- All declarations of a module, ports first.

ids_of : (holder : Module) → map (λ d. d.name) (declarations_of holder) ≡ texts (declared_in holder)
ids_of holder =
    let ports : Part = parts.in_turn (map (λ port. parts.declares port.name) holder.ports) in
    map-append (λ (d : Declaration). d.name) (map (declared_by_port holder.body) holder.ports) (declared_in_block (map told holder.body))
    ∙ ap₂ (λ a b. a ++ b) (port_ids holder.ports) (ids_in holder.body (map (λ t. t.itself) (map told holder.body)))
    ∙ sym (map-append (λ (name : Name). name.id) ports.declares (body_part holder.body).declares)
    ∙ ap texts (declares_its_names holder)
  where
    port_ids : (ports : List Port) → map (λ d. d.name) (map (declared_by_port holder.body) ports) ≡ texts (parts.in_turn (map (λ port. parts.declares port.name) ports)).declares
    port_ids [] = refl
    port_ids (port ∷ ports) = ap (λ l. port.name.id ∷ l) (port_ids ports)

abbrev pub DistinctIds : List ℕ → Type 0
DistinctIds [] = ⊤
DistinctIds (n ∷ ns) = Every ℕ (λ m. m ≢ n) ns × DistinctIds ns

texts_every : (c : ℕ) (ns : List Name) → Avoids c ns → Every ℕ (λ m. m ≢ c) (texts ns)
texts_every c [] a = tt
texts_every c (n ∷ ns) a = (a.0, texts_every c ns a.1)

pub distinct_texts : (ns : List Name) → Distinct ns → DistinctIds (texts ns)
distinct_texts [] d = tt
distinct_texts (n ∷ ns) d = (texts_every n.id ns d.0, distinct_texts ns d.1)

every-get : {X : Type 0} (P : X → Type 0) (xs : List X) → Every X P xs → (k : ℕ) (x : X) → slice_get xs k ≡ Some x → P x
every-get P [] h k x e = cc
every-get P (y ∷ xs) h zero x e = subst P (some_same e) h.0
every-get P (y ∷ xs) h (suc k) x e = every-get P xs h.1 k x e

pub ids_apart : (xs : List ℕ) → DistinctIds xs → (j k c : ℕ) → slice_get xs j ≡ Some c → slice_get xs k ≡ Some c → j ≡ k
ids_apart [] d j k c e f = cc
ids_apart (x ∷ xs) d zero zero c e f = refl
ids_apart (x ∷ xs) d zero (suc k) c e f = absurd (every-get (λ m. m ≢ x) xs d.0 k c f (sym (some_same e)))
ids_apart (x ∷ xs) d (suc j) zero c e f = absurd (every-get (λ m. m ≢ x) xs d.0 j c e (sym (some_same f)))
ids_apart (x ∷ xs) d (suc j) (suc k) c e f = ap suc (ids_apart xs d.1 j k c e f)

-- No two declarations of a module have one name.
pub declared_once : (circuit : Circuit) → HasNone (IsFault circuit) → (holder : Module) → Contains circuit.modules holder
    → (j k : ℕ) (d e : Declaration) → slice_get (declarations_of holder) j ≡ Some d → slice_get (declarations_of holder) k ≡ Some e → d.name ≡ e.name → j ≡ k
declared_once circuit none holder i j k d e f g same =
    ids_apart (map (λ x. x.name) (declarations_of holder)) (subst DistinctIds (sym (ids_of holder)) (distinct_texts (declared_in holder)
    (distinct_behind [] (declared_in holder) (λ name t. none _ (name_twice holder name i t))))) j k e.name
    (name_at (declarations_of holder) j d f ∙ ap Some same) (name_at (declarations_of holder) k e g)
  where
    name_at : (ds : List Declaration) (m : ℕ) (x : Declaration) → slice_get ds m ≡ Some x → slice_get (map (λ y. y.name) ds) m ≡ Some x.name
    name_at [] m x h = cc
    name_at (y ∷ ds) zero x h = ap (λ (z : Declaration). Some z.name) (some_same h)
    name_at (y ∷ ds) (suc m) x h = name_at ds m x h
