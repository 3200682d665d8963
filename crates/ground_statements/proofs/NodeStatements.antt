-- What statements mean for a leaf of a node.
use Rattle.std.proofs.Common.{◌≡◌, ℕ, ◌+◌, ◌<◌, ◌≤◌, ◌&&◌, Bool, true, false, List, [], ◌∷◌, ◌++◌, map, length, Option, ℤ, refl, sym, ap, ap₂, ◌∙◌, subst, arith, if◌then◌else◌, nat_lt, ◌⊎◌, inl, inr}
use Rattle.std.specs.Bool.{⊤}
use Rattle.std.proofs.lemmas.List.{length-append}
use Rattle.fir_tree.specs.declared.expr.Expr.{Expr}
use Rattle.fir_tree.specs.declared.stmt.Arm.{Arm}
use Rattle.fir_meaning.specs.Components.{TypedModule, Leaf}
use Rattle.fir_meaning.specs.Drives as tree_drives
use Rattle.fir_meaning.specs.Loops as tree_loops
use Rattle.circuit_laws.specs.OpenReads as open_reads
use Rattle.circuit_laws.proofs.Opening.{below_true, not_below}
use Rattle.ground_net.specs.declared.circuit.GroundStmt.{GroundStmt}
use Rattle.ground_net.specs.declared.circuit.GroundArm.{GroundArm}
use Rattle.ground_net.specs.Grounds.{Instant}
use Rattle.ground_net.specs.Statements.{is_certain}
use Rattle.ground_net.specs.Shapes.{Table}
use Rattle.ground_exprs.specs.Numbers.{Numbering}
use Rattle.ground_exprs.specs.Sources.{Entries}
use Rattle.ground_statements.specs.Declares.{body_labels}
use Rattle.ground_statements.specs.Arms.{arms_labels, ArmsDo}
use Rattle.ground_statements.specs.Bodies.{Meant, IsMeant, left_alone, set_to, is_among, node_meant}
use Rattle.ground_statements.proofs.Lists.{Place, is_before, is_inside, is_behind, placed, among_before, among_inside, among_behind}
use Rattle.ground_statements.proofs.Meanings.{told, seq, MeantArm, when_meant, effects_of, drivings_of}
use Rattle.ground_statements.proofs.Texts.{text_arm}

module _ (m : TypedModule) (e : Expr) (j k : ℕ) where
  pub node_alone : (n count : ℕ) (surely : Bool) → is_among n count k ≡ false → node_meant m e j k n count surely ≡ left_alone
  node_alone n count surely q = ap (λ b. if b then set_to m e j surely else left_alone) q

  pub node_set : (n count : ℕ) (surely : Bool) → is_among n count k ≡ true → node_meant m e j k n count surely ≡ set_to m e j surely
  node_set n count surely q = ap (λ b. if b then set_to m e j surely else left_alone) q

  either_none : (b : Bool) (l : List (List Leaf)) → (if b then [] else []) ++ l ≡ l
  either_none true l = refl
  either_none false l = refl

  module _ (N : Numbering) (x : ℕ) where
    -- what is meant in other words
    as_alone : (n count : ℕ) (surely : Bool) (made : List GroundStmt) → is_among n count k ≡ false → IsMeant N x left_alone made → IsMeant N x (node_meant m e j k n count surely) made
    as_alone n count surely made q p = subst (λ w. IsMeant N x w made) (sym (node_alone n count surely q)) p

    as_set : (n count : ℕ) (surely : Bool) (made : List GroundStmt) → is_among n count k ≡ true → IsMeant N x (set_to m e j surely) made → IsMeant N x (node_meant m e j k n count surely) made
    as_set n count surely made q p = subst (λ w. IsMeant N x w made) (sym (node_set n count surely q)) p

    pub node_none : (n : ℕ) (surely : Bool) (made : List GroundStmt) → IsMeant N x left_alone made → IsMeant N x (node_meant m e j k n 0 surely) made
    node_none n surely made p = by (placed n 0 k) where
      by : Place n 0 k → IsMeant N x (node_meant m e j k n 0 surely) made
      by (is_before h) = as_alone n 0 surely made (among_before n 0 k h) p
      by (is_inside h l) = absurd (omega (arith, h, l))
      by (is_behind h) = as_alone n 0 surely made (among_behind n 0 k h) p

    -- one body behind another
    pub node_seq : (n c d : ℕ) (s t : Bool) (made : List GroundStmt) → IsMeant N x (seq (node_meant m e j k n c s) (node_meant m e j k (n + c) d t)) made
        → IsMeant N x (node_meant m e j k n (c + d) (is_certain x made)) made
    node_seq n c d s t made p = by (placed n c k) (placed (n + c) d k) where
      two : (a b : Meant) → node_meant m e j k n c s ≡ a → node_meant m e j k (n + c) d t ≡ b → IsMeant N x (seq a b) made
      two a b q r = subst (λ w. IsMeant N x (seq a w) made) r (subst (λ w. IsMeant N x (seq w (node_meant m e j k (n + c) d t)) made) q p)

      by : Place n c k → Place (n + c) d k → IsMeant N x (node_meant m e j k n (c + d) (is_certain x made)) made
      by (is_before h) place =
          let q = two left_alone left_alone (node_alone n c s (among_before n c k h)) (node_alone (n + c) d t (among_before (n + c) d k (omega (arith, h)))) in
          as_alone n (c + d) _ made (among_before n (c + d) k h) (told N x (seq left_alone left_alone) left_alone made (λ instant last. refl) refl refl q)
      by (is_inside h l) place =
          let q = two (set_to m e j s) left_alone (node_set n c s (among_inside n c k h l)) (node_alone (n + c) d t (among_before (n + c) d k l)) in
          as_set n (c + d) _ made (among_inside n (c + d) k h (omega (arith, l)))
          (told N x (seq (set_to m e j s) left_alone) (set_to m e j (is_certain x made)) made (λ instant last. refl) (sym q.certain) refl q)
      by (is_behind h) (is_before l) = absurd (omega (arith, h, l))
      by (is_behind h) (is_inside l l2) =
          let q = two left_alone (set_to m e j t) (node_alone n c s (among_behind n c k h)) (node_set (n + c) d t (among_inside (n + c) d k l l2)) in
          as_set n (c + d) _ made (among_inside n (c + d) k (omega (arith, h)) (omega (arith, l2)))
          (told N x (seq left_alone (set_to m e j t)) (set_to m e j (is_certain x made)) made (λ instant last. refl) (sym q.certain) (either_none t _) q)
      by (is_behind h) (is_behind l) =
          let q = two left_alone left_alone (node_alone n c s (among_behind n c k h)) (node_alone (n + c) d t (among_behind (n + c) d k l)) in
          as_alone n (c + d) _ made (among_behind n (c + d) k (omega (arith, l))) (told N x (seq left_alone left_alone) left_alone made (λ instant last. refl) refl refl q)

-- Arms

abbrev AllAlone : List MeantArm → Type 0
AllAlone [] = ⊤
AllAlone (t ∷ ts) = (t.body ≡ left_alone) × AllAlone ts

abbrev OneSets : TypedModule → Expr → ℕ → List MeantArm → Type 0
OneSets m e j [] = ⊥
OneSets m e j (t ∷ ts) = ((s : Bool) × (t.body ≡ set_to m e j s) × AllAlone ts) ⊎ ((t.body ≡ left_alone) × OneSets m e j ts)

either_same : (b : Bool) (f g : tree_drives.Effect) (last : Option ℤ) → f last ≡ last → g last ≡ last → (if b then f else g) last ≡ last
either_same true f g last h i = h
either_same false f g last h i = i

first_alone : (ts : List MeantArm) → AllAlone ts → (instant : Instant) (last : Option ℤ) → tree_drives.first_holding (effects_of instant ts) (λ l. l) last ≡ last
first_alone [] a instant last = refl
first_alone (t ∷ ts) a instant last =
    either_same (t.holds instant) (t.body.does instant) (tree_drives.first_holding (effects_of instant ts) (λ l. l)) last (ap (λ (w : Meant). w.does instant last) a.0) (first_alone ts a.1 instant last)

turn_alone : (ts : List MeantArm) → AllAlone ts → (instant : Instant) (last : Option ℤ) → tree_drives.in_turn (map (λ arm. arm.1) (effects_of instant ts)) last ≡ last
turn_alone [] a instant last = refl
turn_alone (t ∷ ts) a instant last = ap (tree_drives.in_turn (map (λ arm. arm.1) (effects_of instant ts))) (ap (λ (w : Meant). w.does instant last) a.0) ∙ turn_alone ts a.1 instant last

through_alone : (ts : List MeantArm) → AllAlone ts → (c : List Leaf) → tree_loops.through_arms c (drivings_of ts) [] ≡ []
through_alone [] a c = refl
through_alone (t ∷ ts) a c = ap₂ (λ u v. u ++ v) (ap (λ (w : Meant). tree_loops.crossing (c ++ t.mentioned) w.lives) a.0) (through_alone ts a.1 (c ++ t.mentioned))

live_alone : (ts : List MeantArm) → AllAlone ts → open_reads.arms_live (drivings_of ts) ≡ []
live_alone [] a = refl
live_alone (t ∷ ts) a = ap₂ (λ u v. u ++ v) (ap (λ (w : Meant). w.lives) a.0) (live_alone ts a.1)

module _ (m : TypedModule) (e : Expr) (j : ℕ) where
  turn_one : (ts : List MeantArm) → OneSets m e j ts → (instant : Instant) (last : Option ℤ) → tree_drives.in_turn (map (λ arm. arm.1) (effects_of instant ts)) last ≡ (set_to m e j true).does instant last
  turn_one [] o instant last = absurd o
  turn_one (t ∷ ts) (inl o) instant last =
      turn_alone ts o.2 instant (t.body.does instant last) ∙ ap (λ (w : Meant). w.does instant last) o.1
  turn_one (t ∷ ts) (inr o) instant last = turn_one ts o.1 instant (t.body.does instant last)

  live_one : (ts : List MeantArm) → OneSets m e j ts → open_reads.arms_live (drivings_of ts) ≡ (set_to m e j true).lives
  live_one [] o = absurd o
  live_one (t ∷ ts) (inl o) = ap₂ (λ u v. u ++ v) (ap (λ (w : Meant). w.lives) o.1) (live_alone ts o.2)
  live_one (t ∷ ts) (inr o) = ap₂ (λ u v. u ++ v) (ap (λ (w : Meant). w.lives) o.0) (live_one ts o.1)

abbrev pub node_arms : TypedModule → Expr → ℕ → ℕ → ℕ → ℕ → List Arm → List GroundArm → List MeantArm
node_arms m e j k x n [] gs = []
node_arms m e j k x n (a ∷ arms) [] = []
node_arms m e j k x n (a ∷ arms) (g ∷ gs) = text_arm m a (node_meant m e j k n (length (body_labels a.body)) (is_certain x g.body)) ∷ node_arms m e j k x (n + length (body_labels a.body)) arms gs

module _ (m : TypedModule) (e : Expr) (j k x : ℕ) where
  arms_before : (n : ℕ) (arms : List Arm) (gs : List GroundArm) → k < n → AllAlone (node_arms m e j k x n arms gs)
  arms_before n [] gs h = tt
  arms_before n (a ∷ arms) [] h = tt
  arms_before n (a ∷ arms) (g ∷ gs) h = (
    node_alone m e j k n (length (body_labels a.body)) (is_certain x g.body) (among_before n (length (body_labels a.body)) k h),
    arms_before (n + length (body_labels a.body)) arms gs (omega (arith, h)),
  )

  arms_behind : (n : ℕ) (arms : List Arm) (gs : List GroundArm) → n + length (arms_labels arms) ≤ k → AllAlone (node_arms m e j k x n arms gs)
  arms_behind n [] gs h = tt
  arms_behind n (a ∷ arms) [] h = tt
  arms_behind n (a ∷ arms) (g ∷ gs) h =
      let l : length (arms_labels (a ∷ arms)) ≡ length (body_labels a.body) + length (arms_labels arms) = length-append (body_labels a.body) (arms_labels arms) in (
        node_alone m e j k n (length (body_labels a.body)) (is_certain x g.body) (among_behind n (length (body_labels a.body)) k (omega (arith, h, l))),
        arms_behind (n + length (body_labels a.body)) arms gs (omega (arith, h, l)),
      )

  arms_one : (entries : Entries) (table : Table) (n : ℕ) (arms : List Arm) (gs : List GroundArm) → ArmsDo entries m table n arms gs → n ≤ k → k < n + length (arms_labels arms) → OneSets m e j (node_arms m e j k x n arms gs)
  arms_one entries table n [] gs d h i = absurd (nothing h i)
    where
      nothing : n ≤ k → k < n + 0 → ⊥
      nothing h i = omega (arith, h, i)
  arms_one entries table n (a ∷ arms) [] d h i = absurd d
  arms_one entries table n (a ∷ arms) (g ∷ gs) d h i =
      let l : length (arms_labels (a ∷ arms)) ≡ length (body_labels a.body) + length (arms_labels arms) = length-append (body_labels a.body) (arms_labels arms) in
      by l (placed n (length (body_labels a.body)) k) (λ h2 i2. arms_one entries table (n + length (body_labels a.body)) arms gs d.1 h2 i2)
    where
      by : length (arms_labels (a ∷ arms)) ≡ length (body_labels a.body) + length (arms_labels arms) → Place n (length (body_labels a.body)) k
          → (n + length (body_labels a.body) ≤ k → k < n + length (body_labels a.body) + length (arms_labels arms) → OneSets m e j (node_arms m e j k x (n + length (body_labels a.body)) arms gs))
          → OneSets m e j (node_arms m e j k x n (a ∷ arms) (g ∷ gs))
      by l (is_before b) more = absurd (omega (arith, h, b))
      by l (is_inside b b2) more = inl (is_certain x g.body, node_set m e j k n (length (body_labels a.body)) (is_certain x g.body) (among_inside n (length (body_labels a.body)) k b b2), arms_before (n + length (body_labels a.body)) arms gs b2)
      by l (is_behind b) more = inr (node_alone m e j k n (length (body_labels a.body)) (is_certain x g.body) (among_behind n (length (body_labels a.body)) k b), more b (omega (arith, i, l)))

  and_false : (b : Bool) → (b && false) ≡ false
  and_false true = refl
  and_false false = refl

  pub node_when : (N : Numbering) (entries : Entries) (table : Table) (n o : ℕ) (arms : List Arm) (gs : List GroundArm) (t : Bool) (made : List GroundStmt) → ArmsDo entries m table n arms gs
      → IsMeant N x (when_meant (nat_lt k n) (node_arms m e j k x n arms gs) (node_meant m e j k (n + length (arms_labels arms)) o t)) made
      → IsMeant N x (node_meant m e j k n (length (arms_labels arms) + o) (is_certain x made)) made
  node_when N entries table n o arms gs t made d p = by (placed n a k) (placed (n + a) o k) where
    a : ℕ
    a = length (arms_labels arms)

    ts : List MeantArm
    ts = node_arms m e j k x n arms gs

    when_is : (b : Bool) (w : Meant) → nat_lt k n ≡ b → node_meant m e j k (n + a) o t ≡ w → IsMeant N x (when_meant b ts w) made
    when_is b w q r = subst (λ w. IsMeant N x (when_meant b ts w) made) r (subst (λ b. IsMeant N x (when_meant b ts (node_meant m e j k (n + a) o t)) made) q p)

    by : Place n a k → Place (n + a) o k → IsMeant N x (node_meant m e j k n (a + o) (is_certain x made)) made
    by (is_before h) place =
        let alone = arms_before n arms gs h in
        let q = when_is true left_alone (below_true k n h) (node_alone m e j k (n + a) o t (among_before (n + a) o k (omega (arith, h)))) in
        as_alone m e j k N x n (a + o) _ made (among_before n (a + o) k h)
        (told N x (when_meant true ts left_alone) left_alone made (first_alone ts alone) (and_false _) (through_alone ts alone []) q)
    by (is_inside h l) place =
        let one = arms_one entries table n arms gs d h l in
        let q = when_is false left_alone (not_below k n h) (node_alone m e j k (n + a) o t (among_before (n + a) o k l)) in
        as_set m e j k N x n (a + o) _ made (among_inside n (a + o) k h (omega (arith, l)))
        (told N x (when_meant false ts left_alone) (set_to m e j (is_certain x made)) made (turn_one m e j ts one) (sym q.certain) (ap (λ l. l ++ []) (live_one m e j ts one)) q)
    by (is_behind h) (is_before l) = absurd (omega (arith, h, l))
    by (is_behind h) (is_inside l l2) =
        let alone = arms_behind n arms gs h in
        let q = when_is false (set_to m e j t) (not_below k n (omega (arith, h))) (node_set m e j k (n + a) o t (among_inside (n + a) o k l l2)) in
        as_set m e j k N x n (a + o) _ made (among_inside n (a + o) k (omega (arith, h)) (omega (arith, l2)))
        (told N x (when_meant false ts (set_to m e j t)) (set_to m e j (is_certain x made)) made (λ instant last. refl) (sym q.certain) (ap (λ l. l ++ (set_to m e j t).lives) (live_alone ts alone)) q)
    by (is_behind h) (is_behind l) =
        let alone = arms_behind n arms gs h in
        let q = when_is false left_alone (not_below k n (omega (arith, h))) (node_alone m e j k (n + a) o t (among_behind (n + a) o k l)) in
        as_alone m e j k N x n (a + o) _ made (among_behind n (a + o) k (omega (arith, l)))
        (told N x (when_meant false ts left_alone) left_alone made (turn_alone ts alone) (and_false _) (ap (λ l. l ++ []) (live_alone ts alone)) q)
